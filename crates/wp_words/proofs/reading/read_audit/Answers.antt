use Rattle.std.proofs.Common.{◌∙◌, ap, sym, subst, List}
use Rattle.std.proofs.lemmas.Result.{err_from_is_err_and}
use Rattle.clap.specs.Words.{App, Row, is_simple_and_free}
use Rattle.wp_words.specs.Options.{IsMatchOf}
use Rattle.wp_words.specs.Reading.{IsFaultOf, audit_names, texts_of}
use Rattle.wp_words.specs.Words.{AreAuditValues, matched, audit_names_of}
use Rattle.wp_words.proofs.Matching.{fault_after, audit_is_simple, rows_matched}
use Rattle.wp_words.proofs.reading.read_audit.Goals as goal

pub matched-requires : goal.matched-requires
matched-requires c = record { simple = ap is_simple_and_free c.in_ok-command.ensures ∙ audit_is_simple }

pub audit_words-requires : goal.audit_words-requires
audit_words-requires c = subst (λ (a : App). IsMatchOf a c.in_ok-matches.matches) c.in_ok-command.ensures c.in_ok-matches.ensures.of_command

pub returns-in_err-matches-clause-fault : goal.returns-in_err-matches-clause-fault
returns-in_err-matches-clause-fault c =
    let p = err_from_is_err_and c.from_residual-in_err-matches.result c.from_residual-in_err-matches.ensures.1 in
    let why = c.in_err-matches.field-0.0 in
    let of_command = subst (λ (a : App). IsFaultOf (matched a (texts_of c.args.words.now)) why) c.in_ok-command.ensures c.in_err-matches.ensures.fault in
    rw (p.1, p.2) (fault_after audit_names_of _ why of_command)

pub returns-clause-stated : goal.returns-clause-stated
returns-clause-stated c =
    let command = ap (λ (a : App). matched a (texts_of c.args.words.now)) c.in_ok-command.ensures in
    let rows = rows_matched _ _ _ (sym command ∙ c.in_ok-matches.ensures.rows) in
    subst (λ (rows : List Row). AreAuditValues rows (audit_names c.in_ok-audit.audit)) (sym rows) c.in_ok-audit.ensures
