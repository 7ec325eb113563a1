use Rattle.std.proofs.Common.{◌∙◌, ap, sym, subst, List}
use Rattle.std.proofs.lemmas.Result.{err_from_is_err_and}
use Rattle.clap.specs.Words.{App, Row, is_simple_and_free}
use Rattle.wp_words.specs.Options.{IsMatchOf}
use Rattle.wp_words.specs.Reading.{IsFaultOf, make_numbers, texts_of}
use Rattle.wp_words.specs.Words.{AreMakeValues, matched, make_numbers_of, said_once}
use Rattle.wp_words.proofs.Matching.{fault_after, fault_before, fault_of_test, make_is_simple, rows_matched}
use Rattle.wp_words.proofs.Ranges.{in_make_ranges}
use Rattle.wp_words.proofs.reading.read_given.Goals as goal

pub matched-requires : goal.matched-requires
matched-requires c = record { simple = ap is_simple_and_free c.in_ok-command.ensures ∙ make_is_simple }

pub returns-in_err-matches-clause-fault : goal.returns-in_err-matches-clause-fault
returns-in_err-matches-clause-fault c =
    let p = err_from_is_err_and c.from_residual-in_err-matches.result c.from_residual-in_err-matches.ensures.1 in
    let why = c.in_err-matches.field-0.0 in
    let of_command = subst (λ (a : App). IsFaultOf (matched a (texts_of c.args.words.now)) why) c.in_ok-command.ensures c.in_err-matches.ensures.fault in
    rw (p.1, p.2) (fault_after make_numbers_of _ why (fault_before said_once _ why of_command))

pub returns-in_err-make-clause-fault : goal.returns-in_err-make-clause-fault
returns-in_err-make-clause-fault c =
    let p = err_from_is_err_and c.from_residual-in_err-make.result c.from_residual-in_err-make.ensures.1 in
    let why = c.in_err-make.field-0.0 in
    let command = ap (λ (a : App). matched a (texts_of c.args.words.now)) c.in_ok-command.ensures in
    let rows = sym command ∙ c.in_ok-matches.ensures.rows in
    rw (p.1, p.2) (fault_after make_numbers_of _ why (fault_of_test said_once _ _ why rows c.in_err-make.ensures.fault))

pub returns-clause-stated : goal.returns-clause-stated
returns-clause-stated c =
    let command = ap (λ (a : App). matched a (texts_of c.args.words.now)) c.in_ok-command.ensures in
    let rows = rows_matched _ _ _ (sym command ∙ c.in_ok-matches.ensures.rows) in
    subst (λ (rows : List Row). AreMakeValues rows (make_numbers c.in_ok-make.make)) (sym rows) c.in_ok-make.ensures.values

pub returns-clause-ranges : goal.returns-clause-ranges
returns-clause-ranges c =
    let match = subst (λ (a : App). IsMatchOf a c.in_ok-matches.matches) c.in_ok-command.ensures c.in_ok-matches.ensures.of_command in
    in_make_ranges _ _ match c.in_ok-make.ensures.values
