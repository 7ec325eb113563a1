use Rattle.std.proofs.Common.{◌∙◌, ap, sym, subst, List}
use Rattle.std.proofs.lemmas.Result.{err_from_is_err_and}
use Rattle.clap.specs.Words.{App, Row, is_simple_and_free}
use Rattle.wp_waves_words.specs.Reading.{waves_names}
use Rattle.wp_waves_words.specs.Words.{AreWavesValues, waves_names_of}
use Rattle.wp_waves_words.proofs.Matching.{waves_is_simple}
use Rattle.wp_waves_words.proofs.Ranges.{in_waves_ranges}
use Rattle.wp_words.specs.Options.{IsMatchOf}
use Rattle.wp_words.specs.Reading.{IsFaultOf, texts_of}
use Rattle.wp_words.specs.Words.{matched}
use Rattle.wp_words.proofs.Matching.{fault_after, rows_matched}
use Rattle.wp_waves_words.proofs.reading.read_after_mode.Goals as goal

pub matched-requires : goal.matched-requires
matched-requires c = record { simple = ap is_simple_and_free c.in_ok-command.ensures ∙ waves_is_simple }

pub returns-in_err-matches-clause-fault : goal.returns-in_err-matches-clause-fault
returns-in_err-matches-clause-fault c =
    let p = err_from_is_err_and c.from_residual-in_err-matches.result c.from_residual-in_err-matches.ensures.1 in
    let why = c.in_err-matches.field-0.0 in
    let of_command = subst (λ (a : App). IsFaultOf (matched a (texts_of c.args.words.now)) why) c.in_ok-command.ensures c.in_err-matches.ensures.fault in
    rw (p.1, p.2) (fault_after waves_names_of _ why of_command)

pub returns-clause-stated : goal.returns-clause-stated
returns-clause-stated c =
    let command = ap (λ (a : App). matched a (texts_of c.args.words.now)) c.in_ok-command.ensures in
    let rows = rows_matched _ _ _ (sym command ∙ c.in_ok-matches.ensures.rows) in
    subst (λ (rows : List Row). AreWavesValues rows (waves_names c.in_ok-waves.waves)) (sym rows) c.in_ok-waves.ensures

pub returns-clause-ranges : goal.returns-clause-ranges
returns-clause-ranges c =
    let match = subst (λ (a : App). IsMatchOf a c.in_ok-matches.matches) c.in_ok-command.ensures c.in_ok-matches.ensures.of_command in
    in_waves_ranges _ _ match c.in_ok-waves.ensures
