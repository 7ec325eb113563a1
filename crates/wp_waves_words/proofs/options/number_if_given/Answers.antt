use Rattle.std.proofs.Common.{◌∙◌, ap, sym, option_map}
use Rattle.clap.specs.Words.{found_of, one_text}
use Rattle.clap.proofs.WalkLemmas.{one_text-rows}
use Rattle.std.specs.Str.Parse.{ParsesUnsigned, ExplainsUnsignedError, HasUnsignedDigitsIfOk}
use Rattle.wp_words.specs.Words.{number_said}
use Rattle.wp_words.proofs.Matching.{number_if_got}
use Rattle.wp_waves_words.proofs.options.number_if_given.Goals as goal

pub returns-in-Ok : goal.returns-in-Ok
returns-in-Ok c =
    let f = found_of c.args.matches.now in
    let name = c.args.name.now in
    let read = c.try_get_one.ensures in
    let got = number_if_got (λ bs r. ParsesUnsigned 32 10 bs r × ExplainsUnsignedError 10 bs r × HasUnsignedDigitsIfOk bs r) (λ t n gives. sym gives.0.1)
    (one_text f name) c.in-Ok.number c.try_get_one.result c.in-Ok.is read.none read.value in
    ap (option_map number_said) (sym (one_text-rows f name)) ∙ got
