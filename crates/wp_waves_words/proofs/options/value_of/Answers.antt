use Rattle.std.proofs.Common.{◌∙◌, ap, sym, Some, option_map}
use Rattle.clap.specs.Words.{found_of}
use Rattle.clap.proofs.WalkLemmas.{first_value-rows}
use Rattle.wp_waves_words.proofs.options.value_of.Goals as goal

pub returns : goal.returns
returns c =
    sym (first_value-rows (found_of c.args.matches.now) c.args.name.now)
    ∙ (sym c.get_str.ensures ∙ (ap (option_map (λ s. s.now)) c.in-Some.is ∙ ap Some (sym c.in_ok-value.ensures.ok)))
