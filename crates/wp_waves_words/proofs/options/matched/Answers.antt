use Rattle.std.proofs.Common.{◌∙◌, ap₂, refl, sym}
use Rattle.clap.specs.Words.{app_of}
use Rattle.wp_words.specs.Words.{unless_faulty}
use Rattle.wp_words.proofs.Matching.{faulty, simple}
use Rattle.wp_waves_words.proofs.options.matched.Goals as goal

pub returns-in-Ok-clause-rows : goal.returns-in-Ok-clause-rows
returns-in-Ok-clause-rows c =
    let rows = c.in-Ok.ensures.matches (simple (app_of c.args.command) c.requires.simple) in
    ap₂ unless_faulty (c.in-Ok.ensures.kinds c.requires.simple) (sym rows.0)

pub returns-in-Ok-clause-of_command : goal.returns-in-Ok-clause-of_command
returns-in-Ok-clause-of_command c = record {
  command = c.args.command;
  options = refl;
  simple = c.requires.simple;
  parsed = c.in-Ok.ensures.parsed;
}

pub returns : goal.returns
returns c = record {
  rows = tt;
  of_command = tt;
  fault = λ _. faulty _ _ c.in-Err.error (c.in-Err.ensures.kinds c.requires.simple) (λ is. c.in_default.not-OutOfMemory (c.kind.ensures ∙ is));
}
