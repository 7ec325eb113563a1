-- How a command grows by an option.
use Rattle.std.proofs.Common.{◌≡◌, ◌∙◌, ap₂, false}
use Rattle.clap.specs.Words.{AddsArg, App, Rule, app_of, rule_of, with_rule}
use Rattle.clap.specs.declared.builder.arg.Arg.{Arg}
use Rattle.clap.specs.declared.builder.command.Command.{Command}

-- an option with this rule joins a command: it is read with the rule behind the others
pub one_more : (old new : Command) (option : Arg) (app : App) (rule : Rule) → AddsArg old option new → app_of old ≡ app
    → rule_of option ≡ rule → option.global ≡ false → app_of new ≡ with_rule app rule
one_more old new option app rule adds was is local = adds.shape local ∙ ap₂ with_rule was is
