-- A desk's script is not longer than all scripts together.
use Rattle.std.proofs.Common.{◌≤◌, ℕ, ◌+◌, ◌==◌, Bool, true, false, List, [], ◌∷◌, length, if◌then◌else◌, subst, sym, arith}
use Rattle.std.proofs.lemmas.List.Sums.{sum_by-cons}
use Rattle.std.specs.List.{sum_by}
use Rattle.wp_model.specs.History.{Script, script_of}
use Rattle.wp_model.specs.Limits.{most_commands}
use Rattle.wp_model.specs.Tables.{AreReadScripts}
use Rattle.wp_model.specs.declared.command.Command.{Command}

either : (own : Bool) (first others : List Command) (sum : ℕ) → length others ≤ sum → length (if own then first else others) ≤ length first + sum
either true first others sum few = omega arith
either false first others sum few = omega (arith, few)

no_more : (scripts : List Script) (desk : ℕ) → length (script_of scripts desk) ≤ sum_by (λ (s : Script). length s.commands) scripts
no_more [] desk = omega arith
no_more (script ∷ scripts) desk = subst (λ total. length (script_of (script ∷ scripts) desk) ≤ total)
    (sym (sum_by-cons (λ (s : Script). length s.commands) script scripts))
    (either (script.desk == desk) script.commands (script_of scripts desk) (sum_by (λ (s : Script). length s.commands) scripts) (no_more scripts desk))

-- no desk has too many commands
pub few_commands : (scripts : List Script) (desk : ℕ) → AreReadScripts scripts → length (script_of scripts desk) ≤ most_commands
few_commands scripts desk read = omega (arith, no_more scripts desk, read.most)
