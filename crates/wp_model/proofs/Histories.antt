-- Histories grow answer by answer.
use Rattle.std.proofs.Common.{◌≡◌, ◌∙◌, refl, ℕ, suc, ◌+◌, List, [], ◌∷◌, ◌++◌, length, arith, add-zero}
use Rattle.wp_model.specs.History.{History, IsLegal, IsLegalFrom, answered, next_entry, state_after, state_from}
use Rattle.wp_model.specs.Opening.{Opening}
use Rattle.wp_model.specs.State.{State, opening_state}
use Rattle.wp_model.specs.Step.{step}
use Rattle.wp_model.specs.declared.command.Command.{Command}
use Rattle.wp_model.specs.declared.entry.Entry.{Entry}

state_from-append : (opening : Opening) (state : State) (entries more : List Entry)
    → state_from opening state (entries ++ more) ≡ state_from opening (state_from opening state entries) more
state_from-append opening state [] more = refl
state_from-append opening state (entry ∷ entries) more = state_from-append opening (step opening state entry.command).state entries more

-- the state after one more answer
pub state_after-answered : (history : History) (desk : ℕ) (command : Command)
    → state_after (answered history desk command) ≡ (step history.opening (state_after history) command).state
state_after-answered history desk command =
    state_from-append history.opening (opening_state history.opening) history.entries (next_entry history desk command ∷ [])

legal_more : (opening : Opening) (number : ℕ) (state : State) (entries : List Entry) (entry : Entry) → IsLegalFrom opening number state entries
    → entry.number ≡ number + length entries
    → entry.reply ≡ (step opening (state_from opening state entries) entry.command).reply → IsLegalFrom opening number state (entries ++ entry ∷ [])
legal_more opening number state [] entry legal numbered replied = (numbered ∙ add-zero number, replied, tt)
legal_more opening number state (first ∷ entries) entry legal numbered replied = (
  legal.0,
  legal.1,
  legal_more opening (number + 1) (step opening state first.command).state entries entry legal.2
      (numbered ∙ shift number (length entries)) replied,
)
  where
    shift : (n m : ℕ) → n + suc m ≡ (n + 1) + m
    shift n m = omega arith

-- a history with one more answer is legal
pub answered_is_legal : (history : History) (desk : ℕ) (command : Command) → IsLegal history → IsLegal (answered history desk command)
answered_is_legal history desk command legal =
    legal_more history.opening 0 (opening_state history.opening) history.entries (next_entry history desk command) legal (omega arith) refl
