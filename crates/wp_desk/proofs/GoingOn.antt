-- What is new in a history that goes on from one to begin with.
use Rattle.std.proofs.Common.{◌≡◌, ◌∙◌, refl, sym, ap, ℕ, suc, ◌+◌, List, [], ◌∷◌, ◌++◌, length, arith}
use Rattle.std.proofs.Math.Seq.{drop-append_seam}
use Rattle.wp_desk.specs.GoingOn.{GoesOnFrom, going_on, new_entries, refills_after, released_after, told_after}
use Rattle.wp_desk.specs.Work.{EndsWith, Seen}
use Rattle.wp_machine.specs.Outcome.{outcome_of, outcomes_from, refills_of, released_of}
use Rattle.wp_model.specs.History.{History, opened, state_after, state_from}
use Rattle.wp_model.specs.Opening.{Opening}
use Rattle.wp_model.specs.State.{State, opening_state}
use Rattle.wp_model.specs.Step.{step}
use Rattle.wp_model.specs.declared.entry.Entry.{Entry}
use Rattle.wp_turn.specs.Calls.{entries_of}

-- the state after entries in two parts
state_from-append : (opening : Opening) (state : State) (entries more : List Entry)
    → state_from opening state (entries ++ more) ≡ state_from opening (state_from opening state entries) more
state_from-append opening state [] more = refl
state_from-append opening state (entry ∷ entries) more = state_from-append opening (step opening state entry.command).state entries more

-- where a history goes on with entries, so does its state
pub state_goes_on : (start : History) (entries : List Entry)
    → state_after (going_on start entries) ≡ state_from start.opening (state_after start) entries
state_goes_on start entries = state_from-append start.opening (opening_state start.opening) start.entries entries

-- what is new where a history goes on with entries is these
pub new_are : (start : History) (entries : List Entry) → new_entries start (going_on start entries) ≡ entries
new_are start entries = drop-append_seam start.entries entries

-- where a turn has ended, what is new is the entries of its calls
pub new_called : (start : History) (passes : List Seen) (history : History) (ends : EndsWith start passes history)
    → new_entries start history ≡ entries_of ends.calls
new_called start passes history ends = ap (new_entries start) ends.is ∙ new_are start (entries_of ends.calls)

-- where a turn has ended, its history goes on from the one with which it began
pub ended_goes_on : (start : History) (passes : List Seen) (history : History) → EndsWith start passes history → GoesOnFrom start history
ended_goes_on start passes history ends = ends.is ∙ ap (going_on start) (sym (new_called start passes history ends))

-- what entries in two parts tell
outcomes_from-append : (opening : Opening) (number : ℕ) (state : State) (entries more : List Entry)
    → outcomes_from opening number state (entries ++ more) ≡ outcomes_from opening number state entries
    ++ outcomes_from opening (number + length entries) (state_from opening state entries) more
outcomes_from-append opening number state [] more = ap (λ n. outcomes_from opening n state more) (none number)
  where
    none : (n : ℕ) → n ≡ n + 0
    none n = omega arith
outcomes_from-append opening number state (entry ∷ entries) more =
    let told = outcome_of number state entry.command (step opening state entry.command) in
    let after = (step opening state entry.command).state in
    let shifted : (number + 1) + length entries ≡ number + suc (length entries) = omega arith in
    ap (λ others. told ∷ others) (outcomes_from-append opening (number + 1) after entries more)
    ∙ ap (λ n. (told ∷ outcomes_from opening (number + 1) after entries) ++ outcomes_from opening n (state_from opening after entries) more) shifted

-- what all entries of a history tell that goes on: what those to begin with tell, and then what the new ones tell
pub told_apart : (start : History) (entries : List Entry) → told_after (opened start.opening) (going_on start entries).entries
    ≡ told_after (opened start.opening) start.entries ++ told_after start entries
told_apart start entries =
    outcomes_from-append start.opening 0 (opening_state start.opening) start.entries entries
    ∙ ap (λ n. told_after (opened start.opening) start.entries ++ outcomes_from start.opening n (state_after start) entries) (zero_more (length start.entries))
  where
    zero_more : (n : ℕ) → 0 + n ≡ n
    zero_more n = omega arith

-- after an opening all entries are new, and the waves that they send out are those that go out in the history
pub released_from_opening : (opening : Opening) (history : History) → history.opening ≡ opening
    → released_after (opened opening) (new_entries (opened opening) history) ≡ released_of history
released_from_opening opening history starts =
    ap (λ (begun : Opening). released_after (opened begun) (new_entries (opened begun) history)) (sym starts)

-- and so are their refills
pub refills_from_opening : (opening : Opening) (history : History) → history.opening ≡ opening
    → refills_after (opened opening) (new_entries (opened opening) history) ≡ refills_of history
refills_from_opening opening history starts =
    ap (λ (begun : Opening). refills_after (opened begun) (new_entries (opened begun) history)) (sym starts)
