-- What each step tells the pass that makes it: of the step, the pass's view before, the number found, and the view
-- after.
use Rattle.std.specs.Prelude.{◌≡◌, ℕ, ◌+◌, ◌-◌, ◌<◌, ◌≤◌, List, [], ◌∷◌, ◌++◌, length, true, false}
use mathlib.Core.List.{IsPrefix}
use Rattle.atomic_table.specs.Table.{Me, Step}
use Rattle.wp_turn.specs.Calls.{IsAmong, calls_of, entries_of, opened}
use Rattle.wp_turn.specs.Rule.{most_callers, most_steps}
use Rattle.wp_turn.specs.Views.{rested, waiting, numbering}
use Rattle.wp_turn.specs.declared.view.View.{View}

-- the calls begin with these, and have no others of the callers
pub record Extends {E : Type 0} (before : List (ℕ × E)) (callers : List ℕ) (calls : List (ℕ × E)) : Type 0 where
  pub begins : IsPrefix before calls
  pub own : (caller : ℕ) → IsAmong caller callers → calls_of caller calls ≡ calls_of caller before

module _ {T E S : Type 0} (entries : T → List E) (setting : T → S) where
  -- a caller number was drawn
  abbrev pub Numbered : Step T → Me T (View T E) → ℕ → Me T (View T E) → Type 0
  Numbered s before found after =
      (before.0.next ≡ found ∷ []) × (after ≡ (
        numbering before.0.start [] (found + 1) ((found + 1) ∷ []) before.0.left (found + 1) (before.0.pending - 1),
        before.1,
      ))

  -- the history up to now was seen
  pub record Looked (s : Step T) (before : Me T (View T E)) (found : ℕ) (after : Me T (View T E)) : Type 0 where
    pub calls : List (ℕ × E)
    pub view : after ≡ (
      rested before.0.start calls before.0.caller
          (before.0.callers ++ before.0.other_callers) before.0.left,
      before.1,
    )
    pub extends : Extends before.0.calls before.0.callers calls
    pub other_extends : Extends before.0.other_calls before.0.other_callers calls
    pub counts : found ≡ length (opened entries before.0.start ++ entries_of calls)
    pub few : length (before.0.callers ++ before.0.other_callers) ≤ most_callers

  -- a place was drawn
  abbrev pub Drew : Step T → Me T (View T E) → ℕ → Me T (View T E) → Type 0
  Drew s before found after =
      after ≡ (
        waiting before.0.start before.0.calls before.0.caller before.0.callers found false
            (before.0.left - 1),
        before.1,
      )

  -- the history up to now was seen, and if the place is due, the slot was taken
  pub record Came (s : Step T) (before : Me T (View T E)) (found : ℕ) (after : Me T (View T E)) : Type 0 where
    pub calls : List (ℕ × E)
    pub extends : Extends before.0.calls before.0.callers calls
    pub due : (place : ℕ) → before.0.place ≡ place ∷ [] → place ≡ found → (value : T)
        × (after ≡ (
          waiting before.0.start calls before.0.caller before.0.callers place true before.0.left,
          (0, value)
              ∷ [],
        ))
        × (entries value ≡ opened entries before.0.start ++ entries_of calls)
        × ((start : T) → before.0.start ≡ start ∷ [] → setting value ≡ setting start)
        × (found ≡ length (opened entries before.0.start ++ entries_of calls))
        × (found < most_steps)
    pub early : (place : ℕ) → before.0.place ≡ place ∷ [] → ¬ (place ≡ found)
        → after ≡ (waiting before.0.start calls before.0.caller before.0.callers place false before.0.left, [])

  -- the stepped value is at home, and the call stands in the history
  abbrev pub Committed : Step T → Me T (View T E) → ℕ → Me T (View T E) → Type 0
  Committed s before found after = (value : T) → before.1 ≡ (0, value) ∷ [] → (entry : E)
      × (entries value ≡ (opened entries before.0.start ++ entries_of before.0.calls) ++ entry ∷ [])
      × (after ≡ (
        rested before.0.start (before.0.calls ++ (before.0.caller, entry) ∷ []) before.0.caller
            before.0.callers before.0.left,
        [],
      ))
      × (found ≡ length (opened entries before.0.start ++ entries_of before.0.calls))
