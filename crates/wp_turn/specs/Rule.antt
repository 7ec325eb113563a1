-- The rule of the turn: what holds between any two atomic steps.
use Rattle.std.specs.Prelude.{◌≡◌, ℕ, ◌+◌, ◌≤◌, List, [], ◌∷◌, length, true, false}
use mathlib.Core.Option.{some}
use mathlib.Core.List.{IsPrefix}
use lib.ListN.{get_elem?}
use Rattle.atomic_table.specs.Table.{State}
use Rattle.wp_turn.specs.Calls.{IsAmong, calls_of, listed}
use Rattle.wp_turn.specs.Weights.{total, below, up_to, only}
use Rattle.wp_turn.specs.Views.{weight_of_place, weight_of_callers, left_of, rights_of}
use Rattle.wp_turn.specs.declared.view.View.{View}

-- the most calls of one caller
abbrev pub most_calls : ℕ
most_calls = 16777216

-- the most callers of a turn
abbrev pub most_callers : ℕ
most_callers = 64

-- a value has fewer entries than this at the opening
abbrev pub most_opened : ℕ
most_opened = 2147483648

-- a step finds fewer entries than this
abbrev pub most_steps : ℕ
most_steps = 4294967295

-- the most places that are ever drawn, with those that still may be: the entries at the opening, and all calls of all
-- callers
abbrev pub most_places : ℕ
most_places = 3221225472

module _ {T E S : Type 0} (entries : T → List E) (setting : T → S) where
  -- what holds of each pass's view, where these calls are committed, and so many caller numbers drawn
  pub record Fits (start : T) (callers : ℕ) (calls : List (ℕ × E)) (drawn : ℕ) (view : View T E) : Type 0 where
    -- what it has seen, and what a joined pass had seen, begins the committed calls
    pub seen : IsPrefix view.calls calls
    pub other_seen : IsPrefix view.other_calls calls
    -- of each caller that it stands for, it has seen every call
    pub own : (caller : ℕ) → IsAmong caller view.callers → calls_of caller view.calls ≡ calls_of caller calls
    pub other_own : (caller : ℕ) → IsAmong caller view.other_callers
        → calls_of caller view.other_calls ≡ calls_of caller calls
    -- it waits at a place only if it stands for a caller
    pub idle : length view.callers ≡ 0 → view.place ≡ []
    -- it has taken the slot only if its place is due, and it has then seen all
    pub holder : view.holds ≡ true → (view.place ≡ length (listed entries start calls) ∷ []) × (view.calls ≡ calls)
    -- who may draw the next caller number knows how many are drawn, and draws the rest
    pub numbers : (next : ℕ) → view.next ≡ next ∷ [] → (next ≡ drawn) × (next + view.pending ≡ callers)

  -- the rule, for a value at the opening and a number of callers
  pub record Kept (start : T) (callers : ℕ) (s : State T (View T E)) : Type 0 where
    -- the committed calls, in order: with the entries at the opening they are the one history
    pub calls : List (ℕ × E)
    -- how many places were drawn, counted from 0; the first ones stand for the entries at the opening
    pub places : ℕ
    -- how many caller numbers were drawn
    pub drawn : ℕ
    -- the counting word is the history's length, and the two further words count places and caller numbers
    pub words : s.words ≡ length (listed entries start calls) ∷ places ∷ drawn ∷ []
    -- each pass's view fits
    pub views : (id : ℕ) (view : View T E) → get_elem? s.views id ≡ some view → Fits start callers calls drawn view
    -- each place from the counting word up to the word of places stands in one view, and no other place does
    pub queue : (f : ℕ → ℕ) → total (weight_of_place f) s.views + below f (length (listed entries start calls))
        ≡ below f places
    -- each caller number that was drawn stands in one view, and no other number does
    pub standing : (f : ℕ → ℕ) → total (weight_of_callers f) s.views ≡ up_to f drawn
    -- a caller number that isn't drawn yet has no call
    pub unnamed : (caller : ℕ) → up_to (only caller) drawn ≡ 0 → calls_of caller calls ≡ []
    -- no caller has too many calls
    pub few : (caller : ℕ) → length (calls_of caller calls) ≤ most_calls
    -- all calls that may still be made have their places
    pub room : total left_of s.views + places ≤ most_places
    -- at most one view may draw the next caller number, and no number passes the number of callers
    pub one_numbers : total rights_of s.views ≤ 1
    pub enough : drawn ≤ callers
    pub few_callers : callers ≤ most_callers
    -- the value at home has the history as its list, and the setting that it had at the opening
    pub home : (value : T) → get_elem? s.homes 0 ≡ some (some value)
        → (entries value ≡ listed entries start calls) × (setting value ≡ setting start)
    -- it is at home unless a view has taken it
    pub at_home : ((id : ℕ) (view : View T E) → get_elem? s.views id ≡ some view → view.holds ≡ false)
        → (value : T) × (get_elem? s.homes 0 ≡ some (some value))
