-- What a pass knows, in each of its states.
use Rattle.std.specs.Prelude.{ℕ, ◌+◌, List, [], ◌∷◌, Bool, false, length}
use Rattle.wp_turn.specs.Weights.{total}
use Rattle.wp_turn.specs.declared.view.View.{View}

module _ {T E : Type 0} where
  -- between two calls
  abbrev pub rested : List T → List (ℕ × E) → ℕ → List ℕ → ℕ → View T E
  rested start calls caller callers left = record {
    start = start;
    calls = calls;
    caller = caller;
    callers = callers;
    other_calls = [];
    other_callers = [];
    place = [];
    holds = false;
    left = left;
    next = [];
    pending = 0;
  }

  -- after a join, until a load compares the two lists
  abbrev pub joined : List T → List (ℕ × E) → ℕ → List ℕ → List (ℕ × E) → List ℕ → ℕ → View T E
  joined start calls caller callers other_calls other_callers left = record {
    start = start;
    calls = calls;
    caller = caller;
    callers = callers;
    other_calls = other_calls;
    other_callers = other_callers;
    place = [];
    holds = false;
    left = left;
    next = [];
    pending = 0;
  }

  -- during a call, at a place of the queue, before and after it took the slot
  abbrev pub waiting : List T → List (ℕ × E) → ℕ → List ℕ → ℕ → Bool → ℕ → View T E
  waiting start calls caller callers place holds left = record {
    start = start;
    calls = calls;
    caller = caller;
    callers = callers;
    other_calls = [];
    other_callers = [];
    place = place ∷ [];
    holds = holds;
    left = left;
    next = [];
    pending = 0;
  }

  -- at the opening, with the right to draw the next caller numbers
  abbrev pub numbering : List T → List (ℕ × E) → ℕ → List ℕ → ℕ → ℕ → ℕ → View T E
  numbering start calls caller callers left next pending = record {
    start = start;
    calls = calls;
    caller = caller;
    callers = callers;
    other_calls = [];
    other_callers = [];
    place = [];
    holds = false;
    left = left;
    next = next ∷ [];
    pending = pending;
  }

  -- who goes on to draw the next caller number, and stands for nobody yet
  abbrev pub handed_on : View T E → ℕ → View T E
  handed_on view left = record {
    start = view.start;
    calls = [];
    caller = 0;
    callers = [];
    other_calls = [];
    other_callers = [];
    place = [];
    holds = false;
    left = left;
    next = view.next;
    pending = view.pending;
  }

  -- after it was joined into another
  abbrev pub spent : View T E
  spent = rested [] [] 0 [] 0

  -- the weight of the place that it waits at, where it waits
  abbrev pub weight_of_place : (ℕ → ℕ) → View T E → ℕ
  weight_of_place f view = total f view.place

  -- the weight of the callers that it stands for
  abbrev pub weight_of_callers : (ℕ → ℕ) → View T E → ℕ
  weight_of_callers f view = total f view.callers + total f view.other_callers

  abbrev pub left_of : View T E → ℕ
  left_of view = view.left

  abbrev pub rights_of : View T E → ℕ
  rights_of view = length view.next
