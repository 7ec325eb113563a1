-- What contracts see of a turn and of its passes, and what the calls promise.
use Rattle.std.specs.Prelude.{◌≡◌, ℕ, zero, suc, ◌+◌, ◌≤◌, List, [], ◌∷◌, ◌++◌, length, All, sum_by}
use Rattle.atomic_table.specs.Seated.{TableId}
use Rattle.wp_turn.specs.Calls.{IsAmong, calls_of, entries_of, listed, opened}
use Rattle.wp_turn.specs.Rule.{most_calls}
use Rattle.wp_turn.specs.Told.{Extends}

-- a turn: which one it is, the value at its opening, and the number of passes that were made
pub record Opening (T : Type 0) : Type 0 where
  pub id : TableId
  pub start : T
  pub made : ℕ

-- a pass: of which turn it is, the value at that turn's opening, its own caller number, the callers that it stands for,
-- and the calls since the opening that it has seen
pub record Known (T E : Type 0) : Type 0 where
  pub id : TableId
  pub start : List T
  pub caller : ℕ
  pub callers : List ℕ
  pub calls : List (ℕ × E)

-- a list of passes, with the number of passes made at the opening
pub record Row (T E : Type 0) : Type 0 where
  pub list : List (Known T E)
  pub room : ℕ

module _ {T E : Type 0} where
  -- the pass is of this turn
  abbrev pub IsOf : Opening T → Known T E → Type 0
  IsOf turn pass = (pass.id ≡ turn.id) × (pass.start ≡ turn.start ∷ [])

  -- the calls begin with those that the pass has seen, and have no others of the callers that it stands for
  abbrev pub Follow : Known T E → List (ℕ × E) → Type 0
  Follow pass calls = Extends pass.calls pass.callers calls

  -- the pass, as it is once it has seen these calls
  abbrev pub seeing : List (ℕ × E) → Known T E → Known T E
  seeing calls pass = record {
    id = pass.id;
    start = pass.start;
    caller = pass.caller;
    callers = pass.callers;
    calls = calls;
  }

  -- the first pass, as it is once it stands for the callers of both and has seen these calls
  abbrev pub standing_for_both : List (ℕ × E) → Known T E → Known T E → Known T E
  standing_for_both calls a b = record {
    id = a.id;
    start = a.start;
    caller = a.caller;
    callers = a.callers
        ++ b.callers;
    calls = calls;
  }

  -- the entries of the calls of the pass's own caller, since the opening
  abbrev pub own_calls : Known T E → List E
  own_calls pass = calls_of pass.caller pass.calls

  -- the pass's own caller may still make so many calls
  abbrev pub HasLeft : ℕ → Known T E → Type 0
  HasLeft times pass = length (own_calls pass) + times ≤ most_calls

  -- a pass at the opening: it has seen no call, and stands for its own caller alone
  abbrev pub new_pass : Opening T → ℕ → Known T E
  new_pass turn number = record {
    id = turn.id;
    start = turn.start ∷ [];
    caller = number;
    callers = number
        ∷ [];
    calls = [];
  }

  -- the passes at the opening, numbered from 1
  abbrev pub new_passes : Opening T → ℕ → List (Known T E)
  new_passes turn zero = []
  new_passes turn (suc n) = new_passes turn n ++ new_pass turn (suc n) ∷ []

  -- for how many callers the passes stand together
  abbrev pub given_by : List (Known T E) → ℕ
  given_by passes = sum_by (λ pass. length pass.callers) passes

  -- all callers that the passes stand for
  abbrev pub callers_of : List (Known T E) → List ℕ
  callers_of [] = []
  callers_of (pass ∷ passes) = pass.callers ++ callers_of passes

  -- the entries that a pass has seen: those at the opening, then those of the calls
  abbrev pub seen_by : (T → List E) → Known T E → List E
  seen_by entries pass = opened entries pass.start ++ entries_of pass.calls

module _ {T E S : Type 0} (entries : T → List E) (setting : T → S) where
  -- what a call promises
  pub record Called {R O : Type 0} (entry : S → List E → ℕ → R → E) (answer : S → List E → ℕ → R → O) (start : T)
      (pass : Known T E) (ready : R)
      (after : Known T E) (number : ℕ) (out : O) : Type 0 where
    -- the calls before this one begin with those that the pass had seen, and have no others of the callers that it
    -- stands for
    pub before : List (ℕ × E)
    pub follow : Follow pass before
    -- the pass has then seen them and, last, this call
    pub last : after ≡ seeing (before ++ (
      pass.caller,
      entry (setting start)
          (listed entries start before) pass.caller ready,
    ) ∷ []) pass
    -- the receipt has the entry's number and the step's answer
    pub numbered : number ≡ length (listed entries start before)
    pub answered : out ≡ answer (setting start) (listed entries start before) pass.caller ready

  -- what closing gives to one pass that stands for all callers
  pub record Ended (start : T) (pass : Known T E) (value : T) : Type 0 where
    pub calls : List (ℕ × E)
    pub list : entries value ≡ listed entries start calls
    pub follow : Follow pass calls
    pub no_others : (caller : ℕ) → ¬ IsAmong caller pass.callers → calls_of caller calls ≡ []
    pub same_setting : setting value ≡ setting start

  -- what closing promises
  pub record Closed (start : T) (passes : List (Known T E)) (value : T) : Type 0 where
    -- the value's list is that at the opening with the entries of all calls
    pub calls : List (ℕ × E)
    pub list : entries value ≡ listed entries start calls
    -- it begins with what each of the passes has seen, and has each caller's calls once and in order
    pub follow : All (λ pass. Follow pass calls) passes
    -- and it has no others
    pub no_others : (caller : ℕ) → ¬ IsAmong caller (callers_of passes) → calls_of caller calls ≡ []
    -- the setting is that of the opening
    pub same_setting : setting value ≡ setting start
