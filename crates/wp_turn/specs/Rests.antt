-- What is so of each turn, and of each pass between two calls.
use Rattle.std.specs.Prelude.{◌≡◌, ℕ, ◌+◌, ◌≤◌, List, [], ◌++◌, length}
use Rattle.atomic_table.specs.Seated.{TableId}
use Rattle.atomic_table.specs.Table.{Me}
use Rattle.wp_turn.specs.Calls.{IsAmong, calls_of, entries_of, opened}
use Rattle.wp_turn.specs.Rule.{most_calls, most_callers}
use Rattle.wp_turn.specs.Promises.{Known}
use Rattle.wp_turn.specs.Views.{rested}
use Rattle.wp_turn.specs.declared.view.View.{View}

-- the table of a turn: three words and one slot, for 1 to 64 callers
abbrev pub IsLaid : TableId → ℕ → ℕ → Type 0
IsLaid id callers made = (id.words ≡ 3) × (id.slots ≡ 1) × (callers ≡ made) × (1 ≤ made) × (made ≤ most_callers)

-- what contracts see of a pass, by its seat and its caller number
abbrev pub known_by : {T E : Type 0} → TableId → View T E → ℕ → Known T E
known_by id view caller = record {
  id = id;
  start = view.start;
  caller = caller;
  callers = view.callers;
  calls = view.calls;
}

module _ {T E : Type 0} (entries : T → List E) where
  pub record Rests (me : Me T (View T E)) (caller seen stands made : ℕ) : Type 0 where
    -- no call of it is under way, and it holds no slot
    pub still : me ≡ (rested me.0.start me.0.calls caller me.0.callers me.0.left, [])
    -- it stands for its own caller, and for others that it met
    pub own : IsAmong caller me.0.callers
    pub stands_for : stands ≡ length me.0.callers
    pub few : stands ≤ most_callers
    -- how many entries it has seen, and how many calls its own caller made
    pub count : seen ≡ length (opened entries me.0.start ++ entries_of me.0.calls)
    pub calls : made ≡ length (calls_of caller me.0.calls)
    -- the calls that its own caller may still make have their places
    pub left : most_calls ≤ me.0.left + made
