-- What a step tells of a wave that goes out.
use Rattle.std.proofs.Common.{◌≡◌, ◌∙◌, refl, sym, ap, subst, inl, inr, ℕ, ◌+◌, ◌<◌, ◌≤◌, List, [], ◌∷◌, length, Option, Some, None, All, arith, option_map}
use Rattle.std.proofs.Common.{slice_get}
use Rattle.std.proofs.lemmas.List.{length-map}
use Rattle.std.proofs.lemmas.Bool.{cases_lt}
use Rattle.std.proofs.lemmas.List.Elements.{All-cons, All-contains, All-nil}
use Rattle.std.proofs.lemmas.Option.{same_Some, slice_get-map, slice_get_within}
use Rattle.wp_model.proofs.Elements.{All-at, All-from_at, at_some, within_some}
use Rattle.std.specs.Option.{option_map_or}
use Rattle.wp_floor.proofs.Floors.{is_opening}
use Rattle.wp_floor.proofs.SameRows.{opening_same_rows, step_keeps_rows}
use Rattle.wp_floor.specs.Floor.{AreSameRows, row_place, stock_row_place}
use Rattle.wp_machine.specs.Outcome.{missing_outcome, outcome_of, outcomes_from, release_outcome, wave_holds}
use Rattle.wp_machine.specs.declared.outcome.Outcome.{Outcome}
use Rattle.wp_machine.specs.declared.outcome.Outcome.TheVariants as outcome
use Rattle.wp_machine.specs.declared.outcome.Refill.{Refill}
use Rattle.wp_machine.specs.declared.outcome.WaveHolds.{WaveHolds}
use Rattle.wp_model.proofs.Found.{wave_found}
use Rattle.wp_model.proofs.HeldList.{held_rises, held_units, held_within}
use Rattle.wp_model.proofs.Sound.{opening_is_sound, step_keeps_sound}
use Rattle.wp_model.proofs.Waves.{wave_at}
use Rattle.wp_model.specs.Book.{held_list}
use Rattle.wp_model.specs.HoldLists.{IsHoldWithin}
use Rattle.wp_model.specs.Opening.{IsOpening, IsStockRow, Opening, order_units}
use Rattle.wp_model.specs.Sound.{FitsCart, HoldsItsDemand, IsSound, IsSoundWave}
use Rattle.wp_model.specs.declared.location.Location.{Location}
use Rattle.wp_model.specs.State.{State, Wave, opening_state}
use Rattle.wp_model.specs.Step.{step, wave_from}
use Rattle.wp_model.specs.declared.command.Command.{Command}
use Rattle.wp_model.specs.declared.command.Command.TheVariants as command
use Rattle.wp_model.specs.declared.entry.Entry.{Entry}
use Rattle.wp_model.specs.declared.reply.Reply.{Reply}
use Rattle.wp_model.specs.declared.reply.Reply.TheVariants as reply
use Rattle.wp_model.specs.declared.row.Row.{Row}
use Rattle.wp_planner.proofs.Filled.{release_fills, wanted_is_held}
use Rattle.wp_planner.proofs.Served.{holds_what_is_wanted, load_of_held, load_past}
use Rattle.wp_planner.specs.Loads.{AreLight}
use Rattle.wp_planner.proofs.ListedHolds.{all_of_each, hold_listed}
use Rattle.wp_planner.specs.Laws.{EachReleaseFills, EachWaveOutIsFilled, GoesOutFilled}
use Rattle.wp_planner.specs.Released.{IsServed}

-- a release tells holds with the reply that it is done alone
told_when_done : (number : ℕ) (after : State) (name : List ℕ) (answer : Reply) (out : WaveHolds)
    → release_outcome number after name answer ≡ outcome.Released out → (answer ≡ reply.Released) × (wave_holds number after name ≡ outcome.Released out)
told_when_done number after name reply.Released out told = (refl, told)
told_when_done number after name other out told = absurd (cc told)

-- holds that are told are those of what was found
told_of_found : (found : Option (ℕ × Wave)) (f : ℕ × Wave → WaveHolds) (out : WaveHolds)
    → option_map_or (λ x. outcome.Released (f x)) found outcome.Plain ≡ outcome.Released out → (x : ℕ × Wave) × (found ≡ Some x) × (f x ≡ out)
told_of_found None f out told = absurd (cc told)
told_of_found (Some x) f out told = (x, refl, cc told)

same_count : (opening : Opening) (rows : List Row) → AreSameRows opening rows → length rows ≡ length opening.stock.rows
same_count opening rows same =
    sym (length-map rows row_place) ∙ (ap length same ∙ length-map opening.stock.rows stock_row_place)

-- the rows have articles of the stock
rows_of_stock : (opening : Opening) (rows : List Row) → IsOpening opening → AreSameRows opening rows
    → All (λ r. r.article < length opening.stock.articles) rows
rows_of_stock opening rows is same =
    All-from_at (λ (r : Row). r.article < length opening.stock.articles) rows (λ k r there.
    let within = slice_get_within rows k r there in
    let was = within_some opening.stock.rows k (omega (arith, within, same_count opening rows same)) in
    let places : Some (stock_row_place was.0) ≡ Some (row_place r) =
    sym (slice_get-map stock_row_place opening.stock.rows k ∙ ap (option_map stock_row_place) was.1)
    ∙ (ap (λ places. slice_get places k) (sym same) ∙ (slice_get-map row_place rows k ∙ ap (option_map row_place) there)) in
    let known : IsStockRow opening.stock.articles was.0 = All-at (IsStockRow opening.stock.articles) opening.stock.rows k was.0 is.rows was.1 in
    let article : was.0.article ≡ r.article = ap (λ (p : Location × ℕ). p.1) (same_Some (stock_row_place was.0) (row_place r) places) in
    omega (arith, known.article, article))

-- a wave that holds just what its orders want, in rows of the stock, as its holds are listed
abbrev listed : ℕ → State → List ℕ → ℕ × Wave → WaveHolds
listed number after name found = record {
  number = number;
  wave = name;
  orders = found.1.orders;
  holds = held_list (length found.1.orders) (length after.rows) (after.held found.0);
}

-- its orders are served
listed_is_served : (opening : Opening) (number : ℕ) (after : State) (name : List ℕ) (found : ℕ × Wave) → IsOpening opening
    → All (λ r. r.article < length opening.stock.articles) after.rows → HoldsItsDemand opening after found.0 found.1
    → IsServed opening (listed number after name found)
listed_is_served opening number after name found is rows holds order named there =
    load_of_held (length found.1.orders) (length after.rows) (after.held found.0) order (slice_get_within found.1.orders order named there)
    ∙ holds_what_is_wanted opening after found.0 found.1 order named is rows holds there

-- none loads more than a cart holds
served_is_light : (opening : Opening) (number : ℕ) (after : State) (name : List ℕ) (found : ℕ × Wave) → All (FitsCart opening) found.1.orders
    → IsServed opening (listed number after name found) → AreLight opening.units (listed number after name found).holds
served_is_light opening number after name found fits served = by opening.units
    (λ units is order named there. at_some opening.units (λ cart. order_units opening.orders named ≤ cart) units is
    (All-at (FitsCart opening) found.1.orders order named fits there))
  where
    by : (units : Option ℕ) → ((most : ℕ) → units ≡ Some most → (order : ℕ) (named : List ℕ) → slice_get found.1.orders order ≡ Some named
        → order_units opening.orders named ≤ most) → AreLight units (listed number after name found).holds
    by None each = tt
    by (Some most) each = λ order. elim (cases_lt order (length found.1.orders)) [
      | inl within ↦
          let named = within_some found.1.orders order within in
          omega (arith, served order named.0 named.1, each most refl order named.0 named.1)
      | inr past ↦ omega (arith, load_past (length found.1.orders) (length after.rows) (after.held found.0) order past)
    ]

-- it goes out filled
listed_goes_out : (opening : Opening) (number : ℕ) (after : State) (name : List ℕ) (found : ℕ × Wave) → IsOpening opening → AreSameRows opening after.rows
    → IsSoundWave opening after found.0 found.1 → ((order row : ℕ) → 0 < after.held found.0 order row → row < length after.rows)
    → HoldsItsDemand opening after found.0 found.1 → GoesOutFilled opening (listed number after name found)
listed_goes_out opening number after name found is same w there holds =
    let rows = length after.rows in
    let orders = length found.1.orders in
    let held = after.held found.0 in
    let list = held_list orders rows held in
    let count : rows ≡ length opening.stock.rows = same_count opening after.rows same in
    let served = listed_is_served opening number after name found is (rows_of_stock opening after.rows is same) holds in
    let fills = wanted_is_held opening after found.0 found.1 is w.known holds in
    record {
      released = record {
        listed = record {
          some = omega (arith, w.some);
          most = w.most;
          within = subst (λ (n : ℕ). All (IsHoldWithin orders n) list) count (all_of_each (IsHoldWithin orders rows) list (held_within orders rows held));
          rise = held_rises orders rows held;
          filled = λ order below.
              let at = fills order below in
              let units = held_units orders rows held order at.0 below (there order at.0 at.1) in
              hold_listed order at.0 list (omega (arith, units, at.1));
        };
        light = served_is_light opening number after name found w.fits served;
      };
      served = served;
    }

-- a wave that a release tells goes out filled
release_is_filled : (opening : Opening) (number : ℕ) (state : State) (name : List ℕ) (out : WaveHolds) → IsOpening opening → IsSound opening state
    → AreSameRows opening state.rows
    → outcome_of number state (command.Release name) (step opening state (command.Release name)) ≡ outcome.Released out → GoesOutFilled opening out
release_is_filled opening number state name out is sound rows told =
    let asked = command.Release name in
    let after = (step opening state asked).state in
    let done = told_when_done number after name (step opening state asked).reply out told in
    let of = told_of_found (wave_from 0 after.waves name) (listed number after name) out done.1 in
    let found = of.0 in
    let after_sound = step_keeps_sound opening state asked is sound in
    let w = wave_at opening after found.0 found.1 after_sound (wave_found after.waves name found of.1) in
    let fills = release_fills opening state name is sound done.0 after_sound found of.1 in
    subst (GoesOutFilled opening) of.2
    (listed_goes_out opening number after name found is (step_keeps_rows opening state asked rows) w
    (λ order row units. (after_sound.nowhere_else found.0 order row (λ none. absurd (omega (arith, none, units)))).1) fills)

-- what is told of a loss is no wave that goes out
no_wave_missing : (number : ℕ) (before after : State) (name order : List ℕ) (answer : Reply) (out : WaveHolds)
    → missing_outcome number before after name order answer ≡ outcome.Released out → ⊥
no_wave_missing number before after name order (reply.Refilled units) out told = no_refill_out (wave_from 0 after.waves name) _ out told
  where
    no_refill_out : (found : Option (ℕ × Wave)) (f : ℕ × Wave → Refill) (out : WaveHolds)
        → option_map_or (λ x. outcome.Refilled (f x)) found outcome.Plain ≡ outcome.Released out → ⊥
    no_refill_out None f out told = absurd (cc told)
    no_refill_out (Some x) f out told = absurd (cc told)
no_wave_missing number before after name order other out told = absurd (cc told)

-- a wave that a step tells is filled
pub step_is_filled : (opening : Opening) (number : ℕ) (state : State) (asked : Command) (out : WaveHolds) → IsOpening opening → IsSound opening state
    → AreSameRows opening state.rows → outcome_of number state asked (step opening state asked) ≡ outcome.Released out → GoesOutFilled opening out
step_is_filled opening number state (command.Release name) out is sound rows told = release_is_filled opening number state name out is sound rows told
step_is_filled opening number state (command.Missing name order location quantity) out is sound rows told =
    let stepped = step opening state (command.Missing name order location quantity) in
    absurd (no_wave_missing number state stepped.state name order stepped.reply out told)
step_is_filled opening number state (command.Submit name orders) out is sound rows told = absurd (cc told)
step_is_filled opening number state (command.Allot name) out is sound rows told = absurd (cc told)
step_is_filled opening number state (command.Cancel name) out is sound rows told = absurd (cc told)
step_is_filled opening number state (command.Pick name order location quantity) out is sound rows told = absurd (cc told)
step_is_filled opening number state (command.Receive location article quantity) out is sound rows told = absurd (cc told)

-- an outcome that is a wave that went out is a filled one
abbrev IsFilledIfOut : Opening → Outcome → Type 0
IsFilledIfOut opening told = (out : WaveHolds) → told ≡ outcome.Released out → GoesOutFilled opening out

entries_are_filled : (opening : Opening) (number : ℕ) (state : State) (entries : List Entry) → IsOpening opening → IsSound opening state
    → AreSameRows opening state.rows → All (IsFilledIfOut opening) (outcomes_from opening number state entries)
entries_are_filled opening number state [] is sound rows = All-nil (IsFilledIfOut opening)
entries_are_filled opening number state (entry ∷ entries) is sound rows =
    let next = (step opening state entry.command).state in
    All-cons (IsFilledIfOut opening) (outcome_of number state entry.command (step opening state entry.command))
    (outcomes_from opening (number + 1) next entries)
    (λ out told. step_is_filled opening number state entry.command out is sound rows told)
    (entries_are_filled opening (number + 1) next entries is (step_keeps_sound opening state entry.command is sound)
    (step_keeps_rows opening state entry.command rows))

-- a release tells a wave whose orders all hold units
pub each_release_fills : EachReleaseFills
each_release_fills opening number state name out read sound rows told =
    release_is_filled opening number state name out (is_opening opening read) sound rows told

-- so does every step of a history that sends a wave out
pub each_wave_out_is_filled : EachWaveOutIsFilled
each_wave_out_is_filled history out read told =
    let opening = history.opening in
    let is = is_opening opening read in
    let start = opening_state opening in
    All-contains (IsFilledIfOut opening) (outcomes_from opening 0 start history.entries) (outcome.Released out)
    (entries_are_filled opening 0 start history.entries is (opening_is_sound opening is) (opening_same_rows opening)) told out refl
