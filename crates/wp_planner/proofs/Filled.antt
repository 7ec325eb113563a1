-- A wave that goes out holds units for each of its orders.
use Rattle.std.proofs.Common.{◌≡◌, ◌∙◌, refl, sym, ap, subst, ℕ, zero, suc, ◌+◌, ◌<◌, ◌==◌, if◌then◌else◌, inl, inr, Bool, true, false, IsTrue, List, [], ◌∷◌}
use Rattle.std.proofs.Common.{length, slice_get, Some, None, All, arith, bytes_eq}
use Rattle.std.proofs.lemmas.Bool.{cases_eq, cond_both}
use Rattle.std.proofs.lemmas.Option.{same_Some, slice_get_within}
use Rattle.std.proofs.lemmas.Slice.Eq.{bytes_eq-Decides}
use Rattle.std.specs.Prelude.{slice_set}
use Rattle.std.specs.Option.{option_map_or}
use Rattle.wp_model.proofs.Allotment.{holds_demand, nothing_held}
use Rattle.wp_model.proofs.Demand.{covered_from_none, demand_at-some, wants_something}
use Rattle.wp_model.proofs.Elements.{All-at, slice_get-set_same, within_some}
use Rattle.wp_model.proofs.Found.{option_map_or-both, wave_found}
use Rattle.wp_model.proofs.Held.{orders_in-at}
use Rattle.wp_model.proofs.Waves.{stock_of, wave_at}
use Rattle.wp_floor.proofs.Floors.{wave_by}
use Rattle.wp_model.specs.Demand.{demand_at, order_demand, short_article}
use Rattle.wp_model.specs.Opening.{IsOpening, Opening, is_known_order}
use Rattle.wp_model.specs.Sound.{HoldsAs, HoldsItsDemand, IsSound, units_of}
use Rattle.wp_model.specs.State.{State, Wave}
use Rattle.wp_model.specs.Step.{Stepped, hold_for, refuse_short, release, step, wave_from}
use Rattle.wp_model.specs.Sums.{sum_below}
use Rattle.wp_model.specs.declared.command.Command.TheVariants as command
use Rattle.wp_model.specs.declared.reply.Reply.TheVariants as reply
use Rattle.wp_model.specs.declared.reply.WaveState.{WaveState}
use Rattle.wp_model.specs.declared.reply.WaveState.TheVariants as wave
use Rattle.wp_model.specs.declared.row.Row.{Row}

-- in a state, the wave with a number holds units for each of its first orders
abbrev pub HoldsForEach : State → ℕ → ℕ → Type 0
HoldsForEach state number orders = (order : ℕ) → order < orders → (row : ℕ) × (0 < state.held number order row)

-- a sum that is some has a term that is some
sum_some : (n : ℕ) (f : ℕ → ℕ) → 0 < sum_below n f → (k : ℕ) × (0 < f k)
sum_some zero f some = absurd (omega arith)
sum_some (suc n) f some = elim (cases_eq (f n) 0) [
  | inl none ↦ sum_some n f (omega (arith, none, some))
  | inr here ↦ (n, omega (arith, here))
]

-- a row that has some units of an article has some units
units_of_some : (rows : List Row) (article : ℕ) (units : ℕ → ℕ) (k : ℕ) → 0 < units_of rows article units k → 0 < units k
units_of_some rows article units k =
    option_map_or-both (λ n. 0 < n → 0 < units k) (λ r. if r.article == article then units k else 0) (slice_get rows k) 0
    (λ r is. cond_both (r.article == article) (units k) 0 (λ n. 0 < n → 0 < units k) (λ e some. some) (λ e some. absurd (omega arith)))
    (λ none some. absurd (omega arith))

-- a wave that holds what its known orders want holds units for each of them
pub wanted_is_held : (opening : Opening) (state : State) (number : ℕ) (w : Wave) → IsOpening opening
    → All (λ order. IsTrue (is_known_order opening.orders order)) w.orders → HoldsItsDemand opening state number w
    → HoldsForEach state number (length w.orders)
wanted_is_held opening state number w is known holds order within =
    let name = within_some w.orders order within in
    let wants = wants_something opening name.0 is (All-at (λ order. IsTrue (is_known_order opening.orders order)) w.orders order name.0 known name.1) in
    let demand = ap (λ found. option_map_or (λ o. order_demand opening o wants.0) found 0) name.1 in
    let row = sum_some (length state.rows) (units_of state.rows wants.0 (state.held number order)) (omega (arith, demand, wants.1, holds order wants.0)) in
    (row.0, units_of_some state.rows wants.0 (state.held number order) row.0 row.1)

-- a wave has gone out: it is released, and holds just what its orders want
pub record HasGoneOut (opening : Opening) (after : State) (number : ℕ) (w : Wave) : Type 0 where
  pub there : slice_get after.waves number ≡ Some (record w { state = wave.Released })
  pub holds : HoldsItsDemand opening after number w

-- where the reply says so, the wave has gone out
abbrev IsOutIfSaid : Opening → ℕ → Wave → Stepped → Type 0
IsOutIfSaid opening number w stepped = stepped.reply ≡ reply.Released → HasGoneOut opening stepped.state number w

put_there : (state : State) (number : ℕ) (w : Wave) → slice_get state.waves number ≡ Some w
    → slice_get (slice_set state.waves number (record w { state = wave.Released })) number ≡ Some (record w { state = wave.Released })
put_there state number w there = slice_get-set_same state.waves number (record w { state = wave.Released }) (slice_get_within state.waves number w there)

submitted_goes_out : (opening : Opening) (state : State) (number : ℕ) (w : Wave) → IsOpening opening → IsSound opening state
    → slice_get state.waves number ≡ Some w → w.state ≡ wave.Submitted
    → IsOutIfSaid opening number w (hold_for opening state wave.Released reply.Released number w)
submitted_goes_out opening state number w is sound there submitted =
    let demand = demand_at opening w.orders in
    let orders = length w.orders in
    let stock = stock_of opening state sound in
    let was = wave_at opening state number w sound there in
    let none = nothing_held state number orders stock (orders_in-at state number w there)
    (subst (λ s. HoldsAs s opening state number w) submitted was.holds) in
    option_map_or-both (IsOutIfSaid opening number w) (refuse_short opening state w) (short_article opening state.rows w.orders None) _
    (λ article short out. absurd (cc out))
    (λ covered out. record {
      there = put_there state number w there;
      holds = λ place article. holds_demand demand number orders state place article none
          (covered_from_none opening state.rows w.orders None is covered article) (demand_at-some opening w.orders article place);
    })

wave_goes_out : (opening : Opening) (state : State) (number : ℕ) (w : Wave) (s : WaveState) → IsOpening opening → IsSound opening state
    → slice_get state.waves number ≡ Some w → w.state ≡ s → IsOutIfSaid opening number w (release opening state number w s)
wave_goes_out opening state number w wave.Submitted is sound there e = submitted_goes_out opening state number w is sound there e
wave_goes_out opening state number w wave.Allotted is sound there e = λ out. record {
  there = put_there state number w there;
  holds = subst (λ s. HoldsAs s opening state number w) e (wave_at opening state number w sound there).holds;
}
wave_goes_out opening state number w wave.Released is sound there e = λ out. absurd (cc out)
wave_goes_out opening state number w wave.Cancelled is sound there e = λ out. absurd (cc out)
wave_goes_out opening state number w wave.Done is sound there e = λ out. absurd (cc out)

-- the wave of a name has that name
found_named : (number : ℕ) (waves : List Wave) (name : List ℕ) (found : ℕ × Wave) → wave_from number waves name ≡ Some found → found.1.name ≡ name
found_named number [] name found is = absurd (cc is)
found_named number (w ∷ waves) name found is =
    by (λ later. found_named (number + 1) waves name found later) (bytes_eq w.name name) (bytes_eq-Decides w.name name).0 is
  where
    by : (wave_from (number + 1) waves name ≡ Some found → found.1.name ≡ name) → (same : Bool) → (same ≡ true → w.name ≡ name)
        → (if same then Some (number, w) else wave_from (number + 1) waves name) ≡ Some found → found.1.name ≡ name
    by rest true named here =
        let own : found ≡ (number, w) = sym (same_Some (number, w) found here) in
        ap (λ (f : ℕ × Wave). f.1.name) own ∙ named refl
    by rest false named later = rest later

-- the wave of a name after a step, where there is one, holds just what its orders want
abbrev WaveHoldsItsDemand : Opening → List ℕ → Stepped → Type 0
WaveHoldsItsDemand opening name stepped = stepped.reply ≡ reply.Released → IsSound opening stepped.state → (found : ℕ × Wave)
    → wave_from 0 stepped.state.waves name ≡ Some found → HoldsItsDemand opening stepped.state found.0 found.1

-- where a release sends a wave out, the wave of the name holds just what its orders want
pub release_fills : (opening : Opening) (state : State) (name : List ℕ) → IsOpening opening → IsSound opening state
    → WaveHoldsItsDemand opening name (step opening state (command.Release name))
release_fills opening state name is sound =
    option_map_or-both (WaveHoldsItsDemand opening name) (λ (f : ℕ × Wave). release opening state f.0 f.1 f.1.state) (wave_from 0 state.waves name) _
    (λ f at said after found has.
    let there = wave_found state.waves name f at in
    let out = wave_goes_out opening state f.0 f.1 f.1.state is sound there refl said in
    let named : f.1.name ≡ name = found_named 0 state.waves name f at in
    let number : 0 + f.0 ≡ f.0 = omega arith in
    let put : Wave = record f.1 { state = wave.Released } in
    let new = (release opening state f.0 f.1 f.1.state).state in
    let is_put : Some (0 + f.0, put) ≡ Some found = sym (wave_by new.waves name 0 f.0 put out.there named after.names) ∙ has in
    let same : (0 + f.0, put) ≡ found = same_Some (0 + f.0, put) found is_put in
    subst (λ (g : ℕ × Wave). HoldsItsDemand opening new g.0 g.1) same
    (subst (λ (n : ℕ). HoldsItsDemand opening new n put) (sym number) out.holds))
    (λ none said. absurd (cc said))
