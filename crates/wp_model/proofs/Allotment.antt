-- What a wave holds once stock is held for it.
use Rattle.std.proofs.Common.{◌≡◌, ◌≢◌, ℕ, ◌+◌, ◌<◌, ◌≤◌, inl, inr, List, length, slice_get, None, IsTrue, All, refl, ap, ◌∙◌, arith, zero-add, if◌then◌else◌}
use Rattle.std.proofs.Common.{◌==◌}
use Rattle.std.proofs.lemmas.Bool.{cases_eq, cond_both}
use Rattle.std.specs.Option.{option_map_or}
use Rattle.wp_model.proofs.Demand.{wants_something}
use Rattle.wp_model.proofs.Found.{option_map_or-both}
use Rattle.wp_model.proofs.Held.{with_held-same, with_stock}
use Rattle.wp_model.proofs.Holds.{alike_changed, order_held-same}
use Rattle.wp_model.proofs.Elements.{All-at, within_some}
use Rattle.wp_model.proofs.Share.{shares_are_demand}
use Rattle.wp_model.specs.StockMoves.{IsSoundStock}
use Rattle.wp_model.proofs.Sums.{sum-le, term-le-sum}
use Rattle.wp_model.specs.Change.{hold, share}
use Rattle.wp_model.specs.Demand.{free_units, order_demand}
use Rattle.wp_model.specs.Opening.{IsOpening, Opening, is_known_order}
use Rattle.wp_model.specs.Sound.{HoldsAs, order_held, orders_in, units_of}
use Rattle.wp_model.specs.State.{State, Wave, wave_held, wave_held_at}
use Rattle.wp_model.specs.Sums.{sum_below}
use Rattle.wp_model.specs.declared.reply.WaveState.TheVariants as wave
use Rattle.wp_model.specs.declared.row.Row.{Row}

-- a wave that holds nothing in all holds nothing anywhere
pub nothing_held : (state : State) (number orders : ℕ) → IsSoundStock state → orders_in state number ≡ orders → wave_held state number orders ≡ 0
    → (order row : ℕ) → state.held number order row ≡ 0
nothing_held state number orders sound e none order row = elim (cases_eq (state.held number order row) 0) [
  | inl nothing ↦ nothing
  | inr some ↦
      let place = sound.nowhere_else number order row some in
      let at_row = term-le-sum orders (λ order. state.held number order row) order (omega (arith, place.0)) in
      let in_all = term-le-sum (length state.rows) (wave_held_at state number orders) row place.1 in
      omega arith
]

-- a wave that held nothing and for which stock is held holds just what its orders want
pub holds_demand : (demand : ℕ → ℕ → ℕ) (number orders : ℕ) (state : State) (place article : ℕ) → ((order row : ℕ) → state.held number order row ≡ 0)
    → sum_below orders (demand article) ≤ free_units state.rows article None → (demand article place ≢ 0 → place < orders)
    → order_held (hold demand None number orders state) number article place ≡ demand article place
holds_demand demand number orders state place article none covered wanted =
    let takes = λ (order row : ℕ). share demand state.rows None order row in
    order_held-same (with_stock state state.rows (λ w. takes)) (hold demand None number orders state) number article place
    (alike_changed _ state.rows (λ k r. refl))
    (λ order k. with_held-same state number (λ order row. state.held number order row + takes order row) order k ∙ ap (λ n. n + takes order k) (none order k)
    ∙ zero-add (takes order k))
    ∙ shares_are_demand demand state.rows None orders place article covered wanted

-- a wave that holds what its orders want holds something
units_of-le : (rows : List Row) (article : ℕ) (units : ℕ → ℕ) (k : ℕ) → units_of rows article units k ≤ units k
units_of-le rows article units k =
    option_map_or-both (λ n. n ≤ units k) (λ r. if r.article == article then units k else 0) (slice_get rows k) 0
    (λ r is. cond_both (r.article == article) (units k) 0 (λ n. n ≤ units k) (λ e. omega arith) (λ e. omega arith))
    (λ none. omega arith)

order_held-le : (state : State) (number article place orders : ℕ) → place < orders → order_held state number article place ≤ wave_held state number orders
order_held-le state number article place orders within =
    sum-le (length state.rows) _ _ (λ k below. omega (
      arith,
      units_of-le state.rows article (state.held number place) k,
      term-le-sum orders (λ order. state.held number order k) place within,
    ))

-- an allotted wave of some known orders holds at least one unit
pub holds_something : (opening : Opening) (state : State) (number : ℕ) (w : Wave) → IsOpening opening → 0 < length w.orders
    → All (λ order. IsTrue (is_known_order opening.orders order)) w.orders
    → HoldsAs wave.Allotted opening state number w → 0 < wave_held state number (length w.orders)
holds_something opening state number w is some known holds =
    let first = within_some w.orders 0 some in
    let wants = wants_something opening first.0 is (All-at (λ order. IsTrue (is_known_order opening.orders order)) w.orders 0 first.0 known first.1) in
    let demand = ap (λ found. option_map_or (λ order. order_demand opening order wants.0) found 0) first.1 in
    omega (arith, demand, wants.1, holds 0 wants.0, order_held-le state number wants.0 0 (length w.orders) some)
