-- The units that waves hold.
use Rattle.std.proofs.Common.{◌≡◌, ◌≢◌, ℕ, ◌+◌, ◌<◌, ◌≤◌, ◌==◌, List, length, slice_get, Some, refl, ap, arith, eq-eqb, ne_eqb}
use Rattle.std.proofs.lemmas.Bool.{cond-true, cond-false}
use Rattle.std.specs.Option.{option_map_or}
use Rattle.wp_model.proofs.Sums.{sum-agree, sum-one_changed, term-le-sum}
use Rattle.wp_model.specs.Change.{with_held}
use Rattle.wp_model.specs.Sound.{held_at, orders_in}
use Rattle.wp_model.specs.State.{State, Wave, wave_held_at}
use Rattle.wp_model.specs.declared.row.Row.{Row}

-- the state with other rows and other held units
abbrev pub with_stock : State → List Row → (ℕ → ℕ → ℕ → ℕ) → State
with_stock state rows held = record state { rows = rows; held = held }

-- what one wave holds is changed, and nothing else
pub with_held-same : (state : State) (wave : ℕ) (held : ℕ → ℕ → ℕ) (order row : ℕ) → with_held state wave held wave order row ≡ held order row
with_held-same state wave held order row = cond-true (wave == wave) _ _ (eq-eqb wave wave refl)

-- what other waves hold stays
pub with_held-other : (state : State) (wave : ℕ) (held : ℕ → ℕ → ℕ) (w order row : ℕ) → w ≢ wave
    → with_held state wave held w order row ≡ state.held w order row
with_held-other state wave held w order row other = cond-false (w == wave) _ _ (ne_eqb w wave other)

-- a wave's number of orders
pub orders_in-at : (state : State) (number : ℕ) (w : Wave) → slice_get state.waves number ≡ Some w → orders_in state number ≡ length w.orders
orders_in-at state number w is = ap (λ found. option_map_or (λ v. length v.orders) found 0) is

-- what all waves hold at a row, after one of them holds something else
pub held_at-moved : (state : State) (rows : List Row) (held : ℕ → ℕ → ℕ → ℕ) (number orders row : ℕ)
    → number < length state.waves → orders_in state number ≡ orders
    → ((w order : ℕ) → w ≢ number → held w order row ≡ state.held w order row)
    → held_at (with_stock state rows held) row + wave_held_at state number orders row ≡ held_at state row + wave_held_at
    (with_stock state rows held) number orders row
held_at-moved state rows held number orders row within e same =
    let moved = with_stock state rows held in
    let one = sum-one_changed (length state.waves) (λ w. wave_held_at moved w (orders_in state w) row)
    (λ w. wave_held_at state w (orders_in state w) row) number within
    (λ w other. sum-agree (orders_in state w) _ _ (λ order below. same w order other)) in
    omega (arith, one, ap (λ n. wave_held_at state number n row) e, ap (λ n. wave_held_at moved number n row) e)

-- what a wave holds at a row is within what all hold there
pub wave_held_at-le : (state : State) (number orders row : ℕ) → number < length state.waves → orders_in state number ≡ orders
    → wave_held_at state number orders row ≤ held_at state row
wave_held_at-le state number orders row within e =
    omega (
      arith,
      term-le-sum (length state.waves) (λ w. wave_held_at state w (orders_in state w) row) number within,
      ap (λ n. wave_held_at state number n row) e,
    )
