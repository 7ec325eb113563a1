-- The rows' side of sound states, and what keeps it.
use Rattle.std.proofs.Common.{◌≡◌, ◌≢◌, ℕ, ◌+◌, ◌-◌, ◌<◌, ◌≤◌, ◌&&◌, ◌==◌, if◌then◌else◌, length, slice_get, Option, Some, inl, inr, refl, sym}
use Rattle.std.proofs.Common.{ap, ◌∙◌, subst, arith}
use Rattle.std.proofs.lemmas.Bool.{cases_eq}
use Rattle.std.proofs.lemmas.Bool.Decides.{nat_tests}
use Rattle.std.proofs.lemmas.Option.{slice_get_within}
use Rattle.wp_model.proofs.Held.{held_at-moved, wave_held_at-le, with_held-other, with_held-same, with_stock}
use Rattle.wp_model.proofs.Elements.{All-at, at_some}
use Rattle.wp_model.proofs.Rows.{All-change_rows, IfSome-change_rows, at_place-other, at_place-same, length-change_rows}
use Rattle.wp_model.proofs.Share.{share-some, shares, shares-le-free}
use Rattle.wp_model.proofs.Sums.{sum-add, sum-agree, sum-one_changed, sum-zero}
use Rattle.wp_model.specs.Change.{at_place, change_rows, free_held_units, give_back, hold, hold_units, receive, receive_units, share, take, take_units}
use Rattle.wp_model.specs.Change.{with_held}
use Rattle.wp_model.specs.Limits.{most_on_hand}
use Rattle.wp_model.specs.Sound.{IsBalanced, held_at, orders_in}
use Rattle.wp_model.specs.StockMoves.{IsSoundStock}
use Rattle.wp_model.specs.State.{State, wave_held_at}
use Rattle.wp_model.specs.declared.row.Row.{Row}

-- a row balances, and what is held there is held for waves
abbrev pub IsSoundRow : State → ℕ → Row → Type 0
IsSoundRow state k r = IsBalanced r × (r.held ≡ held_at state k)

sound_row : (state : State) → IsSoundStock state → (k : ℕ) (r : Row) → slice_get state.rows k ≡ Some r → IsSoundRow state k r
sound_row state sound k r is = (All-at IsBalanced state.rows k r sound.rows is, at_some _ (λ r. r.held ≡ held_at state k) r is (sound.held k))

-- changed rows are sound where each is
pub stock_moved : (state : State) (change : ℕ → Row → Row) (held : ℕ → ℕ → ℕ → ℕ) → IsSoundStock state
    → ((k : ℕ) (r : Row) → slice_get state.rows k ≡ Some r → IsSoundRow state k r → IsSoundRow (with_stock state (change_rows change 0 state.rows) held) k
    (change k r))
    → ((number order row : ℕ) → held number order row ≢ 0 → (order < orders_in state number) × (row < length state.rows))
    → IsSoundStock (with_stock state (change_rows change 0 state.rows) held)
stock_moved state change held sound each nowhere = record {
  rows = All-change_rows change state.rows IsBalanced (λ k r is. (each k r is (sound_row state sound k r is)).0);
  held = λ k. IfSome-change_rows change state.rows k _ (λ r is. (each k r is (sound_row state sound k r is)).1);
  nowhere_else = λ number order row some. let place = nowhere number order row some in (place.0, omega (arith, place.1, length-change_rows change state.rows));
}

-- only orders of waves hold units, and only at rows, where what one wave holds is changed so
with_held-nowhere : (state : State) (wave : ℕ) (held : ℕ → ℕ → ℕ) → IsSoundStock state
    → ((order row : ℕ) → held order row ≢ 0 → (order < orders_in state wave) × (row < length state.rows))
    → (number order row : ℕ) → with_held state wave held number order row ≢ 0 → (order < orders_in state number) × (row < length state.rows)
with_held-nowhere state wave held sound nowhere number order row some = elim (cases_eq number wave) [
  | inl same ↦
      let place = nowhere order row (λ none. some (ap (λ w. with_held state wave held w order row) same ∙ with_held-same state wave held order row ∙ none)) in
      (omega (arith, place.0, ap (orders_in state) same), place.1)
  | inr other ↦ sound.nowhere_else number order row (λ none. some (with_held-other state wave held number order row other ∙ none))
]

-- holding stock by overlap
hold_row : (demand : ℕ → ℕ → ℕ) (except : Option ℕ) (wave orders : ℕ) (state : State) → wave < length state.waves → orders_in state wave ≡ orders
    → (k : ℕ) (r : Row) → slice_get state.rows k ≡ Some r → IsSoundRow state k r
    → IsSoundRow (hold demand except wave orders state) k (hold_units (shares demand state.rows except orders k) r)
hold_row demand except wave orders state within e k r is sound =
    let more = λ (order row : ℕ). state.held wave order row + share demand state.rows except order row in
    let fits = shares-le-free demand state.rows except orders k r is in
    let moved = held_at-moved state (hold demand except wave orders state).rows (with_held state wave more) wave orders k within e
    (λ w order other. with_held-other state wave more w order k other) in
    let now = sum-agree orders _ _ (λ order below. with_held-same state wave more order k)
    ∙ sum-add orders (λ order. state.held wave order k) (λ order. share demand state.rows except order k) in
    (record { sum = omega (arith, sound.0.sum); most = sound.0.most }, omega (arith, sound.1))

hold_nowhere : (demand : ℕ → ℕ → ℕ) (except : Option ℕ) (wave orders : ℕ) (state : State) → orders_in state wave ≡ orders
    → ((article order : ℕ) → demand article order ≢ 0 → order < orders) → IsSoundStock state
    → (order row : ℕ) → state.held wave order row + share demand state.rows except order row ≢ 0 → (order < orders_in state wave) × (row < length state.rows)
hold_nowhere demand except wave orders state e wanted sound order row some = elim (cases_eq (state.held wave order row) 0) [
  | inl none ↦
      let found = share-some demand state.rows except order row (λ nothing. some (omega arith)) in
      (omega (arith, wanted found.0.article order found.2), slice_get_within state.rows row found.0 found.1)
  | inr before ↦ sound.nowhere_else wave order row before
]

-- stock that is held for a wave stays sound
pub hold_keeps_stock : (demand : ℕ → ℕ → ℕ) (except : Option ℕ) (wave orders : ℕ) (state : State) → wave < length state.waves → orders_in state wave ≡ orders
    → ((article order : ℕ) → demand article order ≢ 0 → order < orders) → IsSoundStock state → IsSoundStock (hold demand except wave orders state)
hold_keeps_stock demand except wave orders state within e wanted sound =
    stock_moved state _ _ sound (hold_row demand except wave orders state within e)
    (with_held-nowhere state wave _ sound (hold_nowhere demand except wave orders state e wanted sound))

-- giving all back that a wave holds
give_back_row : (wave orders : ℕ) (state : State) → wave < length state.waves → orders_in state wave ≡ orders
    → (k : ℕ) (r : Row) → slice_get state.rows k ≡ Some r → IsSoundRow state k r
    → IsSoundRow (give_back wave orders state) k (free_held_units (wave_held_at state wave orders k) r)
give_back_row wave orders state within e k r is sound =
    let moved = held_at-moved state (give_back wave orders state).rows (with_held state wave (λ order row. 0)) wave orders k within e
    (λ w order other. with_held-other state wave (λ order row. 0) w order k other) in
    let none = sum-zero orders _ (λ order below. with_held-same state wave (λ order row. 0) order k) in
    let fits = wave_held_at-le state wave orders k within e in
    (record { sum = omega (arith, sound.0.sum, sound.1); most = sound.0.most }, omega (arith, sound.1))

-- stock that a wave gives back stays sound
pub give_back_keeps_stock : (wave orders : ℕ) (state : State) → wave < length state.waves → orders_in state wave ≡ orders → IsSoundStock state
    → IsSoundStock (give_back wave orders state)
give_back_keeps_stock wave orders state within e sound =
    stock_moved state _ _ sound (give_back_row wave orders state within e) (with_held-nowhere state wave _ sound (λ order row some. absurd (some refl)))

-- taking units that are held
abbrev pub taken : State → ℕ → ℕ → ℕ → ℕ → ℕ → ℕ → ℕ
taken state wave order row units o r = if (o == order) && (r == row) then state.held wave o r - units else state.held wave o r

pub taken-here : (state : State) (wave order row units : ℕ) → taken state wave order row units order row ≡ state.held wave order row - units
taken-here state wave order row units = grind (arith, nat_tests)

pub taken-other_order : (state : State) (wave order row units o k : ℕ) → o ≢ order → taken state wave order row units o k ≡ state.held wave o k
taken-other_order state wave order row units o k other = grind (arith, nat_tests)

pub taken-other_row : (state : State) (wave order row units o k : ℕ) → k ≢ row → taken state wave order row units o k ≡ state.held wave o k
taken-other_row state wave order row units o k other = grind (arith, nat_tests)

taken-le : (state : State) (wave order row units o k : ℕ) → taken state wave order row units o k ≤ state.held wave o k
taken-le state wave order row units o k = grind arith

-- what a wave holds at a row, after units of it were taken
pub wave_held_at-taken : (state : State) (wave order row units orders : ℕ) → order < orders → units ≤ state.held wave order row
    → wave_held_at (take wave order row units state) wave orders row + units ≡ wave_held_at state wave orders row
wave_held_at-taken state wave order row units orders below enough =
    let held = taken state wave order row units in
    let one = sum-one_changed orders (λ o. with_held state wave held wave o row) (λ o. state.held wave o row) order below
    (λ o other. with_held-same state wave held o row ∙ taken-other_order state wave order row units o row other) in
    omega (arith, one, with_held-same state wave held order row, taken-here state wave order row units)

pub wave_held_at-taken_elsewhere : (state : State) (wave order row units orders k : ℕ) → k ≢ row
    → wave_held_at (take wave order row units state) wave orders k ≡ wave_held_at state wave orders k
wave_held_at-taken_elsewhere state wave order row units orders k other =
    sum-agree orders _ _ (λ o below. with_held-same state wave (taken state wave order row units) o k ∙ taken-other_row state wave order row units o k other)

take_row : (wave order row units orders : ℕ) (state : State) → wave < length state.waves → orders_in state wave ≡ orders → order < orders
    → units ≤ state.held wave order row
    → (k : ℕ) (r : Row) → slice_get state.rows k ≡ Some r → IsSoundRow state k r
    → IsSoundRow (take wave order row units state) k (at_place row (take_units units) k r)
take_row wave order row units orders state within e below enough k r is sound =
    let moved = held_at-moved state (take wave order row units state).rows (take wave order row units state).held wave orders k within e
    (λ w o other. with_held-other state wave (taken state wave order row units) w o k other) in
    elim (cases_eq k row) [
      | inl here ↦
          let now = subst (λ x. wave_held_at (take wave order row units state) wave orders x + units ≡ wave_held_at state wave orders x) (sym here)
          (wave_held_at-taken state wave order row units orders below enough) in
          let fits = wave_held_at-le state wave orders k within e in
          subst (IsSoundRow (take wave order row units state) k) (sym (at_place-same row k (take_units units) r here))
          (record { sum = omega (arith, sound.0.sum, sound.1); most = omega (arith, sound.0.most) }, omega (arith, sound.1))
      | inr other ↦ subst (IsSoundRow (take wave order row units state) k) (sym (at_place-other row k (take_units units) r other))
          (sound.0, omega (arith, sound.1, moved, wave_held_at-taken_elsewhere state wave order row units orders k other))
    ]

take_nowhere : (wave order row units : ℕ) (state : State) → IsSoundStock state
    → (o k : ℕ) → taken state wave order row units o k ≢ 0 → (o < orders_in state wave) × (k < length state.rows)
take_nowhere wave order row units state sound o k some =
    sound.nowhere_else wave o k (λ none. some (omega (arith, taken-le state wave order row units o k)))

-- stock of which held units are taken stays sound
pub take_keeps_stock : (wave order row units orders : ℕ) (state : State) → wave < length state.waves → orders_in state wave ≡ orders → order < orders
    → units ≤ state.held wave order row
    → IsSoundStock state → IsSoundStock (take wave order row units state)
take_keeps_stock wave order row units orders state within e below enough sound =
    stock_moved state _ _ sound (take_row wave order row units orders state within e below enough)
    (with_held-nowhere state wave _ sound (take_nowhere wave order row units state sound))

-- receiving units
receive_row : (row units : ℕ) (state : State) → ((r : Row) → slice_get state.rows row ≡ Some r → r.on_hand + units ≤ most_on_hand)
    → (k : ℕ) (r : Row) → slice_get state.rows k ≡ Some r → IsSoundRow state k r
    → IsSoundRow (receive row units state) k (at_place row (receive_units units) k r)
receive_row row units state room k r is sound = elim (cases_eq k row) [
  | inl here ↦
      let fits = room r (ap (slice_get state.rows) (sym here) ∙ is) in
      subst (IsSoundRow (receive row units state) k) (sym (at_place-same row k (receive_units units) r here))
      (record { sum = omega (arith, sound.0.sum); most = fits }, sound.1)
  | inr other ↦ subst (IsSoundRow (receive row units state) k) (sym (at_place-other row k (receive_units units) r other)) sound
]

-- stock to which units come stays sound, where there is room for them
pub receive_keeps_stock : (row units : ℕ) (state : State) → ((r : Row) → slice_get state.rows row ≡ Some r → r.on_hand + units ≤ most_on_hand)
    → IsSoundStock state → IsSoundStock (receive row units state)
receive_keeps_stock row units state room sound = stock_moved state _ _ sound (receive_row row units state room) sound.nowhere_else
