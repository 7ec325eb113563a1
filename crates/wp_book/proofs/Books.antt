-- What is held in a book by rows, waves and orders, and one more call's holds.
use Rattle.std.proofs.Common.{◌≡◌, ◌∙◌, refl, sym, ap, subst, ℕ, suc, ◌+◌, ◌<◌, ◌≤◌, ◌^◌, ◌%◌, ◌==◌, ◌&&◌, not, Bool, true, false, inl, inr, List, [], ◌∷◌}
use Rattle.std.proofs.Common.{◌++◌, length, slice_get, Some, All, IsTrue, if◌then◌else◌, arith, rules, eq-eqb, length-set, ne_eqb}
use Rattle.std.proofs.Math.ListN.{set}
use Rattle.std.proofs.lemmas.Bool.{cases_eq, cases_lt, cond-false, cond-true, cond_both, false≢true}
use Rattle.std.proofs.lemmas.List.Sums.{get_or-le-sum_by, sum_by_push, sum_by-cons}
use Rattle.std.specs.List.{sum_by}
use Rattle.wp_model.proofs.Elements.{All-at, at_some, within_some}
use Rattle.wp_model.specs.Book.{Where, but_of, hold_at, hold_units_where, is_at, is_for, is_for_wave, is_of, units_at}
use Rattle.wp_model.specs.Change.{change_rows, hold_units}
use Rattle.wp_model.specs.declared.row.Hold.{Hold}
use Rattle.wp_model.specs.declared.row.Row.{Row}
use Rattle.wp_book.specs.Calls.{CanHold, HasHeld, HoldsNone}
use Rattle.wp_book.specs.Chains.{all_units, chain_units, node_units}
use Rattle.wp_book.specs.Kept.{AreChained, book_of, chain_count}
use Rattle.wp_book.specs.declared.room.KeptHolds.{KeptHolds}
use Rattle.wp_book.proofs.HoldSums.{other_wave-for, other_wave-of, same_wave-for, sum_by-within}
use Rattle.wp_book.proofs.Totals.{IsRow, book_moved, chain_for, chain_most, chain_place, is_for-of, nowhere_else, placed_moved, row_is, total_is, total_moved}
use Rattle.wp_book.proofs.Totals.{wave_held}

-- the units of a wave's chain are among those of all
pub chain-le-all : (rows : List Row) (chains : List (List KeptHolds)) (wave : ℕ) (passes : Where) → AreChained rows chains
    → chain_units passes (chain_for chains wave) ≤ all_units passes chains
chain-le-all rows chains wave passes kept = get_or-le-sum_by (chain_units passes) chains (wave % chain_count) [] (omega (arith, kept.count, chain_place wave))

-- what is held for a wave at a row is within what is held at the row
wave-le-row : (wave row w : ℕ) (hold : Hold) → hold_units_where (is_for_wave wave row) w hold ≤ hold_units_where (is_at row) w hold
wave-le-row wave row w hold = elim (cases_eq hold.row row) [
  | inl same ↦
      let all = cond-true (hold.row == row) hold.quantity 0 (eq-eqb hold.row row same) in
      cond_both ((w == wave) && (hold.row == row)) hold.quantity 0 (λ n. n ≤ hold_units_where (is_at row) w hold) (λ e. omega (arith, all)) (λ e. omega arith)
  | inr other ↦ omega (
    arith,
    cond-false ((w == wave) && (hold.row == row)) hold.quantity 0
        (both_false (w == wave) (hold.row == row) (ne_eqb hold.row row other)),
  )
]
  where
    both_false : (a b : Bool) → b ≡ false → (a && b) ≡ false
    both_false true b e = e
    both_false false b e = refl

-- of a chain, what is held for a wave at a row is within what is held at the row
pub chain_wave-le-row : (wave row : ℕ) (nodes : List KeptHolds) → chain_units (is_for_wave wave row) nodes ≤ chain_units (is_at row) nodes
chain_wave-le-row wave row nodes =
    sum_by-within (node_units (is_for_wave wave row)) (node_units (is_at row)) nodes (λ node.
    sum_by-within (hold_units_where (is_for_wave wave row) node.wave) (hold_units_where (is_at row) node.wave) node.holds
    (wave-le-row wave row node.wave))

-- what is held for an order is within what is held for its wave
order-le-wave : (wave order row w : ℕ) (hold : Hold) → hold_units_where (is_for wave order row) w hold ≤ hold_units_where (is_for_wave wave row) w hold
order-le-wave wave order row w hold = pick (w == wave) (hold.order == order) (hold.row == row) hold.quantity
  where
    pick : (a b c : Bool) (q : ℕ) → (if a && (b && c) then q else 0) ≤ (if a && c then q else 0)
    pick true true c q = omega arith
    pick true false true q = omega arith
    pick true false false q = omega arith
    pick false b c q = omega arith

-- of a chain, what is held for an order at a row is within what is held for its wave there
pub chain_order-le-wave : (wave order row : ℕ) (nodes : List KeptHolds) → chain_units (is_for wave order row) nodes ≤ chain_units (is_for_wave wave row) nodes
chain_order-le-wave wave order row nodes =
    sum_by-within (node_units (is_for wave order row)) (node_units (is_for_wave wave row)) nodes (λ node.
    sum_by-within (hold_units_where (is_for wave order row) node.wave) (hold_units_where (is_for_wave wave row) node.wave) node.holds
    (order-le-wave wave order row node.wave))

-- a sum whose terms are each the sum of two is the sum of both sums
pub sum_by-plus : {X : Type 0} (f g h : X → ℕ) (xs : List X) → ((x : X) → f x ≡ g x + h x) → sum_by f xs ≡ sum_by g xs + sum_by h xs
sum_by-plus f g h [] each = refl
sum_by-plus f g h (x ∷ xs) each = omega (arith, sum_by-cons f x xs, sum_by-cons g x xs, sum_by-cons h x xs, each x, sum_by-plus f g h xs each)

-- what a chain holds at a row is what it holds there for other waves and what it holds there for the wave
pub chain_at_row : (wave row : ℕ) (nodes : List KeptHolds) → chain_units (is_at row) nodes ≡ chain_units (but_of wave (is_at row)) nodes + chain_units
    (is_for_wave wave row) nodes
chain_at_row wave row nodes =
    sum_by-plus (node_units (is_at row)) (node_units (but_of wave (is_at row))) (node_units (is_for_wave wave row)) nodes (λ node.
    sum_by-plus (hold_units_where (is_at row) node.wave) (hold_units_where (but_of wave (is_at row)) node.wave)
    (hold_units_where (is_for_wave wave row) node.wave) node.holds
    (λ hold. parts (node.wave == wave) (hold.row == row) hold.quantity))
  where
    parts : (a b : Bool) (q : ℕ) → (if b then q else 0) ≡ (if b && not a then q else 0) + (if a && b then q else 0)
    parts true true q = omega arith
    parts true false q = omega arith
    parts false true q = omega arith
    parts false false q = omega arith

-- what a wave holds at a row is within all that is held there
pub wave_in_row : (rows : List Row) (chains : List (List KeptHolds)) (wave row : ℕ) → AreChained rows chains
    → chain_units (is_for_wave wave row) (chain_for chains wave) ≤ all_units (is_at row) chains
wave_in_row rows chains wave row kept = omega (arith, chain_wave-le-row wave row (chain_for chains wave), chain-le-all rows chains wave (is_at row) kept)

-- a wave holds nothing at a place that is no row
pub wave_nowhere : (rows : List Row) (chains : List (List KeptHolds)) (wave row : ℕ) → AreChained rows chains → length rows ≤ row
    → chain_units (is_for_wave wave row) (chain_for chains wave) ≡ 0
wave_nowhere rows chains wave row kept past = omega (arith, wave_in_row rows chains wave row kept, nowhere_else rows chains row kept.book past)

-- a row has what a wave holds there, and its units fit
pub record HasUnits (units : ℕ) (r : Row) : Type 0 where
  pub held : units ≤ r.held
  pub on_hand : units ≤ r.on_hand
  pub fits : r.free + r.held < 2 ^ 32

-- a row of a book has what a wave holds there among what is held and what is on hand, and its units fit
pub row_has : (rows : List Row) (chains : List (List KeptHolds)) (wave row : ℕ) (r : Row) → AreChained rows chains → slice_get rows row ≡ Some r
    → HasUnits (chain_units (is_for_wave wave row) (chain_for chains wave)) r
row_has rows chains wave row r kept there =
    let is = row_is rows chains row r kept.book there in
    let within = wave_in_row rows chains wave row kept in
    record {
      held = omega (arith, is.held, within);
      on_hand = omega (arith, is.held, is.balance.sum, within);
      fits = omega (arith, is.balance.sum, is.balance.most);
    }

-- what an order holds fits
pub order_fits : (rows : List Row) (chains : List (List KeptHolds)) (wave order row : ℕ) → AreChained rows chains
    → chain_units (is_for wave order row) (chain_for chains wave) < 2 ^ 32
order_fits rows chains wave order row kept = elim (cases_lt row (length rows)) [
  | inl within ↦
      let found = within_some rows row within in
      let has = row_has rows chains wave row found.0 kept found.1 in
      omega (arith, chain_order-le-wave wave order row (chain_for chains wave), has.held, has.fits)
  | inr past ↦ omega (arith, chain_order-le-wave wave order row (chain_for chains wave), wave_nowhere rows chains wave row kept past)
]

-- one more call's holds can go into the chain of their wave
pub record CanAdd (rows : List Row) (chains : List (List KeptHolds)) (wave : ℕ) (node : KeptHolds) : Type 0 where
  pub kept : AreChained rows chains
  pub can : CanHold (book_of rows chains) node.holds
  pub own : node.wave ≡ wave

-- the chains with these holds
abbrev pub with_node : List (List KeptHolds) → ℕ → KeptHolds → List (List KeptHolds)
with_node chains wave node = set chains (wave % chain_count) (chain_for chains wave ++ node ∷ [])

-- the rows with the units of the holds held
abbrev pub rows_held : List Row → List Hold → List Row
rows_held rows holds = change_rows (λ row. hold_units (units_at holds row)) 0 rows

-- holds that are all at rows have no unit at a place past the rows
pub no_units_past : (rows : List Row) (holds : List Hold) (row : ℕ) → All (λ (hold : Hold). hold.row < length rows) holds → length rows ≤ row
    → units_at holds row ≡ 0
no_units_past rows holds row within past = none holds (λ k h at. All-at (λ (hold : Hold). hold.row < length rows) holds k h within at)
  where
    none : (hs : List Hold) → ((k : ℕ) (h : Hold) → slice_get hs k ≡ Some h → h.row < length rows) → units_at hs row ≡ 0
    none [] each = refl
    none (h ∷ hs) each =
        let here = cond-false (h.row == row) h.quantity 0 (ne_eqb h.row row (λ e. absurd (omega (arith, each 0 h refl)))) in
        omega (arith, sum_by-cons (hold_at row) h hs, here, none hs (λ k g at. each (suc k) g at))

total_added : (rows : List Row) (chains : List (List KeptHolds)) (wave : ℕ) (node : KeptHolds) (passes : Where) → AreChained rows chains
    → all_units passes (with_node chains wave node) ≡ all_units passes chains + node_units passes node
total_added rows chains wave node passes kept =
    omega (arith, total_moved rows chains wave (chain_for chains wave ++ node ∷ []) passes kept, sum_by_push (node_units passes) (chain_for chains wave) node)

hold_row : (rows : List Row) (chains : List (List KeptHolds)) (wave : ℕ) (node : KeptHolds) → CanAdd rows chains wave node
    → (k : ℕ) (r : Row) → slice_get rows k ≡ Some r → IsRow chains k r → IsRow (with_node chains wave node) k (hold_units (units_at node.holds k) r)
hold_row rows chains wave node add k r there is =
    let enough = at_some _ (λ (r : Row). units_at node.holds k ≤ r.free) r there (add.can.free k) in
    record {
      balance = record { sum = omega (arith, is.balance.sum); most = is.balance.most };
      held = omega (arith, is.held, total_added rows chains wave node (is_at k) add.kept);
    }

-- after one more call's holds the rows and the chains keep a book
pub hold_keeps : (rows : List Row) (chains : List (List KeptHolds)) (wave : ℕ) (node : KeptHolds) → CanAdd rows chains wave node
    → AreChained (rows_held rows node.holds) (with_node chains wave node)
hold_keeps rows chains wave node add = record {
  book = book_moved _ rows chains (with_node chains wave node) add.kept.book (hold_row rows chains wave node add) (λ k past.
      omega (
        arith,
        total_added rows chains wave node (is_at k) add.kept,
        nowhere_else rows chains k add.kept.book past,
        no_units_past rows node.holds k add.can.rows past,
      ));
  count = long;
  placed = placed_moved rows chains wave (chain_for chains wave ++ node ∷ []) add.kept (λ other elsewhere.
      omega (
        arith,
        sum_by_push (node_units (is_of other)) (chain_for chains wave) node,
        add.kept.placed (wave % chain_count) other (chain_place wave) elsewhere,
        other_wave-of node.wave other node.holds (λ e. elsewhere (ap (λ w. w % chain_count) (sym e ∙ add.own))),
      ));
}
  where
    long : length (with_node chains wave node) ≡ chain_count
    long = omega (arith, length-set chains (wave % chain_count) (chain_for chains wave ++ node ∷ []), add.kept.count)

-- and the units of the holds have gone from free to held, for their wave alone
pub hold_does : (rows : List Row) (chains : List (List KeptHolds)) (wave : ℕ) (node : KeptHolds) → CanAdd rows chains wave node
    → HasHeld wave node.holds (book_of rows chains) (book_of (rows_held rows node.holds) (with_node chains wave node))
hold_does rows chains wave node add = record {
  rows = refl;
  held = λ order row.
      omega (
        arith,
        total_is (is_for wave order row) (rows_held rows node.holds) (with_node chains wave node),
        total_is (is_for wave order row) rows chains,
        total_added rows chains wave node (is_for wave order row) add.kept,
        same_wave-for node.wave wave order row node.holds add.own,
      );
  others = λ w order row other.
      omega (
        arith,
        total_is (is_for w order row) (rows_held rows node.holds) (with_node chains wave node),
        total_is (is_for w order row) rows chains,
        total_added rows chains wave node (is_for w order row) add.kept,
        other_wave-for node.wave w order row node.holds (λ e. other (sym e ∙ add.own)),
      );
}

-- a wave for no order of which anything is held at any row holds nothing
holds_of_none : (wave w : ℕ) (holds : List Hold) → ((o r : ℕ) → sum_by (hold_units_where (is_for wave o r) w) holds ≡ 0)
    → sum_by (hold_units_where (is_of wave) w) holds ≡ 0
holds_of_none wave w [] none = refl
holds_of_none wave w (h ∷ hs) none =
    let own = none h.order h.row in
    let same : (w == wave) && ((h.order == h.order) && (h.row == h.row)) ≡ (w == wave) =
    both (w == wave) (h.order == h.order) (h.row == h.row) (eq-eqb h.order h.order refl) (eq-eqb h.row h.row refl) in
    let here : hold_units_where (is_for wave h.order h.row) w h ≡ hold_units_where (is_of wave) w h = ap (λ t. if t then h.quantity else 0) same in
    let rest = holds_of_none wave w hs (λ o r. omega (arith, none o r, sum_by-cons (hold_units_where (is_for wave o r) w) h hs)) in
    omega (arith, sum_by-cons (hold_units_where (is_of wave) w) h hs, sum_by-cons (hold_units_where (is_for wave h.order h.row) w) h hs, own, here, rest)
  where
    both : (a b c : Bool) → b ≡ true → c ≡ true → (a && (b && c)) ≡ a
    both true b c p q = rw (p, q) refl
    both false b c p q = refl

chain_of_none : (wave : ℕ) (nodes : List KeptHolds) → ((o r : ℕ) → chain_units (is_for wave o r) nodes ≡ 0) → chain_units (is_of wave) nodes ≡ 0
chain_of_none wave [] none = refl
chain_of_none wave (node ∷ nodes) none =
    let here = holds_of_none wave node.wave node.holds (λ o r. omega (arith, none o r, sum_by-cons (node_units (is_for wave o r)) node nodes)) in
    let rest = chain_of_none wave nodes (λ o r. omega (arith, none o r, sum_by-cons (node_units (is_for wave o r)) node nodes)) in
    omega (arith, sum_by-cons (node_units (is_of wave)) node nodes, here, rest)

-- a wave that holds nothing has no unit in its chain
pub holds_none_from : (rows : List Row) (chains : List (List KeptHolds)) (wave : ℕ) → AreChained rows chains → HoldsNone (book_of rows chains) wave
    → chain_units (is_of wave) (chain_for chains wave) ≡ 0
holds_none_from rows chains wave kept none =
    chain_of_none wave (chain_for chains wave) (λ o r. sym (wave_held rows chains wave (is_for wave o r) kept (is_for-of wave o r)) ∙ none o r)

-- and a wave that has no unit in its chain holds nothing
pub holds_none_to : (rows : List Row) (chains : List (List KeptHolds)) (wave : ℕ) → AreChained rows chains
    → chain_units (is_of wave) (chain_for chains wave) ≡ 0
    → HoldsNone (book_of rows chains) wave
holds_none_to rows chains wave kept none o r =
    let P = is_for wave o r in
    wave_held rows chains wave P kept (is_for-of wave o r) ∙ omega_zero (chain_most wave P (chain_for chains wave) (is_for-of wave o r)) none
  where
    omega_zero : {a b : ℕ} → a ≤ b → b ≡ 0 → a ≡ 0
    omega_zero less none = omega arith

-- a test for 0 is true exactly where the number is 0
pub zero_tests : (b : Bool) (n : ℕ) → b ≡ (n == 0) → (IsTrue b → n ≡ 0) × (n ≡ 0 → IsTrue b)
zero_tests b n e = elim (cases_eq n 0) [
  | inl none ↦ (λ t. none, λ z. subst IsTrue (sym (e ∙ eq-eqb n 0 none)) (search rules))
  | inr some ↦ (λ t. absurd (false≢true (subst IsTrue (e ∙ ne_eqb n 0 some) t)), λ z. absurd (some z))
]
