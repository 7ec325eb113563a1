-- The units of all chains of a book.
use Rattle.std.proofs.Common.{◌≡◌, ◌≢◌, ◌∙◌, refl, sym, ap, ℕ, zero, suc, ◌+◌, ◌<◌, ◌≤◌, ◌%◌, ◌==◌, false, inl, inr, List, [], ◌∷◌, length, map, get_or}
use Rattle.std.proofs.Common.{slice_get, Some, arith, eq-eqb, ne_eqb, get_or-set_same, get_or-set_other}
use Rattle.std.proofs.Math.ListN.{set}
use Rattle.std.proofs.lemmas.Bool.{and_left, cases_eq, cond-false, cond-true, cond_both}
use Rattle.std.proofs.lemmas.List.{get_or_default}
use Rattle.std.proofs.lemmas.List.Sums.{sum_by-append, sum_by-cons, sum_by-set}
use Rattle.std.specs.List.{flat_map, sum_by}
use Rattle.wp_model.proofs.Elements.{All-at, at_some}
use Rattle.wp_model.proofs.Rows.{All-change_rows, IfSome-change_rows, length-change_rows}
use Rattle.wp_model.specs.Book.{IsBook, Where, held_where, hold_units_where, is_at, is_for, is_for_wave, is_of, of_wave, units_where}
use Rattle.wp_model.specs.Change.{change_rows}
use Rattle.wp_model.specs.Sound.{IsBalanced}
use Rattle.wp_model.specs.declared.row.Hold.{Hold}
use Rattle.wp_model.specs.declared.row.Row.{Row}
use Rattle.wp_book.specs.Chains.{all_units, chain_units, holdings_of, node_units}
use Rattle.wp_book.specs.Kept.{AreChained, book_of, chain_count}
use Rattle.wp_book.specs.declared.room.KeptHolds.{KeptHolds}
use Rattle.wp_book.proofs.HoldSums.{sum_by-within, sum_by-zeros}

sum_by-map : {A B : Type 0} (f : B → ℕ) (g : A → B) (xs : List A) → sum_by f (map g xs) ≡ sum_by (λ x. f (g x)) xs
sum_by-map f g [] = refl
sum_by-map f g (x ∷ xs) = omega (arith, sum_by-cons f (g x) (map g xs), sum_by-cons (λ x. f (g x)) x xs, sum_by-map f g xs)

sum_by-flat : {A B : Type 0} (f : B → ℕ) (g : A → List B) (h : A → ℕ) (xs : List A) → ((x : A) → sum_by f (g x) ≡ h x) → sum_by f (flat_map g xs) ≡ sum_by h xs
sum_by-flat f g h [] each = refl
sum_by-flat f g h (x ∷ xs) each = omega (arith, sum_by-append f (g x) (flat_map g xs), sum_by-cons h x xs, each x, sum_by-flat f g h xs each)

-- the units of a book are those of its chains
pub total_is : (passes : Where) (rows : List Row) (chains : List (List KeptHolds)) → held_where passes (book_of rows chains) ≡ all_units passes chains
total_is passes rows chains =
    sum_by-flat (units_where passes) (flat_map holdings_of) (chain_units passes) chains (λ nodes.
    sum_by-flat (units_where passes) holdings_of (node_units passes) nodes (λ node. sum_by-map (units_where passes) (of_wave node.wave) node.holds))

-- a sum of which all terms but one are 0
pub sum_by-one : {X : Type 0} (f : X → ℕ) (xs : List X) (i : ℕ) (d : X) → i < length xs → ((k : ℕ) → k < length xs → k ≢ i → f (get_or xs k d) ≡ 0)
    → sum_by f xs ≡ f (get_or xs i d)
sum_by-one f [] i d within others = absurd (omega arith)
sum_by-one f (x ∷ xs) zero d within others =
    let rest = sum_by-zeros f xs d (λ k below. others (suc k) (omega arith) (omega arith)) in
    omega (arith, sum_by-cons f x xs, rest)
sum_by-one f (x ∷ xs) (suc i) d within others =
    let rest = sum_by-one f xs i d (omega arith) (λ k below other. others (suc k) (omega arith) (omega arith)) in
    omega (arith, sum_by-cons f x xs, rest, others 0 (omega arith) (omega arith))

-- a test that only what is held for a wave passes
abbrev pub IsOfWave : ℕ → Where → Type 0
IsOfWave wave passes = (w o r : ℕ) → w ≢ wave → passes w o r ≡ false

-- only what is held for a wave passes the test for an order of it at a row
pub is_for-of : (wave order row : ℕ) → IsOfWave wave (is_for wave order row)
is_for-of wave order row w o r other = and_left _ _ (ne_eqb w wave other)

-- and the test for the wave at a row
pub is_for_wave-of : (wave row : ℕ) → IsOfWave wave (is_for_wave wave row)
is_for_wave-of wave row w o r other = and_left _ _ (ne_eqb w wave other)

-- and the test for the wave
pub is_of-of : (wave : ℕ) → IsOfWave wave (is_of wave)
is_of-of wave w o r other = ne_eqb w wave other

-- no more passes than is held for the wave
wave_most : (wave : ℕ) (passes : Where) (w : ℕ) (hold : Hold) → IsOfWave wave passes → hold_units_where passes w hold ≤ hold_units_where (is_of wave) w hold
wave_most wave passes w hold of = elim (cases_eq w wave) [
  | inl same ↦
      let all = cond-true (w == wave) hold.quantity 0 (eq-eqb w wave same) in
      cond_both (passes w hold.order hold.row) hold.quantity 0 (λ n. n ≤ hold_units_where (is_of wave) w hold) (λ e. omega (arith, all)) (λ e. omega arith)
  | inr other ↦ omega (arith, cond-false (passes w hold.order hold.row) hold.quantity 0 (of w hold.order hold.row other))
]

-- of a chain, no more passes such a test than is held for the wave
pub chain_most : (wave : ℕ) (passes : Where) (nodes : List KeptHolds) → IsOfWave wave passes → chain_units passes nodes ≤ chain_units (is_of wave) nodes
chain_most wave passes nodes of =
    sum_by-within (node_units passes) (node_units (is_of wave)) nodes (λ node.
    sum_by-within (hold_units_where passes node.wave) (hold_units_where (is_of wave) node.wave) node.holds
    (λ hold. wave_most wave passes node.wave hold of))

-- the chain of a wave
abbrev pub chain_for : List (List KeptHolds) → ℕ → List KeptHolds
chain_for chains wave = get_or chains (wave % chain_count) []

-- the chain of a wave is one of the chains
pub chain_place : (wave : ℕ) → wave % chain_count < chain_count
chain_place wave = omega arith

-- the chain of a wave has all units of all chains that are held for the wave
pub wave_total : (rows : List Row) (chains : List (List KeptHolds)) (wave : ℕ) (passes : Where) → AreChained rows chains → IsOfWave wave passes
    → all_units passes chains ≡ chain_units passes (chain_for chains wave)
wave_total rows chains wave passes kept of =
    sum_by-one (chain_units passes) chains (wave % chain_count) [] (omega (arith, kept.count, chain_place wave)) (λ k below other.
    omega (arith, chain_most wave passes (get_or chains k []) of, kept.placed k wave (omega (arith, kept.count)) (λ e. other (sym e))))

-- the chain of a wave has all that a book holds for it
pub wave_held : (rows : List Row) (chains : List (List KeptHolds)) (wave : ℕ) (passes : Where) → AreChained rows chains → IsOfWave wave passes
    → held_where passes (book_of rows chains) ≡ chain_units passes (chain_for chains wave)
wave_held rows chains wave passes kept of = total_is passes rows chains ∙ wave_total rows chains wave passes kept of

-- a chain that is written over changes the units of all chains by its old and its new units
pub total_moved : (rows : List Row) (chains : List (List KeptHolds)) (wave : ℕ) (new : List KeptHolds) (passes : Where) → AreChained rows chains
    → all_units passes (set chains (wave % chain_count) new) + chain_units passes (chain_for chains wave) ≡ all_units passes chains + chain_units passes new
total_moved rows chains wave new passes kept =
    sum_by-set (chain_units passes) chains (wave % chain_count) new [] (omega (arith, kept.count, chain_place wave))

-- what is held stays in the chain of its wave where the chain that is written over has nothing of other chains' waves
pub placed_moved : (rows : List Row) (chains : List (List KeptHolds)) (wave : ℕ) (new : List KeptHolds) → AreChained rows chains
    → ((other : ℕ) → other % chain_count ≢ wave % chain_count → chain_units (is_of other) new ≡ 0)
    → (i other : ℕ) → i < chain_count → other % chain_count ≢ i → chain_units (is_of other) (get_or (set chains (wave % chain_count) new) i []) ≡ 0
placed_moved rows chains wave new kept none i other within elsewhere = elim (cases_eq i (wave % chain_count)) [
  | inl here ↦
      let at = ap (get_or (set chains (wave % chain_count) new)) here in
      let now = get_or-set_same chains (wave % chain_count) new [] (omega (arith, kept.count, chain_place wave)) in
      ap (chain_units (is_of other)) (ap (λ k. get_or (set chains (wave % chain_count) new) k []) here ∙ now) ∙ none other (λ e. elsewhere (e ∙ sym here))
  | inr away ↦ ap (chain_units (is_of other)) (get_or-set_other chains (wave % chain_count) i new [] away) ∙ kept.placed i other within elsewhere
]

-- what is known of a row of a book
pub record IsRow (chains : List (List KeptHolds)) (k : ℕ) (r : Row) : Type 0 where
  pub balance : IsBalanced r
  pub held : r.held ≡ all_units (is_at k) chains

-- a row of a book balances, and what is held in it is what all chains hold there
pub row_is : (rows : List Row) (chains : List (List KeptHolds)) (k : ℕ) (r : Row) → IsBook (book_of rows chains) → slice_get rows k ≡ Some r → IsRow chains k r
row_is rows chains k r book there = record {
  balance = All-at IsBalanced rows k r book.rows there;
  held = at_some _ (λ (r : Row). r.held ≡ held_where (is_at k) (book_of rows chains)) r there (book.held k) ∙ total_is (is_at k) rows chains;
}

-- the chains of a book hold nothing at a place that is no row
pub nowhere_else : (rows : List Row) (chains : List (List KeptHolds)) (k : ℕ) → IsBook (book_of rows chains) → length rows ≤ k → all_units (is_at k) chains ≡ 0
nowhere_else rows chains k book past = sym (total_is (is_at k) rows chains) ∙ book.nowhere_else k past

-- a book whose rows have changed, each to what is held there now
pub book_moved : (change : ℕ → Row → Row) (rows : List Row) (chains new : List (List KeptHolds)) → IsBook (book_of rows chains)
    → ((k : ℕ) (r : Row) → slice_get rows k ≡ Some r → IsRow chains k r → IsRow new k (change k r)) → ((k : ℕ) → length rows ≤ k → all_units (is_at k) new ≡ 0)
    → IsBook (book_of (change_rows change 0 rows) new)
book_moved change rows chains new book each nowhere = record {
  rows = All-change_rows change rows IsBalanced (λ k r there. (each k r there (row_is rows chains k r book there)).balance);
  held = λ k. IfSome-change_rows change rows k _ (λ r there. (each k r there (row_is rows chains k r book there)).held
      ∙ sym (total_is (is_at k) (change_rows change 0 rows) new));
  nowhere_else = λ k past. total_is (is_at k) (change_rows change 0 rows) new ∙ nowhere k (omega (arith, length-change_rows change rows));
}

-- the chain that was looked up is the wave's
pub chain_found : (chains : List (List KeptHolds)) (wave i : ℕ) (found : List KeptHolds) → length chains ≡ chain_count → i ≡ wave % chain_count
    → found ≡ get_or chains i found → found ≡ chain_for chains wave
chain_found chains wave i found count place at =
    at ∙ (get_or_default chains i found [] (omega (arith, count, place, chain_place wave)) ∙ ap (λ k. get_or chains k []) place)
