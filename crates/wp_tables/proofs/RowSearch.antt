-- A search among rows in the order of their locations finds the row at a location.
use Rattle.std.proofs.Common.{◌≡◌, ◌∙◌, refl, sym, ap, subst, ℕ, zero, suc, ◌+◌, ◌<◌, ◌≤◌, Bool, true, false, List, [], ◌∷◌, length, Result, Ok, Err, Some}
use Rattle.std.proofs.Common.{None, MatchResult, arith, inl, inr, lit≤, ◌⊎◌}
use Rattle.std.specs.Prelude.{◌&&◌, ◌||◌, ◌==◌, nat_lt, slice_get}
use Rattle.std.specs.List.Sorted.{IsBinarySearchResult, IsNonDecreasingBy, IsSearchInRange}
use Rattle.std.specs.Ordering.{is_eq, is_lt, ordering_index}
use Rattle.std.specs.declared.cmp.Ordering.{Ordering}
use Rattle.std.specs.declared.cmp.Ordering.TheVariants.{Less, Equal, Greater}
use Rattle.std.proofs.lemmas.Bool.Decides.{nat_tests}
use Rattle.std.proofs.lemmas.Option.{get_or_from_slice_get, slice_get_within}
use Rattle.wp_model.specs.Location.{is_before, side_before}
use Rattle.wp_model.specs.Step.{same_location, same_side}
use Rattle.wp_model.specs.Tables.{AreRising, row_number_from}
use Rattle.wp_model.specs.declared.location.Location.{Location}
use Rattle.wp_model.specs.declared.location.Side.{Side}
use Rattle.wp_model.specs.declared.location.Side.TheVariants as side
use Rattle.wp_model.specs.declared.row.StockRow.{StockRow}
use Rattle.wp_model.proofs.Elements.{within_some}
use Rattle.wp_model.proofs.ReadStock.{before_trans}
use Rattle.wp_model.proofs.LocationOrder.{before_by_cmp, same_by_cmp}
use Rattle.wp_model.specs.Location.{location_cmp}

-- the same by the first number and the rest
lex_apart : (p q s : ℕ) (u v w : Bool) → (nat_lt p q || ((p == q) && u)) ≡ true → ((q == s) && v) ≡ true → (u ≡ true → v ≡ true → w ≡ false)
    → ((p == s) && w) ≡ false
lex_apart p q s true true w first same rest = rw (rest refl refl) (grind (arith, nat_tests))
lex_apart p q s u false w first same rest = grind (arith, nat_tests)
lex_apart p q s false true w first same rest = grind (arith, nat_tests)

lex_same : (p q s : ℕ) (u v w : Bool) → (nat_lt p q || ((p == q) && u)) ≡ true → ((s == q) && v) ≡ true → (u ≡ true → v ≡ true → w ≡ true)
    → (nat_lt p s || ((p == s) && w)) ≡ true
lex_same p q s true true w first same rest = rw (rest refl refl) (grind (arith, nat_tests))
lex_same p q s u false w first same rest = grind (arith, nat_tests)
lex_same p q s false true w first same rest = grind (arith, nat_tests)

regroup : (p q r t : Bool) → (p && q && r) ≡ t → (p && (q && r)) ≡ t
regroup true q r t e = e
regroup false q r t e = e

group : (p q r t : Bool) → (p && (q && r)) ≡ t → (p && q && r) ≡ t
group true q r t e = e
group false q r t e = e

side_apart : (r s t : Side) → side_before r s ≡ true → same_side s t ≡ true → same_side r t ≡ false
side_apart side.L side.L t before same = absurd (cc before)
side_apart side.L side.R side.L before same = absurd (cc same)
side_apart side.L side.R side.R before same = refl
side_apart side.R side.L t before same = absurd (cc before)
side_apart side.R side.R t before same = absurd (cc before)

side_same : (r s t : Side) → side_before r s ≡ true → same_side t s ≡ true → side_before r t ≡ true
side_same side.L side.L t before same = absurd (cc before)
side_same side.L side.R side.L before same = absurd (cc same)
side_same side.L side.R side.R before same = refl
side_same side.R side.L t before same = absurd (cc before)
side_same side.R side.R t before same = absurd (cc before)

-- what lies before a location isn't at it
apart : (a b c : Location) → is_before a b ≡ true → same_location b c ≡ true → same_location a c ≡ false
apart a b c before same =
    group (a.aisle == c.aisle) (a.slot == c.slot) (same_side a.side c.side) false
    (lex_apart a.aisle b.aisle c.aisle _ _ _ before (regroup (b.aisle == c.aisle) (b.slot == c.slot) (same_side b.side c.side) true same)
    (λ first_slot same_slot. lex_apart a.slot b.slot c.slot _ _ _ first_slot same_slot (side_apart a.side b.side c.side)))

-- what lies before one of two locations that are the same lies before the other
before_same : (a b c : Location) → is_before a b ≡ true → same_location c b ≡ true → is_before a c ≡ true
before_same a b c before same =
    lex_same a.aisle b.aisle c.aisle _ _ _ before (regroup (c.aisle == b.aisle) (c.slot == b.slot) (same_side c.side b.side) true same)
    (λ first_slot same_slot. lex_same a.slot b.slot c.slot _ _ _ first_slot same_slot (side_same a.side b.side c.side))

side_flips : (r s : Side) → same_side r s ≡ same_side s r
side_flips side.L side.L = refl
side_flips side.L side.R = refl
side_flips side.R side.L = refl
side_flips side.R side.R = refl

eq_flips : (m n : ℕ) → (m == n) ≡ (n == m)
eq_flips m n = grind (arith, nat_tests)

same_flips : (a b : Location) → same_location a b ≡ same_location b a
same_flips a b = rw (eq_flips a.aisle b.aisle, eq_flips a.slot b.slot, side_flips a.side b.side) refl

-- the first row at a location, where the rows before it lie before it
row_there : (rows : List StockRow) (n i : ℕ) (r : StockRow) (location : Location) → AreRising rows → slice_get rows i ≡ Some r
    → same_location r.location location ≡ true
    → row_number_from n rows location ≡ Some (n + i)
row_there [] n i r location rising at same = absurd (cc at)
row_there (x ∷ rows) n zero r location rising at same =
    let e : x ≡ r = cc in
    let here : same_location x.location location ≡ true = ap (λ (y : StockRow). same_location y.location location) e ∙ same in
    let first : n ≡ n + 0 = omega arith in
    rw here (ap Some first)
row_there (x ∷ rows) n (suc i) r location rising at same =
    let other : same_location x.location location ≡ false = apart x.location r.location location (rising zero (suc i) x r refl at (omega arith)) same in
    let next : n + 1 + i ≡ n + suc i = omega arith in
    rw other (row_there rows (n + 1) i r location (λ i j s t at_i at_j less. rising (suc i) (suc j) s t at_i at_j (omega arith)) at same ∙ ap Some next)

-- no row at a location
no_row : (rows : List StockRow) (n : ℕ) (location : Location)
    → ((k : ℕ) (r : StockRow) → slice_get rows k ≡ Some r → same_location r.location location ≡ false) → row_number_from n rows location ≡ None
no_row [] n location others = refl
no_row (x ∷ rows) n location others =
    let other = others zero x refl in
    rw other (no_row rows (n + 1) location (λ k r at. others (suc k) r at))

rises : (o p : Ordering) → (is_lt p ≡ true → is_lt o ≡ true) → (is_eq p ≡ true → is_lt o ≡ true) → ordering_index o ≤ ordering_index p
rises Less p less same = omega arith
rises Equal Less less same = absurd (cc (less refl))
rises Equal Equal less same = absurd (cc (same refl))
rises Equal Greater less same = lit≤ tt
rises Greater Less less same = absurd (cc (less refl))
rises Greater Equal less same = absurd (cc (same refl))
rises Greater Greater less same = lit≤ tt

less_or_more : (k i : ℕ) → (k < i) ⊎ (i ≤ k)
less_or_more k i = by_test (nat_lt k i) refl
  where
    by_test : (b : Bool) → nat_lt k i ≡ b → (k < i) ⊎ (i ≤ k)
    by_test true is = inl (grind (arith, nat_tests))
    by_test false is = inr (grind (arith, nat_tests))

-- the answers rise along the rows
answers_rise : (cmp : Location → Location → Ordering) (agrees : (a b : Location) → cmp a b ≡ location_cmp a b) (rows : List StockRow) (location : Location)
    → AreRising rows
    → IsNonDecreasingBy (λ row. ordering_index (cmp row.location location)) rows
answers_rise cmp agrees rows location rising i j d ordered below =
    let (x, at_x) = within_some rows i (omega arith) in
    let (y, at_y) = within_some rows j below in
    let got_x = get_or_from_slice_get rows i x d at_x in
    let got_y = get_or_from_slice_get rows j y d at_y in
    rw (got_x, got_y) (elim (less_or_more i j) [
      | inl less ↦
          let before : is_before x.location y.location ≡ true = rising i j x y at_x at_y less in
          rises (cmp x.location location) (cmp y.location location)
          (λ e. ap is_lt (agrees x.location location) ∙ before_by_cmp x.location location
          ∙ before_trans x.location y.location location before (sym (before_by_cmp y.location location) ∙ sym (ap is_lt (agrees y.location location)) ∙ e))
          (λ e. ap is_lt (agrees x.location location) ∙ before_by_cmp x.location location
          ∙ before_same x.location y.location location before (sym (same_by_cmp y.location location) ∙ sym (ap is_eq (agrees y.location location)) ∙ e))
      | inr more ↦
          let place : i ≡ j = omega arith in
          let same : x ≡ y = cc in
          subst (λ (z : StockRow). ordering_index (cmp x.location location) ≤ ordering_index (cmp z.location location)) same (omega arith)
    ])

-- an answer that isn't `Equal` tells of another location
not_same : (cmp : Location → Location → Ordering) (agrees : (a b : Location) → cmp a b ≡ location_cmp a b) (a b : Location) (o : Ordering) → cmp a b ≡ o
    → is_eq o ≡ false → same_location a b ≡ false
not_same cmp agrees a b o answer other = same_flips a b ∙ sym (same_by_cmp a b) ∙ ap is_eq (sym (agrees a b) ∙ answer) ∙ other

-- the answer of a search
pub searched : (cmp : Location → Location → Ordering) (agrees : (a b : Location) → cmp a b ≡ location_cmp a b) (rows : List StockRow) (location : Location)
    (r : Result ℕ ℕ) → AreRising rows
    → IsSearchInRange r (length rows) → IsBinarySearchResult (λ row. cmp row.location location) rows r
    → MatchResult r (λ i. Some i ≡ row_number_from 0 rows location) (λ i. None ≡ row_number_from 0 rows location)
searched cmp agrees rows location (Ok i) rising within is =
    let (x, at) = within_some rows i within in
    let got = get_or_from_slice_get rows i x x at in
    let equal : location_cmp x.location location ≡ Equal = sym (agrees x.location location) ∙ ap (λ (y : StockRow). cmp y.location location) (sym got) ∙ is x in
    let same : same_location x.location location ≡ true = same_flips x.location location ∙ sym (same_by_cmp x.location location) ∙ ap is_eq equal in
    let here : i ≡ 0 + i = omega arith in
    ap Some here ∙ sym (row_there rows 0 i x location rising at same)
searched cmp agrees rows location (Err i) rising within is =
    let parts = is (answers_rise cmp agrees rows location rising) in
    sym (no_row rows 0 location (λ k r at.
    let below = slice_get_within rows k r at in
    let got = get_or_from_slice_get rows k r r at in
    elim (less_or_more k i) [
      | inl less ↦ not_same cmp agrees r.location location Less (ap (λ (y : StockRow). cmp y.location location) (sym got) ∙ parts.0 k r (omega arith) less) refl
      | inr more ↦ not_same cmp agrees r.location location Greater (ap (λ (y : StockRow). cmp y.location location) (sym got) ∙ parts.1 k r more below) refl
    ]))
