-- A path has no more pairs than there are pairs of orders.
use Rattle.std.proofs.Common.{◌≡◌, ℕ, zero, suc, ◌+◌, ◌-◌, ◌*◌, ◌/◌, ◌<◌, ◌≤◌, true, List, length, map, get_or, take, arith, refl, ap, sym, ◌∙◌, subst}
use Rattle.std.proofs.Common.{⊎_elim, Contains, eqb, eqb-true}
use Rattle.std.specs.List.{IsDistinct}
use Rattle.std.proofs.Math.Nat.{mul-div_cancel_left}
use Rattle.std.proofs.lemmas.Bool.{cases_lt, ne_eqb}
use Rattle.std.proofs.lemmas.List.{get_or-map, get_or-take, get_or_default, length-map, length-take-le}
use Rattle.std.proofs.lemmas.Map.Keys.{IsDistinct-from_apart}
use Rattle.std.proofs.lemmas.Map.Steps.{length-le_from_distinct_below}
use Rattle.std.proofs.lemmas.Map.Views.{Contains-from_any}
use Rattle.wp_pairs.specs.declared.pair.OrderPair.{OrderPair}
use Rattle.wp_pairs.specs.Kept.{pair_number, pairs_of}
use Rattle.wp_pairs.specs.Permitted.{AreDecided}
use Rattle.wp_pairs.proofs.PairNumbers.{added_decided}
use Rattle.wp_lengths.specs.Waves.{WavePicks}
use Rattle.wp_cert.specs.Paths.{IsPath}

-- the pairs with a lower second order come before
pairs_below : (a b : ℕ) → a < b → pairs_of a + a ≤ pairs_of b
pairs_below a zero h = absurd (omega arith)
pairs_below a (suc b) h =
    ⊎_elim (λ (lt : a < b). omega (arith, pairs_below a b lt)) (λ (ge : b ≤ a). let e : a ≡ b = omega arith in rw e (omega arith)) (cases_lt a b)

-- pairs of one number have the same second order
same_second : (p q : OrderPair) → p.first < p.second → q.first < q.second → pair_number p ≡ pair_number q → p.second ≡ q.second
same_second p q lp lq e =
    ⊎_elim (λ (lt : p.second < q.second). absurd (omega (arith, pairs_below p.second q.second lt, e)))
    (λ (ge : q.second ≤ p.second).
    ⊎_elim (λ (lt : q.second < p.second). absurd (omega (arith, pairs_below q.second p.second lt, e))) (λ (le : p.second ≤ q.second). omega arith)
    (cases_lt q.second p.second))
    (cases_lt p.second q.second)

-- and the same first order
same_first : (p q : OrderPair) → p.first < p.second → q.first < q.second → pair_number p ≡ pair_number q → p.first ≡ q.first
same_first p q lp lq e = let s = ap pairs_of (same_second p q lp lq e) in omega (arith, s, e)

-- twice the number of pairs of so many orders
twice_pairs : (orders : ℕ) → 2 * pairs_of orders + orders ≡ orders * orders
twice_pairs zero = refl
twice_pairs (suc n) = let before = twice_pairs n in omega (arith, before)

-- the number of pairs of so many orders
pairs_are : (orders : ℕ) → pairs_of orders ≡ orders * (orders - 1) / 2
pairs_are zero = refl
pairs_are (suc n) =
    let back : n ≡ suc n - 1 = omega arith in
    let twice : 2 * pairs_of (suc n) ≡ suc n * n = omega (arith, twice_pairs (suc n)) in
    sym (mul-div_cancel_left (pairs_of (suc n)) (omega arith)) ∙ ap (λ (k : ℕ). k / 2) (twice ∙ ap (λ (k : ℕ). suc n * k) back)

module _ (wave : WavePicks) (capacity : ℕ) (pairs : List OrderPair) (path : IsPath wave capacity pairs) where
  -- no two pairs of a path have one number
  numbers_differ : (i j : ℕ) (d : OrderPair) → i < j → j < length pairs → pair_number (get_or pairs i d) ≡ pair_number (get_or pairs j d) → ⊥
  numbers_differ i j d lt within e =
      let here = path.each j d within in
      let there = path.each i d (omega (arith, lt, within)) in
      let p = get_or pairs i d in
      let q = get_or pairs j d in
      let early : Contains (take j pairs) p = (
        i,
        omega (arith, length-take-le j pairs (omega arith)),
        get_or-take j pairs i p lt ∙ get_or_default pairs i p d (omega (arith, lt, within)),
      ) in
      let told = added_decided (take j pairs) p early in
      here.open_ (subst (λ (s : ℕ). AreDecided (take j pairs) q.first s) (same_second p q there.order here.order e)
      (subst (λ (f : ℕ). AreDecided (take j pairs) f p.second) (same_first p q there.order here.order e) told))

  distinct : IsDistinct eqb (map pair_number pairs)
  distinct = IsDistinct-from_apart eqb (map pair_number pairs) (λ i j d lt within.
      let count = length-map pairs pair_number in
      let blank : OrderPair = record { first = 0; second = 0; together = true } in
      let left = get_or-map pair_number pairs i blank d (omega (arith, lt, within, count)) in
      let right = get_or-map pair_number pairs j blank d (omega (arith, within, count)) in
      ne_eqb _ _ (λ e. numbers_differ i j blank lt (omega (arith, within, count)) (sym left ∙ (e ∙ right))))

  number_below : (n : ℕ) → Contains (map pair_number pairs) n → n < pairs_of (length wave.orders)
  number_below n has =
      let blank : OrderPair = record { first = 0; second = 0; together = true } in
      let count = length-map pairs pair_number in
      let is = path.each has.0 blank (omega (arith, has.1, count)) in
      let named = get_or-map pair_number pairs has.0 blank n (omega (arith, has.1, count)) in
      omega (arith, pairs_below (get_or pairs has.0 blank).second (length wave.orders) is.known, is.order, named, has.2)

  -- a path is no longer than that
  pub paths_are_short : length pairs ≤ length wave.orders * (length wave.orders - 1) / 2
  paths_are_short =
      let most = length-le_from_distinct_below (map pair_number pairs) (pairs_of (length wave.orders)) distinct
      (λ q found. number_below q (Contains-from_any {eq = eqb} (λ x y same. eqb-true x y same) q (map pair_number pairs) found)) in
      omega (arith, most, length-map pairs pair_number, pairs_are (length wave.orders))
