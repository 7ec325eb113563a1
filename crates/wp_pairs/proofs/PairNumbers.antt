-- Pairs of orders have numbers of their own below 2016, so no more of them can be added.
use Rattle.std.proofs.Common.{◌≡◌, ℕ, zero, suc, ◌+◌, ◌<◌, ◌≤◌, Bool, true, false, List, [], ◌∷◌, ◌++◌, length, map, arith, refl, ap, sym, subst, inl, inr}
use Rattle.std.proofs.Common.{⊎_elim, Contains, eqb, eqb-true}
use Rattle.std.specs.List.{IsDistinct, list_any}
use Rattle.std.specs.Prelude.{nat_eq}
use Rattle.std.proofs.lemmas.Bool.{cases_lt}
use Rattle.std.proofs.lemmas.List.{length-append, map-append}
use Rattle.std.proofs.lemmas.Cmp.{nat_eq_equiv}
use Rattle.std.proofs.lemmas.Map.Keys.{IsDistinct-push}
use Rattle.std.proofs.lemmas.Map.Steps.{length-le_from_distinct_below}
use Rattle.std.proofs.lemmas.Map.Views.{Contains-from_any}
use Rattle.wp_pairs.specs.declared.pair.OrderPair.{OrderPair}
use Rattle.wp_pairs.specs.Kept.{IsPairing, pair_number, pairs_of}
use Rattle.wp_pairs.specs.Permitted.{AreDecided, ArePair, Pairing, itself, onward}
use Rattle.wp_pairs.proofs.Members.{contains_cases, contains_none}
use Rattle.wp_pairs.proofs.KeptPairs.{AddsPair, with_pair, still_valid}

-- the pairs with a lower second order come before
pairs_below : (a b : ℕ) → a < b → pairs_of a + a ≤ pairs_of b
pairs_below a zero h = absurd (omega arith)
pairs_below a (suc b) h =
    ⊎_elim (λ (lt : a < b). omega (arith, pairs_below a b lt)) (λ (ge : b ≤ a). let e : a ≡ b = omega arith in rw e (omega arith)) (cases_lt a b)

-- two pairs of one number have the same second order
same_second : (p q : OrderPair) → p.first < p.second → q.first < q.second → pair_number p ≡ pair_number q → p.second ≡ q.second
same_second p q lp lq e =
    ⊎_elim (λ (lt : p.second < q.second). absurd (omega (arith, pairs_below p.second q.second lt, e)))
    (λ (ge : q.second ≤ p.second).
    ⊎_elim (λ (lt : q.second < p.second). absurd (omega (arith, pairs_below q.second p.second lt, e))) (λ (le : p.second ≤ q.second). omega arith)
    (cases_lt q.second p.second))
    (cases_lt p.second q.second)

-- and the same first order
same_first : (p q : OrderPair) → p.first < p.second → q.first < q.second → pair_number p ≡ pair_number q → p.first ≡ q.first
same_first p q lp lq e = let s = ap pairs_of (same_second p q lp lq e) in omega (arith, s, e)

-- there are as many numbers as pairs
numbers_length : (pairs : List OrderPair) → length (map pair_number pairs) ≡ length pairs
numbers_length [] = refl
numbers_length (p ∷ ps) = ap suc (numbers_length ps)

-- a number among those of a list of pairs is that of one of them
numbered : (pairs : List OrderPair) (n : ℕ) → Contains (map pair_number pairs) n → (pair : OrderPair) × Contains pairs pair × (pair_number pair ≡ n)
numbered [] n h = absurd (contains_none n h)
numbered (p ∷ ps) n h =
    ⊎_elim (λ e. (p, (0, omega arith, refl), e))
    (λ later. let rest = numbered ps n later in let at = rest.1 in (rest.0, (suc at.0, omega (arith, at.1), at.2), rest.2))
    (contains_cases (pair_number p) n (map pair_number ps) h)

-- the orders of a pair that was added are decided
pub added_decided : (pairs : List OrderPair) (pair : OrderPair) → Contains pairs pair → AreDecided pairs pair.first pair.second
added_decided pairs pair has = go pair.together refl
  where
    it : (kind : Bool) → pair.together ≡ kind → ArePair pairs kind pair.first pair.second
    it kind e = record { pair = pair; added = has; kind = e; both = inl (refl, refl) }

    go : (kind : Bool) → pair.together ≡ kind → AreDecided pairs pair.first pair.second
    go true e = inl (onward (it true e) itself)
    go false e = inr (record { near = pair.first; far = pair.second; joined = itself; apart = it false e; joins = itself })

-- the number of a further pair is new
new_number : {pairing : Pairing} {joined parted : List (List ℕ)} {new : OrderPair} → AddsPair pairing joined parted new
    → Contains (map pair_number pairing.pairs) (pair_number new) → ⊥
new_number {pairing} {joined} {parted} {new} h has =
    let old = numbered pairing.pairs (pair_number new) has in
    let low = h.before.valid.order old.0 old.1 in
    let told = added_decided pairing.pairs old.0 old.1 in
    h.open_ (subst (λ (s : ℕ). AreDecided pairing.pairs new.first s) (same_second old.0 new low h.order old.2)
    (subst (λ (f : ℕ). AreDecided pairing.pairs f old.0.second) (same_first old.0 new low h.order old.2) told))

not_found : (xs : List ℕ) (n : ℕ) → (Contains xs n → ⊥) → list_any (eqb n) xs ≡ false
not_found xs n none = go (list_any (eqb n) xs) refl
  where
    go : (found : Bool) → list_any (eqb n) xs ≡ found → list_any (eqb n) xs ≡ false
    go true e = absurd (none (Contains-from_any {eq = eqb} (λ x y same. eqb-true x y same) n xs e))
    go false e = e

-- with a further pair, still no pair was added twice
pub still_once : {pairing : Pairing} {joined parted : List (List ℕ)} {new : OrderPair} → AddsPair pairing joined parted new
    → IsDistinct nat_eq (map pair_number (pairing.pairs ++ new ∷ []))
still_once {pairing} {joined} {parted} {new} h =
    subst (IsDistinct nat_eq) (sym (map-append pair_number pairing.pairs (new ∷ [])))
    (IsDistinct-push nat_eq_equiv (map pair_number pairing.pairs) (pair_number new) h.before.once (not_found _ _ (new_number h)))

all_pairs : pairs_of 64 ≡ 2016
all_pairs = refl

-- the number of a pair of orders of a wave
number_below : (pairing : Pairing) (pair : OrderPair) → IsPairing pairing → Contains pairing.pairs pair → pair_number pair < 2016
number_below pairing pair valid has =
    let low = valid.order pair has in
    let known = valid.known pair has in
    let second : pair.second < 64 = omega (arith, known, valid.most_orders) in
    omega (arith, pairs_below pair.second 64 second, all_pairs, low)

-- there is room for a further pair
pub has_room : {pairing : Pairing} {joined parted : List (List ℕ)} {new : OrderPair} → AddsPair pairing joined parted new → length pairing.pairs < 2016
has_room {pairing} {joined} {parted} {new} h =
    let all = pairing.pairs ++ new ∷ [] in
    let most = length-le_from_distinct_below (map pair_number all) 2016 (still_once h)
    (λ q found. let one = numbered all q (Contains-from_any {eq = eqb} (λ x y same. eqb-true x y same) q (map pair_number all) found) in
    let low = number_below (with_pair pairing new) one.0 (still_valid h) one.1 in omega (arith, one.2)) in
    omega (arith, most, numbers_length all, length-append pairing.pairs (new ∷ []))
