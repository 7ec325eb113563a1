-- Orders of later items, and those of them that have the most in duals.
use Rattle.std.proofs.Common.{◌≡◌, ◌≢◌, ℕ, ◌+◌, ◌<◌, ◌≤◌, ◌↔◌, List, [], ◌∷◌, length, arith, refl, ap, sym, subst, ◌⊎◌, ⊎_elim, Contains}
use Rattle.std.specs.Prelude.{Option, Some, None, slice_get, slice_index}
use Rattle.std.specs.List.Sorted.{IsStrictlyIncreasing}
use Rattle.std.proofs.lemmas.Bool.{cases_eq}
use Rattle.std.proofs.lemmas.Option.{get_or_from_slice_get, slice_get_within}
use Rattle.std.proofs.lemmas.List.Elements.{All-contains, All-nil}
use Rattle.wp_pairs.specs.Permitted.{AreJoined, Pairing, itself}
use Rattle.wp_lengths.proofs.Ascending.{all_in_or_out, first_least, one_more, one_off}
use Rattle.wp_lengths.proofs.Unions.{all_from_contained}
use Rattle.wp_lengths.specs.Duals.{duals_of}
use Rattle.wp_lengths.specs.Reaches.{HaveMost, IsBestBelow, IsBestFurther, IsLargerOf}
use Rattle.wp_lengths.specs.Visits.{IsLater, IsReach}
use Rattle.wp_pairs.proofs.Classes.{no_heavier}

-- the orders that are joined to an order, and the least of them
pub later_from : (pairing : Pairing) (class : List ℕ) (from order least : ℕ) → IsStrictlyIncreasing class
    → ((other : ℕ) → Contains class other ↔ AreJoined pairing.pairs order other) → slice_get class 0 ≡ Some least → order < pairing.orders → from ≤ least
    → IsLater pairing from order
later_from pairing class from order least up is first known low = record {
  known = known;
  later = λ other joined. let at = first_least class other up ((is other).1 joined) in
      omega (arith, low, at, get_or_from_slice_get class 0 least 0 first);
}

-- the least order of a later class is from this order on
pub least_from : (pairing : Pairing) (class : List ℕ) (from order least : ℕ)
    → ((other : ℕ) → Contains class other ↔ AreJoined pairing.pairs order other) → slice_get class 0 ≡ Some least → IsLater pairing from order → from ≤ least
least_from pairing class from order least is first later =
    later.later least ((is least).0 (0, slice_get_within class 0 least first, get_or_from_slice_get class 0 least least first))

-- a class has an order
pub class_filled : (pairing : Pairing) (class : List ℕ) (order : ℕ) → ((other : ℕ) → Contains class other ↔ AreJoined pairing.pairs order other)
    → 0 < length class
class_filled pairing class order is = let has = (is order).1 itself in omega (arith, has.1)

-- the next order is of no later item or is taken: the best stays
pub best_kept : (pairing : Pairing) (duals taken : List ℕ) (from next : ℕ) (best : Option ℕ) → IsBestBelow pairing duals taken from next best
    → (IsLater pairing from next → Contains taken next) → IsBestBelow pairing duals taken from (next + 1) best
best_kept pairing duals taken from next None before out = λ other low later.
    ⊎_elim (λ (e : other ≡ next). subst (Contains taken) (sym e) (out (subst (IsLater pairing from) e later)))
    (λ (ne : other ≢ next). before other (omega (arith, low, ne)) later) (cases_eq other next)
best_kept pairing duals taken from next (Some order) before out = record {
  later = before.later;
  new = before.new;
  best = λ other low later free. ⊎_elim
      (λ (e : other ≡ next). absurd (free (subst (Contains taken) (sym e) (out (subst (IsLater pairing from) e later)))))
      (λ (ne : other ≢ next). before.best other (omega (arith, low, ne)) later free) (cases_eq other next);
}

-- the next order is the first that is left
pub best_first : (pairing : Pairing) (duals taken : List ℕ) (from next : ℕ) → IsBestBelow pairing duals taken from next None → IsLater pairing from next
    → (Contains taken next → ⊥) → IsBestBelow pairing duals taken from (next + 1) (Some next)
best_first pairing duals taken from next before later new = record {
  later = later;
  new = new;
  best = λ other low is free. ⊎_elim (λ (e : other ≡ next). let same = ap (slice_index duals) e in omega (arith, same))
      (λ (ne : other ≢ next). absurd (free (before other (omega (arith, low, ne)) is))) (cases_eq other next);
}

-- the larger of the best and the next
pub best_larger : (pairing : Pairing) (duals taken : List ℕ) (from next order larger : ℕ) → IsBestBelow pairing duals taken from next (Some order)
    → IsLater pairing from next → (Contains taken next → ⊥) → IsLargerOf duals order next larger
    → IsBestBelow pairing duals taken from (next + 1) (Some larger)
best_larger pairing duals taken from next order larger before later new is = record {
  later = ⊎_elim (λ e. subst (IsLater pairing from) (sym e) before.later) (λ e. subst (IsLater pairing from) (sym e) later) is.either;
  new = ⊎_elim (λ e. subst (λ (o : ℕ). Contains taken o → ⊥) (sym e) before.new) (λ e. subst (λ (o : ℕ). Contains taken o → ⊥) (sym e) new) is.either;
  best = λ other low known free. ⊎_elim
      (λ (e : other ≡ next). let same = ap (slice_index duals) e in omega (arith, same, is.second_within))
      (λ (ne : other ≢ next). let old = before.best other (omega (arith, low, ne)) known free in omega (arith, old, is.first_within)) (cases_eq other next);
}

-- no order before one is of an item from that one on
pub none_before : (pairing : Pairing) (duals taken : List ℕ) (from : ℕ) → IsBestBelow pairing duals taken from from None
none_before pairing duals taken from = λ other low later. let at = later.later other itself in absurd (omega (arith, low, at))

-- the best below an end that no order reaches is the best of all
pub best_of_all : (pairing : Pairing) (duals taken : List ℕ) (from end : ℕ) (best : Option ℕ) → IsBestBelow pairing duals taken from end best
    → pairing.orders ≤ end → IsBestBelow pairing duals taken from pairing.orders best
best_of_all pairing duals taken from end None below all = λ other low. below other (omega (arith, low, all))
best_of_all pairing duals taken from end (Some order) below all = record {
  later = below.later;
  new = below.new;
  best = λ other low. below.best other (omega (arith, low, all));
}

-- no order has the most of none
pub most_of_none : (pairing : Pairing) (duals : List ℕ) (from : ℕ) → HaveMost pairing duals from 0 []
most_of_none pairing duals from = record {
  ascending = λ k within. absurd (omega arith);
  fits = omega arith;
  later = All-nil (IsLater pairing from);
  most = λ orders up few later. no_heavier (slice_index duals) orders [] up (λ k within. absurd (omega arith)) (λ x has. absurd (omega (arith, has.1, few)));
}

-- where all are taken, they have the most of any number
pub most_of_all : (pairing : Pairing) (duals taken : List ℕ) (from count : ℕ) → IsBestBelow pairing duals taken from pairing.orders None
    → HaveMost pairing duals from count taken → HaveMost pairing duals from (count + 1) taken
most_of_all pairing duals taken from count all have = record {
  ascending = have.ascending;
  fits = omega (arith, have.fits);
  later = have.later;
  most = λ orders up few later. no_heavier (slice_index duals) orders taken up have.ascending
      (λ x has. let is = All-contains (IsLater pairing from) orders x later has in all x is.known is);
}

-- with the best that is left, they have the most of one more
pub most_of_more : (pairing : Pairing) (duals taken after : List ℕ) (from count order : ℕ) → IsBestFurther pairing duals taken from pairing.orders order
    → IsStrictlyIncreasing after → ((p : ℕ) → Contains after p ↔ (Contains taken p ⊎ (p ≡ order))) → HaveMost pairing duals from count taken
    → HaveMost pairing duals from (count + 1) after
most_of_more pairing duals taken after from count order best up is have =
    let more = one_more (slice_index duals) taken after order have.ascending up is best.new in record {
      ascending = up;
      fits = omega (arith, more.counts, have.fits);
      later = all_from_contained (IsLater pairing from) after
          (λ x has. ⊎_elim (λ old. All-contains (IsLater pairing from) taken x have.later old) (λ e. subst (IsLater pairing from) (sym e) best.later)
          ((is x).0 has));
      most = λ orders ascends few later. ⊎_elim
          (λ all. omega (arith, no_heavier (slice_index duals) orders taken ascends have.ascending all, more.sums))
          (λ out.
          let o = one_off (slice_index duals) orders out.0 ascends out.1 in
          let y = All-contains (IsLater pairing from) orders out.0 later out.1 in
          let low = have.most o.rest o.ascending (omega (arith, o.counts, few))
          (all_from_contained (IsLater pairing from) o.rest (λ x has. All-contains (IsLater pairing from) orders x later (o.of_whole x has))) in
          omega (arith, o.sums, low, best.best out.0 y.known y out.2, more.sums))
          (all_in_or_out orders taken);
    }

-- those that have the most of as many as there is room for make up the reach
pub reach_from : (pairing : Pairing) (duals place taken : List ℕ) (from count : ℕ) → HaveMost pairing duals from count taken
    → count + length place ≡ pairing.capacity → IsReach pairing duals place from (duals_of duals taken)
reach_from pairing duals place taken from count have room = record {
  some = (taken, record { ascending = have.ascending; fits = omega (arith, have.fits, room); later = have.later }, refl);
  most = λ orders further. have.most orders further.ascending (omega (arith, further.fits, room)) further.later;
}

-- a list that has something has a first
pub none_first : (xs : List ℕ) → 0 < length xs → slice_get xs 0 ≡ None → ⊥
none_first [] some none = omega (arith, some)
none_first (x ∷ xs) some none = absurd (cc none)
