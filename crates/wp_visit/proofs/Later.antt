-- Orders of later items from an order on, beside those after it, and what each number of them has in duals at most.
use Rattle.std.proofs.Common.{◌≡◌, ◌≢◌, ℕ, ◌+◌, ◌-◌, ◌*◌, ◌<◌, ◌≤◌, List, [], ◌∷◌, ◌++◌, All, Contains, length, arith, refl, sym, subst, ⊎_elim, ◌∙◌}
use Rattle.std.specs.Prelude.{max, slice_index}
use Rattle.std.specs.List.Sorted.{IsStrictlyIncreasing}
use Rattle.std.proofs.lemmas.Bool.{cases_eq, cases_lt}
use Rattle.std.proofs.lemmas.List.Elements.{All-contains, All-weaker}
use Rattle.std.proofs.lemmas.List.Sums.{sum_by-cons}
use Rattle.std.proofs.lemmas.List.{get_or_append_left, get_or_push, length-append}
use Rattle.wp_pairs.specs.Permitted.{AreJoined, Pairing, itself}
use Rattle.wp_pairs.proofs.Chains.{joined_back, joined_on}
use Rattle.wp_pairs.proofs.KeptPairs.{in_or_not}
use Rattle.wp_pairs.proofs.Members.{ascending_cons, contains_cases}
use Rattle.wp_lengths.specs.Duals.{duals_of}
use Rattle.wp_lengths.specs.Reaches.{HaveMost}
use Rattle.wp_lengths.specs.Visits.{IsItem, IsLater}
use Rattle.wp_lengths.proofs.Ascending.{one_off, only_one}
use Rattle.wp_lengths.proofs.Unions.{all_from_contained}
use Rattle.wp_visit.specs.Items.{AreBounded, AreReachesBelow, AreReachesFrom, IsMost, most_dual}
use Rattle.wp_visit.proofs.Reaches.{sum_bounded}

-- no other order is joined to this one
abbrev pub IsAlone : Pairing → ℕ → Type 0
IsAlone pairing order = (other : ℕ) → AreJoined pairing.pairs order other → other ≡ order

-- a list of one number has no other
pub one_alone : (xs : List ℕ) (a b : ℕ) → length xs ≡ 1 → Contains xs a → Contains xs b → b ≡ a
one_alone [] a b e first second = absurd (omega (arith, e))
one_alone (x ∷ []) a b e first second = sym (only_one x b second) ∙ only_one x a first
one_alone (x ∷ y ∷ ys) a b e first second = absurd (omega (arith, e))

-- an order of an item after one is of an item from that one on
pub later_too : (pairing : Pairing) (order o : ℕ) → IsLater pairing (order + 1) o → IsLater pairing order o
later_too pairing order o later = record { known = later.known; later = λ other joined. let at = later.later other joined in omega (arith, at) }

-- where an order isn't the item's name, all orders of items from it on are of those after it
later_still : (pairing : Pairing) (order o : ℕ) → order < pairing.orders → (IsItem pairing order → ⊥) → IsLater pairing order o
    → IsLater pairing (order + 1) o
later_still pairing order o known none later = record {
  known = later.known;
  later = λ other joined. ⊎_elim
      (λ (e : other ≡ order). absurd (none (record {
        known = known;
        least = λ x to. later.later x (joined_on (subst (λ (k : ℕ). AreJoined pairing.pairs o k) e joined) to);
      })))
      (λ (ne : other ≢ order). let at = later.later other joined in omega (arith, at, ne)) (cases_eq other order);
}

-- where an order is alone, all others of items from it on are of those after it
later_other : (pairing : Pairing) (order o : ℕ) → IsAlone pairing order → IsLater pairing order o → o ≢ order → IsLater pairing (order + 1) o
later_other pairing order o alone later other_one = record {
  known = later.known;
  later = λ other joined. ⊎_elim
      (λ (e : other ≡ order). absurd (other_one (alone o (joined_back (subst (λ (k : ℕ). AreJoined pairing.pairs o k) e joined)))))
      (λ (ne : other ≢ order). let at = later.later other joined in omega (arith, at, ne)) (cases_eq other order);
}

-- the most of the items after an order are the most of those from it on, where it isn't the name of one
most_still : (pairing : Pairing) (duals : List ℕ) (order room most : ℕ) → order < pairing.orders → (IsItem pairing order → ⊥)
    → IsMost pairing duals (order + 1) room most → IsMost pairing duals order room most
most_still pairing duals order room most known none is = (
  is.0,
  record {
    ascending = is.1.ascending;
    fits = is.1.fits;
    later = All-weaker (IsLater pairing (order + 1)) (IsLater pairing order) (λ o. later_too pairing order o) is.0 is.1.later;
    most = λ orders up few later. is.1.most orders up few
        (All-weaker (IsLater pairing order) (IsLater pairing (order + 1)) (λ o. later_still pairing order o known none) orders later);
  },
  is.2,
)

-- the reaches of the items after an order are those of the items from it on, where it isn't the name of one
pub reaches_still : (pairing : Pairing) (duals : List ℕ) (order : ℕ) (reaches : List ℕ) → order < pairing.orders → (IsItem pairing order → ⊥)
    → AreReachesBelow pairing duals (order + 1) (pairing.capacity + 1) reaches → AreReachesBelow pairing duals order (pairing.capacity + 1) reaches
reaches_still pairing duals order reaches known none after = λ room low.
    most_still pairing duals order room (slice_index reaches room) known none (after room low)

-- orders of items from one on, of which it isn't, are no more than those after it
others_fit : (pairing : Pairing) (duals without orders : List ℕ) (order room : ℕ) → IsAlone pairing order
    → HaveMost pairing duals (order + 1) room without → IsStrictlyIncreasing orders → length orders ≤ room → All (IsLater pairing order) orders
    → (Contains orders order → ⊥) → duals_of duals orders ≤ duals_of duals without
others_fit pairing duals without orders order room alone have up few later out =
    have.most orders up few (all_from_contained (IsLater pairing (order + 1)) orders (λ o has.
    later_other pairing order o alone (All-contains (IsLater pairing order) orders o later has) (λ e. out (subst (Contains orders) e has))))

-- with the order they are no more than it and one less of those after it
with_fit : (pairing : Pairing) (duals fewer orders : List ℕ) (order room : ℕ) → IsAlone pairing order
    → HaveMost pairing duals (order + 1) room fewer → IsStrictlyIncreasing orders → length orders ≤ room + 1 → All (IsLater pairing order) orders
    → Contains orders order → duals_of duals orders ≤ duals_of duals fewer + slice_index duals order
with_fit pairing duals fewer orders order room alone have up few later has =
    let s = one_off (slice_index duals) orders order up has in
    let rest = others_fit pairing duals fewer s.rest order room alone have s.ascending (omega (arith, s.counts, few))
    (all_from_contained (IsLater pairing order) s.rest (λ o there. All-contains (IsLater pairing order) orders o later (s.of_whole o there)))
    (λ there. s.not_of_part order there (0, omega arith, refl)) in
    omega (arith, s.sums, rest, sum_by-cons (slice_index duals) order [])

-- the one or the other
at_most : (pairing : Pairing) (duals without fewer orders : List ℕ) (order room : ℕ) → IsAlone pairing order
    → HaveMost pairing duals (order + 1) (room + 1) without → HaveMost pairing duals (order + 1) room fewer → IsStrictlyIncreasing orders
    → length orders ≤ room + 1 → All (IsLater pairing order) orders
    → duals_of duals orders ≤ max (duals_of duals without) (duals_of duals fewer + slice_index duals order)
at_most pairing duals without fewer orders order room alone have less up few later =
    ⊎_elim (λ (has : Contains orders order). let fit = with_fit pairing duals fewer orders order room alone less up few later has in omega (arith, fit))
    (λ (out : Contains orders order → ⊥). let fit = others_fit pairing duals without orders order (room + 1) alone have up few later out in
    omega (arith, fit)) (in_or_not orders order)

-- an order that is alone and orders of items after it
joined_most : (pairing : Pairing) (duals fewer : List ℕ) (order room : ℕ) → order < pairing.orders → IsAlone pairing order
    → HaveMost pairing duals (order + 1) room fewer → (orders : List ℕ) → IsStrictlyIncreasing (order ∷ fewer) × All (IsLater pairing order) (order ∷ fewer)
joined_most pairing duals fewer order room known alone less orders = (
  ascending_cons order fewer (λ o has. let later = All-contains (IsLater pairing (order + 1)) fewer o less.later has in
      let at = later.later o itself in omega (arith, at)) less.ascending,
  all_from_contained (IsLater pairing order) (order ∷ fewer) (λ o has. ⊎_elim
      (λ (e : order ≡ o). subst (IsLater pairing order) e (record { known = known; later = λ other joined. let is = alone other joined in omega (arith, is) }))
      (λ later. later_too pairing order o (All-contains (IsLater pairing (order + 1)) fewer o less.later later)) (contains_cases order o fewer has)),
)

-- of so many orders of the items from an order on that is alone the most are the larger of two: without it, and with it
pub most_with : (pairing : Pairing) (duals : List ℕ) (order room without fewer : ℕ) → order < pairing.orders → IsAlone pairing order
    → IsMost pairing duals (order + 1) (room + 1) without → IsMost pairing duals (order + 1) room fewer
    → IsMost pairing duals order (room + 1) (max without (fewer + slice_index duals order))
most_with pairing duals order room without fewer known alone have less =
    let both = joined_most pairing duals less.0 order room known alone less.1 less.0 in
    let most = λ (orders : List ℕ) (up : IsStrictlyIncreasing orders) (few : length orders ≤ room + 1) (later : All (IsLater pairing order) orders).
    at_most pairing duals have.0 less.0 orders order room alone have.1 less.1 up few later in
    ⊎_elim
    (λ (above : without < fewer + slice_index duals order). let sum = sum_by-cons (slice_index duals) order less.0 in (
      order ∷ less.0,
      record {
        ascending = both.0;
        fits = omega (arith, less.1.fits);
        later = both.1;
        most = λ orders up few later. let m = most orders up few later in omega (arith, m, sum, have.2, less.2, above);
      },
      omega (arith, sum, less.2, above),
    ))
    (λ below. (
      have.0,
      record {
        ascending = have.1.ascending;
        fits = have.1.fits;
        later = All-weaker (IsLater pairing (order + 1)) (IsLater pairing order) (λ o. later_too pairing order o) have.0 have.1.later;
        most = λ orders up few later. let m = most orders up few later in omega (arith, m, have.2, less.2, below);
      },
      omega (arith, have.2, below),
    ))
    (cases_lt without (fewer + slice_index duals order))

-- what so many orders have in duals is bounded by their number
pub most_bounded : (pairing : Pairing) (duals : List ℕ) (from room most : ℕ) → AreBounded duals → length duals ≡ pairing.orders
    → IsMost pairing duals from room most → most ≤ most_dual * room
most_bounded pairing duals from room most bounded count is =
    let low = sum_bounded duals is.0 (All-weaker (IsLater pairing from) (λ (o : ℕ). o < length duals)
    (λ o later. let known = later.known in omega (arith, known, count)) is.0 is.1.later) bounded in
    omega (arith, low, is.2, is.1.fits)

-- one more list of reaches
pub more_from : (pairing : Pairing) (duals : List ℕ) (all after : List (List ℕ)) (reaches : List ℕ) (passed : ℕ) → length all ≡ passed
    → AreReachesFrom pairing duals all → AreReachesBelow pairing duals (pairing.orders - passed) (pairing.capacity + 1) reaches
    → after ≡ all ++ reaches ∷ [] → AreReachesFrom pairing duals after
more_from pairing duals all after reaches passed count each now e = subst (AreReachesFrom pairing duals) (sym e) (λ k d within. ⊎_elim
    (λ (is : k ≡ passed). subst (AreReachesBelow pairing duals (pairing.orders - k) (pairing.capacity + 1))
    (sym (get_or_push all reaches d k (count ∙ sym is)))
    (subst (λ (p : ℕ). AreReachesBelow pairing duals (pairing.orders - p) (pairing.capacity + 1) reaches) (sym is) now))
    (λ (ne : k ≢ passed). let low : k < length all = omega (arith, count, ne, within, length-append all (reaches ∷ [])) in
    subst (AreReachesBelow pairing duals (pairing.orders - k) (pairing.capacity + 1)) (sym (get_or_append_left all (reaches ∷ []) d k low))
    (each k d low)) (cases_eq k passed))
