-- The classes of orders that go together, as a batching where all pairs of orders are decided.
use Rattle.std.proofs.Common.{◌≡◌, ◌≢◌, ℕ, zero, suc, ◌+◌, ◌*◌, ◌%◌, ◌<◌, ◌≤◌, ◌↔◌, List, [], ◌∷◌, ◌++◌, length, get_or, take, arith, refl, ap, sym, ◌∙◌, subst}
use Rattle.std.proofs.Common.{⊎_elim, Contains, eqb, eqb-true, true, false, length-append}
use Rattle.std.specs.Prelude.{Option, Some, None, slice_get, slice_index, sum}
use Rattle.std.specs.Option.{option_eq}
use Rattle.std.proofs.Math.Nat.{div-add-mod, mod-lt}
use Rattle.std.proofs.lemmas.Bool.{cases_eq, cases_lt, eqb-false}
use Rattle.std.proofs.lemmas.List.{get_or_append_left, get_or_push, take_all}
use Rattle.std.proofs.lemmas.List.Elements.{All-contains, Contains-get_or}
use Rattle.std.proofs.lemmas.Option.{get_or_from_slice_get}
use Rattle.wp_pairs.specs.Batches.{IsBatch}
use Rattle.wp_pairs.specs.Carts.{FitsAnyCart, LoadedCart}
use Rattle.wp_pairs.specs.Permitted.{AllDecided, AreJoined, IsPermitted, Pairing, itself}
use Rattle.wp_pairs.proofs.Chains.{joined_back, joined_on, joined_same, parted_back}
use Rattle.wp_pairs.proofs.Classes.{joined_in, no_longer, part_fits, permitted_keeps}
use Rattle.wp_lengths.specs.Batchings.{IsBatching, IsCost, IsListedByLeast, batch_at, no_pairs}
use Rattle.wp_lengths.specs.Lengths.{IsLengthOf, batch_picks}
use Rattle.wp_lengths.specs.Waves.{WavePicks}
use Rattle.wp_lengths.proofs.Ascending.{first_least, same_sum}
use Rattle.wp_lengths.proofs.NoPairs.{permitted_alone}
use Rattle.wp_lengths.proofs.Unions.{same_shortest}
use Rattle.wp_lengths.specs.Duals.{AreTight, duals_of, units_of}
use Rattle.wp_lengths.proofs.FewerOrders.{picked_by_more}
use Rattle.wp_pairs.proofs.SumsUnder.{under_all}
use Rattle.wp_node.proofs.OrderTotals.{first_values, total_under}

-- the orders that are joined to one
pub record IsClass (pairing : Pairing) (order : ℕ) (batch : List ℕ) : Type 0 where
  pub is : IsBatch batch
  pub joined : (other : ℕ) → Contains batch other ↔ AreJoined pairing.pairs order other

-- the classes whose least orders come before a number, listed by them
pub record AreClassesBelow (pairing : Pairing) (batches : List (List ℕ)) (count : ℕ) : Type 0 where
  pub each : (place : ℕ) → place < length batches → IsClass pairing (slice_index (batch_at batches place) 0) (batch_at batches place)
  pub below : (place : ℕ) → place < length batches → slice_index (batch_at batches place) 0 < count
  pub covered : (order : ℕ) → order < count → (place : ℕ) × (place < length batches) × Contains (batch_at batches place) order
  pub listed : IsListedByLeast batches
  pub few : length batches ≤ count

-- ---- listing the classes

-- a test that an order is found, which passes or fails
pub found_first : (found : Option ℕ) (order : ℕ) → option_eq eqb found (Some order) ≡ true → found ≡ Some order
found_first None order passes = absurd (cc passes)
found_first (Some first) order passes = ap Some (eqb-true first order passes)

pub other_first : (found : Option ℕ) (order : ℕ) → option_eq eqb found (Some order) ≡ false → found ≡ Some order → ⊥
other_first None order fails is = cc is
other_first (Some first) order fails is = eqb-false first order fails (cc is)

module _ (pairing : Pairing) (batches : List (List ℕ)) (count : ℕ) (class : List ℕ) (before : AreClassesBelow pairing batches count)
    (is : IsClass pairing count class) where
  at_last : (place : ℕ) → place ≡ length batches → batch_at (batches ++ class ∷ []) place ≡ class
  at_last place e = get_or_push batches class [] place (sym e)

  at_low : (place : ℕ) → place < length batches → batch_at (batches ++ class ∷ []) place ≡ batch_at batches place
  at_low place low = get_or_append_left batches (class ∷ []) [] place low

  longer : length (batches ++ class ∷ []) ≡ length batches + 1
  longer = omega (arith, length-append batches (class ∷ []))

  -- an order that is the least of its class is listed with it
  pub class_listed : slice_get class 0 ≡ Some count → AreClassesBelow pairing (batches ++ class ∷ []) (count + 1)
  class_listed first =
      let least : slice_index class 0 ≡ count = get_or_from_slice_get class 0 count 0 first in
      let kept = λ (place : ℕ) (low : place < length batches). ap (λ (xs : List ℕ). slice_index xs 0) (at_low place low) in
      let new = λ (place : ℕ) (e : place ≡ length batches). ap (λ (xs : List ℕ). slice_index xs 0) (at_last place e) ∙ least in record {
        each = λ place within. ⊎_elim
            (λ (low : place < length batches). subst (λ (xs : List ℕ). IsClass pairing (slice_index xs 0) xs) (sym (at_low place low)) (before.each place low))
            (λ (high : length batches ≤ place). subst (λ (xs : List ℕ). IsClass pairing (slice_index xs 0) xs)
            (sym (at_last place (omega (arith, within, longer)))) (subst (λ (o : ℕ). IsClass pairing o class) (sym least) is))
            (cases_lt place (length batches));
        below = λ place within. ⊎_elim (λ (low : place < length batches). omega (arith, before.below place low, kept place low))
            (λ (high : length batches ≤ place). omega (arith, new place (omega (arith, within, longer)))) (cases_lt place (length batches));
        covered = λ order low. ⊎_elim
            (λ (e : order ≡ count). (
              length batches,
              omega (arith, longer),
              subst (λ (xs : List ℕ). Contains xs order) (sym (at_last (length batches) refl))
                  ((is.joined order).1 (joined_same pairing.pairs count order (sym e))),
            ))
            (λ (ne : order ≢ count). let at = before.covered order (omega (arith, low, ne)) in (
              at.0,
              omega (arith, at.1, longer),
              subst (λ (xs : List ℕ). Contains xs order) (sym (at_low at.0 at.1)) at.2,
            ))
            (cases_eq order count);
        listed = λ left right lt within. ⊎_elim
            (λ (low : right < length batches).
            omega (arith, before.listed left right lt low, kept left (omega (arith, lt, low)), kept right low))
            (λ (high : length batches ≤ right).
            let early : left < length batches = omega (arith, lt, within, longer) in
            omega (arith, before.below left early, kept left early, new right (omega (arith, within, longer, high))))
            (cases_lt right (length batches));
        few = omega (arith, longer, before.few);
      }

  -- one that isn't is in the class of a lower order, which is listed
  pub class_passed : (slice_get class 0 ≡ Some count → ⊥) → AreClassesBelow pairing batches (count + 1)
  class_passed never =
      let has : Contains class count = (is.joined count).1 itself in
      let some : 0 < length class = omega (arith, has.1) in
      let first = get_or class 0 0 in
      let lower : first < count = ⊎_elim (λ (e : first ≡ count). absurd (never (first_is class count some e)))
      (λ (ne : first ≢ count). omega (arith, ne, first_least class count is.is.ascending has)) (cases_eq first count) in
      let at = before.covered first lower in
      let joined = (is.joined first).0 (Contains-get_or class 0 0 some) in record {
        each = before.each;
        below = λ place within. omega (arith, before.below place within);
        covered = λ order low. ⊎_elim
            (λ (e : order ≡ count).
            let class_there = before.each at.0 at.1 in (
              at.0,
              at.1,
              (class_there.joined order).1 (joined_on ((class_there.joined first).0 at.2)
                  (joined_on (joined_back joined) (joined_same pairing.pairs count order (sym e)))),
            ))
            (λ (ne : order ≢ count). before.covered order (omega (arith, low, ne)))
            (cases_eq order count);
        listed = before.listed;
        few = omega (arith, before.few);
      }
    where
      first_is : (xs : List ℕ) (x : ℕ) → 0 < length xs → get_or xs 0 0 ≡ x → slice_get xs 0 ≡ Some x
      first_is [] x some e = absurd (omega arith)
      first_is (y ∷ ys) x some e = ap Some e

-- ---- the classes as a batching

module _ (wave : WavePicks) (pairing : Pairing) (duals : List ℕ) (as_many : pairing.orders ≡ length wave.orders) (same_cart : pairing.cart ≡ wave.cart)
    (decided : AllDecided pairing) (tight : AreTight wave pairing duals) where
  -- all orders of a permitted batch are joined
  all_joined : (batch : List ℕ) (order other : ℕ) → IsPermitted pairing batch → Contains batch order → Contains batch other
      → AreJoined pairing.pairs order other
  all_joined batch order other permitted has has_too =
      let known = λ (o : ℕ) (h : Contains batch o). All-contains (λ (x : ℕ). x < pairing.orders) batch o permitted.known h in
      let never = (permitted_keeps pairing batch permitted order has).parted other in
      ⊎_elim (λ (e : order ≡ other). joined_same pairing.pairs order other e)
      (λ (ne : order ≢ other). ⊎_elim
      (λ (lt : order < other). ⊎_elim (λ j. j) (λ p. absurd (never p has_too)) (decided order other lt (known other has_too)))
      (λ (ge : other ≤ order). ⊎_elim (λ j. joined_back j) (λ p. absurd (never (parted_back p) has_too))
      (decided other order (omega (arith, ne, ge)) (known order has)))
      (cases_lt order other))
      (cases_eq order other)

  -- a batch that is permitted where there is no pair has in duals exactly sixty times its length
  record IsExact (batch : List ℕ) : Type 0 where
    alone : IsPermitted (no_pairs wave pairing.capacity) batch
    total : ℕ
    long : IsLengthOf wave batch total
    equal : duals_of duals batch ≡ 60 * total

  -- each class is such a batch
  class_exact : (order : ℕ) (class : List ℕ) → order < pairing.orders → IsClass pairing order class → IsExact class
  class_exact order class known is =
      let found = tight order known in
      let batch = found.0 in
      let permitted = found.1.permitted in
      let into = λ (x : ℕ) (has : Contains class x). joined_in pairing batch order x permitted ((is.joined x).0 has) found.1.holds in
      let back = λ (x : ℕ) (has : Contains batch x). (is.joined x).1 (all_joined batch order x permitted found.1.holds has) in
      let has : Contains class order = (is.joined order).1 itself in
      let few = no_longer class batch is.is.ascending permitted.ascending into in record {
        alone = permitted_alone wave pairing.capacity class is.is (omega (arith, has.1)) (omega (arith, few, permitted.fits))
            (subst (λ (cart : Option LoadedCart). FitsAnyCart cart class) same_cart
            (part_fits pairing.cart class batch is.is.ascending permitted.ascending into permitted.light))
            (λ x h. subst (λ (n : ℕ). x < n) as_many (All-contains (λ (o : ℕ). o < pairing.orders) batch x permitted.known (into x h)));
        total = found.1.total;
        long = same_shortest wave.layout (batch_picks wave batch) (batch_picks wave class) found.1.total
            (λ p. (picked_by_more wave batch class back p, picked_by_more wave class batch into p)) found.1.long;
        equal = sym (same_sum (slice_index duals) class batch is.is.ascending permitted.ascending into back) ∙ found.1.equal;
      }

  -- what such batches cost
  exact_cost : (batches : List (List ℕ)) → ((place : ℕ) → place < length batches → IsExact (batch_at batches place))
      → (cost : ℕ) × IsCost wave batches cost × (total_under (slice_index duals) (length wave.orders) batches ≡ 60 * cost)
  exact_cost [] each = (0, refl, refl)
  exact_cost (batch ∷ batches) each =
      let first = each zero (omega arith) in
      let rest = exact_cost batches (λ place within. each (suc place) (omega arith)) in
      let all = under_all (slice_index duals) (length wave.orders) batch
      (λ x has. All-contains (λ (o : ℕ). o < length wave.orders) batch x first.alone.known has) in (
        first.total + rest.0,
        (first.total, rest.0, first.long, rest.1, refl),
        omega (arith, all, first.equal, rest.2),
      )

  module _ (batches : List (List ℕ)) (are : AreClassesBelow pairing batches pairing.orders) where
    -- no two classes have an order in common
    never_both : (order left right : ℕ) → left < right → right < length batches → Contains (batch_at batches left) order
        → Contains (batch_at batches right) order → ⊥
    never_both order left right lt within has has_too =
        let early : left < length batches = omega (arith, lt, within) in
        let here = are.each left early in
        let there = are.each right within in
        let first = slice_index (batch_at batches left) 0 in
        let joined = joined_on ((there.joined order).0 has_too) (joined_back ((here.joined order).0 has)) in
        omega (arith, are.listed left right lt within, first_least (batch_at batches right) first there.is.ascending ((there.joined first).1 joined))

    exact_at : (place : ℕ) → place < length batches → IsExact (batch_at batches place)
    exact_at place within = class_exact _ (batch_at batches place) (are.below place within) (are.each place within)

    -- the classes are a batching
    pub classes_are_batching : IsBatching wave pairing.capacity batches
    classes_are_batching = record {
      each = λ place within. (exact_at place within).alone;
      covered = λ order low. are.covered order (subst (λ (n : ℕ). order < n) (sym as_many) low);
      once = λ order left right l r has has_too. ⊎_elim (λ (lt : left < right). absurd (never_both order left right lt r has has_too))
          (λ (ge : right ≤ left). ⊎_elim (λ (lt : right < left). absurd (never_both order right left lt l has_too has)) (λ (le : left ≤ right). omega arith)
          (cases_lt right left))
          (cases_lt left right);
    }

    -- and cost what the duals come to
    pub classes_cost : length duals ≡ length wave.orders → IsCost wave batches (units_of (sum duals))
    classes_cost count =
        let costs = exact_cost batches exact_at in
        let total = first_values wave pairing.capacity batches duals classes_are_batching count (length wave.orders) (omega arith) in
        let all : sum (take (length wave.orders) duals) ≡ sum duals
        = ap (λ (xs : List ℕ). sum xs) (take_all (length wave.orders) duals (omega (arith, count))) in
        let whole : sum duals ≡ 60 * costs.0 = sym all ∙ (sym total ∙ costs.2) in
        let rest : (sum duals + 59) % 60 < 60 = mod-lt (sum duals + 59) (omega arith) in
        let units : costs.0 ≡ units_of (sum duals) = omega (arith, div-add-mod (sum duals + 59) 60, rest, whole) in
        subst (λ (cost : ℕ). IsCost wave batches cost) units costs.1
