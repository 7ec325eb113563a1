-- Which batches are permitted, by what is joined to each of their orders and what is parted from it; and the class of an order as a batch.
use Rattle.std.proofs.Common.{◌≡◌, ℕ, suc, ◌+◌, ◌<◌, ◌≤◌, Bool, true, false, List, [], ◌∷◌, length, get_or, arith, refl, sym, subst, inl, inr}
use Rattle.std.proofs.Common.{⊎_elim, Contains, Option, None, Some, ap}
use Rattle.std.specs.Prelude.{slice_index, sum_by}
use Rattle.std.specs.List.Sorted.{IsStrictlyIncreasing}
use Rattle.std.proofs.lemmas.Bool.{cases_eq}
use Rattle.std.proofs.lemmas.List.Elements.{All-contains, Contains-get_or}
use Rattle.std.proofs.lemmas.List.Sums.{sum_by-cons}
use Rattle.wp_pairs.specs.Batches.{IsBatch}
use Rattle.wp_pairs.specs.Carts.{FitsAnyCart, LoadedCart}
use Rattle.wp_pairs.specs.Kept.{FitsCapacity, ArePartners, IsPairing, KeepsOrder, listed_for}
use Rattle.wp_pairs.specs.Permitted.{AreJoined, ArePair, IsDead, IsHeld, IsPermitted, Pairing, itself, onward}
use Rattle.wp_pairs.proofs.Chains.{joined_back, joined_on}
use Rattle.wp_pairs.proofs.Members.{contains_first, contains_later, contains_cases, contains_none}

-- ---- how many

-- without its first an ascending list ascends
pub tail_ascends : (x : ℕ) (xs : List ℕ) → IsStrictlyIncreasing (x ∷ xs) → IsStrictlyIncreasing xs
tail_ascends x xs h = λ k within. let e : suc k + 1 ≡ suc (k + 1) = omega arith in let up = h (suc k) (omega arith) in rw e at up

-- the first of an ascending list is below the others
pub head_below : (x : ℕ) (xs : List ℕ) → IsStrictlyIncreasing (x ∷ xs) → (y : ℕ) → Contains xs y → x < y
head_below x [] h y has = absurd (contains_none y has)
head_below x (z ∷ zs) h y has =
    let next : x < z = h 0 (omega arith) in
    ⊎_elim (λ (e : z ≡ y). omega arith) (λ later. let more = head_below z zs (tail_ascends x (z ∷ zs) h) y later in omega arith) (contains_cases z y zs has)

-- an ascending list that has no more than another ascending one weighs no more, whatever each order weighs
pub no_heavier : (f : ℕ → ℕ) (xs ys : List ℕ) → IsStrictlyIncreasing xs → IsStrictlyIncreasing ys → ((x : ℕ) → Contains xs x → Contains ys x)
    → sum_by f xs ≤ sum_by f ys
no_heavier f [] ys up down all = omega arith
no_heavier f (x ∷ xs) [] up down all = absurd (contains_none x (all x (contains_first x xs)))
no_heavier f (x ∷ xs) (y ∷ ys) up down all =
    ⊎_elim
    (λ (e : y ≡ x). let rest = no_heavier f xs ys (tail_ascends x xs up) (tail_ascends y ys down)
    (λ z has. ⊎_elim (λ (same : y ≡ z). let above = head_below x xs up z has in absurd (omega arith)) (λ later. later)
    (contains_cases y z ys (all z (contains_later x z xs has)))) in
    omega (arith, rest, ap f e, sum_by-cons f x xs, sum_by-cons f y ys))
    (λ ne. let rest = no_heavier f (x ∷ xs) ys up (tail_ascends y ys down)
    (λ z has. ⊎_elim (λ (same : y ≡ z).
    let first = ⊎_elim (λ (e : y ≡ x). absurd (ne e)) (λ (later : Contains ys x). head_below y ys down x later)
    (contains_cases y x ys (all x (contains_first x xs))) in
    absurd (⊎_elim (λ (e : x ≡ z). omega arith) (λ (later : Contains xs z). let above = head_below x xs up z later in omega arith)
    (contains_cases x z xs has))) (λ later. later)
    (contains_cases y z ys (all z has))) in
    omega (arith, rest, sum_by-cons f y ys))
    (cases_eq y x)

-- where each order weighs 1, a list weighs as much as it is long
pub ones : (xs : List ℕ) → sum_by (λ (x : ℕ). 1) xs ≡ length xs
ones [] = refl
ones (x ∷ xs) = omega (arith, sum_by-cons (λ (y : ℕ). 1) x xs, ones xs)

-- an ascending list that has no more than another ascending one is no longer
pub no_longer : (xs ys : List ℕ) → IsStrictlyIncreasing xs → IsStrictlyIncreasing ys → ((x : ℕ) → Contains xs x → Contains ys x) → length xs ≤ length ys
no_longer xs ys up down all = omega (arith, no_heavier (λ (x : ℕ). 1) xs ys up down all, ones xs, ones ys)

-- a part of a batch that fits a cart fits it
pub part_fits : (cart : Option LoadedCart) (part batch : List ℕ) → IsStrictlyIncreasing part → IsStrictlyIncreasing batch
    → ((order : ℕ) → Contains part order → Contains batch order) → FitsAnyCart cart batch → FitsAnyCart cart part
part_fits None part batch up down all light = tt
part_fits (Some held) part batch up down all light = omega (arith, no_heavier (slice_index held.loads) part batch up down all, light)

-- ---- permitted batches

-- the other order of a pair is one of the wave
pair_known : (pairing : Pairing) (kind : Bool) (a b : ℕ) → IsPairing pairing → ArePair pairing.pairs kind a b → b < pairing.orders
pair_known pairing kind a b valid h =
    let low = valid.order h.pair h.added in
    let known = valid.known h.pair h.added in
    ⊎_elim (λ e. omega (arith, e.1)) (λ e. omega (arith, e.0)) h.both

-- what is joined to an order of the wave is one
pub joined_known : (pairing : Pairing) (a b : ℕ) → IsPairing pairing → a < pairing.orders → AreJoined pairing.pairs a b → b < pairing.orders
joined_known pairing a _ valid known itself = known
joined_known pairing a b valid known (onward {next} t p) = joined_known pairing next b valid (pair_known pairing true a next valid t) p

pair_in : (pairing : Pairing) (batch : List ℕ) (a b : ℕ) → IsPermitted pairing batch → ArePair pairing.pairs true a b → Contains batch a → Contains batch b
pair_in pairing batch a b permitted h has =
    let same = permitted.together h.pair h.added h.kind in
    ⊎_elim
    (λ e. subst (λ (x : ℕ). Contains batch x) e.1 (same.0 (subst (λ (x : ℕ). Contains batch x) (sym e.0) has)))
    (λ e. subst (λ (x : ℕ). Contains batch x) e.0 (same.1 (subst (λ (x : ℕ). Contains batch x) (sym e.1) has)))
    h.both

-- a permitted batch has all that are joined to one of its orders
pub joined_in : (pairing : Pairing) (batch : List ℕ) (a b : ℕ) → IsPermitted pairing batch → AreJoined pairing.pairs a b → Contains batch a → Contains batch b
joined_in pairing batch a _ permitted itself has = has
joined_in pairing batch a b permitted (onward {next} t p) has = joined_in pairing batch next b permitted p (pair_in pairing batch a next permitted t has)

apart_not_in : (pairing : Pairing) (batch : List ℕ) (a b : ℕ) → IsPermitted pairing batch → ArePair pairing.pairs false a b
    → Contains batch a → Contains batch b → ⊥
apart_not_in pairing batch a b permitted h l r =
    ⊎_elim
    (λ e. permitted.apart h.pair h.added h.kind (subst (λ (x : ℕ). Contains batch x) (sym e.0) l, subst (λ (x : ℕ). Contains batch x) (sym e.1) r))
    (λ e. permitted.apart h.pair h.added h.kind (subst (λ (x : ℕ). Contains batch x) (sym e.0) r, subst (λ (x : ℕ). Contains batch x) (sym e.1) l))
    h.both

-- each order of a permitted batch has all that are joined to it there, and none that is parted from it
pub permitted_keeps : (pairing : Pairing) (batch : List ℕ) → IsPermitted pairing batch → (order : ℕ) → Contains batch order → KeepsOrder pairing batch order
permitted_keeps pairing batch permitted order has = record {
  known = All-contains (λ x. x < pairing.orders) batch order permitted.known has;
  joined = λ other j. joined_in pairing batch order other permitted j has;
  parted = λ other p there. apart_not_in pairing batch p.near p.far permitted p.apart (joined_in pairing batch order p.near permitted p.joined has)
      (joined_in pairing batch other p.far permitted (joined_back p.joins) there);
}

-- a permitted batch has an order, no more than the capacity, and fits the cart
pub permitted_fits : (pairing : Pairing) (batch : List ℕ) → IsPermitted pairing batch → FitsCapacity pairing batch
permitted_fits pairing batch permitted = record { filled = omega (arith, permitted.filled); fits = permitted.fits; light = permitted.light }

-- a batch of which each order has all that are joined to it and none that is parted from it is permitted, if it is filled and fits
pub keeping_permitted : (pairing : Pairing) (batch : List ℕ) → IsBatch batch → FitsCapacity pairing batch
    → ((order : ℕ) → Contains batch order → KeepsOrder pairing batch order) → IsPermitted pairing batch
keeping_permitted pairing batch is within keeps = record {
  ascending = is.ascending;
  filled = omega (arith, within.filled);
  fits = within.fits;
  light = within.light;
  known = λ k d low. (keeps (get_or batch k d) (Contains-get_or batch k d low)).known;
  together = λ pair added kind. (
    λ has. (keeps pair.first has).joined pair.second (onward (record { pair = pair; added = added; kind = kind; both = inl (refl, refl) }) itself),
    λ has. (keeps pair.second has).joined pair.first (onward (record { pair = pair; added = added; kind = kind; both = inr (refl, refl) }) itself),
  );
  apart = λ pair added kind both. (keeps pair.first both.0).parted pair.second (record {
    near = pair.first;
    far = pair.second;
    joined = itself;
    apart = record { pair = pair; added = added; kind = kind; both = inl (refl, refl) };
    joins = itself;
  }) both.1;
}

-- the orders that are joined to one are a permitted batch, if they are few enough and fit the cart
pub class_held : (pairing : Pairing) (joined parted : List (List ℕ)) (order : ℕ) → ArePartners pairing joined parted → order < pairing.orders
    → IsBatch (listed_for joined order) → FitsCapacity pairing (listed_for joined order) → IsHeld pairing order
class_held pairing joined parted order kept known is within =
    let class = listed_for joined order in
    let joins = λ (x : ℕ). kept.joins order x known in
    let has : Contains class order = (joins order).1 itself in (
      class,
      keeping_permitted pairing class is within
          (λ x there. let j = (joins x).0 there in record {
            known = joined_known pairing order x kept.valid known j;
            joined = λ other k. (joins other).1 (joined_on j k);
            parted = λ other p there_too. kept.never_both x other (joined_on (joined_back j) ((joins other).0 there_too)) p;
          }),
      has,
    )

-- an order to which too many are joined, or too heavy ones, is in no permitted batch
pub class_dead : (pairing : Pairing) (joined parted : List (List ℕ)) (order : ℕ) → ArePartners pairing joined parted → order < pairing.orders
    → IsBatch (listed_for joined order) → (FitsCapacity pairing (listed_for joined order) → ⊥) → IsDead pairing order
class_dead pairing joined parted order kept known is over = record {
  known = known;
  unheld = λ batch permitted has.
      let class = listed_for joined order in
      let part = λ (x : ℕ) (there : Contains (listed_for joined order) x). joined_in pairing batch order x permitted ((kept.joins order x known).0 there) has in
      let most = no_longer class batch is.ascending permitted.ascending part in
      let itself_there : Contains class order = (kept.joins order order known).1 itself in
      over (record {
        filled = omega (arith, itself_there.1);
        fits = omega (arith, most, permitted.fits);
        light = part_fits pairing.cart class batch is.ascending permitted.ascending part permitted.light;
      });
}

-- an order of the wave is kept where all that are joined to it are in the batch, and none that is parted from it
pub order_kept : (pairing : Pairing) (joined parted : List (List ℕ)) (batch : List ℕ) (order : ℕ) → ArePartners pairing joined parted → order < pairing.orders
    → ((p : ℕ) → Contains (listed_for joined order) p → Contains batch p) → ((p : ℕ) → Contains batch p → Contains (listed_for parted order) p → ⊥)
    → KeepsOrder pairing batch order
order_kept pairing joined parted batch order kept known all none = record {
  known = known;
  joined = λ other j. all other ((kept.joins order other known).1 j);
  parted = λ other p has. none other has ((kept.parts order other known).1 p);
}
