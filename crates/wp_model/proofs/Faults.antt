-- Orders that join a wave without a fault.
use Rattle.std.proofs.Common.{◌≡◌, ◌≢◌, ℕ, zero, suc, ◌+◌, ◌≤◌, ◌&&◌, Bool, true, false, not, List, [], ◌∷◌, ◌++◌, slice_get, Option, Some, None, option_map}
use Rattle.std.proofs.Common.{bytes_eq, if◌then◌else◌, refl, sym, ap, ◌∙◌, subst, arith, IfSome}
use Rattle.std.proofs.lemmas.Bool.{and_from, both_ways, ltb-false, not-false, or_parts}
use Rattle.std.proofs.lemmas.List.Folds.{list_any-append, list_any_at}
use Rattle.std.proofs.lemmas.Option.{get_or_from_slice_get, same_Some, slice_get_within}
use Rattle.std.proofs.lemmas.Slice.Eq.{bytes_eq-Decides}
use Rattle.std.specs.Option.{option_or}
use Rattle.wp_model.specs.Opening.{Opening, is_known_order, order_units}
use Rattle.wp_model.specs.Sound.{AreDifferent, FitsCart}
use Rattle.wp_model.specs.State.{Wave}
use Rattle.wp_model.specs.declared.reply.Reply.TheVariants as reply
use Rattle.wp_model.specs.Step.{cart_fault, first_order_fault, is_among, is_live, is_over_cart, order_fault, taker_of, wave_from}

-- where a choice, another value or a change of a value gives nothing
pub if-none : {X : Type 0} (test : Bool) (x : X) (other : Option X) → (if test then Some x else other) ≡ None → (test ≡ false) × (other ≡ None)
if-none true x other none = absurd (cc)
if-none false x other none = (refl, none)

-- a choice of two gives nothing where neither does
pub option_or-none : {X : Type 0} (a b : Option X) → option_or a b ≡ None → (a ≡ None) × (b ≡ None)
option_or-none None b none = (refl, none)
option_or-none (Some x) b none = absurd (cc)

-- a change of what is found gives nothing where nothing is found
pub option_map-none : {X Y : Type 0} (f : X → Y) (found : Option X) → option_map f found ≡ None → found ≡ None
option_map-none f None none = refl
option_map-none f (Some x) none = absurd (cc)

-- a list has the names that stand in it
pub among : (names : List (List ℕ)) (k : ℕ) (name : List ℕ) → slice_get names k ≡ Some name → is_among names name ≡ true
among names k name is =
    list_any_at (λ other. bytes_eq other name) names k name (slice_get_within names k name is)
    ((bytes_eq-Decides _ name).1 (get_or_from_slice_get names k name name is))

-- no wave has a name under which none is found
pub unnamed : (number : ℕ) (waves : List Wave) (name : List ℕ) → wave_from number waves name ≡ None → (i : ℕ) (v : Wave) → slice_get waves i ≡ Some v
    → v.name ≢ name
unnamed number [] name none i v is same = absurd (cc)
unnamed number (w ∷ waves) name none zero v is same =
    let here = if-none (bytes_eq w.name name) (number, w) (wave_from (number + 1) waves name) none in
    both_ways _ here.0 ((bytes_eq-Decides w.name name).1 (ap (λ (v : Wave). v.name) (same_Some w v is) ∙ same))
unnamed number (w ∷ waves) name none (suc i) v is same =
    let here = if-none (bytes_eq w.name name) (number, w) (wave_from (number + 1) waves name) none in
    unnamed (number + 1) waves name here.1 i v is same

-- no wave that isn't cancelled has an order that none has taken
pub untaken : (waves : List Wave) (order : List ℕ) → taker_of waves order ≡ None → (i : ℕ) (v : Wave) (k : ℕ) → slice_get waves i ≡ Some v
    → is_live v.state ≡ true → slice_get v.orders k ≡ Some order → ⊥
untaken [] order none i v k is live has = absurd (cc)
untaken (w ∷ waves) order none zero v k is live has =
    let here = if-none (is_live w.state && is_among w.orders order) w.name (taker_of waves order) none in
    let same : w ≡ v = same_Some w v is in
    let lives : is_live w.state ≡ true = ap (λ (v : Wave). is_live v.state) same ∙ live in
    let has_it = among w.orders k order (ap (λ (v : Wave). slice_get v.orders k) same ∙ has) in
    both_ways _ here.0 (and_from _ _ lives has_it)
untaken (w ∷ waves) order none (suc i) v k is live has =
    untaken waves order (if-none (is_live w.state && is_among w.orders order) w.name (taker_of waves order) none).1 i v k is live has

-- an order that a cart doesn't refuse fits into one
fits_cart : (opening : Opening) (order : List ℕ) → cart_fault opening order ≡ None → FitsCart opening order
fits_cart opening order none =
    by opening.units (if-none (is_over_cart opening.units (order_units opening.orders order))
    (reply.OverCart order (order_units opening.orders order)) None none).0
  where
    by : (cart : Option ℕ) → is_over_cart cart (order_units opening.orders order) ≡ false → IfSome cart (λ units. order_units opening.orders order ≤ units)
    by None fits = tt
    by (Some units) fits = let within = ltb-false units (order_units opening.orders order) fits in omega (arith, within)

-- orders of the opening that differ, are none of those before, lie in no wave that isn't cancelled, and fit into a cart
pub record AreFree (opening : Opening) (waves : List Wave) (before orders : List (List ℕ)) : Type 0 where
  pub known : (k : ℕ) (order : List ℕ) → slice_get orders k ≡ Some order → is_known_order opening.orders order ≡ true
  pub others : (k : ℕ) (order : List ℕ) → slice_get orders k ≡ Some order → is_among before order ≡ false
  pub free : (k : ℕ) (order : List ℕ) → slice_get orders k ≡ Some order → taker_of waves order ≡ None
  pub fits : (k : ℕ) (order : List ℕ) → slice_get orders k ≡ Some order → FitsCart opening order
  pub different : AreDifferent orders

-- what holds of the first and of each other holds of each
each : (P : List ℕ → Type 0) (first : List ℕ) (rest : List (List ℕ)) → P first → ((k : ℕ) (x : List ℕ) → slice_get rest k ≡ Some x → P x)
    → (k : ℕ) (x : List ℕ) → slice_get (first ∷ rest) k ≡ Some x → P x
each P first rest here there zero x is = subst P (same_Some first x is) here
each P first rest here there (suc k) x is = there k x is

-- the first differs from each other
apart : (first : List ℕ) (rest : List (List ℕ)) → AreDifferent rest → ((k : ℕ) (x : List ℕ) → slice_get rest k ≡ Some x → first ≢ x)
    → AreDifferent (first ∷ rest)
apart first rest different other zero zero x at_i at_j = refl
apart first rest different other zero (suc j) x at_i at_j = absurd (other j x at_j (same_Some first x at_i))
apart first rest different other (suc i) zero x at_i at_j = absurd (other i x at_i (same_Some first x at_j))
apart first rest different other (suc i) (suc j) x at_i at_j = ap suc (different i j x at_i at_j)

-- orders without a fault are free to join a wave
pub free_from_no_fault : (opening : Opening) (waves : List Wave) (before orders : List (List ℕ)) → first_order_fault opening waves before orders ≡ None
    → AreFree opening waves before orders
free_from_no_fault opening waves before [] none = record {
  known = λ k order is. absurd (cc);
  others = λ k order is. absurd (cc);
  free = λ k order is. absurd (cc);
  fits = λ k order is. absurd (cc);
  different = λ i j order is. absurd (cc);
}
free_from_no_fault opening waves before (order ∷ orders) none =
    let faults = option_or-none (order_fault opening waves before order) (first_order_fault opening waves (before ++ order ∷ []) orders) none in
    let known = if-none (not (is_known_order opening.orders order)) (reply.UnknownOrder order) _ faults.0 in
    let other = if-none (is_among before order) (reply.OrderTwice order) _ known.1 in
    let last = option_or-none (option_map (reply.OrderTaken order) (taker_of waves order)) (cart_fault opening order) other.1 in
    let rest = free_from_no_fault opening waves (before ++ order ∷ []) orders faults.1 in
    let apart_from = λ (k : ℕ) (x : List ℕ) (is : slice_get orders k ≡ Some x). or_parts (is_among before x) _
    (sym (list_any-append (λ other. bytes_eq other x) before (order ∷ [])) ∙ rest.others k x is) in
    record {
      known = each (λ x. is_known_order opening.orders x ≡ true) order orders (not-false _ known.0) rest.known;
      others = each (λ x. is_among before x ≡ false) order orders other.0 (λ k x is. (apart_from k x is).0);
      free = each (λ x. taker_of waves x ≡ None) order orders (option_map-none _ _ last.0) rest.free;
      fits = each (FitsCart opening) order orders (fits_cart opening order last.1) rest.fits;
      different = apart order orders rest.different (λ k x is same. both_ways _ (or_parts (bytes_eq order x) false (apart_from k x is).1).0
          ((bytes_eq-Decides order x).1 same));
    }
