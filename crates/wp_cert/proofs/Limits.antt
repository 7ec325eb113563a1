-- Duals as a visit has them: where they come to less than its greatest dual, they are the own ones.
use Rattle.std.proofs.Common.{◌≡◌, ◌≢◌, ◌∙◌, ℕ, ◌+◌, ◌*◌, ◌<◌, ◌≤◌, ◌++◌, List, [], ◌∷◌, All, Contains, length, get_or, arith, refl, sym, subst, ⊎_elim}
use Rattle.std.specs.Prelude.{slice_index}
use Rattle.std.proofs.lemmas.Bool.{cases_eq, cases_lt}
use Rattle.std.proofs.lemmas.List.{get_or_append_left, get_or_push}
use Rattle.std.proofs.lemmas.List.Elements.{All-contains}
use Rattle.std.proofs.lemmas.List.Sums.{sum_by-cons}
use Rattle.wp_pairs.specs.Permitted.{Pairing}
use Rattle.wp_pairs.proofs.Members.{contains_first, contains_later}
use Rattle.wp_lengths.proofs.DualBounds.{bounded_sum}
use Rattle.wp_lengths.specs.Duals.{duals_of}
use Rattle.wp_lengths.specs.Visits.{AreFurther, IsLater, IsReach}
use Rattle.wp_visit.specs.Items.{most_dual}
use Rattle.wp_cert.specs.MarkTests.{AreLimited, IsLimited}

-- a dual as a visit has it is no more than the own one, and where it is below the greatest it is the own one
limited_at : (own limited : ℕ) → IsLimited own limited → (limited ≤ own) × (limited < most_dual → own ≡ limited)
limited_at own limited is = ⊎_elim
    (λ (low : own < most_dual). let e = is.low low in (omega (arith, e), λ _. sym e))
    (λ (high : most_dual ≤ own). let e = is.high high in (omega (arith, e, high), λ below. absurd (omega (arith, e, below))))
    (cases_lt own most_dual)

-- nor more than the greatest
limited_most : (own limited : ℕ) → IsLimited own limited → limited ≤ most_dual
limited_most own limited is = ⊎_elim
    (λ (low : own < most_dual). let e = is.low low in omega (arith, e, low))
    (λ (high : most_dual ≤ own). let e = is.high high in omega (arith, e))
    (cases_lt own most_dual)

-- each of a batch is so limited
abbrev EachLimited : List ℕ → List ℕ → List ℕ → Type 0
EachLimited own limited batch = (x : ℕ) → Contains batch x → IsLimited (slice_index own x) (slice_index limited x)

-- they come to no more than the own ones
limited_sum : (own limited batch : List ℕ) → EachLimited own limited batch → duals_of limited batch ≤ duals_of own batch
limited_sum own limited [] each = omega arith
limited_sum own limited (x ∷ xs) each = omega (
  arith,
  sum_by-cons (slice_index own) x xs,
  sum_by-cons (slice_index limited) x xs,
  (limited_at (slice_index own x) (slice_index limited x) (each x (contains_first x xs))).0,
  limited_sum own limited xs (λ y has. each y (contains_later x y xs has)),
)

-- where they come to less than the greatest dual, the own ones come to as much
own_sum : (own limited batch : List ℕ) → EachLimited own limited batch → duals_of limited batch < most_dual → duals_of own batch ≡ duals_of limited batch
own_sum own limited [] each below = refl
own_sum own limited (x ∷ xs) each below =
    let all = sum_by-cons (slice_index own) x xs in
    let less = sum_by-cons (slice_index limited) x xs in
    let head = (limited_at (slice_index own x) (slice_index limited x) (each x (contains_first x xs))).1 (omega (arith, less, below)) in
    omega (arith, all, less, head, own_sum own limited xs (λ y has. each y (contains_later x y xs has)) (omega (arith, less, below)))

module _ (own limited : List ℕ) (are : AreLimited own limited) where
  -- so is each of a batch of orders
  each_known : (batch : List ℕ) (orders : ℕ) → orders ≡ length own → All (λ order. order < orders) batch → EachLimited own limited batch
  each_known batch orders count known = λ x has. let low = All-contains (λ order. order < orders) batch x known has in are.each x (omega (arith, low, count))

  -- and of further orders
  each_further : (pairing : Pairing) (place : List ℕ) (from : ℕ) (orders : List ℕ) → pairing.orders ≡ length own → AreFurther pairing place from orders
      → EachLimited own limited orders
  each_further pairing place from orders count further = λ x has.
      let later = All-contains (IsLater pairing from) orders x further.later has in are.each x (omega (arith, later.known, count))

  -- what a batch of orders has in them is what it has in the own ones, where that is below the greatest dual
  pub own_total : (batch : List ℕ) (orders total : ℕ) → orders ≡ length own → All (λ order. order < orders) batch → total ≡ duals_of limited batch
      → total < most_dual → total ≡ duals_of own batch
  own_total batch orders total count known is below =
      is ∙ sym (own_sum own limited batch (each_known batch orders count known) (omega (arith, is, below)))

  -- a reach is no more than the greatest duals of all orders for which a place has room
  pub reach_fits : (pairing : Pairing) (place : List ℕ) (from reach : ℕ) → pairing.orders ≡ length own → IsReach pairing limited place from reach
      → reach + most_dual * length place ≤ most_dual * pairing.capacity
  reach_fits pairing place from reach count reaches =
      let each = each_further pairing place from reaches.some.0 count reaches.some.1 in
      let low = bounded_sum (slice_index limited) most_dual reaches.some.0
      (λ x has. limited_most (slice_index own x) (slice_index limited x) (each x has)) in
      omega (arith, low, reaches.some.2, reaches.some.1.fits)

  -- a reach below the greatest dual is the reach under the own ones
  pub own_reach : (pairing : Pairing) (place : List ℕ) (from reach : ℕ) → pairing.orders ≡ length own → IsReach pairing limited place from reach
      → reach < most_dual → IsReach pairing own place from reach
  own_reach pairing place from reach count reaches below = record {
    some = (
      reaches.some.0,
      reaches.some.1,
      own_sum own limited reaches.some.0 (each_further pairing place from reaches.some.0 count reaches.some.1) (omega (arith, reaches.some.2, below))
          ∙ reaches.some.2,
    );
    most = λ orders further. let low = reaches.most orders further in
        omega (arith, low, own_sum own limited orders (each_further pairing place from orders count further) (omega (arith, low, below)));
  }

-- with one more dual
pub limited_more : (own limits after : List ℕ) (order dual : ℕ) → length limits ≡ order
    → ((k : ℕ) → k < order → IsLimited (slice_index own k) (slice_index limits k)) → IsLimited (slice_index own order) dual → after ≡ limits ++ dual ∷ []
    → (k : ℕ) → k < order + 1 → IsLimited (slice_index own k) (slice_index after k)
limited_more own limits after order dual count below is e k low = ⊎_elim
    (λ (same : k ≡ order). let here : get_or (limits ++ dual ∷ []) k 0 ≡ dual = get_or_push limits dual 0 k (count ∙ sym same) in
    subst (λ (xs : List ℕ). IsLimited (slice_index own k) (slice_index xs k)) (sym e)
    (subst (IsLimited (slice_index own k)) (sym here) (subst (λ (o : ℕ). IsLimited (slice_index own o) dual) (sym same) is)))
    (λ (ne : k ≢ order).
    let there : get_or (limits ++ dual ∷ []) k 0 ≡ get_or limits k 0 = get_or_append_left limits (dual ∷ []) 0 k (omega (arith, count, low, ne)) in
    subst (λ (xs : List ℕ). IsLimited (slice_index own k) (slice_index xs k)) (sym e)
    (subst (IsLimited (slice_index own k)) (sym there) (below k (omega (arith, low, ne)))))
    (cases_eq k order)
