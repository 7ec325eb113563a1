-- What a batch has in duals before and after the dual of one order is raised.
use Rattle.std.proofs.Common.{◌≡◌, ◌≢◌, ℕ, zero, suc, ◌+◌, ◌<◌, ◌≤◌, ◌⊎◌, List, [], ◌∷◌, length, get_or, set, arith, refl, ap, ◌∙◌, subst}
use Rattle.std.proofs.Common.{inl, inr, ⊎_elim, Contains}
use Rattle.std.specs.Prelude.{slice_index, sum}
use Rattle.std.specs.List.Sorted.{IsStrictlyIncreasing}
use Rattle.std.proofs.lemmas.Bool.{cases_eq}
use Rattle.std.proofs.lemmas.List.{get_or-set_same, get_or-set_other}
use Rattle.std.proofs.lemmas.List.Sums.{sum_by-cons}
use Rattle.wp_pairs.proofs.Classes.{head_below, tail_ascends}
use Rattle.wp_pairs.proofs.Members.{contains_cases, contains_first, contains_later, contains_none}
use Rattle.wp_lengths.specs.Duals.{duals_of}
use Rattle.wp_lengths.proofs.Ascending.{all_in_or_out, only_one}
use Rattle.wp_lengths.proofs.OrderSums.{leave_out}
use Rattle.wp_node.specs.Raises.{AreNoLower}

-- a number is in a list or isn't
pub in_or_out : (xs : List ℕ) (x : ℕ) → Contains xs x ⊎ (Contains xs x → ⊥)
in_or_out xs x =
    ⊎_elim (λ all. inl (all x (contains_first x [])))
    (λ out. inr (λ has. out.2 (subst (λ (k : ℕ). Contains xs k) (only_one x out.0 out.1) has))) (all_in_or_out (x ∷ []) xs)

-- a batch has no less in duals than one of its orders
pub dual_in_batch : (duals batch : List ℕ) (order : ℕ) → Contains batch order → slice_index duals order ≤ duals_of duals batch
dual_in_batch duals batch order has = let out = leave_out (slice_index duals) batch order has in omega (arith, out.sums)

-- a batch without an order has the same in duals when that order's is changed
pub same_without : (duals : List ℕ) (order value : ℕ) (batch : List ℕ) → (Contains batch order → ⊥)
    → duals_of (set duals order value) batch ≡ duals_of duals batch
same_without duals order value [] none = refl
same_without duals order value (x ∷ xs) none =
    let apart : x ≢ order = λ (e : x ≡ order). none (subst (λ (k : ℕ). Contains (x ∷ xs) k) e (contains_first x xs)) in omega (
      arith,
      sum_by-cons (slice_index (set duals order value)) x xs,
      sum_by-cons (slice_index duals) x xs,
      get_or-set_other duals order x value 0 apart,
      same_without duals order value xs (λ has. none (contains_later x order xs has)),
    )

-- a batch with an order has as much more in duals as that order's is raised by
pub more_with : (duals : List ℕ) (order more : ℕ) (batch : List ℕ) → order < length duals → IsStrictlyIncreasing batch → Contains batch order
    → duals_of (set duals order (slice_index duals order + more)) batch ≡ duals_of duals batch + more
more_with duals order more [] known up has = absurd (contains_none order has)
more_with duals order more (x ∷ xs) known up has =
    let value = slice_index duals order + more in
    ⊎_elim
    (λ (e : x ≡ order).
    let rest = same_without duals order value xs (λ later. let above = head_below x xs up order later in omega (arith, e, above)) in
    let here : slice_index (set duals order value) x ≡ value = ap (λ (k : ℕ). get_or (set duals order value) k 0) e
    ∙ get_or-set_same duals order value 0 known in
    omega (arith, sum_by-cons (slice_index (set duals order value)) x xs, sum_by-cons (slice_index duals) x xs, here, ap (slice_index duals) e, rest))
    (λ later.
    let above = head_below x xs up order later in
    let apart : x ≢ order = λ (e : x ≡ order). omega (arith, e, above) in omega (
      arith,
      sum_by-cons (slice_index (set duals order value)) x xs,
      sum_by-cons (slice_index duals) x xs,
      get_or-set_other duals order x value 0 apart,
      more_with duals order more xs known (tail_ascends x xs up) later,
    ))
    (contains_cases x order xs has)

-- a dual that is raised is no lower, nor are the others
pub raised_no_lower : (duals : List ℕ) (order more : ℕ) → order < length duals → AreNoLower duals (set duals order (slice_index duals order + more))
raised_no_lower duals order more known = λ k.
    let value = slice_index duals order + more in
    ⊎_elim
    (λ (e : k ≡ order).
    let here : slice_index (set duals order value) k ≡ value = ap (λ (j : ℕ). get_or (set duals order value) j 0) e
    ∙ get_or-set_same duals order value 0 known in
    omega (arith, here, ap (slice_index duals) e))
    (λ (ne : k ≢ order). omega (arith, get_or-set_other duals order k value 0 ne)) (cases_eq k order)

-- where no dual is lower, no batch has less in duals
pub no_lower_batch : (before after batch : List ℕ) → AreNoLower before after → duals_of before batch ≤ duals_of after batch
no_lower_batch before after [] no_lower = omega arith
no_lower_batch before after (x ∷ xs) no_lower = omega (
  arith,
  sum_by-cons (slice_index before) x xs,
  sum_by-cons (slice_index after) x xs,
  no_lower x,
  no_lower_batch before after xs no_lower,
)

-- nor do all orders together
pub no_lower_sum : (before after : List ℕ) → length before ≡ length after → AreNoLower before after → sum before ≤ sum after
no_lower_sum [] after count no_lower = omega arith
no_lower_sum (x ∷ xs) [] count no_lower = absurd (omega arith)
no_lower_sum (x ∷ xs) (y ∷ ys) count no_lower =
    let first : x ≤ y = no_lower zero in omega (
      arith,
      sum_by-cons (λ (k : ℕ). k) x xs,
      sum_by-cons (λ (k : ℕ). k) y ys,
      first,
      no_lower_sum xs ys (omega arith) (λ k. no_lower (suc k)),
    )

-- what is no lower than what is no lower is no lower
pub no_lower_through : (before between after : List ℕ) → AreNoLower before between → AreNoLower between after → AreNoLower before after
no_lower_through before between after one other = λ k. omega (arith, one k, other k)
