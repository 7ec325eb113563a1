-- The best of a first one and of others, one after the other.
use Rattle.std.proofs.Common.{◌≡◌, ◌≢◌, ℕ, ◌+◌, ◌<◌, List, arith, refl, ap, sym, ◌∙◌, subst, inl, inr, ⊎_elim}
use Rattle.std.specs.Prelude.{Option, Some, None, IfSome, slice_index_or}
use Rattle.std.proofs.lemmas.Bool.{cases_eq}
use Rattle.wp_price.specs.declared.best.LeastBatch.{LeastBatch}
use Rattle.wp_price.specs.Bests.{IsBestAmong, IsBetterOf, IsNoBetter, IsNoWorse}
use Rattle.wp_price.proofs.Lists.{never_before_itself, not_before_on}

-- a batch is no worse than itself
pub no_worse_itself : (best : LeastBatch) → IsNoWorse best best
no_worse_itself best = record { low = omega arith; first = λ e. never_before_itself best.batch }

-- what is no worse than one that is no worse than another is no worse than that
pub no_worse_on : (one other last : LeastBatch) → IsNoWorse one other → IsNoWorse other last → IsNoWorse one last
no_worse_on one other last first second = record {
  low = omega (arith, first.low, second.low);
  first = λ e. not_before_on one.batch other.batch last.batch (first.first (omega (arith, e, first.low, second.low)))
      (second.first (omega (arith, e, first.low, second.low)));
}

-- no best is better than itself
no_better_itself : (best : Option LeastBatch) → IfSome best (λ (one : LeastBatch). IsNoBetter one best)
no_better_itself None = tt
no_better_itself (Some best) = no_worse_itself best

-- what isn't better than a best isn't better than the better of this and another
no_better_on : (one : LeastBatch) (best : Option LeastBatch) (better : LeastBatch) → IfSome best (IsNoWorse better) → IsNoBetter one best
    → IsNoBetter one (Some better)
no_better_on one None better no_worse no_better = absurd no_better
no_better_on one (Some best) better no_worse no_better = no_worse_on better best one no_worse no_better

-- which holds of each that is known
each_no_better_on : (some best : Option LeastBatch) (better : LeastBatch) → IfSome best (IsNoWorse better)
    → IfSome some (λ (one : LeastBatch). IsNoBetter one best)
    → IfSome some (λ (one : LeastBatch). IsNoBetter one (Some better))
each_no_better_on None best better no_worse no_better = tt
each_no_better_on (Some one) best better no_worse no_better = no_better_on one best better no_worse no_better

-- of none but the first it is the best
pub begin_among : (first : Option LeastBatch) (others : List (Option LeastBatch)) → IsBestAmong first others 0 first
begin_among first others = record {
  either = inl refl;
  first_no_better = no_better_itself first;
  no_better = λ at d low. absurd (omega (arith, low));
}

-- where the next isn't known, nothing changes
pub pass_among : (first : Option LeastBatch) (others : List (Option LeastBatch)) (end : ℕ) (best : Option LeastBatch)
    → ((d : Option LeastBatch) → slice_index_or others end d ≡ None) → IsBestAmong first others end best → IsBestAmong first others (end + 1) best
pass_among first others end best none is = record {
  either = ⊎_elim (λ (e : best ≡ first). inl e)
      (λ (one : (at : ℕ) × (at < end) × (slice_index_or others at best ≡ best)). inr (one.0, omega (arith, one.1), one.2)) is.either;
  first_no_better = is.first_no_better;
  no_better = λ at d low. ⊎_elim
      (λ (same : at ≡ end). subst (λ (o : Option LeastBatch). IfSome o (λ (one : LeastBatch). IsNoBetter one best))
      (sym (ap (λ (n : ℕ). slice_index_or others n d) same ∙ none d)) tt)
      (λ (apart : at ≢ end). is.no_better at d (omega (arith, low, apart))) (cases_eq at end);
}

-- the better of the best so far and the next is the best with it
pub next_among : (first : Option LeastBatch) (others : List (Option LeastBatch)) (end : ℕ) (best : Option LeastBatch) (next better : LeastBatch)
    → ((d : Option LeastBatch) → slice_index_or others end d ≡ Some next) → IsBestAmong first others end best → IsBetterOf best next better
    → IsBestAmong first others (end + 1) (Some better)
next_among first others end best next better there is of = record {
  either = ⊎_elim (λ (e : better ≡ next). inr (end, omega arith, there (Some better) ∙ ap Some (sym e)))
      (λ (e : best ≡ Some better). ⊎_elim (λ (f : best ≡ first). inl (sym e ∙ f))
      (λ (one : (at : ℕ) × (at < end) × (slice_index_or others at best ≡ best)). inr
      (one.0, omega (arith, one.1), subst (λ (o : Option LeastBatch). slice_index_or others one.0 o ≡ o) e one.2)) is.either)
      of.either;
  first_no_better = each_no_better_on first best better of.best_no_better is.first_no_better;
  no_better = λ at d low. ⊎_elim
      (λ (same : at ≡ end). subst (λ (o : Option LeastBatch). IfSome o (λ (one : LeastBatch). IsNoBetter one (Some better)))
      (sym (ap (λ (n : ℕ). slice_index_or others n d) same ∙ there d)) of.next_no_better)
      (λ (apart : at ≢ end). each_no_better_on (slice_index_or others at d) best better of.best_no_better (is.no_better at d (omega (arith, low, apart))))
      (cases_eq at end);
}
