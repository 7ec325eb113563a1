use Rattle.std.proofs.Common.{ℕ, List, Contains, subst, sym}
use Rattle.wp_batch.proofs.split.split_of.Goals as goal

pub returns : goal.returns
returns c = let whole = c.is.ensures.0 c.if-not-is.false in record {
  divided = record {
    of_both = λ p. (
      λ has. (c.union.ensures.orders p).0 (subst (λ (xs : List ℕ). Contains xs p) (sym whole) has),
      λ has. subst (λ (xs : List ℕ). Contains xs p) whole ((c.union.ensures.orders p).1 has),
    );
    apart = c.meets.ensures.none c.if-meets.false;
  };
  left = c.is_fit.ensures.0 c.if-not-is_fit.false;
  right = c.is_fit-else-not-is_fit.ensures.0 c.if-not-is_fit-2.false;
}
