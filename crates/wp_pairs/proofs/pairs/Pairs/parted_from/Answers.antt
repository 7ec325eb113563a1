use Rattle.std.proofs.Common.{List, ℕ, subst, sym, Contains}
use Rattle.wp_pairs.proofs.pairs.Pairs.parted_from.Goals as goal

pub returns : goal.returns
returns c =
    let known = rw (← c.self.view_is) at c.requires in
    let parts = λ (other : ℕ). c.self.invariant.1.parts c.args.order other known in
    rw (← c.self.view_is) (λ other. (
      λ has. (parts other).0 (subst (λ (xs : List ℕ). Contains xs other) c.orders_for.ensures has),
      λ j. subst (λ (xs : List ℕ). Contains xs other) (sym c.orders_for.ensures) ((parts other).1 j),
    ))
