use Rattle.std.proofs.Common.{List, ℕ, subst, sym, Contains}
use Rattle.std.proofs.lemmas.Bool.{both_ways}
use Rattle.wp_pairs.specs.Kept.{listed_for}
use Rattle.wp_pairs.proofs.Classes.{order_kept}
use Rattle.wp_pairs.proofs.Unions.{negated, unnegated}
use Rattle.wp_pairs.proofs.pairs.Pairs.keeps.Goals as goal

pub returns-then-holds_all : goal.returns-then-holds_all
returns-then-holds_all c =
    let kept = c.self.invariant.1 in
    let known = c.if-self-order.false in
    let joined_is = λ (p : ℕ). λ (h : Contains (listed_for c.self.inside.joined c.args.order) p).
    c.holds_all.ensures.0 c.if-holds_all.true p (subst (λ (xs : List ℕ). Contains xs p) (sym c.orders_for.ensures) h) in
    rw (← c.self.view_is) (
      λ yes. order_kept _ _ _ _ _ kept known joined_is
          (λ p has there. c.meets.ensures.none (unnegated _ yes) p has
          (subst (λ (xs : List ℕ). Contains xs p) (sym c.orders_for-then-holds_all.ensures) there)),
      λ keeps. negated _ (λ some. let both = c.meets.ensures.some some in
          keeps.parted both.0 ((kept.parts c.args.order both.0 known).0
          (subst (λ (xs : List ℕ). Contains xs both.0) c.orders_for-then-holds_all.ensures both.2)) both.1),
    )

pub returns-else-holds_all : goal.returns-else-holds_all
returns-else-holds_all c =
    let kept = c.self.invariant.1 in
    let known = c.if-self-order.false in
    rw (← c.self.view_is) (
      λ yes. absurd (both_ways c.holds_all.result c.if-holds_all.false yes),
      λ keeps. c.holds_all.ensures.1 (λ p there. keeps.joined p ((kept.joins c.args.order p known).0
          (subst (λ (xs : List ℕ). Contains xs p) c.orders_for.ensures there))),
    )
