use Rattle.std.proofs.Common.{◌≡◌, ◌↔◌, ℕ, arith, length, subst, Contains}
use Rattle.wp_cuts.specs.KeptCuts.{StandsBelow}
use Rattle.wp_cuts.proofs.KeptParts.{stands_else, stands_more}
use Rattle.wp_cuts.proofs.cut.kind_of.Goals as goal
use Rattle.wp_cuts.proofs.cut.kind_of.Goals.{then-parts-place, else-parts-place}

pub loop-place-preserved : goal.loop-place-preserved
loop-place-preserved c = elim c.if-parts-place.branch [
  | then-parts-place w ↦ rw w.kind-is
      (stands_more c.args.orders.now c.args.parts.now c.loop-place.kind w.with-kind.result c.loop-place.place c.args.part c.loop-place.invariant
      (omega (arith, w.if-parts-place.true)) w.with-kind.ensures.orders)
  | else-parts-place w ↦ rw w.kind-is
      (stands_else c.args.orders.now c.args.parts.now c.loop-place.kind c.loop-place.place c.args.part c.loop-place.invariant
      (λ e. omega (arith, w.if-parts-place.false, e)))
]

pub returns : goal.returns
returns c =
    let end : c.loop-place.place ≡ length c.args.orders.now = omega (arith, c.loop-place-test.false, c.loop-place.auto.place-end) in
    subst (λ (n : ℕ). (order : ℕ) → Contains c.loop-place.kind order ↔ StandsBelow c.args.orders.now c.args.parts.now n c.args.part order) end
    c.loop-place.invariant
