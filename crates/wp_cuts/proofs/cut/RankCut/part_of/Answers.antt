use Rattle.std.proofs.Common.{◌≡◌, ◌≢◌, ◌-◌, ℕ, List, slice_index_or, arith, ap, sym, ◌∙◌, subst, ⊎_elim}
use Rattle.std.proofs.lemmas.Bool.{both_ways, cases_eq}
use Rattle.wp_cuts.specs.Cuts.{CutParts, IsRankCut}
use Rattle.wp_cuts.specs.KeptCuts.{AreKinds}
use Rattle.wp_cuts.proofs.KeptParts.{kind_met, kind_missed, none_met}
use Rattle.wp_cuts.proofs.cut.RankCut.part_of.Goals as goal

pub returns-then-has-clause-is : goal.returns-then-has-clause-is
returns-then-has-clause-is c =
    let cut = c.args.self.now in
    let kinds = c.self.inside.kinds in
    let valid = subst (λ (it : CutParts). IsRankCut 64 it) c.self.view_is c.self.invariant.0 in
    let are = subst (λ (it : CutParts). AreKinds it.orders it.parts kinds) c.self.view_is c.self.invariant.1 in
    let divisor = ap (λ (it : CutParts). it.divisor) c.self.view_is in
    let at = c.loop-part.part - 1 in
    sym (kind_met cut kinds (slice_index_or kinds at c.index-self-part.result) c.args.order c.loop-part.part valid are
    (omega (arith, c.loop-part.auto.part)) (omega (arith, c.loop-part-test.true, divisor))
    (ap (λ (row : List ℕ). slice_index_or kinds at row) c.index-self-part.is)
    (c.has.ensures.exact.0 c.if-has.true))

pub loop-part-preserved : goal.loop-part-preserved
loop-part-preserved c = λ part some low is.
    let cut = c.args.self.now in
    let kinds = c.self.inside.kinds in
    let valid = subst (λ (it : CutParts). IsRankCut 64 it) c.self.view_is c.self.invariant.0 in
    let are = subst (λ (it : CutParts). AreKinds it.orders it.parts kinds) c.self.view_is c.self.invariant.1 in
    let divisor = ap (λ (it : CutParts). it.divisor) c.self.view_is in
    let at = c.loop-part.part - 1 in
    ⊎_elim
    (λ (e : part ≡ c.loop-part.part).
    kind_missed cut kinds (slice_index_or kinds at c.index-self-part.result) c.args.order c.loop-part.part valid are
    (omega (arith, c.loop-part.auto.part)) (omega (arith, c.loop-part-test.true, divisor))
    (ap (λ (row : List ℕ). slice_index_or kinds at row) c.index-self-part.is)
    (λ has. both_ways c.has.result c.if-has.false (c.has.ensures.exact.1 has)) (is ∙ e))
    (λ (ne : part ≢ c.loop-part.part). c.loop-part.invariant part some (omega (arith, low, ne)) is)
    (cases_eq part c.loop-part.part)

pub returns-clause-is : goal.returns-clause-is
returns-clause-is c =
    let valid = subst (λ (it : CutParts). IsRankCut 64 it) c.self.view_is c.self.invariant.0 in
    let divisor = ap (λ (it : CutParts). it.divisor) c.self.view_is in
    none_met c.args.self.now c.args.order c.loop-part.part valid (omega (arith, c.loop-part-test.false, divisor)) c.loop-part.invariant
