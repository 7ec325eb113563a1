use Rattle.std.proofs.Common.{ℕ, ◌-◌, List, slice_index_or, arith, ap, sym, ◌∙◌, subst}
use Rattle.wp_cuts.specs.Cuts.{CutParts, IsRankCut, cut_part}
use Rattle.wp_cuts.specs.KeptCuts.{AreKinds}
use Rattle.wp_cuts.proofs.KeptParts.{kind_added, kind_counted, part_below, product_small, sum_none, sum_whole}
use Rattle.wp_cuts.proofs.cut.RankCut.parts_of.Goals as goal

pub loop-part-init : goal.loop-part-init
loop-part-init c = record { so_far = sym (sum_none (cut_part c.args.self.now) c.args.batch); small = omega arith }

pub loop-part-preserved : goal.loop-part-preserved
loop-part-preserved c =
    let cut = c.args.self.now in
    let valid = subst (λ (it : CutParts). IsRankCut 64 it) c.self.view_is c.self.invariant.0 in
    let are = subst (λ (it : CutParts). AreKinds it.orders it.parts c.self.inside.kinds) c.self.view_is c.self.invariant.1 in
    let divisor = ap (λ (it : CutParts). it.divisor) c.self.view_is in
    let kinds = c.self.inside.kinds in
    let at = c.loop-part.part - 1 in
    let counted = kind_counted cut kinds (slice_index_or kinds at c.index-self-part.result) c.args.batch c.loop-part.part c.count_both.result valid are
    (omega (arith, c.loop-part.auto.part)) (omega (arith, c.loop-part-test.true, divisor))
    (ap (λ (row : List ℕ). slice_index_or kinds at row) c.index-self-part.is)
    c.count_both.ensures.is in
    record {
      so_far = kind_added (cut_part cut) c.args.batch c.loop-part.part c.loop-part.total c.count_both.result c.loop-part.invariant.so_far counted;
      small = omega (
        arith,
        c.loop-part.invariant.small,
        product_small c.loop-part.part c.count_both.result (omega (arith, c.loop-part-test.true, divisor, valid.high)) c.count_both.ensures.few,
      );
    }

pub returns-clause-is : goal.returns-clause-is
returns-clause-is c =
    let cut = c.args.self.now in
    let valid = subst (λ (it : CutParts). IsRankCut 64 it) c.self.view_is c.self.invariant.0 in
    let divisor = ap (λ (it : CutParts). it.divisor) c.self.view_is in
    c.loop-part.invariant.so_far
    ∙ sum_whole (cut_part cut) c.loop-part.part c.args.batch (λ order.
    let low = part_below cut.orders cut.parts cut.divisor order (omega (arith, valid.low)) valid.parts in
    omega (arith, low, c.loop-part-test.false, divisor))
