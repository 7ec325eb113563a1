use Rattle.std.proofs.Common.{◌/◌, ℕ, ap, sym, ◌∙◌, subst}
use Rattle.std.specs.Prelude.{sum_by}
use Rattle.wp_cuts.specs.Cuts.{CutParts, IsRankCut, cut_part}
use Rattle.wp_cuts.proofs.KeptParts.{all_parts_met}
use Rattle.wp_cuts.proofs.cut.RankCut.times_met_by_all.Goals as goal

pub returns-clause-is : goal.returns-clause-is
returns-clause-is c =
    let cut = c.args.self.now in
    let valid = subst (λ (it : CutParts). IsRankCut 64 it) c.self.view_is c.self.invariant.0 in
    ap (λ (n : ℕ). n / c.self.inside.divisor) (c.all_parts.ensures.is ∙ sym (all_parts_met cut.orders cut.parts valid.ascending valid.each))
    ∙ ap (λ (it : CutParts). sum_by (cut_part cut) cut.orders / it.divisor) c.self.view_is
