use Rattle.std.proofs.Common.{◌∙◌, ◌++◌, ◌+◌, ◌-◌, List, ap, arith, length}
use Rattle.std.specs.List.{flat_map, range_with_len}
use Rattle.wp_model.specs.declared.point.Point.{Point}
use Rattle.wp_rules.specs.declared.gap.Gap.{Gap}
use Rattle.wp_rules.specs.Rules.{far_part, from_far}
use Rattle.wp_rules.proofs.Adding.{longer_by_far, one_from_left}
use Rattle.wp_rules.proofs.rule.add_far_parts.Goals as goal

pub loop-aisle-preserved : goal.loop-aisle-preserved
loop-aisle-preserved c =
    let layout = c.args.layout.now in
    let part = far_part layout c.args.picks.now.points in
    let aisle = c.loop-aisle.aisle in
    let last = c.args.last in
    let stops = c.loop-aisle.stops in record {
      added = ap (λ (all : List Point). all ++ flat_map part (range_with_len (aisle + 1) (last - (aisle + 1))))
          (c.add_from_far.ensures ∙ ap (λ (gap : Gap). stops ++ from_far layout aisle gap.deep) c.gap_of.ensures.value)
          ∙ one_from_left part aisle last stops (c.args.stops.now ++ flat_map part (range_with_len (c.args.first + 1) (last - c.args.first - 1)))
          c.loop-aisle-test.true c.loop-aisle.invariant.added;
      most = omega (
        arith,
        ap length c.add_from_far.ensures,
        longer_by_far stops layout aisle c.gap_of.result.deep,
        c.loop-aisle.invariant.most,
        c.loop-aisle-test.true,
      );
    }
