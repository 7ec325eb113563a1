use Rattle.std.proofs.Common.{◌∙◌, ◌++◌, ◌+◌, ◌-◌, List, ap, arith, length, reverse}
use Rattle.std.specs.List.{flat_map, range_with_len}
use Rattle.wp_model.specs.declared.point.Point.{Point}
use Rattle.wp_rules.specs.declared.gap.Gap.{Gap}
use Rattle.wp_rules.specs.Rules.{from_home, home_part}
use Rattle.wp_rules.proofs.Adding.{longer_by_home, one_from_right}
use Rattle.wp_rules.proofs.rule.add_home_parts.Goals as goal

pub loop-back-preserved : goal.loop-back-preserved
loop-back-preserved c =
    let layout = c.args.layout.now in
    let part = home_part layout c.args.picks.now.points in
    let first = c.args.first in
    let last = c.args.last in
    let back = c.loop-back.back in
    let aisle = first + last - back in
    let stops = c.loop-back.stops in record {
      added = ap (λ (all : List Point). all ++ flat_map part (reverse (range_with_len (first + 1) (last - (back + 1)))))
          (c.add_from_home.ensures ∙ ap (λ (gap : Gap). stops ++ from_home layout aisle gap.shallow) c.gap_of.ensures.value)
          ∙ one_from_right part first last back stops (c.args.stops.now ++ flat_map part (reverse (range_with_len (first + 1) (last - first - 1))))
          (omega (arith, c.loop-back.auto.back)) c.loop-back-test.true c.loop-back.invariant.added;
      most = omega (
        arith,
        ap length c.add_from_home.ensures,
        longer_by_home stops layout aisle c.gap_of.result.shallow,
        c.loop-back.invariant.most,
        c.loop-back-test.true,
      );
    }
