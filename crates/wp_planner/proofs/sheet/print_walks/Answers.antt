use Rattle.std.proofs.Common.{refl}
use Rattle.std.proofs.lemmas.Result.{IfOk-weaker}
use Rattle.wp_rules.specs.declared.rule.Rule.TheVariants as rule
use Rattle.wp_sheets.specs.Rules.{rules_line}
use Rattle.wp_planner.proofs.RuleWalks.{told_length}
use Rattle.wp_planner.proofs.sheet.print_walks.Goals as goal

pub append_rules-requires-clause-shape : goal.append_rules-requires-clause-shape
append_rules-requires-clause-shape c =
    (told_length c.args.wave.now c.args.batch _ _ rule.SShape c.args.shortest _ c.layout-layout.ensures c.union_of-picks.ensures.points c.requires.length
    c.rule_length-shape.ensures).1

pub append_rules-requires-clause-back : goal.append_rules-requires-clause-back
append_rules-requires-clause-back c =
    (told_length c.args.wave.now c.args.batch _ _ rule.Return c.args.shortest _ c.layout-layout.ensures c.union_of-picks.ensures.points c.requires.length
    c.rule_length-back.ensures).1

pub append_rules-requires-clause-gap : goal.append_rules-requires-clause-gap
append_rules-requires-clause-gap c =
    (told_length c.args.wave.now c.args.batch _ _ rule.LargestGap c.args.shortest _ c.layout-layout.ensures c.union_of-picks.ensures.points c.requires.length
    c.rule_length-gap.ensures).1

pub returns : goal.returns
returns c =
    let same = c.union_of-picks.ensures.points in
    let layout = c.layout-layout.ensures in
    let shape = told_length c.args.wave.now c.args.batch _ _ rule.SShape c.args.shortest _ layout same c.requires.length c.rule_length-shape.ensures in
    let back = told_length c.args.wave.now c.args.batch _ _ rule.Return c.args.shortest _ layout same c.requires.length c.rule_length-back.ensures in
    let gap = told_length c.args.wave.now c.args.batch _ _ rule.LargestGap c.args.shortest _ layout same c.requires.length c.rule_length-gap.ensures in
    IfOk-weaker c.append_rules.result _ _
    (λ done grows. (
      rules_line c.rule_length-shape.result c.rule_length-back.result c.rule_length-gap.result c.args.shortest,
      record {
        shape = c.rule_length-shape.result;
        s_shape = shape.0;
        back = c.rule_length-back.result;
        return = back.0;
        gap = c.rule_length-gap.result;
        largest_gap = gap.0;
        is = refl;
      },
      grows,
    ))
    c.append_rules.ensures
