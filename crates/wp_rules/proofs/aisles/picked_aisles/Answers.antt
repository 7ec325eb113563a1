use Rattle.std.proofs.Common.{◌∙◌, ◌++◌, ◌∷◌, ◌+◌, [], ℕ, List, ap, arith, filter, length, subst, sym}
use Rattle.wp_model.specs.Warehouse.{Layout}
use Rattle.wp_graph.specs.PickSets.{AreSlots}
use Rattle.wp_rules.specs.Rules.{has_pick}
use Rattle.wp_rules.proofs.Adding.{few_picked, one_more_picked}
use Rattle.wp_rules.proofs.aisles.picked_aisles.Goals as goal

pub add_picked-requires-clause-room : goal.add_picked-requires-clause-room
add_picked-requires-clause-room c =
    omega (
      arith,
      ap length c.loop-before.invariant.picked,
      few_picked (has_pick c.args.picks.now.points) c.loop-before.before,
      c.loop-before-test.true,
      c.aisles-before-end.ensures.value,
      c.aisles-before-end.ensures.valid.aisles.1,
    )

pub loop-before-preserved : goal.loop-before-preserved
loop-before-preserved c =
    let test = has_pick c.args.picks.now.points in
    let before = c.loop-before.before in record {
      picked = c.add_picked.ensures.value
          ∙ ap (λ (xs : List ℕ). xs ++ filter test ((before + 1) ∷ [])) c.loop-before.invariant.picked ∙ sym (one_more_picked test before);
      slots = λ some. subst (λ (layout : Layout). AreSlots layout c.args.picks.now.points) c.requires c.add_picked.ensures.slots;
    }

pub returns-clause-few : goal.returns-clause-few
returns-clause-few c =
    omega (
      arith,
      ap length c.loop-before.invariant.picked,
      few_picked (has_pick c.args.picks.now.points) c.loop-before.before,
      c.loop-before.auto.before-end,
      c.aisles-before-end.ensures.value,
      c.aisles-before-end.ensures.valid.aisles.1,
    )
