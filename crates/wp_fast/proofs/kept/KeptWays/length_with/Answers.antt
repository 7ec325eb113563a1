use Rattle.std.proofs.Common.{subst}
use Rattle.std.proofs.lemmas.Option.{same_Some}
use Rattle.wp_fast.specs.KeptWays.{AreKeptBut}
use Rattle.wp_fast.proofs.KeptOrAnew.{kept_elsewhere, shortest_past_both}
use Rattle.wp_fast.proofs.kept.KeptWays.length_with.Goals as goal

pub invariant_of-length_past : goal.invariant_of-length_past
invariant_of-length_past c = record {
  of_layout = c.joined-picks.ensures.layout;
  kept_for = λ kept is. subst (AreKeptBut c.self.inside.layout c.joined-picks.result.points) (same_Some _ _ is) (record {
    unmarked = λ aisle up unmarked. kept_elsewhere c.self.inside.layout c.self.inside.picks.points c.args.more.now.points c.joined-picks.result.points
        c.self.inside.ways c.joined-picks.ensures.points c.self.invariant.each aisle up (c.aisles_of-marks.ensures aisle up unmarked);
  });
}

pub returns-clause-shortest : goal.returns-clause-shortest
returns-clause-shortest c =
    rw (← c.self.view_is, c.self.invariant.layout_is) (shortest_past_both _ _ _ _ _ c.joined-picks.ensures.points c.length_past.ensures.shortest)
