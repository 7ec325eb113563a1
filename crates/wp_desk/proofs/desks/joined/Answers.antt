use Rattle.std.proofs.Common.{◌++◌, ◌∷◌, [], List, ℕ, map, subst, sym, IfOk}
use Rattle.wp_desk.proofs.Joining.{both_done, both_planned}
use Rattle.wp_desk.proofs.WholeDay.{desks_with_one}
use Rattle.wp_desk.specs.Work.{AreOfDesks, HaveDone, Seen, start_of}
use Rattle.wp_desk.proofs.desks.joined.Goals as goal

pub returns-clause-work : goal.returns-clause-work
returns-clause-work g c =
    let turn = c.args.day.now.turn in
    let passes = c.args.others.desks.passes.list in
    let pass = c.args.one.desk.pass in
    let desks : List ℕ = map (λ (pass : Seen). pass.caller) passes ++ pass.caller ∷ [] in
    record {
      own = subst (AreOfDesks turn desks) (sym c.put.ensures.list) (desks_with_one turn passes pass c.requires.others.own c.requires.one.own);
      done = subst (λ list. IfOk c.both_told.result (HaveDone (start_of turn) c.args.run.now.scripts.now list)) (sym c.put.ensures.list)
          (both_done (start_of turn) c.args.run.now.scripts.now passes pass c.args.others.told c.args.one.told c.both_told.result c.both_told.ensures.both
          c.both_told.ensures.there c.requires.others.done c.requires.one.done);
      planned = both_planned (g.P.Planner.plans c.args.run.now.planner.now) c.args.others.told c.args.one.told c.both_told.result c.both_told.ensures.both
          c.both_told.ensures.there c.requires.others.planned c.requires.one.planned;
    }
