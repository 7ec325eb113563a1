use Rattle.std.proofs.Common.{◌++◌, ◌∷◌, [], ◌∙◌, ap, take, subst, sym}
use Rattle.std.proofs.lemmas.List.{take_more}
use Rattle.wp_desk.proofs.Asking.{done_more, if_no_err}
use Rattle.wp_desk.specs.Work.{HasDone, IsOfDesk, start_of}
use Rattle.wp_desk.proofs.desk.Day.run_desk.Goals as goal

pub loop-command-preserved : goal.loop-command-preserved
loop-command-preserved g c =
    let script = c.args.script.now in
    let done = c.loop-command.invariant in
    let answer = if_no_err c.ask-next.result.1 _ (sym c.is_err.ensures.value ∙ c.if-is_err.false) c.ask-next.ensures.kept in
    let more = take_more script c.loop-command.command-index c.command-item.result c.loop-command-test.true ∙ ap
    (λ x. take c.loop-command.command-index script ++ x ∷ []) (sym c.command-item.is) in (
      subst (λ desk. IsOfDesk c.args.self.now.turn desk c.ask-next.result.0.pass) done.0.desk_is c.ask-next.ensures.own,
      subst (λ commands. HasDone (start_of c.args.self.now.turn) commands c.ask-next.result.0.pass c.ask-next.new.told) (sym more)
          (done_more (start_of c.args.self.now.turn) (take c.loop-command.command-index script) c.loop-command.desk.pass c.ask-next.result.0.pass
          c.command-item.result answer.0 c.loop-command.told c.ask-next.new.told (g.P.Planner.plans c.args.run.now.planner.now)
          (done.0.alone ∙ ap (λ desk. desk ∷ []) (sym done.0.desk_is)) done.1 answer.1 answer.2),
      answer.2.planned,
    )
