use Rattle.std.proofs.Common.{◌∙◌, ap, subst, sym, length, ◌≤◌}
use Rattle.wp_model.specs.History.{script_of}
use Rattle.wp_model.specs.Limits.{most_commands}
use Rattle.wp_desk.proofs.Scripts.{few_commands}
use Rattle.wp_desk.specs.Work.{IsScriptWork}
use Rattle.wp_desk.proofs.desk.Day.run_script.Goals as goal

pub run_desk-requires-clause-few : goal.run_desk-requires-clause-few
run_desk-requires-clause-few g c κs within =
    subst (λ script. length script ≤ most_commands) (sym c.script-script.ensures.script)
    (few_commands c.args.run.now.scripts.now c.caller.result c.requires.read)

pub returns : goal.returns
returns g c =
    subst
    (λ commands. IsScriptWork c.args.self.now.turn commands (g.P.Planner.plans c.args.run.now.planner.now) c.args.desk.pass.caller c.run_desk.result)
    (c.script-script.ensures.script ∙ ap (script_of c.args.run.now.scripts.now) c.caller.ensures.number) c.run_desk.ensures
