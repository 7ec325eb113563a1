use Rattle.std.proofs.Common.{take}
use Rattle.wp_desk.specs.Work.{ArePlanned, HasDone, IsOfDesk, start_of}
use Rattle.wp_desk.proofs.desk.Day.run_desk.Given as goal

-- the desk has asked for the commands so far, and what their steps told is kept
abbrev pub invariant-loop-command : goal.invariant-loop-command
invariant-loop-command g l =
    IsOfDesk l.self.turn l.fn.desk.pass.caller l.desk.pass × HasDone (start_of l.self.turn) (take l.command-index l.script) l.desk.pass l.told
    × ArePlanned (g.P.Planner.plans l.run.planner.now) l.told.plans.items
