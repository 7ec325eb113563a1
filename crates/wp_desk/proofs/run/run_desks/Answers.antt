use Rattle.std.proofs.Common.{◌≡◌, ◌∙◌, ℕ, IfOk, sym, ap, subst, arith}
use Rattle.std.proofs.lemmas.Result.{IfOk-weaker}
use Rattle.std.specs.List.{All}
use Rattle.wp_desk.proofs.Beginning.{all_back, day_keeps, new_fresh}
use Rattle.wp_desk.proofs.GoingOn.{ended_goes_on}
use Rattle.wp_desk.proofs.WholeDay.{parts_whole, refills_whole, waves_whole}
use Rattle.wp_desk.specs.Days.{HasDay}
use Rattle.wp_desk.specs.GoingOn.{GoesOnFrom, new_entries}
use Rattle.wp_desk.specs.Work.{EndsWith, HaveDone, IsFresh, start_of}
use Rattle.wp_desk.specs.declared.shared.Shared.{Shared}
use Rattle.wp_model.specs.History.{History, part_of, script_of}
use Rattle.wp_desk.proofs.run.run_desks.Goals as goal

pub run_all-desks-requires-clause-fresh : goal.run_all-desks-requires-clause-fresh
run_all-desks-requires-clause-fresh g c κs within =
    let turn = c.in_ok-turn.turn in
    let scripts = c.args.scripts.now in
    subst (All (IsFresh turn scripts)) (sym c.in_ok-turn.ensures.passes) (new_fresh turn scripts c.desks.result (omega (arith, c.desks.ensures.desks)))

pub close-machine-requires : goal.close-machine-requires
close-machine-requires g c = record {
  all = all_back c.in_ok-turn.turn c.in_ok-turn.passes.list c.run_all-desks.result.desks.passes.list c.desks.result c.in_ok-turn.ensures.passes
      c.in_ok-turn.ensures.turn.1 c.run_all-desks.ensures.work.own;
}

pub returns-clause-goes_on : goal.returns-clause-goes_on
returns-clause-goes_on g c =
    let turn = c.in_ok-turn.turn in
    let back = c.run_all-desks.result.desks.passes.list in
    let same : start_of turn ≡ c.args.machine = ap (λ (shared : Shared). shared.machine) c.in_ok-turn.ensures.turn.0 in
    IfOk-weaker c.day_of.result (HasDay (g.P.Planner.plans c.args.planner.now) c.close-machine.result c.run_all-desks.result.told) _
    (λ day is. subst (GoesOnFrom c.args.machine) (sym is.machine)
    (ended_goes_on c.args.machine back c.close-machine.result (subst (λ start. EndsWith start back c.close-machine.result) same c.close-machine.ensures)))
    c.day_of.ensures.day

pub returns-clause-opening : goal.returns-clause-opening
returns-clause-opening g c =
    let same = ap (λ (shared : Shared). shared.machine.opening) c.in_ok-turn.ensures.turn.0 in
    IfOk-weaker c.day_of.result (HasDay (g.P.Planner.plans c.args.planner.now) c.close-machine.result c.run_all-desks.result.told) _
    (λ day is. ap (λ (h : History). h.opening) (is.machine ∙ c.close-machine.ensures.is) ∙ (same ∙ c.requires.opened)) c.day_of.ensures.day

pub returns-clause-plans : goal.returns-clause-plans
returns-clause-plans g c =
    IfOk-weaker c.day_of.result (HasDay (g.P.Planner.plans c.args.planner.now) c.close-machine.result c.run_all-desks.result.told) _
    (λ day is. is.planned) c.day_of.ensures.day

pub returns-clause-waves : goal.returns-clause-waves
returns-clause-waves g c =
    let turn = c.in_ok-turn.turn in
    let scripts = c.args.scripts.now in
    let back = c.run_all-desks.result.desks.passes.list in
    let told = c.run_all-desks.result.told in
    let all = all_back turn c.in_ok-turn.passes.list back c.desks.result c.in_ok-turn.ensures.passes c.in_ok-turn.ensures.turn.1
    c.run_all-desks.ensures.work.own in
    let same : start_of turn ≡ c.args.machine = ap (λ (shared : Shared). shared.machine) c.in_ok-turn.ensures.turn.0 in
    let ends = subst (λ start. EndsWith start back c.close-machine.result) same c.close-machine.ensures in
    let are = IfOk-weaker told (HaveDone c.args.machine scripts back) _
    (λ told done. waves_whole turn c.args.machine scripts back c.close-machine.result told c.desks.ensures.read
    (c.in_ok-turn.ensures.turn.1 ∙ c.desks.ensures.desks) all done ends)
    (subst (λ start. IfOk told (HaveDone start scripts back)) same c.run_all-desks.ensures.work.done) in
    IfOk-weaker c.day_of.result (HasDay (g.P.Planner.plans c.args.planner.now) c.close-machine.result told) _ (λ day is. is.waves c.args.machine are)
    c.day_of.ensures.day

pub returns-clause-refills : goal.returns-clause-refills
returns-clause-refills g c =
    let turn = c.in_ok-turn.turn in
    let scripts = c.args.scripts.now in
    let back = c.run_all-desks.result.desks.passes.list in
    let told = c.run_all-desks.result.told in
    let all = all_back turn c.in_ok-turn.passes.list back c.desks.result c.in_ok-turn.ensures.passes c.in_ok-turn.ensures.turn.1
    c.run_all-desks.ensures.work.own in
    let same : start_of turn ≡ c.args.machine = ap (λ (shared : Shared). shared.machine) c.in_ok-turn.ensures.turn.0 in
    let ends = subst (λ start. EndsWith start back c.close-machine.result) same c.close-machine.ensures in
    let are = IfOk-weaker told (HaveDone c.args.machine scripts back) _
    (λ told done. refills_whole turn c.args.machine scripts back c.close-machine.result told c.desks.ensures.read
    (c.in_ok-turn.ensures.turn.1 ∙ c.desks.ensures.desks) all done ends)
    (subst (λ start. IfOk told (HaveDone start scripts back)) same c.run_all-desks.ensures.work.done) in
    IfOk-weaker c.day_of.result (HasDay (g.P.Planner.plans c.args.planner.now) c.close-machine.result told) _ (λ day is. is.refills c.args.machine are)
    c.day_of.ensures.day

pub returns-clause-parts : goal.returns-clause-parts
returns-clause-parts g c =
    let turn = c.in_ok-turn.turn in
    let scripts = c.args.scripts.now in
    let back = c.run_all-desks.result.desks.passes.list in
    let told = c.run_all-desks.result.told in
    let all = all_back turn c.in_ok-turn.passes.list back c.desks.result c.in_ok-turn.ensures.passes c.in_ok-turn.ensures.turn.1
    c.run_all-desks.ensures.work.own in
    let same : start_of turn ≡ c.args.machine = ap (λ (shared : Shared). shared.machine) c.in_ok-turn.ensures.turn.0 in
    let ends = subst (λ start. EndsWith start back c.close-machine.result) same c.close-machine.ensures in
    day_keeps (λ history. (desk : ℕ) → part_of desk (new_entries c.args.machine history) ≡ script_of scripts desk) c.close-machine.result c.day_of.result
    told (HaveDone c.args.machine scripts back) (g.P.Planner.plans c.args.planner.now) c.day_of.ensures.day
    (subst (λ start. IfOk told (HaveDone start scripts back)) same c.run_all-desks.ensures.work.done)
    (λ told done. parts_whole turn c.args.machine scripts back c.close-machine.result c.desks.ensures.read
    (c.in_ok-turn.ensures.turn.1 ∙ c.desks.ensures.desks) all done.asked ends)
