use Rattle.std.proofs.Common.{◌+◌, ◌∷◌, ap, arith, drop, length, subst, sym}
use Rattle.std.proofs.lemmas.List.{drop_all}
use Rattle.std.proofs.lemmas.Result.{err_from_is_err_and}
use Rattle.wp_journal.proofs.Replayed.{none_replayed}
use Rattle.wp_journal.specs.Replays.{LinesBegin}
use Rattle.wp_model.specs.History.{History}
use Rattle.wp_model.specs.Opening.{Opening}
use Rattle.wp_top.proofs.Writing.{drop_more}
use Rattle.wp_top.proofs.store.replay_records.Goals as goal
use Rattle.wp_top.specs.Stops.{StopsFor, of_records}

pub loop-number-init : goal.loop-number-init
loop-number-init c = (
  subst (λ (h : History). LinesBegin c.args.opening.now c.args.records.now h c.args.records.now) (sym c.in_ok-machine.ensures)
      (none_replayed c.args.opening.now c.args.records.now),
  omega (arith, ap (λ (h : History). length h.entries) c.in_ok-machine.ensures),
)

pub loop-number-preserved : goal.loop-number-preserved
loop-number-preserved c =
    let records = c.args.records.now in
    let n = c.loop-number.number in
    let before = c.loop-number.machine in
    let begins = c.loop-number.invariant.0 in
    let here = subst (LinesBegin c.args.opening.now records before) (drop_more records n c.at.result.now c.at.ensures) begins in
    let own = subst (λ (o : Opening). LinesBegin o records before (c.at.result.now ∷ drop (n + 1) records)) (sym begins.starts) here in
    let led = c.in_ok-replay_record.ensures.leads records (drop (n + 1) records) own in (
      subst (λ (o : Opening). LinesBegin o records c.replay_record.new.machine (drop (n + 1) records)) begins.starts led,
      c.in_ok-replay_record.ensures.next.few,
    )

pub returns-in_err-replay_record-clause-stops : goal.returns-in_err-replay_record-clause-stops
returns-in_err-replay_record-clause-stops c = λ commands.
    let records = c.args.records.now in
    let n = c.loop-number.number in
    let before = c.loop-number.machine in
    let begins = c.loop-number.invariant.0 in
    let here = subst (LinesBegin c.args.opening.now records before) (drop_more records n c.at.result.now c.at.ensures) begins in
    let own = subst (λ (o : Opening). LinesBegin o records before (c.at.result.now ∷ drop (n + 1) records)) (sym begins.starts) here in
    let p = err_from_is_err_and c.from_residual-in_err-replay_record.result c.from_residual-in_err-replay_record.ensures.1 in
    rw (p.1, p.2)
    (subst (λ (o : Opening). StopsFor (of_records o records commands) c.in_err-replay_record.field-0.0) begins.starts
    (c.in_err-replay_record.ensures.stops records (drop (n + 1) records) commands own))

pub returns-in_err-machine-clause-stops : goal.returns-in_err-machine-clause-stops
returns-in_err-machine-clause-stops c = λ commands.
    let p = err_from_is_err_and c.from_residual.result c.from_residual.ensures.1 in
    rw (p.1, p.2) tt

pub returns-clause-replayed : goal.returns-clause-replayed
returns-clause-replayed c =
    let records = c.args.records.now in
    let n = c.loop-number.number in
    subst (LinesBegin c.args.opening.now records c.loop-number.machine)
    (drop_all n records (omega (arith, c.loop-number-test.false, c.len-number-end.ensures.len)))
    c.loop-number.invariant.0
