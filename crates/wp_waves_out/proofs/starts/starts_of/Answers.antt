use Rattle.std.proofs.Common.{◌∙◌, ap, subst, take, length, List, arith}
use Rattle.std.proofs.lemmas.List.{take_all}
use Rattle.wp_machine.specs.declared.outcome.WaveHolds.{WaveHolds}
use Rattle.wp_waves_out.proofs.StartsSoFar.{same_starts, starts_more}
use Rattle.wp_waves_out.specs.Starts.{AreStarts}
use Rattle.wp_waves_out.proofs.starts.starts_of.Goals as goal

pub loop-wave-preserved : goal.loop-wave-preserved
loop-wave-preserved g c =
    let p = c.args.planning.now in
    starts_more p.layout.now p.opening.now p.terms.now.capacity c.args.sent.now c.loop-wave.wave-index c.loop-wave.starts.items c.push.new.self.items
    c.wave-item.result
    c.in_ok-start.start c.loop-wave-test.true c.wave-item.is c.loop-wave.invariant c.in_ok-start.ensures c.in_ok-push.ensures.items

pub returns-clause-starts : goal.returns-clause-starts
returns-clause-starts g c =
    let p = c.args.planning.now in
    subst (λ (ws : List WaveHolds). AreStarts p.layout.now p.opening.now p.terms.now.capacity ws c.loop-wave.starts.items)
    (take_all c.loop-wave.wave-index c.args.sent.now (omega arith)) c.loop-wave.invariant

pub returns-clause-count : goal.returns-clause-count
returns-clause-count g c =
    let p = c.args.planning.now in
    same_starts p.layout.now p.opening.now p.terms.now.capacity (take c.loop-wave.wave-index c.args.sent.now) c.loop-wave.starts.items c.loop-wave.invariant
    ∙ ap (λ (l : List WaveHolds). length l) (take_all c.loop-wave.wave-index c.args.sent.now (omega arith))
