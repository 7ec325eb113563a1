use Rattle.std.proofs.Common.{◌<◌, ℕ, List, length, replicate, subst, sym, arith}
use Rattle.wp_crew.proofs.Deals.{IsDealt, all_dealt, load_with, none_dealt, one_dealt, sum_of_few}
use Rattle.wp_crew.proofs.LoadSums.{load-le-sum}
use Rattle.wp_crew.specs.Turns.{place_at}
use Rattle.std.proofs.Common.{set}
use Rattle.wp_crew.proofs.deal.deal_turns.Goals as goal

pub loop-turn-init : goal.loop-turn-init
loop-turn-init c =
    let pickers = length c.args.loads.now in
    subst (λ (loads : List ℕ). IsDealt c.args.lengths.now c.args.turns.now pickers 0 loads c.args.picker_of.now) (sym c.requires.empty)
    (subst (λ (owners : List ℕ). IsDealt c.args.lengths.now c.args.turns.now pickers 0 (replicate pickers 0) owners) (sym c.requires.nobody)
    (none_dealt c.args.lengths.now c.args.turns.now pickers c.requires.turns.one_each))

pub overflow_add-loads : goal.overflow_add-loads
overflow_add-loads c =
    let pickers = length c.args.loads.now in
    let is = c.loop-turn.invariant in
    let picker = c.least_loaded-picker.result in
    let low : picker < pickers = omega (arith, c.least_loaded-picker.ensures.0, is.loaded) in
    omega (
      arith,
      load_with c.args.lengths.now c.args.turns.now pickers c.loop-turn.turn-index c.loop-turn.loads c.loop-turn.picker_of picker c.requires.turns.one_each
          is c.loop-turn-test.true low,
      load-le-sum c.args.lengths.now (set c.loop-turn.picker_of (place_at c.args.turns.now c.loop-turn.turn-index) picker) picker,
      sum_of_few c.args.lengths.now c.requires.few,
    )

pub loop-turn-preserved : goal.loop-turn-preserved
loop-turn-preserved c =
    one_dealt c.args.lengths.now c.args.turns.now (length c.args.loads.now) c.loop-turn.turn-index c.loop-turn.loads c.loop-turn.picker_of
    c.least_loaded-picker.result c.requires.turns c.loop-turn.invariant c.loop-turn-test.true c.least_loaded-picker.ensures

pub returns : goal.returns
returns c =
    all_dealt c.args.lengths.now c.args.turns.now (length c.args.loads.now) c.loop-turn.turn-index c.loop-turn.loads c.loop-turn.picker_of
    c.requires.turns.one_each (omega arith) c.loop-turn.invariant
