use Rattle.std.proofs.Common.{◌<◌, ◌+◌, ℕ, List, arith, subst, sym, length}
use Rattle.std.proofs.lemmas.List.Elements.{All-weaker}
use Rattle.wp_lengths.specs.Reaches.{HaveMost}
use Rattle.wp_lengths.specs.Visits.{IsLater}
use Rattle.wp_lengths.proofs.Further.{most_of_none, reach_from}
use Rattle.wp_lengths.proofs.reach.reach_of.Goals as goal

pub loop-init : goal.loop-init
loop-init c = (
  0,
  omega (arith, c.len-counter.ensures.count),
  subst (λ (xs : List ℕ). HaveMost c.args.pairs.now c.args.duals.now c.args.from 0 xs) (sym c.empty-taken.ensures)
      (most_of_none c.args.pairs.now c.args.duals.now c.args.from),
)

pub loop-preserved : goal.loop-preserved
loop-preserved c = (
  c.loop.invariant.0 + 1,
  omega (arith, c.loop.invariant.1),
  c.take_best-taken.ensures c.loop.invariant.0 c.loop.invariant.2,
)

pub sum_of-requires : goal.sum_of-requires
sum_of-requires c = record {
  known = All-weaker (IsLater c.args.pairs.now c.args.from) (λ (o : ℕ). o < length c.args.duals.now)
      (λ o later. omega (arith, later.known, c.requires.count)) c.loop.taken c.loop.invariant.2.later;
}

pub returns : goal.returns
returns c = rw c.sum_of.ensures (reach_from _ _ _ _ _ c.loop.invariant.0 c.loop.invariant.2
    (omega (arith, c.loop.invariant.1, c.loop-test.false, c.loop.auto.counter-end, c.requires.fits, c.len-counter.ensures.count, c.capacity-end.ensures.value)))
