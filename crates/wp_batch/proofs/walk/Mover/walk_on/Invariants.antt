use Rattle.wp_batch.specs.Walks.{IsWalk}
use Rattle.wp_batch.proofs.walk.Mover.walk_on.Given as goal

abbrev pub invariant-loop : goal.invariant-loop
invariant-loop l = IsWalk l.instance.wave.now l.instance.capacity l.walk
