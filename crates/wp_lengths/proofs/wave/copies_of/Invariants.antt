use Rattle.wp_lengths.proofs.Unions.{AreCopiedBelow}
use Rattle.wp_lengths.proofs.wave.copies_of.Given as goal

abbrev pub invariant-loop-picks : goal.invariant-loop-picks
invariant-loop-picks l = AreCopiedBelow l.layout l.orders.items l.copies.items l.picks-index
