use Rattle.wp_batch.proofs.Listings.{AreListedBelow}
use Rattle.wp_batch.proofs.listing.listed.Given as goal

abbrev pub invariant-loop-order : goal.invariant-loop-order
invariant-loop-order l = AreListedBelow l.batches l.listed.items l.order
