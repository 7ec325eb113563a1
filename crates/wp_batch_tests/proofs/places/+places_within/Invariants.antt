use Rattle.wp_batch_tests.proofs.places.+places_within.Given as goal

abbrev pub decreases-places_within : goal.decreases-places_within
decreases-places_within l = l.later.most
