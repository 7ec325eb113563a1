use Rattle.wp_batch_tests.proofs.places.+visited_places.Given as goal

abbrev pub decreases-visited_places : goal.decreases-visited_places
decreases-visited_places l = l.later.most
