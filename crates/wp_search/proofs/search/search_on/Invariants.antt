use Rattle.std.proofs.Common.{◌≡◌, sum}
use Rattle.wp_search.specs.Searches.{IsSearch, KeepsBest, turns_within}
use Rattle.wp_search.proofs.search.search_on.Given as goal

abbrev pub invariant-loop-search : goal.invariant-loop-search
invariant-loop-search g l =
    IsSearch l.root.wave.now l.root.capacity.most (sum l.root.shares.now) l.search × (l.search.budget ≡ l.fn.start.budget)
    × KeepsBest l.fn.start.best l.search.best

abbrev pub decreases-loop-search : goal.decreases-loop-search
decreases-loop-search g l = turns_within l.search
