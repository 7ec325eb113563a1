use Rattle.std.proofs.Common.{◌<◌, ℕ, Contains}
use Rattle.wp_price.specs.Searches.{AreItemsSearched}
use Rattle.wp_price.proofs.search.SlackSearch.search_share.Given as goal

abbrev pub invariant-loop-order : goal.invariant-loop-order
invariant-loop-order g l = AreItemsSearched l.self l.place.batch (λ (item : ℕ). (item < l.order) × Contains l.worker.share item) l.fn.best l.found
