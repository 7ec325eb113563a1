use Rattle.std.proofs.Common.{◌<◌, ℕ, Contains}
use Rattle.wp_visit.specs.Places.{IsNoChild}
use Rattle.wp_price.proofs.search.SlackSearch.first_items.Given as goal

abbrev pub invariant-loop-order : goal.invariant-loop-order
invariant-loop-order l = (order : ℕ) → order < l.order → (Contains l.firsts order → ⊥) → IsNoChild l.self.pairing l.place.batch order
