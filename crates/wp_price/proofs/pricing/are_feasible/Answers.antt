use Rattle.std.proofs.Common.{subst, sym, to_z-of_z, SFits, w64, rules, arith, pos, ◌≤ℤ◌}
use Rattle.std.specs.Prelude.{None}
use Rattle.std.proofs.lemmas.Int.{ints}
use Rattle.wp_lengths.specs.Duals.{AreFeasible}
use Rattle.wp_visit.specs.Places.{Task}
use Rattle.wp_price.proofs.LeastSlacks.{feasible_of_least, least_of_best, not_below_of_feasible}
use Rattle.wp_price.proofs.pricing.are_feasible.Goals as goal

pub returns-in-Some : goal.returns-in-Some
returns-in-Some g c =
    let fits : SFits w64 c.slack_of.result = search rules in
    let candidate = rw c.in-Some.is at c.in_ok-best.ensures.candidate in (
      λ told.
          let low = rw (to_z-of_z fits) at told in
          let not_below : pos 0 ≤ℤ c.slack_of.result = grind (arith, ints) in
          let least = least_of_best c.in_ok-search.search None c.in-Some.best c.slack_of.result c.slack_of.ensures.small
          candidate (rw c.in-Some.is at c.in_ok-best.ensures.is) (rw c.in-Some.is at c.in_ok-best.ensures.all) c.slack_of.ensures.is in
          subst (λ (t : Task). AreFeasible t.wave t.pairing t.duals) c.in_ok-search.ensures
          (feasible_of_least c.in_ok-search.search c.in-Some.best.batch c.slack_of.result least not_below),
      λ feasible.
          let not_below = not_below_of_feasible c.in_ok-search.search c.in-Some.best.batch c.slack_of.result
          (subst (λ (t : Task). AreFeasible t.wave t.pairing t.duals) (sym c.in_ok-search.ensures) feasible) candidate c.slack_of.ensures.is in
          rw (to_z-of_z fits) (grind (arith, ints)),
    )
