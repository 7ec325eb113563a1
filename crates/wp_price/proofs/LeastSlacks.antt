-- From the best of all candidates to the least slack, and to feasible duals.
use Rattle.std.proofs.Common.{ℕ, ◌+◌, ◌*◌, ◌-◌, ◌≤◌, List, arith, ℤ, pos, ◌+ℤ◌, ◌≤ℤ◌, neg_ℤ}
use Rattle.std.specs.Prelude.{Option, Some, None}
use Rattle.std.proofs.lemmas.Int.{ints}
use Rattle.wp_pairs.specs.Permitted.{IsPermitted}
use Rattle.wp_lengths.specs.Lengths.{IsLengthOf}
use Rattle.wp_lengths.specs.Duals.{AreFeasible, duals_of}
use Rattle.wp_lengths.proofs.FewerOrders.{same_length}
use Rattle.wp_price.specs.declared.best.LeastBatch.{LeastBatch}
use Rattle.wp_visit.specs.Places.{Task}
use Rattle.wp_price.specs.Searches.{IsBeaten, IsRaised, raise}
use Rattle.wp_price.specs.Slacks.{IsCandidate, IsLeastSlack, IsSlack}

-- a candidate is a permitted batch
pub candidate_permitted : (task : Task) (through : Option ℕ) (batch : List ℕ) → IsCandidate task.pairing through batch → IsPermitted task.pairing batch
candidate_permitted task None batch candidate = candidate
candidate_permitted task (Some order) batch candidate = candidate.0

-- a slack, raised
raised_slack : (task : Task) (batch : List ℕ) (slack : ℤ) → duals_of task.duals batch ≤ raise → (is : IsSlack task.wave task.duals batch slack)
    → IsRaised task batch (60 * is.total + raise - duals_of task.duals batch)
raised_slack task batch slack low is = record { total = is.total; long = is.long; is = omega (arith, low) }

-- the best of all candidates has the least slack, and comes first
pub least_of_best : (task : Task) (through : Option ℕ) (best : LeastBatch) (slack : ℤ)
    → ((batch : List ℕ) → IsPermitted task.pairing batch → duals_of task.duals batch ≤ raise) → IsCandidate task.pairing through best.batch
    → IsRaised task best.batch best.raised → ((batch : List ℕ) → IsCandidate task.pairing through batch → IsBeaten task (Some best) batch)
    → IsSlack task.wave task.duals best.batch slack → IsLeastSlack task.wave task.pairing task.duals through best.batch slack
least_of_best task through best slack low candidate raised all is =
    let same = same_length task.wave best.batch raised.total is.total raised.long is.long in record {
      candidate = candidate;
      is = is;
      least = λ other more also other_is.
          let small = low other (candidate_permitted task through other also) in
          let no_worse = all other also _ (raised_slack task other more small other_is) in
          omega (arith, ints, no_worse.low, raised.is, same, is.is, other_is.is, small);
      first = λ other also other_is.
          let small = low other (candidate_permitted task through other also) in
          let no_worse = all other also _ (raised_slack task other slack small other_is) in
          no_worse.first (omega (arith, ints, raised.is, same, is.is, other_is.is, small));
    }

-- where the least slack isn't below 0 the duals are feasible
pub feasible_of_least : (task : Task) (batch : List ℕ) (slack : ℤ) → IsLeastSlack task.wave task.pairing task.duals None batch slack → pos 0 ≤ℤ slack
    → AreFeasible task.wave task.pairing task.duals
feasible_of_least task batch slack least low = λ other total permitted is. by_slack task other total slack is
    (λ more slack_is. least.least other more permitted slack_is) low
  where
    by_slack : (task : Task) (other : List ℕ) (total : ℕ) (slack : ℤ) → IsLengthOf task.wave other total
        → ((more : ℤ) → IsSlack task.wave task.duals other more → slack ≤ℤ more) → pos 0 ≤ℤ slack → duals_of task.duals other ≤ 60 * total
    by_slack task other total slack is least low =
        let more = least (pos (60 * total) +ℤ neg_ℤ (pos (duals_of task.duals other))) (record { total = total; long = is; is = omega (arith, ints) }) in
        omega (arith, ints, more, low)

-- under feasible duals no permitted batch has a slack below 0
pub not_below_of_feasible : (task : Task) (batch : List ℕ) (slack : ℤ) → AreFeasible task.wave task.pairing task.duals → IsPermitted task.pairing batch
    → IsSlack task.wave task.duals batch slack → pos 0 ≤ℤ slack
not_below_of_feasible task batch slack feasible permitted is = omega (arith, ints, feasible batch is.total permitted is.long, is.is)
