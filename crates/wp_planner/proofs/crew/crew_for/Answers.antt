use Rattle.std.proofs.Common.{◌≤◌, List, arith, length, subst, sym, ℕ}
use Rattle.wp_planner.proofs.ListedBatches.{day_batches_are, few_lengths}
use Rattle.wp_planner.specs.Crews.{AreListed, DayBatch}
use Rattle.wp_planner.proofs.crew.crew_for.Goals as goal

pub assign-requires-clause-count : goal.assign-requires-clause-count
assign-requires-clause-count c =
    let p = c.requires.planned in
    subst (λ (lengths : List ℕ). length lengths ≤ 1000000) (sym c.deref.ensures.value)
    (few_lengths p.0 p.1 p.2 c.args.sent.now c.in_ok-batches.batches p.3 c.requires.few c.in_ok-batches.ensures)

pub returns : goal.returns
returns c =
    let p = c.requires.planned in
    let crew = c.in_ok-crew.ensures in (
      omega (arith, c.if-pickers-eq0.false),
      record {
        listed = subst (λ (batches : List DayBatch). AreListed batches c.in_ok-batches.batches) (day_batches_are p.0 p.1 p.2 c.args.sent.now p.3)
            c.in_ok-batches.ensures;
        crew = rw c.deref.ensures.value at crew.crew;
        least = rw c.deref.ensures.value at crew.least;
        near = rw c.deref.ensures.value at crew.near;
      },
    )
