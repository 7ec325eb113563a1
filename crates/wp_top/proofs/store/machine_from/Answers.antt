use Rattle.std.proofs.Common.{arith, refl, subst, sym}
use Rattle.std.proofs.lemmas.Result.{err_from_is_err_and}
use Rattle.wp_top.proofs.store.machine_from.Goals as goal
use Rattle.wp_top.specs.Runs.{command_count}
use Rattle.wp_top.specs.Stops.{StopsFor, of_records}
use Rattle.wp_top.specs.declared.complaint.StoreFinding.TheVariants as store_finding

pub returns-then-entries-gt-MOST_ENTRIES-clause-stops : goal.returns-then-entries-gt-MOST_ENTRIES-clause-stops
returns-then-entries-gt-MOST_ENTRIES-clause-stops c =
    let opening = c.args.files.now.warehouse.opening in
    let commands = command_count c.args.files.now.scripts in
    subst (StopsFor (of_records opening c.args.records.now commands)) (sym c.refused_store.ensures) (
      store_finding.Entries _,
      refl,
      record {
        history = c.in_ok-machine.machine;
        begins = c.in_ok-machine.ensures.replayed;
        counted = omega (arith, c.len.ensures.len, c.count_of.ensures.count);
        many = omega (arith, c.if-entries-gt-MOST_ENTRIES.true);
      },
    )

pub returns-in_err-machine-clause-stops : goal.returns-in_err-machine-clause-stops
returns-in_err-machine-clause-stops c =
    let p = err_from_is_err_and c.from_residual.result c.from_residual.ensures.1 in
    rw (p.1, p.2) (c.in_err-machine.ensures.stops (command_count c.args.files.now.scripts))
