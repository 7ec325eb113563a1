use Rattle.std.proofs.Common.{subst, sym}
use Rattle.wp_lengths.specs.Batchings.{IsBatching}
use Rattle.wp_cert.proofs.PutIntoBatches.{ascending_put_is_batching}
use Rattle.wp_planner.proofs.bracket.bracket_after.Goals as goal

pub root_after-requires-clause-batching : goal.root_after-requires-clause-batching
root_after-requires-clause-batching g c κs within =
    subst (IsBatching c.args.wave.now c.args.capacity.most) (sym c.as_slice.ensures)
    (ascending_put_is_batching c.args.wave.now c.args.capacity.most c.args.planned.now.batching c.requires.sound.batching c.requires.sound.ascending)

pub root_after-requires-clause-feasible : goal.root_after-requires-clause-feasible
root_after-requires-clause-feasible g c κs within =
    c.known_duals.ensures.feasible c.args.wave.now c.args.capacity.most c.args.planned.now.bound c.requires.sound.bound

pub root_after-requires-clause-count : goal.root_after-requires-clause-count
root_after-requires-clause-count g c κs within =
    c.known_duals.ensures.count c.args.wave.now c.args.capacity.most c.args.planned.now.bound c.requires.sound.bound

pub returns : goal.returns
returns g c =
    let root = c.in_ok-root.ensures in
    record {
      is = record {
        bracket = record {
          cover = root.cover;
          high_is = root.high;
          high_not_below = root.high_not_below;
          feasible = root.feasible;
          low_is = root.low;
          low_not_below = root.low_not_below;
        };
        cause = root.cause;
      };
      below = root.below;
      above = root.above;
      shares = root.shares;
      few = root.few;
    }
