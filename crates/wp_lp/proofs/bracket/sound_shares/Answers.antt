use Rattle.std.proofs.Common.{ℕ, subst}
use Rattle.wp_lengths.specs.Duals.{AreShares}
use Rattle.wp_lp.proofs.ShareDuals.{shares_feasible}
use Rattle.wp_lp.proofs.bracket.sound_shares.Goals as goal

pub returns-clause-are : goal.returns-clause-are
returns-clause-are c =
    subst (λ (most : ℕ). AreShares c.args.given.now.wave.now most c.in_ok-shares.shares.items) c.capacity.ensures.value c.in_ok-shares.ensures.are

pub returns-clause-sound : goal.returns-clause-sound
returns-clause-sound c =
    let are = subst (λ (most : ℕ). AreShares c.args.given.now.wave.now most c.in_ok-shares.shares.items) c.capacity.ensures.value c.in_ok-shares.ensures.are in
    record {
      feasible = shares_feasible c.args.given.now.wave.now c.args.given.now.pairs.now c.in_ok-shares.shares.items are
          c.capacity.ensures.valid.some_capacity c.args.given.now.as_many;
      count = are.count;
      small = c.in_ok-shares.ensures.small;
    }
