use Rattle.std.proofs.Common.{List, sym, subst}
use Rattle.wp_pairs.specs.declared.pair.OrderPair.{OrderPair}
use Rattle.wp_cert.specs.Paths.{pairing_of}
use Rattle.wp_cert.proofs.BoundsHold.{shares_feasible}
use Rattle.wp_lengths.specs.Duals.{AreFeasible}
use Rattle.wp_search.proofs.search.turn_at_root.Goals as goal

pub take_turn-requires-clause-above : goal.take_turn-requires-clause-above
take_turn-requires-clause-above g c κs within =
    let turner = c.args.turner.now in
    let wave = turner.wave.now in
    record {
      count = c.requires.shares.count;
      feasible = subst (λ (pairs : List OrderPair). AreFeasible wave (pairing_of wave turner.capacity.most pairs) c.args.shares.now)
          (sym c.new-path.ensures.items) (shares_feasible wave turner.capacity.most c.args.shares.now turner.capacity.some c.requires.shares);
    }
