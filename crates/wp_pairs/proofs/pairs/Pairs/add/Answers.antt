use Rattle.std.proofs.Common.{[], ◌∷◌, arith, length-append, take}
use Rattle.wp_pairs.specs.declared.pair.OrderPair.{OrderPair}
use Rattle.wp_pairs.proofs.Adding.{still_kept}
use Rattle.wp_pairs.proofs.KeptPairs.{adds_from}
use Rattle.wp_pairs.proofs.PairNumbers.{has_room}
use Rattle.wp_pairs.proofs.pairs.Pairs.add.Goals as goal

pub place-requires : goal.place-requires
place-requires c =
    let new : OrderPair = record { first = c.args.first; second = c.args.second; together = c.args.together } in
    let adds = adds_from _ _ _ _ new c.self.view_is c.self.invariant.1 c.requires in
    omega (arith, has_room adds, c.self.invariant.0)

pub invariant_of-self : goal.invariant_of-self
invariant_of-self c =
    let new : OrderPair = record { first = c.args.first; second = c.args.second; together = c.args.together } in
    let adds = adds_from _ _ _ _ new c.self.view_is c.self.invariant.1 c.requires in
    let s = c.settle.ensures in
    rw c.place.ensures (
      omega (arith, length-append (take c.self.inside.count c.self.inside.added) (new ∷ []), c.self.invariant.0),
      still_kept _ _ _ _ _ new adds (record { joins = s.joins; keeps = s.keeps; parts = s.parts }),
    )

pub returns : goal.returns
returns c = rw (← c.self.view_is) (rw c.place.ensures)
