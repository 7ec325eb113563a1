use Rattle.std.proofs.Common.{subst, sym}
use Rattle.std.proofs.lemmas.Bool.{both_ways}
use Rattle.wp_pairs.specs.Batches.{IsBatch}
use Rattle.wp_pairs.specs.Kept.{FitsCapacity}
use Rattle.wp_pairs.proofs.Classes.{class_dead, class_held}
use Rattle.wp_pairs.proofs.pairs.Pairs.is_held.Goals as goal

pub returns-clause-held : goal.returns-clause-held
returns-clause-held c = λ held.
    let known = rw (← c.self.view_is) at c.requires in
    let is = subst IsBatch c.orders_for.ensures c.fits.ensures.valid in
    let fits = subst (FitsCapacity c.args.self.now) c.orders_for.ensures (c.fits.ensures.exact.0 held) in
    let within = rw (← c.self.view_is) at fits in
    rw (← c.self.view_is) (class_held _ _ _ c.args.order c.self.invariant.1 known is within)

pub returns-clause-dead : goal.returns-clause-dead
returns-clause-dead c = λ dead.
    let known = rw (← c.self.view_is) at c.requires in
    let is = subst IsBatch c.orders_for.ensures c.fits.ensures.valid in
    let over = λ (within : FitsCapacity c.args.self.now _). both_ways c.fits.result dead
    (c.fits.ensures.exact.1 (subst (FitsCapacity c.args.self.now) (sym c.orders_for.ensures) within)) in
    let none = rw (← c.self.view_is) at over in
    rw (← c.self.view_is) (class_dead _ _ _ c.args.order c.self.invariant.1 known is none)
