use Rattle.std.proofs.Common.{rules, ◌≡◌, ℕ, [], ◌∷◌, ◌++◌, sym, subst}
use Rattle.wp_master.specs.Spots.{AreStartSpots, IsStartSpot}
use Rattle.wp_master.specs.declared.spot.Spot.TheVariants.{Stored}
use Rattle.wp_master.proofs.Entries.{each_more}
use Rattle.wp_master.proofs.start.start_spots.Goals as goal

pub loop-place-preserved : goal.loop-place-preserved
loop-place-preserved c =
    let behind : c.push.new.self.items ≡ c.loop-place.spots.items ++ c.start_spot.result ∷ [] = search rules in
    let here = subst (λ (k : ℕ). IsStartSpot c.args.pool.now k c.start_spot.result) (sym c.loop-place.invariant.count) c.start_spot.ensures in
    record {
      count = search rules;
      each = subst (AreStartSpots c.args.pool.now) (sym behind)
          (each_more (IsStartSpot c.args.pool.now) c.loop-place.spots.items c.start_spot.result (Stored 0) c.loop-place.invariant.each here);
    }
