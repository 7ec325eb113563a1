use Rattle.std.proofs.Common.{◌≡◌, take, length}
use Rattle.wp_model.specs.Opening.{Opening as OpeningData}
use Rattle.wp_floor.specs.Takers.{HasPut, HaveTakers}
use Rattle.wp_floor.proofs.floor.put_takers.Given as goal

-- the orders so far have this taker
abbrev pub invariant-loop-number : goal.invariant-loop-number
invariant-loop-number l = (length l.takers ≡ length l.fn.takers) × ((opening : OpeningData) → HaveTakers opening l.wave l.fn.takers
    → HasPut opening (take l.number-index l.wave.orders) l.taker l.fn.takers l.takers)
