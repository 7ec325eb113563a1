use Rattle.std.proofs.Common.{◌≡◌, true, take}
use Rattle.std.specs.Prelude.{nat_le}
use Rattle.std.specs.List.{list_all}
use Rattle.wp_cert.proofs.text.ranges.are_light.Given as goal

abbrev pub invariant-loop-load : goal.invariant-loop-load
invariant-loop-load l = list_all (λ load. nat_le load l.fn.units) (take l.load-index l.fn.loads) ≡ true
