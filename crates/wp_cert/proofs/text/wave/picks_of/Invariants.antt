use Rattle.std.proofs.Common.{◌≡◌, take}
use Rattle.wp_cert.specs.Text.{PicksAt}
use Rattle.wp_cert.proofs.text.wave.picks_of.Given as goal

abbrev pub invariant-loop-place : goal.invariant-loop-place
invariant-loop-place l = (l.picks.layout ≡ l.fn.layout) × PicksAt l.picks (take l.place-index l.fn.places)
