use Rattle.std.proofs.Common.{◌≡◌, ◌<◌, All, length, take}
use Rattle.wp_cert.specs.Text.{PickAt}
use Rattle.wp_cert.proofs.text.wave.all_picks.Given as goal

abbrev pub invariant-loop-places : goal.invariant-loop-places
invariant-loop-places l =
    All (λ picks. picks.layout ≡ l.fn.layout) l.all.items
    × All (λ picks. 0 < length picks.points) l.all.items
    × PickAt l.all.items (take l.places-index l.fn.orders)
