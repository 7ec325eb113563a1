use Rattle.std.proofs.Common.{◌≡◌, true, take}
use Rattle.std.specs.List.{list_all}
use Rattle.wp_cert.specs.Text.{is_slot_of}
use Rattle.wp_cert.proofs.text.ranges.are_slots.Given as goal

abbrev pub invariant-loop-place : goal.invariant-loop-place
invariant-loop-place l = list_all (is_slot_of l.fn.layout) (take l.place-index l.fn.places) ≡ true
