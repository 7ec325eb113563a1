use Rattle.std.proofs.Common.{◌≡◌, ◌++◌, take}
use Rattle.wp_book.proofs.room.Room.put_all.Given as goal

abbrev pub invariant-loop-hold : goal.invariant-loop-hold
invariant-loop-hold l = l.self ≡ record { size = l.fn.self.size; holds = l.fn.self.holds ++ take l.hold-index l.holds }
