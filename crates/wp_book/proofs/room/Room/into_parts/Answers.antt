use Rattle.std.proofs.Common.{subst, sym}
use Rattle.wp_book.specs.Room.{AreInOrder, Content}
use Rattle.wp_book.proofs.room.Room.into_parts.Goals as goal

pub of-requires : goal.of-requires
of-requires c = subst (λ (room : Content). AreInOrder room.holds) (sym c.self.view_is) c.requires
