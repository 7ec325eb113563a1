use Rattle.std.proofs.Common.{◌∙◌, ap, map, arith}
use Rattle.std.proofs.lemmas.List.{with_items_is}
use Rattle.wp_book.specs.Room.{place_of}
use Rattle.wp_book.proofs.OrderedHolds.{still_in_order}
use Rattle.wp_book.proofs.sorted.SortedHolds.take.Goals as goal

pub invariant_of-self : goal.invariant_of-self
invariant_of-self c =
    let is = with_items_is c.self.inside.holds c.take_found.new.holds (omega arith) in
    still_in_order c.self.inside.holds.items _ (ap (map place_of) is ∙ (c.take_found.ensures.places ∙ ap (map place_of) c.deref_mut.ensures.value))
    c.self.invariant
