use Rattle.wp_lengths.proofs.KeptLengths.{none_kept}
use Rattle.wp_lengths.proofs.wave.Wave.begun.Goals as goal

pub invariant_of-result : goal.invariant_of-result
invariant_of-result c = (
  record { some = c.requires.some; most = c.requires.most; of_layout = c.requires.of_layout; filled = c.requires.filled; cart = c.requires.cart },
  none_kept (record { layout = c.args.layout; orders = c.args.orders.items; cart = c.args.cart }) c.new.result.items c.new.ensures.items,
)
