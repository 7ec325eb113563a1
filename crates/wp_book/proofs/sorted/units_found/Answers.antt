use Rattle.std.proofs.Common.{◌∙◌, arith}
use Rattle.wp_book.proofs.OrderedHolds.{all_between}
use Rattle.wp_book.proofs.sorted.units_found.Goals as goal

pub units_in_holds-requires : goal.units_in_holds-requires
units_in_holds-requires c = omega (
  arith,
  c.requires.fits,
  all_between c.args.order c.args.row c.places-start.result.0 c.places-start.result.1 c.args.holds.now c.places-start.ensures,
)

pub returns : goal.returns
returns c =
    c.units_in_holds.ensures
    ∙ all_between c.args.order c.args.row c.places-start.result.0 c.places-start.result.1 c.args.holds.now c.places-start.ensures
