use Rattle.std.proofs.Common.{◌∙◌, map}
use Rattle.wp_model.proofs.LocationOrder.{cmp_is}
use Rattle.wp_tables.proofs.ByLocation.{found_by_location}
use Rattle.wp_tables.proofs.stock.StockSoFar.has_row_at.Goals as goal

pub returns : goal.returns
returns c =
    rw (← c.self.view_is) (rw c.self.invariant.0 at c.contains_key.ensures
    ∙ found_by_location _ cmp_is c.args.location.now (map (λ e. e.1) c.self.inside.rows.entries))
