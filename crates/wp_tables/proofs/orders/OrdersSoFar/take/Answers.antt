use Rattle.wp_model.proofs.ReadOrders.{kept_by_order_line}
use Rattle.wp_tables.proofs.orders.OrdersSoFar.take.Goals as goal

pub returns-in_ok-add-in-Ok-clause-read : goal.returns-in_ok-add-in-Ok-clause-read
returns-in_ok-add-in-Ok-clause-read c read =
    rw c.in_ok-add-in-Ok.ensures.made (kept_by_order_line c.args.stock.now.articles c.args.self.now.made c.in-Ok.line read c.in-Ok.ensures.joins)
