use Rattle.wp_model.proofs.Served.{stock_goes_where_it_covers}
use Rattle.wp_model.proofs.laws.stock_goes_where_it_covers.Goals as goal

pub returns : goal.returns
returns c = stock_goes_where_it_covers
