use Rattle.wp_node.proofs.Rows.{first_row_is}
use Rattle.wp_node.proofs.price.first_row.Goals as goal

pub returns : goal.returns
returns c = first_row_is
