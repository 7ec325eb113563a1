use Rattle.wp_master.proofs.Exchanges.{none_listed}
use Rattle.wp_master.proofs.filled.Filled.none.Goals as goal

pub returns : goal.returns
returns c = λ table row. none_listed table row 66 _ c.none_listed.ensures
