use Rattle.wp_dispatch.proofs.Printed.{served_may}
use Rattle.wp_dispatch.proofs.laws.waves_of_served_orders_may_be_printed.Goals as goal

pub returns : goal.returns
returns c = λ opening state listed turns most waves later names starts out read listed_are turns_are room right are named.
    served_may opening state listed turns most waves later names starts out read listed_are turns_are room right are named
