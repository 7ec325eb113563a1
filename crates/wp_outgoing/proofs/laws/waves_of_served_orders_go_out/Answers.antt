use Rattle.wp_outgoing.proofs.ServedWaves.{served_go_out}
use Rattle.wp_outgoing.proofs.laws.waves_of_served_orders_go_out.Goals as goal

pub returns : goal.returns
returns c = λ opening state listed turns most waves later names is listed_are turns_are few right named.
    served_go_out opening state listed turns most waves later names
    (record { opens = is; listed_are = listed_are; turns_are = turns_are; few = few; right = right }) named
