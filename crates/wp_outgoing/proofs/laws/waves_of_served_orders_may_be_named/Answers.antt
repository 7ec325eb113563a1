use Rattle.wp_outgoing.proofs.ShortGroups.{short_groups}
use Rattle.wp_outgoing.proofs.laws.waves_of_served_orders_may_be_named.Goals as goal

pub returns : goal.returns
returns c = λ opening state listed turns most waves later listed_are turns_are right.
    short_groups opening state listed turns most waves later listed_are turns_are right
