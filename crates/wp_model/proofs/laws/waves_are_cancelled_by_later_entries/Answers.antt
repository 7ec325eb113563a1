use Rattle.wp_model.proofs.Cancelled.{cancelled_by_a_later_entry}
use Rattle.wp_model.proofs.laws.waves_are_cancelled_by_later_entries.Goals as goal

pub returns : goal.returns
returns c = cancelled_by_a_later_entry
