use Rattle.wp_machine.proofs.Outgoing.{cancelled_later_by_entries, go_out_by_entries}
use Rattle.wp_machine.proofs.laws.later_entries_cancel_waves.Goals as goal

pub returns-clause-out : goal.returns-clause-out
returns-clause-out c = go_out_by_entries

pub returns-clause-cancelled : goal.returns-clause-cancelled
returns-clause-cancelled c = cancelled_later_by_entries
