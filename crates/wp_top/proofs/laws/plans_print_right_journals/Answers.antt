use Rattle.wp_top.proofs.PlanJournals.{plan_journal}
use Rattle.wp_top.proofs.laws.plans_print_right_journals.Goals as goal

pub returns : goal.returns
returns c = plan_journal
