use Rattle.wp_cert.proofs.OneFault.{one_fault}
use Rattle.wp_cert.proofs.laws.trees_break_one_rule_first.Goals as goal

pub returns : goal.returns
returns c = one_fault
