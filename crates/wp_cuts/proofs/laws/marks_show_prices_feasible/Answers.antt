use Rattle.wp_cuts.proofs.PricedMarks.{marks_show_feasible}
use Rattle.wp_cuts.proofs.laws.marks_show_prices_feasible.Goals as goal

pub returns : goal.returns
returns c = marks_show_feasible
