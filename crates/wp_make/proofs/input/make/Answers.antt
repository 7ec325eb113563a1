use Rattle.wp_make.proofs.DaySaid.{day_said}
use Rattle.wp_make.proofs.DayShort.{day_short}
use Rattle.wp_make.proofs.input.make.Goals as goal

pub returns-clause-accepted : goal.returns-clause-accepted
returns-clause-accepted c =
    let layout = c.in_ok-layout.ensures in
    rw (layout.text, c.in_ok-stock.ensures, c.in_ok-orders.ensures, c.in_ok-desks.ensures)
    (day_said c.args.number c.args.size c.requires (rw layout.text at layout.reads_back))

pub returns-clause-short : goal.returns-clause-short
returns-clause-short c =
    rw (c.in_ok-layout.ensures.text, c.in_ok-stock.ensures, c.in_ok-orders.ensures, c.in_ok-desks.ensures) (day_short c.args.number c.args.size c.requires)
