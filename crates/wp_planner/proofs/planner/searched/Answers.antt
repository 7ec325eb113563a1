use Rattle.std.proofs.Common.{ℕ, subst}
use Rattle.wp_cert.specs.Bounds.{TellsBound}
use Rattle.wp_cert.specs.TextData.{certificate_text}
use Rattle.wp_planner.proofs.Certified.{tells_its_bound}
use Rattle.wp_planner.proofs.planner.searched.Goals as goal

pub returns-clause-certified : goal.returns-clause-certified
returns-clause-certified g c layout opening released of =
    let wave = c.args.wave.now in
    let planned = c.in_ok-planned.planned in
    let capacity = c.capacity-capacity.result in
    subst (λ (most : ℕ). TellsBound layout (certificate_text wave most planned.tree) planned.bound) c.capacity-capacity.ensures
    (tells_its_bound layout opening released capacity.most c.budget_for-budget.result wave planned c.orders.ensures.valid of capacity.some capacity.few
    c.in_ok-planned.ensures)
