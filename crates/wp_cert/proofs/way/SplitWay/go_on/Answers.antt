use Rattle.std.proofs.Common.{◌+◌, subst}
use Rattle.std.proofs.lemmas.Result.{IfOk-weaker}
use Rattle.wp_cert.specs.declared.way.NodeStep.{NodeStep}
use Rattle.wp_cert.specs.Paths.{pairing_of}
use Rattle.wp_cert.specs.Ways.{GoesTo, IsStep, LeavesTo, in_first}
use Rattle.wp_cert.proofs.TreeSteps.{right_here}
use Rattle.wp_cert.proofs.way.SplitWay.go_on.Goals as goal

pub returns-in-Out : goal.returns-in-Out
returns-in-Out c =
    IfOk-weaker c.leave.result (LeavesTo c.args.self.now c.in-Out.bound c.leave.new.self) (GoesTo c.args.self.now c.args.step c.leave.new.self)
    (λ met left terms capacity shares at nodes here way is led.
    let pairing = pairing_of terms.wave capacity c.args.self.now.path.items in
    left terms capacity shares at (at + 1) nodes way
    (right_here terms pairing c.args.self.now.above nodes at here c.in-Out.bound is
    (subst (λ (s : NodeStep). IsStep terms pairing c.args.self.now.above here s) c.in-Out.is led)))
    c.leave.ensures

pub returns-in_ok-add-in-Into : goal.returns-in_ok-add-in-Into
returns-in_ok-add-in-Into c = λ terms capacity shares at nodes here way is led.
    let pairing = pairing_of terms.wave capacity c.args.self.now.path.items in
    let into = subst (λ (s : NodeStep). IsStep terms pairing c.args.self.now.above here s) c.in-Into.is led in
    rw c.in_ok-add-in-Into.ensures.above (in_first _ way is into.0 into.1 c.in_ok-add-in-Into.ensures.path c.in_ok-add-in-Into.ensures.notes)
