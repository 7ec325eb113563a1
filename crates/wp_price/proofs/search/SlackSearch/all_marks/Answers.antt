use Rattle.wp_price.proofs.Passing.{all_closed, all_entered}
use Rattle.wp_price.proofs.search.SlackSearch.all_marks.Goals as goal

pub returns-then-is_root_closed : goal.returns-then-is_root_closed
returns-then-is_root_closed g c = all_closed c.args.self.now.wave c.args.self.now.pairing c.args.self.now.duals c.is_root_closed.ensures.0
    c.new-marks.result c.push.new.self c.new-marks.ensures c.is_root_closed.ensures.1 (rw c.if-is_root_closed.true at c.is_root_closed.ensures.2)
    c.in_ok-push.ensures.ok

pub returns : goal.returns
returns g c = all_entered c.args.self.now.wave c.args.self.now.pairing c.args.self.now.duals c.is_root_closed.ensures.0
    c.new-marks.result c.push-2.new.self c.push_all_items.new.marks c.in_ok-push_all_items.ensures.marks c.new-marks.ensures
    c.is_root_closed.ensures.1 (rw c.if-is_root_closed.false at c.is_root_closed.ensures.2) c.in_ok-push-2.ensures.ok
    c.in_ok-push_all_items.ensures.short c.in_ok-push_all_items.ensures.is
