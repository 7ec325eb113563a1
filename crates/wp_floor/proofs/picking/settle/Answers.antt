use Rattle.wp_floor.proofs.picking.settle.Goals as goal

pub returns-then-holds_none-clause-some : goal.returns-then-holds_none-clause-some
returns-then-holds_none-clause-some c some = absurd (some (c.holds_none.ensures.0 c.if-holds_none.true))
