use Rattle.std.proofs.Common.{ℕ, rules}
use Rattle.wp_lp.specs.Rounds.{IsEnd}
use Rattle.wp_lp.proofs.Covered.{pool_halt_ends}
use Rattle.wp_lp.proofs.wide.last_root.Goals as goal

pub returns-in_err-pair-clause-halt : goal.returns-in_err-pair-clause-halt
returns-in_err-pair-clause-halt c =
    let ends : (most : ℕ) → IsEnd c.args.start.now.given.wave.now c.args.start.now.given.pairs.now most c.in_err-pair.field-0.0 =
    λ most. pool_halt_ends c.args.start.now.given.wave.now c.args.start.now.given.pairs.now c.args.pool.now c.requires.pool.short.is_pool
    c.requires.pool.covered most c.in_err-pair.field-0.0 c.in_err-pair.ensures.halt in
    search rules
