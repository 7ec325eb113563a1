use Rattle.std.proofs.Common.{pos, ◌≤ℤ◌, ◌*ℤ◌, ℕ, subst, ◌∙◌}
use Rattle.wp_master.specs.Bases.{total_below}
use Rattle.wp_master.specs.Pairs.{number_at}
use Rattle.wp_lp.specs.Knowns.{AreSound}
use Rattle.wp_lp.specs.Parts.{cost_of}
use Rattle.wp_lp.proofs.Within.{either_has, narrow_from}
use Rattle.wp_lp.proofs.round.narrow_root.Goals as goal

pub cover_root-requires-clause-sound : goal.cover_root-requires-clause-sound
cover_root-requires-clause-sound c =
    either_has (AreSound c.args.start.now.given.wave.now c.args.start.now.given.pairs.now) c.args.start.now.duals.now c.args.sixtieths.now
    c.greater-duals.result.now c.greater-duals.ensures.either c.requires.known.sound (record {
      feasible = c.requires.feasible;
      count = c.requires.rounded.count ∙ c.requires.answer.are_duals.count ∙ c.requires.pool.is_pool.orders;
      small = c.requires.below;
    })

pub returns : goal.returns
returns c =
    let wave = c.args.start.now.given.wave.now in
    let cover = c.in_ok-cover.cover in
    let exact = c.args.pair.now.duals.items in
    let most = subst (λ (n : ℕ). pos (cost_of cover.parts.items) ≤ℤ (pos 60 *ℤ total_below n (number_at exact))) c.requires.pool.is_pool.orders
    c.in_ok-cover.ensures.least in
    narrow_from wave c.args.start.now.given.pairs.now _ _ cover.parts.items c.args.sixtieths.now c.greater-duals.result.now cover.over exact
    c.args.pair.now.denominator c.in_ok-root.root c.in_ok-root.ensures.from c.in_ok-root.ensures.is c.greater-duals.ensures.left c.greater-duals.ensures.right
    c.requires.rounded c.in_ok-cover.ensures.over (c.requires.answer.are_duals.count ∙ c.requires.pool.is_pool.orders) c.args.start.now.given.some most
