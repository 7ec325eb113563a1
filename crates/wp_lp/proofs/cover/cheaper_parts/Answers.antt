use Rattle.std.proofs.Common.{◌<◌, ◌≤◌, ◌*◌, ◌/◌, ℕ, arith, ap, subst, ◌∙◌}
use Rattle.wp_lp.specs.Parts.{cost_of}
use Rattle.wp_lp.proofs.Within.{kept_cover, priced_cover}
use Rattle.wp_lp.proofs.cover.cheaper_parts.Goals as goal

pub returns-then-quotient-start-clause-is : goal.returns-then-quotient-start-clause-is
returns-then-quotient-start-clause-is c =
    kept_cover c.args.start.now.given.wave.now c.args.start.now.given.pairs.now c.args.start.now.cost c.args.parts.items c.args.over c.requires.some
    c.requires.small c.requires.exact c.requires.each c.requires.fits
    (subst (λ (t : ℕ). t / (60 * c.args.over) < c.args.start.now.cost) (c.high_of.ensures ∙ ap cost_of c.as_slice.ensures.value) c.if-quotient-start.true)

pub returns-clause-is : goal.returns-clause-is
returns-clause-is c =
    let high : c.args.start.now.cost ≤ c.high_of.result / (60 * c.args.over) = omega (arith, c.if-quotient-start.false) in
    (priced_cover c.args.start.now.given.wave.now c.args.start.now.given.pairs.now c.args.start.now.batches.now c.args.start.now.cost
    (cost_of c.args.parts.items) c.in_ok-known.known.items c.args.over c.requires.some c.requires.small c.in_ok-known.ensures.exact c.in_ok-known.ensures.each
    c.in_ok-known.ensures.cost c.requires.known.priced c.requires.fits
    (subst (λ (t : ℕ). c.args.start.now.cost ≤ t / (60 * c.args.over)) (c.high_of.ensures ∙ ap cost_of c.as_slice.ensures.value) high)).0

pub returns-clause-no_dearer : goal.returns-clause-no_dearer
returns-clause-no_dearer c =
    let high : c.args.start.now.cost ≤ c.high_of.result / (60 * c.args.over) = omega (arith, c.if-quotient-start.false) in
    (priced_cover c.args.start.now.given.wave.now c.args.start.now.given.pairs.now c.args.start.now.batches.now c.args.start.now.cost
    (cost_of c.args.parts.items) c.in_ok-known.known.items c.args.over c.requires.some c.requires.small c.in_ok-known.ensures.exact c.in_ok-known.ensures.each
    c.in_ok-known.ensures.cost c.requires.known.priced c.requires.fits
    (subst (λ (t : ℕ). c.args.start.now.cost ≤ t / (60 * c.args.over)) (c.high_of.ensures ∙ ap cost_of c.as_slice.ensures.value) high)).1
