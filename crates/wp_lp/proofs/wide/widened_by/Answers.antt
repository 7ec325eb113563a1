use Rattle.std.proofs.Common.{ℤ, pos, ◌+ℤ◌, ◌≤ℤ◌, w64, rules, subst}
use mir.Val.{SFits}
use Rattle.std.proofs.lemmas.Int.{to_z-of_z}
use Rattle.wp_lp.proofs.Scaled.{lack_from}
use Rattle.wp_lp.proofs.wide.widened_by.Goals as goal

pub returns-clause-lack : goal.returns-clause-lack
returns-clause-lack g c =
    let slack = c.in-Some.found.slack in
    let fits : SFits w64 slack = search rules in
    let above = subst (λ (s : ℤ). pos 0 ≤ℤ (s +ℤ pos c.lack_of.result)) (to_z-of_z w64 slack fits) c.lack_of.ensures.is in
    lack_from c.args.given.now.wave.now c.args.given.now.pairs.now c.args.sixtieths.now.items c.in-Some.found.batch c.args.order slack
    c.lack_of.result (rw c.in-Some.is at c.in_ok-found.ensures.some) above
