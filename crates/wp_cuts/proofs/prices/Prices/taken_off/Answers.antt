use Rattle.std.proofs.Common.{◌<◌, ◌≤◌, ap, arith, inl, inr, length, ⊎_elim}
use Rattle.std.proofs.lemmas.Bool.{cases_lt}
use Rattle.wp_cuts.specs.Prices.{NodePrices}
use Rattle.wp_cuts.proofs.TakenOff.{off_end}
use Rattle.wp_cuts.proofs.prices.Prices.taken_off.Goals as goal

pub returns-clause-is : goal.returns-clause-is
returns-clause-is c =
    let cuts = c.args.cuts.now.items in
    let prices = c.args.self.now.cuts in
    let count = ap (λ (p : NodePrices). length p.cuts) c.self.view_is in
    let none = off_end cuts prices c.args.batch c.loop-at.at (⊎_elim
    (λ (low : c.loop-at.at < length cuts). inr (omega (arith, low, c.loop-at-test.false, c.min-at-end.ensures, c.len.ensures, c.len-2.ensures, count)))
    (λ (high : length cuts ≤ c.loop-at.at). inl high)
    (cases_lt c.loop-at.at (length cuts))) in
    omega (arith, c.loop-at.invariant.so_far, none)
