use Rattle.std.proofs.Common.{◌<◌, ◌≤◌, arith, inl, inr, length, ⊎_elim}
use Rattle.std.proofs.lemmas.Bool.{cases_lt}
use Rattle.wp_cuts.proofs.TakenOff.{off_all_end}
use Rattle.wp_cert.proofs.paying.taken_off_all.Goals as goal

pub returns-clause-is : goal.returns-clause-is
returns-clause-is c =
    let cuts = c.args.cuts.now.items in
    let none = off_all_end cuts c.args.prices.now c.loop-at.at (⊎_elim
    (λ (low : c.loop-at.at < length cuts). inr (omega (arith, low, c.loop-at-test.false, c.min-at-end.ensures, c.len.ensures)))
    (λ (high : length cuts ≤ c.loop-at.at). inl high)
    (cases_lt c.loop-at.at (length cuts))) in
    omega (arith, c.loop-at.invariant.so_far, none)
