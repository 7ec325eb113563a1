use Rattle.std.proofs.Common.{◌<◌, ◌≤◌, ◌^◌, arith, ⊎_elim}
use Rattle.std.proofs.lemmas.Bool.{cases_lt}
use Rattle.wp_cert.proofs.paying.owed.Goals as goal

pub returns-in-Ok : goal.returns-in-Ok
returns-in-Ok c = λ most low. (
  λ le. omega (arith, low, le, c.requires, c.from.ensures, c.saturating_add-charged.ensures, c.saturating_sub.ensures, c.in-Ok.ensures.1),
  λ le. omega (arith, low, le, c.requires, c.from.ensures, c.saturating_add-charged.ensures, c.saturating_sub.ensures, c.in-Ok.ensures.1),
)

pub returns-in-Err : goal.returns-in-Err
returns-in-Err c = λ most low.
    let much = ⊎_elim (λ (less : c.saturating_sub.result < 2 ^ 64). absurd (c.in-Err.ensures less))
    (λ (more : 2 ^ 64 ≤ c.saturating_sub.result). more) (cases_lt c.saturating_sub.result (2 ^ 64)) in (
      λ le. absurd (omega (arith, low, le)),
      λ le. absurd (omega (arith, low, le, much, c.from.ensures, c.saturating_add-charged.ensures, c.saturating_sub.ensures)),
    )
