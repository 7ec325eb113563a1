use Rattle.std.proofs.Common.{◌*◌, ◌/◌, ℕ, ap, ◌∙◌}
use Rattle.wp_cuts.proofs.TableRows.{by_inverse}
use Rattle.wp_cuts.proofs.table.off_parts.Goals as goal

pub returns-clause-is : goal.returns-clause-is
returns-clause-is c = λ divisor of_it.
    ap (λ (p : ℕ). p * c.from-3.result) c.from.ensures
    ∙ ap (λ (n : ℕ). c.args.price * n)
    (c.from-3.ensures ∙ ap (λ (p : ℕ). p * c.args.inverse / 65536) c.from-2.ensures ∙ by_inverse c.args.parts divisor c.args.inverse c.requires.small of_it)
