use Rattle.std.proofs.Common.{◌∙◌, ℕ, ap, sym, eqb, eq-eqb}
use Rattle.std.specs.Int.{w8}
use Rattle.std.proofs.lemmas.Nat.Bits.{bit_at_clear_other, bit_at_clear_same, bit_at_set_other, bit_at_set_same}
use Rattle.wp_lengths.proofs.marks.with_bit.Goals as goal

pub returns-then-mark-clause-here : goal.returns-then-mark-clause-here
returns-then-mark-clause-here c = eq-eqb _ _ (bit_at_set_same w8 c.args.byte c.args.at c.requires) ∙ sym c.if-mark.true

pub returns-then-mark-clause-elsewhere : goal.returns-then-mark-clause-elsewhere
returns-then-mark-clause-elsewhere c = λ k small ne. bit_at_set_other w8 c.args.byte c.args.at c.requires k ne

pub returns-else-mark-clause-here : goal.returns-else-mark-clause-here
returns-else-mark-clause-here c = ap (λ (d : ℕ). eqb d 1) (bit_at_clear_same w8 c.args.byte c.args.at c.requires) ∙ sym c.if-mark.false

pub returns-else-mark-clause-elsewhere : goal.returns-else-mark-clause-elsewhere
returns-else-mark-clause-elsewhere c = λ k small ne. bit_at_clear_other w8 c.args.byte c.args.at c.requires k small ne
