use Rattle.std.proofs.Common.{◌≡◌, ◌/◌, ◌∙◌, ℕ, arith, ap, get_or}
use Rattle.std.specs.Int.{bit_at}
use Rattle.std.proofs.lemmas.Grind.{get_or_default_zero}
use Rattle.wp_lengths.proofs.MarkLists.{written_elsewhere, written_here}
use Rattle.wp_lengths.proofs.marks.write_mark.Goals as goal

pub returns-clause-here : goal.returns-clause-here
returns-clause-here c = written_here _ _ _ _ c.requires c.with_bit.ensures.here

pub returns-clause-elsewhere : goal.returns-clause-elsewhere
returns-clause-elsewhere c =
    let read : c.index.result.now ≡ get_or c.args.bytes.now.items (c.args.place / 8) 0 =
    c.index.ensures ∙ get_or_default_zero c.args.bytes.now.items (c.args.place / 8) c.index.result.now (omega (arith, c.requires)) in
    λ other ne. written_elsewhere _ _ _ other c.requires ne
    (λ k small differs. c.with_bit.ensures.elsewhere k small differs ∙ ap (λ (b : ℕ). bit_at b k) read)
