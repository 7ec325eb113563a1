use Rattle.std.proofs.Common.{ℕ, List}
use Rattle.wp_outside.specs.Sections.{AreParts}
use Rattle.wp_outside.specs.Writing.{Writes}
use Rattle.wp_outside.proofs.section.write_parts.Given as goal

-- the parts before this one were written, or wait
abbrev pub invariant-loop-number : goal.invariant-loop-number
invariant-loop-number g l = (text : List ℕ) × AreParts (g.P.Parts.says l.fn.parts) l.number text
    × Writes (g.K.Sink.told l.initial.out) (g.K.Sink.told l.out) l.initial.waiting.items l.waiting.items text
