use Rattle.std.proofs.Common.{◌-◌, Contains, List, ℕ, arith, inl, subst}
use Rattle.wp_cert.proofs.levels.Levels.made_for.Goals as goal

pub raised-requires-clause-level : goal.raised-requires-clause-level
raised-requires-clause-level c = c.requires.levels (7 - c.loop-lower.lower) c.index-self-lower.result (omega arith) c.in-Some.level c.in-Some.is

pub raised-requires-clause-some : goal.raised-requires-clause-some
raised-requires-clause-some c = λ order of.
    subst (λ (batch : List ℕ). Contains batch order) (c.is.ensures.0 c.if-is.true) ((c.union.ensures.orders order).1 (inl of))

pub raised-requires-2-clause-some : goal.raised-requires-2-clause-some
raised-requires-2-clause-some c = λ order of. absurd (c.lowest.ensures.batch order of)
