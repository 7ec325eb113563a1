use Rattle.std.proofs.Common.{sym, ap, ◌∙◌, arith, ◌<◌}
use Rattle.std.specs.Prelude.{slice_get}
use Rattle.wp_pairs.specs.Batches.{members}
use Rattle.wp_pairs.proofs.Members.{members-zero, first_member, members_are_batch}
use Rattle.wp_pairs.proofs.batch.Batch.least.Goals as goal

pub returns-then-self-eq0-clause-first : goal.returns-then-self-eq0-clause-first
returns-then-self-eq0-clause-first c = rw (← c.self.view_is) (sym
    (ap (λ word. slice_get (members word) 0) c.if-self-eq0.true ∙ ap (λ xs. slice_get xs 0) members-zero))

pub returns-clause-first : goal.returns-clause-first
returns-clause-first c =
    let some : 0 < c.self.inside.word = omega (arith, c.if-self-eq0.false) in
    rw (← c.self.view_is) (sym (first_member c.self.inside.word some c.self.invariant))

pub returns-then-self-eq0-clause-valid : goal.returns-then-self-eq0-clause-valid
returns-then-self-eq0-clause-valid c = rw (← c.self.view_is) (members_are_batch _)

pub returns-clause-valid : goal.returns-clause-valid
returns-clause-valid c = rw (← c.self.view_is) (members_are_batch _)
