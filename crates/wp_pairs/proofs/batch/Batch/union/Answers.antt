use Rattle.std.proofs.Common.{arith}
use Rattle.wp_pairs.proofs.Unions.{ones_of_union, union_fits, union_members}
use Rattle.wp_pairs.proofs.Members.{members_are_batch, ones_are_members}
use Rattle.wp_pairs.proofs.batch.Batch.union.Goals as goal

pub invariant_of-result : goal.invariant_of-result
invariant_of-result c = union_fits _ _ c.self.invariant c.other.invariant

pub returns-clause-orders : goal.returns-clause-orders
returns-clause-orders c = rw (← c.self.view_is, ← c.other.view_is) (union_members _ _)

pub returns-clause-count : goal.returns-clause-count
returns-clause-count c =
    let left = c.self.inside.word in
    let right = c.other.inside.word in
    rw (← c.self.view_is, ← c.other.view_is) (omega (
      arith,
      ones_of_union 64 left right c.self.invariant c.other.invariant,
      ones_are_members _ (union_fits left right c.self.invariant c.other.invariant),
      ones_are_members left c.self.invariant,
      ones_are_members right c.other.invariant,
    ))

pub returns-clause-valid : goal.returns-clause-valid
returns-clause-valid c = members_are_batch _
