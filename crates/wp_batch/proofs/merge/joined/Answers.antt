use Rattle.std.proofs.Common.{List, ℕ, subst, sym}
use Rattle.wp_batch.specs.Joins.{NoJoinGains}
use Rattle.wp_batch.proofs.Costs.{no_more_through}
use Rattle.wp_batch.proofs.merge.joined.Goals as goal

pub returns-clause-joined : goal.returns-clause-joined
returns-clause-joined c =
    subst (λ (batches : List (List ℕ)). NoJoinGains c.args.wave.now c.args.capacity batches) (sym c.of.ensures) c.merge.ensures.joined

pub returns-clause-no_dearer : goal.returns-clause-no_dearer
returns-clause-no_dearer c = rw c.of.ensures (no_more_through c.args.wave.now _ _ _ c.in_ok-start.ensures.no_dearer c.merge.ensures.no_dearer)
