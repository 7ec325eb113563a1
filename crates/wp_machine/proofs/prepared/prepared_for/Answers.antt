use Rattle.std.proofs.Common.{ap, sym}
use Rattle.wp_floor.specs.declared.held.Claim.{Claim}
use Rattle.wp_floor.proofs.RowNumbers.{row_within}
use Rattle.wp_machine.proofs.prepared.prepared_for.Goals as goal

pub for_refill-requires-clause-row : goal.for_refill-requires-clause-row
for_refill-requires-clause-row c =
    row_within c.args.opening.now.stock.rows c.in-Missing.location c.claim_of-claim.result.row
    (sym (ap (λ (claim : Claim). claim.row) c.claim_of-claim.ensures))
