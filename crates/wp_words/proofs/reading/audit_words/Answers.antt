use Rattle.wp_words.proofs.Ranges.{audit_cart}
use Rattle.wp_words.proofs.reading.audit_words.Goals as goal

pub invariant_of-result : goal.invariant_of-result
invariant_of-result c = record { cart = audit_cart _ _ c.requires c.in_ok-units.ensures }
