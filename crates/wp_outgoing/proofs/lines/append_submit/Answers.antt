use Rattle.std.proofs.Common.{◌∙◌, append_assoc}
use Rattle.wp_outgoing.proofs.Written.{told}
use Rattle.wp_outgoing.proofs.lines.append_submit.Goals as goal

pub returns : goal.returns
returns c = told c.write.result _ c.or.result c.or.ensures c.write.ensures.bytes (λ is. is ∙ simp append_assoc)
