use Rattle.std.proofs.Common.{◌∙◌, append_assoc}
use Rattle.wp_outgoing.proofs.Written.{told}
use Rattle.wp_outgoing.proofs.lines.append_release.Goals as goal

pub returns : goal.returns
returns c = told c.writeln.result _ c.or.result c.or.ensures c.writeln.ensures.bytes (λ is. is ∙ simp append_assoc)
