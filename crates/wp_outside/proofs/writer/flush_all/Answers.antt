use Rattle.wp_outside.proofs.Telling.{kept_is_same}
use Rattle.wp_outside.proofs.writer.flush_all.Goals as goal

pub returns : goal.returns
returns g c = kept_is_same _ _ (g.met.W.Tells.alike c.args.out.now c.flush.new.self) c.flush.ensures.bytes
