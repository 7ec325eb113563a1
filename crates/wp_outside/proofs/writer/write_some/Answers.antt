use Rattle.wp_outside.proofs.Telling.{taken_grows, untaken_is_same}
use Rattle.wp_outside.proofs.writer.write_some.Goals as goal

pub returns-clause-takes : goal.returns-clause-takes
returns-clause-takes g c = taken_grows _ _ c.args.piece.now c.write.result (g.met.W.Tells.alike c.args.out.now c.write.new.self) c.write.ensures.bytes

pub returns-clause-nothing : goal.returns-clause-nothing
returns-clause-nothing g c = untaken_is_same _ _ c.args.piece.now c.write.result (g.met.W.Tells.alike c.args.out.now c.write.new.self) c.write.ensures.bytes
