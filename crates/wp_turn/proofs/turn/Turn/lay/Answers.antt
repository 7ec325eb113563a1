use Rattle.std.proofs.Common.{rules}
use Rattle.wp_turn.proofs.Steps.{opens}
use Rattle.wp_turn.proofs.turn.Turn.lay.Goals as goal

pub new-requires : goal.new-requires
new-requires g c = opens g.V.Turned.entries g.V.Turned.setting c.of.result.value c.args.callers c.args.opened c.push_reserved.new.self.items (search rules)
    (search rules) (search rules) (search rules)
