use Rattle.std.proofs.Common.{◌-◌, refl, arith}
use Rattle.wp_tables.proofs.Dealing.{dealt_more}
use Rattle.wp_tables.specs.declared.scripts.DeskScript.{DeskScript}
use Rattle.wp_tables.proofs.scripts.deal.Goals as goal

pub returns : goal.returns
returns c commands desks =
    let new : DeskScript = record { desk = c.index_mut.result.now.desk; commands = c.push.new.self } in
    dealt_more commands desks c.args.scripts.now.items c.args.asked (c.args.asked.desk - 1) c.index_mut.result.now new
    (omega (arith, c.requires.first)) (omega (arith, c.requires.first, c.requires.last)) c.index_mut.ensures.value refl c.in_ok-push.ensures.items
