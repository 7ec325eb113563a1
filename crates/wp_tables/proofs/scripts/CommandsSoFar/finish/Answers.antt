use Rattle.std.proofs.Common.{◌∙◌, subst, sym, arith}
use Rattle.std.proofs.lemmas.Iterator.Adapters.{YieldsList-from_vec}
use Rattle.std.proofs.lemmas.Iterator.Consumers.{YieldsList-end, YieldsList-turn}
use Rattle.std.proofs.lemmas.List.{map-id}
use Rattle.wp_tables.specs.DeskFile.{desks_in}
use Rattle.wp_tables.specs.Scripts.{AreDealt}
use Rattle.wp_tables.proofs.Dealing.{dealt_length}
use Rattle.wp_tables.proofs.KeptCommands.{IsWithin, desks_within, scripts_read}
use Rattle.wp_tables.proofs.scripts.CommandsSoFar.finish.Goals as goal

pub deal-requires-clause-last : goal.deal-requires-clause-last
deal-requires-clause-last c =
    let commands = c.self.inside.commands.items in
    let gives = c.into_iter-asked-iterator.ensures.into_iter_gives in
    let from = YieldsList-from_vec {s = c.into_iter-asked-iterator.result} commands gives.0 (gives.1 ∙ c.self.inside.commands.ok.0) in
    let turn = YieldsList-turn from c.loop-asked.yielded _ c.loop-asked.yielded_by c.next.result c.next.new.self c.in-Some.asked c.in-Some.is
    c.next.ensures.steps in
    let within = subst (IsWithin (desks_in commands)) (sym turn.1) (desks_within commands c.self.invariant.each _ c.in-Some.asked turn.0) in
    let dealt = rw (← c.self.view_is) at c.loop-asked.invariant in
    omega (arith, within.1, dealt_length c.loop-asked.yielded (desks_in commands) c.loop-asked.scripts.items dealt)

pub invariant_of-result : goal.invariant_of-result
invariant_of-result c =
    let commands = c.self.inside.commands.items in
    let gives = c.into_iter-asked-iterator.ensures.into_iter_gives in
    let from = YieldsList-from_vec {s = c.into_iter-asked-iterator.result} commands gives.0 (gives.1 ∙ c.self.inside.commands.ok.0) in
    let all = YieldsList-end from c.loop-asked.yielded _ c.loop-asked.yielded_by c.next.result c.next.new.self c.in-None.is c.next.ensures.steps in
    let yielded = sym (map-id c.loop-asked.yielded) ∙ all.0 in
    let dealt = subst (λ taken. AreDealt taken (desks_in commands) c.loop-asked.scripts.items) yielded (rw (← c.self.view_is) at c.loop-asked.invariant) in
    rw dealt (scripts_read commands c.self.inside.submissions c.self.inside.desks c.self.invariant)
