use Rattle.std.proofs.Common.{rules, ◌∙◌, ap, FitsSigned}
use Rattle.std.specs.Int.{w128}
use Rattle.std.proofs.lemmas.Int.{to_z-of_z}
use Rattle.wp_master.specs.Pivots.{Table}
use Rattle.wp_master.proofs.Exchanges.{pivot_is}
use Rattle.wp_master.proofs.grid.Grid.pivot.Goals as goal

pub returns-clause-made : goal.returns-clause-made
returns-clause-made c =
    let is = c.self.view_is in
    let fits : FitsSigned w128 c.entry.result = search rules in
    pivot_is c.args.self c.exchange.new.self _ c.args.row c.args.place c.requires.not_last c.requires.not_first c.requires.within c.requires.above
    c.in_ok-exchange.ensures.exchanged (ap (λ (t : Table). t.rows) is) (ap (λ (t : Table). t.width) is) (ap (λ (t : Table). t.entries) is)
    (to_z-of_z w128 c.entry.result fits ∙ c.entry.ensures)
