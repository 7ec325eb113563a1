use Rattle.std.proofs.Common.{rules, ◌≡◌, ◌∙◌, pos, FitsSigned, of_z, to_z, arith}
use Rattle.std.specs.Int.{w128}
use Rattle.std.proofs.lemmas.Int.{ints, to_z-of_z}
use Rattle.wp_master.specs.Pivots.{entry_of}
use Rattle.wp_master.proofs.Exchanges.{row_stays}
use Rattle.wp_master.proofs.grid.Grid.exchange_row.Goals as goal

pub returns-then-by-eq0-clause-exchanged : goal.returns-then-by-eq0-clause-exchanged
returns-then-by-eq0-clause-exchanged c =
    let pivot : FitsSigned w128 c.entry.result = search rules in
    let beside : FitsSigned w128 c.entry-2.result = search rules in
    let over : to_z w128 (of_z w128 c.self.inside.denominator) ≡ c.args.self.now.denominator = search rules in
    let read = to_z-of_z w128 c.entry.result pivot ∙ c.entry.ensures in
    let read_beside = to_z-of_z w128 c.entry-2.result beside ∙ c.entry-2.ensures in
    let same : entry_of c.args.self.now c.args.row c.args.place ≡ c.args.self.now.denominator = omega (arith, ints, c.if-by-self.false, over, read) in
    let none : entry_of c.args.self.now c.args.i c.args.place ≡ pos 0 = omega (arith, ints, c.if-by-eq0.true, read_beside) in
    row_stays c.args.self.now c.args.row c.args.place c.args.i none same
