use Rattle.std.proofs.Common.{◌+◌, ◌*◌, ◌∙◌, ℤ, ap, set, subst}
use Rattle.std.specs.Int.{w128}
use Rattle.std.proofs.lemmas.Int.{to_z-of_z}
use Rattle.wp_master.proofs.Exchanges.{put_is}
use Rattle.wp_master.specs.Pivots.{IsTable, Table}
use Rattle.wp_master.proofs.grid.Grid.put.Goals as goal

pub returns : goal.returns
returns c =
    let is = c.self.view_is in
    put_is c.args.self.now _ c.args.row c.args.place c.args.entry (subst IsTable is c.self.invariant) c.requires.row c.requires.place
    (ap (λ (t : Table). t.rows) is) (ap (λ (t : Table). t.width) is) (ap (λ (t : Table). t.denominator) is)
    (ap (λ (x : ℤ). set c.self.inside.entries.items (c.args.row * c.self.inside.width + c.args.place) x) (to_z-of_z w128 c.args.entry c.ranges.entry)
    ∙ ap (λ (t : Table). set t.entries (c.args.row * t.width + c.args.place) c.args.entry) is)
