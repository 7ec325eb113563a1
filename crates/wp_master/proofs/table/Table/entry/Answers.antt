use Rattle.std.proofs.Common.{◌∙◌, ap, sym, FitsSigned, rules, ℤ}
use Rattle.std.specs.Int.{w128}
use Rattle.std.proofs.lemmas.Int.{to_z-of_z}
use Rattle.wp_master.proofs.Spots.{told_entry}
use Rattle.wp_master.specs.Spots.{entry_at, unit_entry}
use Rattle.wp_master.proofs.table.Table.entry.Goals as goal

pub returns-in-Stored : goal.returns-in-Stored
returns-in-Stored c =
    let fits : FitsSigned w128 c.entry.result = search rules in
    to_z-of_z w128 c.entry.result fits ∙ c.entry.ensures
    ∙ ap (entry_at c.self.inside.stored c.args.row) (sym c.in-Stored.is)
    ∙ told_entry c.self.inside.stored c.args.self.now c.self.inside.spots.items c.as_slice.result.now c.args.row c.args.place c.spot_at.result c.self.view_is
    c.requires.row c.requires.place c.as_slice.ensures.value c.spot_at.ensures

pub returns-in-Basic : goal.returns-in-Basic
returns-in-Basic c =
    let fits : FitsSigned w128 c.unit_entry.result = search rules in
    let bits : FitsSigned w128 c.denominator.result = search rules in
    to_z-of_z w128 c.unit_entry.result fits ∙ c.unit_entry.ensures
    ∙ ap (λ (d : ℤ). unit_entry d c.in-Basic.own c.args.row) (to_z-of_z w128 c.denominator.result bits ∙ c.denominator.ensures.value)
    ∙ ap (entry_at c.self.inside.stored c.args.row) (sym c.in-Basic.is)
    ∙ told_entry c.self.inside.stored c.args.self.now c.self.inside.spots.items c.as_slice.result.now c.args.row c.args.place c.spot_at.result c.self.view_is
    c.requires.row c.requires.place c.as_slice.ensures.value c.spot_at.ensures
