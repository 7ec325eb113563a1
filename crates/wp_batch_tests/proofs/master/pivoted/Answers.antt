use Rattle.std.proofs.Common.{rules, ◌≡◌, pos}
use Rattle.std.proofs.lemmas.Int.{to_z-of_z}
use Rattle.wp_master.proofs.Entries.{whole_over_one}
use Rattle.wp_batch_tests.proofs.master.pivoted.Goals as goal

pub pivot-requires-clause-whole : goal.pivot-requires-clause-whole
pivot-requires-clause-whole c =
    let one : c.in_ok-table.table.denominator ≡ pos 1 = search (rules, to_z-of_z) in
    whole_over_one c.in_ok-table.table c.in-Some.row c.in-Some.place one
