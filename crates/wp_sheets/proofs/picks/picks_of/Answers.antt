use Rattle.std.proofs.Common.{rules, ◌≡◌}
use Rattle.std.proofs.lemmas.List.Sorted.{answers_always}
use Rattle.wp_model.specs.declared.row.Hold.{Hold}
use Rattle.wp_sheets.proofs.PicksByRow.{by_row}
use Rattle.wp_sheets.proofs.picks.picks_of.Goals as goal

pub returns : goal.returns
returns c =
    let sorted = c.sort_unstable_by_key.ensures.sorted (λ (hold : Hold). (hold.row, hold.order, hold.quantity))
    (answers_always _ (λ a r. r ≡ (a.0.now.row, a.0.now.order, a.0.now.quantity)) _ (λ f a r q k. search rules)) in
    by_row c.args.holds.now c.args.batch c.in_ok-picks.picks.items _ c.in_ok-picks.ensures c.sort_unstable_by_key.ensures.permutation sorted
