use Rattle.std.proofs.Common.{◌≡◌, List, sym}
use Rattle.wp_model.proofs.Elements.{All-at}
use Rattle.wp_node.specs.declared.work.Weighted.{Weighted}
use Rattle.wp_node.proofs.choice.has_one_length.Goals as goal

pub returns-in-Some : goal.returns-in-Some
returns-in-Some c = (
  λ told. record { one = c.in-Some.first.now.column.length; same = c.have_length.ensures.0 told },
  λ has.
      let columns : List Weighted = c.args.weighted.now in
      let first = All-at (λ (each : Weighted). each.column.length ≡ has.one) columns 0 c.in-Some.first.now has.same (sym c.in-Some.ensures.value) in
      c.have_length.ensures.1 (λ place other within. cc (has.same place other within, first)),
)
