use Rattle.std.proofs.Common.{◌≡◌, ◌++◌, string_bytes}
use Rattle.std.specs.List.{flat_map, range_with_len}
use Rattle.wp_make.specs.Lines.{after_orders}
use Rattle.wp_make.specs.Records.{order_records}
use Rattle.wp_make.specs.Texts.{record_line}
use Rattle.wp_tables.specs.OrderFile.{orders_heading}
use Rattle.wp_make.proofs.orders.made_orders_text.Given as goal

-- the heading was written, and so many orders were drawn and written
abbrev pub invariant-loop-order : goal.invariant-loop-order
invariant-loop-order l = record {
  state : l.generator ≡ after_orders l.order l.number;
  text : string_bytes l.text ≡ record_line orders_heading
      ++ flat_map (λ order. flat_map record_line (order_records l.aisles l.number order)) (range_with_len 0 l.order);
}
