use Rattle.std.proofs.Common.{◌≡◌, ◌∙◌, ◌+◌, ◌++◌, ap, ℕ, suc, arith, refl, string_bytes}
use Rattle.std.specs.Prelude.{map}
use Rattle.std.specs.List.{flat_map}
use Rattle.wp_make.specs.Lines.{after_orders, order_lines}
use Rattle.wp_make.specs.Records.{line_record, order_records}
use Rattle.wp_make.specs.Texts.{record_line}
use Rattle.wp_tables.specs.OrderFile.{orders_heading}
use Rattle.wp_make.proofs.Growth.{grown, grown_by_parts}
use Rattle.wp_make.proofs.orders.made_orders_text.Goals as goal

-- the state after one more order
next_order : (orders state : ℕ) → after_orders 1 (after_orders orders state) ≡ after_orders (orders + 1) state
next_order orders state = let more : suc orders ≡ orders + 1 = omega arith in ap (λ (n : ℕ). after_orders n state) more

pub loop-order-preserved : goal.loop-order-preserved
loop-order-preserved c =
    let order = c.loop-order.order in
    let before = c.loop-order.invariant in
    record {
      state = c.in_ok-print_order.ensures.state ∙ ap (after_orders 1) before.state ∙ next_order order c.args.number;
      text = grown (λ order. flat_map record_line (order_records c.args.aisles c.args.number order)) 0 order order (order + 1) (record_line orders_heading)
          (string_bytes c.loop-order.text) (string_bytes c.print_order.new.text) (omega arith) refl before.text
          (c.in_ok-print_order.ensures.lines ∙ ap (λ state. string_bytes c.loop-order.text
          ++ flat_map record_line (map (line_record (order + 1)) (order_lines c.args.aisles state))) before.state);
    }

pub returns : goal.returns
returns c =
    let all : c.loop-order.order ≡ c.args.orders = omega (arith, c.loop-order-test.false, c.loop-order.auto.order-end) in
    ap (λ v. v.items) c.into_bytes.ensures.value
    ∙ grown_by_parts record_line (order_records c.args.aisles c.args.number) 0 c.loop-order.order c.args.orders (record_line orders_heading)
    (string_bytes c.loop-order.text) all c.loop-order.invariant.text
