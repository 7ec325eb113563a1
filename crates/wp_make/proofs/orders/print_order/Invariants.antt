use Rattle.std.proofs.Common.{◌≡◌, ◌*◌, ◌++◌, string_bytes}
use Rattle.std.specs.List.{flat_map, range_with_len}
use Rattle.wp_draws.specs.Draws.{state_after}
use Rattle.wp_make.specs.Lines.{line_from}
use Rattle.wp_make.specs.Records.{line_record}
use Rattle.wp_make.specs.Texts.{record_line}
use Rattle.wp_make.proofs.orders.print_order.Given as goal

-- so many lines were drawn and written
abbrev pub invariant-loop : goal.invariant-loop
invariant-loop l = record {
  state : l.generator ≡ state_after (3 * l.counter) (state_after 1 l.fn.generator);
  text : string_bytes l.text ≡ string_bytes l.fn.text
      ++ flat_map (λ line. record_line (line_record l.order (line_from l.aisles (state_after (3 * line) (state_after 1 l.fn.generator)))))
      (range_with_len 0 l.counter);
}
