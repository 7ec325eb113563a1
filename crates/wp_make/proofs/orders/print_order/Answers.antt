use Rattle.std.proofs.Common.{◌≡◌, ◌∙◌, ◌*◌, ◌+◌, ◌++◌, ap, ℕ, suc, arith, refl, string_bytes}
use Rattle.std.specs.List.{flat_map, range_with_len}
use Rattle.wp_draws.specs.Draws.{state_after}
use Rattle.wp_make.specs.Lines.{line_count, line_from}
use Rattle.wp_make.specs.Records.{line_record}
use Rattle.wp_make.specs.Texts.{record_line}
use Rattle.wp_make.specs.declared.generator.MadeLine.{MadeLine}
use Rattle.wp_make.proofs.Growth.{grown, grown_by_each, mapped}
use Rattle.wp_make.proofs.orders.print_order.Goals as goal

-- three more draws
three_more : (n state : ℕ) → state_after 3 (state_after (3 * n) state) ≡ state_after (3 * (n + 1)) state
three_more n state = let more : suc (suc (suc (3 * n))) ≡ 3 * (n + 1) = omega arith in ap (λ (draws : ℕ). state_after draws state) more

pub loop-preserved : goal.loop-preserved
loop-preserved c =
    let start = state_after 1 c.args.generator.now in
    let before = c.loop.invariant in
    record {
      state = c.draw_line.ensures.state ∙ ap (state_after 3) before.state ∙ three_more c.loop.counter start;
      text = grown (λ line. record_line (line_record c.args.order (line_from c.args.aisles (state_after (3 * line) start)))) 0 c.loop.counter c.loop.counter
          (c.loop.counter + 1) (string_bytes c.args.text.now)
          (string_bytes c.loop.text) (string_bytes c.print_line.new.text) (omega arith) refl before.text
          (c.in_ok-print_line.ensures ∙ ap (λ line. string_bytes c.loop.text ++ record_line (line_record c.args.order line))
          (c.draw_line.ensures.line ∙ ap (line_from c.args.aisles) before.state));
    }

pub returns-clause-lines : goal.returns-clause-lines
returns-clause-lines c =
    let state = c.args.generator.now in
    let start = state_after 1 state in
    let line_of : ℕ → MadeLine = λ line. line_from c.args.aisles (state_after (3 * line) start) in
    let all : c.loop.counter ≡ line_count state = omega (arith, c.loop-test.false, c.loop.auto.counter-end, c.draw_line_count-end.ensures.count) in
    grown_by_each record_line (λ line. line_record c.args.order (line_of line)) 0 c.loop.counter (line_count state) (string_bytes c.args.text.now)
    (string_bytes c.loop.text) all c.loop.invariant.text
    ∙ ap (λ records. string_bytes c.args.text.now ++ flat_map record_line records)
    (mapped (line_record c.args.order) line_of (range_with_len 0 (line_count state)))
