use Rattle.std.proofs.Common.{◌≡◌, ◌-◌, ◌+◌, arith, string_bytes}
use Rattle.wp_make.specs.Lines.{made_slots}
use Rattle.wp_make.specs.Records.{aisle_records, stock_record}
use Rattle.wp_make.specs.Texts.{record_line}
use Rattle.wp_make.proofs.Growth.{grown, grown_by_each}
use Rattle.wp_make.proofs.stock.print_aisle.Goals as goal

pub loop-slot-preserved : goal.loop-slot-preserved
loop-slot-preserved c =
    let slot = c.loop-slot.slot in
    grown (λ slot. record_line (stock_record c.args.aisle slot)) 1 (slot - 1) slot (slot + 1 - 1) (string_bytes c.args.text.now) (string_bytes c.loop-slot.text)
    (string_bytes c.print_row.new.text) (omega (arith, c.loop-slot.auto.slot)) (omega (arith, c.loop-slot.auto.slot)) c.loop-slot.invariant
    c.in_ok-print_row.ensures

pub returns : goal.returns
unfolding aisle_records
returns c =
    let all : c.loop-slot.slot - 1 ≡ made_slots = omega (arith, c.loop-slot-test.false, c.loop-slot.auto.slot, c.loop-slot.auto.slot-end) in
    grown_by_each record_line (stock_record c.args.aisle) 1 (c.loop-slot.slot - 1) made_slots (string_bytes c.args.text.now) (string_bytes c.loop-slot.text) all
    c.loop-slot.invariant
