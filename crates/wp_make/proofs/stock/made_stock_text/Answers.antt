use Rattle.std.proofs.Common.{◌≡◌, ◌∙◌, ◌-◌, ◌+◌, ap, arith, string_bytes}
use Rattle.std.specs.List.{flat_map}
use Rattle.wp_make.specs.Records.{aisle_records}
use Rattle.wp_make.specs.Texts.{record_line}
use Rattle.wp_tables.specs.StockFile.{stock_heading}
use Rattle.wp_make.proofs.Growth.{grown, grown_by_parts}
use Rattle.wp_make.proofs.stock.made_stock_text.Goals as goal

pub loop-aisle-preserved : goal.loop-aisle-preserved
loop-aisle-preserved c =
    let aisle = c.loop-aisle.aisle in
    grown (λ aisle. flat_map record_line (aisle_records aisle)) 1 (aisle - 1) aisle (aisle + 1 - 1) (record_line stock_heading)
    (string_bytes c.loop-aisle.text) (string_bytes c.print_aisle.new.text) (omega (arith, c.loop-aisle.auto.aisle)) (omega (arith, c.loop-aisle.auto.aisle))
    c.loop-aisle.invariant c.in_ok-print_aisle.ensures

pub returns : goal.returns
returns c =
    let all : c.loop-aisle.aisle - 1 ≡ c.args.aisles = omega (arith, c.loop-aisle-test.false, c.loop-aisle.auto.aisle, c.loop-aisle.auto.aisle-end) in
    ap (λ v. v.items) c.into_bytes.ensures.value
    ∙ grown_by_parts record_line aisle_records 1 (c.loop-aisle.aisle - 1) c.args.aisles (record_line stock_heading) (string_bytes c.loop-aisle.text) all
    c.loop-aisle.invariant
