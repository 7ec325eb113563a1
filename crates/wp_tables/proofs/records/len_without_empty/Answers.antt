use Rattle.std.proofs.Common.{◌∙◌, ◌-◌, ap, sym, take, arith}
use Rattle.csv.specs.Records.{fields_of}
use Rattle.wp_tables.specs.Records.{trimmed}
use Rattle.wp_tables.proofs.Trimming.{take_got, trimmed_empty, trimmed_end}
use Rattle.wp_tables.proofs.records.len_without_empty.Goals as goal

pub loop-len-preserved : goal.loop-len-preserved
loop-len-preserved c =
    let fields = fields_of c.args.fields.now in
    let before = c.loop-len.len - 1 in
    let last = take_got fields before c.loop-len.len c.field_of.result.now (omega arith) c.field_of.ensures in (
      sym (trimmed_empty (take before fields) c.field_of.result.now (sym c.is_empty.ensures ∙ c.if-is_empty.true)) ∙ ap trimmed (sym last)
          ∙ c.loop-len.invariant.0,
      omega arith,
    )

pub returns-else-is_empty : goal.returns-else-is_empty
returns-else-is_empty c =
    let fields = fields_of c.args.fields.now in
    let before = c.loop-len.len - 1 in
    let last = take_got fields before c.loop-len.len c.field_of.result.now (omega arith) c.field_of.ensures in
    last ∙ sym (trimmed_end (take before fields) c.field_of.result.now (sym c.is_empty.ensures ∙ c.if-is_empty.false)) ∙ ap trimmed (sym last)
    ∙ c.loop-len.invariant.0
