use Rattle.std.proofs.Common.{◌∙◌, ◌+◌, ap, sym, drop}
use Rattle.std.specs.List.{list_all}
use Rattle.std.specs.Str.{is_utf8}
use Rattle.csv.specs.Records.{fields_of}
use Rattle.wp_tables.proofs.ByPlace.{all_but_first, all_from_first, drop_got}
use Rattle.wp_tables.proofs.fields.are_texts.Goals as goal

pub returns-then-not-is_text : goal.returns-then-not-is_text
returns-then-not-is_text c =
    let fields = fields_of c.args.fields.now in
    let cons = drop_got fields c.loop-i.i c.field_of.result.now c.field_of.ensures in
    sym (c.loop-i.invariant ∙ ap (list_all is_utf8) cons ∙ all_but_first is_utf8 c.field_of.result.now (drop (c.loop-i.i + 1) fields)
    (sym c.is_text.ensures ∙ c.if-not-is_text.true))

pub loop-i-preserved : goal.loop-i-preserved
loop-i-preserved c =
    let fields = fields_of c.args.fields.now in
    let cons = drop_got fields c.loop-i.i c.field_of.result.now c.field_of.ensures in
    c.loop-i.invariant ∙ ap (list_all is_utf8) cons ∙ all_from_first is_utf8 c.field_of.result.now (drop (c.loop-i.i + 1) fields)
    (sym c.is_text.ensures ∙ c.if-not-is_text.false)
