use Rattle.std.proofs.Common.{◌≡◌, ◌∙◌, Bool, ap, arith, length, sym, take}
use Rattle.std.proofs.Math.Seq.{take-length}
use Rattle.std.specs.List.{list_all}
use Rattle.std.proofs.lemmas.Bool.{and_from}
use Rattle.std.proofs.lemmas.List.Folds.{list_all-map, list_all_at, list_all_more}
use Rattle.serde_json.specs.View.{view}
use Rattle.serde_json.specs.declared.value.Value.{Value}
use Rattle.wp_layout.specs.LayoutFile.{is_whole}
use Rattle.wp_layout.proofs.spacings.are_whole.Goals as goal

abbrev test : Value → Bool
test v = is_whole (view v)

pub returns-then-not-is_whole : goal.returns-then-not-is_whole
returns-then-not-is_whole c =
    sym (list_all-map is_whole view c.args.values.now
    ∙ list_all_at test c.args.values.now c.loop-value.value-index c.value-item.result (omega arith)
    (ap test (sym c.value-item.is) ∙ sym c.is_whole.ensures ∙ c.if-not-is_whole.true))

pub loop-value-preserved : goal.loop-value-preserved
loop-value-preserved c =
    list_all_more test c.args.values.now c.loop-value.value-index c.value-item.result (omega arith)
    ∙ and_from _ _ c.loop-value.invariant (ap test (sym c.value-item.is) ∙ sym c.is_whole.ensures ∙ c.if-not-is_whole.false)

pub returns : goal.returns
returns c =
    let values = c.args.values.now in
    let all : length values ≡ c.loop-value.value-index = omega arith in
    sym (list_all-map is_whole view c.args.values.now
    ∙ ap (list_all test) (sym (take-length values)) ∙ ap (λ n. list_all test (take n values)) all ∙ c.loop-value.invariant)
