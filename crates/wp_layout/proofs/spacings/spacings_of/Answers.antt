use Rattle.std.proofs.Common.{◌≡◌, ◌++◌, ◌∷◌, [], Bool, List, ℕ, ◌+◌, ◌∙◌, ap, arith, length-set, map, sym, take}
use Rattle.std.proofs.lemmas.List.{map-append, take_more, take_more_set}
use Rattle.std.proofs.lemmas.List.Folds.{list_all-map}
use Rattle.std.proofs.lemmas.List.Sums.{AllPass-from_list_all}
use Rattle.serde_json.specs.Data.{Data}
use Rattle.serde_json.specs.View.{view}
use Rattle.serde_json.specs.declared.value.Value.{Value}
use Rattle.wp_model.specs.Limits.{greatest_length}
use Rattle.wp_layout.specs.LayoutFile.{is_ranged, whole_or_zero}
use Rattle.wp_layout.proofs.spacings.spacings_of.Goals as goal

abbrev test : Value → Bool
test v = is_ranged greatest_length (whole_or_zero (view v))

abbrev numbers : List Value → List ℕ
numbers vs = map whole_or_zero (map view vs)

pub spacing_of-requires : goal.spacing_of-requires
spacing_of-requires c =
    ap test c.index-values-index.is
    ∙ AllPass-from_list_all test c.args.values.now
    (sym (list_all-map (is_ranged greatest_length) whole_or_zero (map view c.args.values.now)
    ∙ list_all-map (λ (d : Data). is_ranged greatest_length (whole_or_zero d)) view c.args.values.now) ∙ c.requires.ranged)
    c.loop-index.index c.index-values-index.result (omega arith)

pub loop-index-preserved : goal.loop-index-preserved
loop-index-preserved c =
    let values = c.args.values.now in
    let index = c.loop-index.index in
    let v : Value = c.index-values-index.result in
    let next : take (index + 1) values ≡ take index values ++ v ∷ [] =
    take_more values index v (omega arith) ∙ ap (λ (x : Value). take index values ++ x ∷ []) (sym c.index-values-index.is) in
    let more : numbers (take (index + 1) values) ≡ numbers (take index values) ++ whole_or_zero (view v) ∷ [] =
    ap numbers next ∙ ap (map whole_or_zero) (map-append view (take index values) (v ∷ [])) ∙ map-append whole_or_zero (map view (take index values))
    (view v ∷ []) in
    record {
      whole = length-set c.loop-index.spacings index _ ∙ c.loop-index.invariant.whole;
      taken = take_more_set c.loop-index.spacings index c.spacing_of.result (omega (arith, c.loop-index.invariant.whole, c.requires.few))
          ∙ ap (λ (ns : List ℕ). ns ++ c.spacing_of.result ∷ []) c.loop-index.invariant.taken
          ∙ ap (λ (n : ℕ). numbers (take index values) ++ n ∷ []) c.spacing_of.ensures ∙ sym more;
    }
