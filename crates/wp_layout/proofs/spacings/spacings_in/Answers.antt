use Rattle.std.proofs.Common.{◌≡◌, ◌-◌, ◌==◌, ◌∙◌, List, ℕ, All, Ok, ap, arith, length, map, refl, subst, sym, take, true, false}
use Rattle.std.proofs.lemmas.Bool.{eq-eqb, ne_eqb}
use Rattle.serde_json.specs.View.{view}
use Rattle.wp_model.specs.Limits.{greatest_length}
use Rattle.wp_model.specs.Warehouse.{IsUpTo}
use Rattle.wp_layout.specs.LayoutFile.{whole_or_zero}
use Rattle.wp_layout.proofs.Ranged.{counted, ranged_all}
use Rattle.wp_layout.proofs.spacings.spacings_in.Goals as goal

pub returns-then-not-are_whole-clause-refusal : goal.returns-then-not-are_whole-clause-refusal
returns-then-not-are_whole-clause-refusal c = rw (sym c.are_whole.ensures ∙ c.if-not-are_whole.true) refl

pub returns-then-values-aisles-clause-refusal : goal.returns-then-values-aisles-clause-refusal
returns-then-values-aisles-clause-refusal c =
    let other : (length (map whole_or_zero (map view c.args.values.now)) == c.args.aisles - 1) ≡ false =
    ne_eqb _ _ (λ e. let n = counted c.args.values.now in c.if-values-aisles.true (omega (arith, e, n))) in
    rw (sym c.are_whole.ensures ∙ c.if-not-are_whole.false, other) refl

pub returns-then-not-are_spacings-clause-refusal : goal.returns-then-not-are_spacings-clause-refusal
returns-then-not-are_spacings-clause-refusal c =
    let same : (length (map whole_or_zero (map view c.args.values.now)) == c.args.aisles - 1) ≡ true =
    eq-eqb _ _ (let n = counted c.args.values.now in omega (arith, n, c.if-values-aisles.false)) in
    rw (sym c.are_whole.ensures ∙ c.if-not-are_whole.false, same, sym c.are_spacings.ensures ∙ c.if-not-are_spacings.true) refl

pub returns-clause-ok : goal.returns-clause-ok
returns-clause-ok c =
    let same : (length (map whole_or_zero (map view c.args.values.now)) == c.args.aisles - 1) ≡ true =
    eq-eqb _ _ (let n = counted c.args.values.now in omega (arith, n, c.if-values-aisles.false)) in
    let all : length c.args.values.now ≡ c.args.aisles - 1 = omega (arith, c.if-values-aisles.false) in
    let taken : map whole_or_zero (map view c.args.values.now) ≡ take (c.args.aisles - 1) c.spacings_of.result =
    sym c.spacings_of.ensures.spacings ∙ ap (λ n. take n c.spacings_of.result) all in
    (rw (sym c.are_whole.ensures ∙ c.if-not-are_whole.false, same, sym c.are_spacings.ensures ∙ c.if-not-are_spacings.false) refl) ∙ ap Ok taken

pub returns-clause-range : goal.returns-clause-range
returns-clause-range c =
    let all : length c.args.values.now ≡ c.args.aisles - 1 = omega (arith, c.if-values-aisles.false) in
    subst (λ (ns : List ℕ). All (IsUpTo greatest_length) ns) (sym c.spacings_of.ensures.spacings ∙ ap (λ n. take n c.spacings_of.result) all)
    (ranged_all _ (sym c.are_spacings.ensures ∙ c.if-not-are_spacings.false))
