use Rattle.std.proofs.Common.{◌≡◌, ◌≢◌, ◌-◌, ℕ, Bool, false, List, get_or, set, arith, length-set, ap, inr, sym, ◌∙◌, ⊎_elim, get_or-set_other, get_or-set_same}
use Rattle.std.proofs.lemmas.Bool.{both_ways, cases_eq, cases_lt}
use Rattle.wp_graph.proofs.NeededAisles.{needed_from}
use Rattle.wp_fast.proofs.kept.aisles_of.Goals as goal

pub loop-aisle-preserved : goal.loop-aisle-preserved
loop-aisle-preserved c =
    let marks = c.loop-aisle.marks in
    let next = c.in-Some.ensures.last in
    let now : List Bool = set marks (c.in-Some.aisle - 1) c.has_in.result in
    record {
      whole = length-set marks (c.in-Some.aisle - 1) c.has_in.result ∙ c.loop-aisle.invariant.whole;
      some = next.0;
      last = omega (arith, next.1, c.loop-aisle.invariant.last);
      few = c.loop-aisle.invariant.few;
      unmarked = λ aisle low up off has. ⊎_elim
          (λ (same : aisle ≡ c.in-Some.aisle).
          let here : get_or now (aisle - 1) false ≡ c.has_in.result =
          ap (λ (k : ℕ). get_or now (k - 1) false) same
          ∙ get_or-set_same marks (c.in-Some.aisle - 1) c.has_in.result false
          (omega (arith, c.loop-aisle.invariant.whole, next.1, c.loop-aisle.invariant.last, c.loop-aisle.invariant.few)) in
          both_ways c.has_in.result (sym here ∙ off) (c.has_in.ensures.exact.1 (has.0, has.1, has.2 ∙ same)))
          (λ (differs : aisle ≢ c.in-Some.aisle).
          let there : get_or marks (aisle - 1) false ≡ false =
          sym (get_or-set_other marks (c.in-Some.aisle - 1) (aisle - 1) c.has_in.result false (λ e. differs (omega (arith, e, low, next.0)))) ∙ off in
          ⊎_elim
          (λ before. both_ways _ (next.3 aisle (omega (arith, low, differs)) before) (needed_from _ _ aisle (inr (has.0, has.1, has.2))))
          (λ behind. c.loop-aisle.invariant.unmarked aisle behind up there has)
          (cases_lt aisle c.loop-aisle.before))
          (cases_eq aisle c.in-Some.aisle);
    }

pub returns : goal.returns
returns c = λ aisle up off has. ⊎_elim
    (λ before. both_ways _ (c.in_default.ensures.last aisle (omega (arith, up.0)) before) (needed_from _ _ aisle (inr (has.0, has.1, has.2))))
    (λ behind. c.loop-aisle.invariant.unmarked aisle behind up.1 off has)
    (cases_lt aisle c.loop-aisle.before)
