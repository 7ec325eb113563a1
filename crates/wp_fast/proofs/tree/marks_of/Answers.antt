use Rattle.std.proofs.Common.{◌≡◌, ◌+◌, ℕ, Bool, false, List, get_or, set, arith, length-set, refl, ap, sym, ◌∙◌, ⊎_elim, get_or-set_other, get_or-set_same}
use Rattle.std.proofs.lemmas.Bool.{both_ways, cases_eq, cases_lt}
use Rattle.wp_fast.proofs.tree.marks_of.Goals as goal

pub loop-aisle-init : goal.loop-aisle-init
loop-aisle-init c = record {
  whole = refl;
  slots = λ more. absurd (omega (arith, more));
  unmarked = λ aisle some before. absurd (omega (arith, some, before));
}

pub loop-aisle-preserved : goal.loop-aisle-preserved
loop-aisle-preserved c =
    let marks = c.loop-aisle.marks in
    let node = c.node_of.result in
    let now : List Bool = set marks node c.has_in.result in
    record {
      whole = length-set marks node c.has_in.result ∙ c.loop-aisle.invariant.whole;
      slots = λ more. rw c.requires at c.has_in.ensures.slots;
      unmarked = λ aisle some before unmarked has. ⊎_elim
          (λ (same : aisle ≡ c.loop-aisle.aisle).
          let here : get_or now (63 + aisle) false ≡ c.has_in.result =
          ap (λ (k : ℕ). get_or now k false) (omega (arith, same, c.node_of.ensures))
          ∙ get_or-set_same marks node c.has_in.result false (omega (arith, c.loop-aisle.invariant.whole, c.node_of.ensures)) in
          both_ways c.has_in.result (sym here ∙ unmarked) (c.has_in.ensures.exact.1 (has.0, has.1, has.2 ∙ same)))
          (λ differs. c.loop-aisle.invariant.unmarked aisle some (omega (arith, before, differs))
          (sym (get_or-set_other marks node (63 + aisle) c.has_in.result false (λ e. differs (omega (arith, e, c.node_of.ensures)))) ∙ unmarked) has)
          (cases_eq aisle c.loop-aisle.aisle);
    }

pub returns-clause-slots : goal.returns-clause-slots
returns-clause-slots c =
    c.loop-aisle.invariant.slots (omega (arith, c.aisles-aisle-end.ensures.valid.aisles, c.aisles-aisle-end.ensures.value))

pub returns-clause-marked : goal.returns-clause-marked
returns-clause-marked c = λ aisle up unmarked has. ⊎_elim
    (λ before. c.loop-aisle.invariant.unmarked aisle up.0 before unmarked has)
    (λ behind. let slot = ((c.loop-aisle.invariant.slots (omega (arith, c.aisles-aisle-end.ensures.valid.aisles, c.aisles-aisle-end.ensures.value))).slots has.0
    has.1).aisle in
    omega (arith, slot.1, has.2, behind, c.aisles-aisle-end.ensures.value))
    (cases_lt aisle c.loop-aisle.aisle)
