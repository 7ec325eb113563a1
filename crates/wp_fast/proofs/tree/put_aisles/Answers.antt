use Rattle.std.proofs.Common.{◌≡◌, ◌+◌, ℕ, false, arith, refl, subst, sym, ◌∙◌, ⊎_elim}
use Rattle.std.proofs.lemmas.Bool.{cases_eq}
use Rattle.wp_fast.specs.Trees.{IsKeptAt, IsPastAisleAt, is_marked}
use Rattle.wp_fast.proofs.TreeSteps.{past_still}
use Rattle.wp_fast.proofs.tree.put_aisles.Goals as goal

pub loop-aisle-init : goal.loop-aisle-init
loop-aisle-init c = record {
  past = λ aisle some before. absurd (omega (arith, some, before));
  small = c.requires.but.small;
  inner = λ node low d. refl;
  unmarked = λ node unmarked d. refl;
}

pub put_if_marked-requires-clause-past : goal.put_if_marked-requires-clause-past
put_if_marked-requires-clause-past c = λ unmarked.
    past_still c.args.layout.now c.args.picks.now.points c.args.tree.now c.loop-aisle.tree c.loop-aisle.aisle
    (c.loop-aisle.invariant.unmarked _ unmarked) (c.requires.but.aisles c.loop-aisle.aisle (omega arith, omega arith) unmarked)

pub loop-aisle-preserved : goal.loop-aisle-preserved
loop-aisle-preserved c = record {
  past = λ aisle some before. ⊎_elim
      (λ (same : aisle ≡ c.loop-aisle.aisle). subst (λ (a : ℕ). IsPastAisleAt c.args.layout.now c.args.picks.now.points c.put_if_marked.new.tree a) (sym same)
      c.put_if_marked.ensures.past)
      (λ differs. past_still c.args.layout.now c.args.picks.now.points c.loop-aisle.tree c.put_if_marked.new.tree aisle
      (c.put_if_marked.ensures.others _ (λ e. differs (omega (arith, e)))) (c.loop-aisle.invariant.past aisle some (omega (arith, before, differs))))
      (cases_eq aisle c.loop-aisle.aisle);
  small = c.put_if_marked.ensures.small;
  inner = λ node low d. c.put_if_marked.ensures.others node (λ e. omega (arith, e, low)) d ∙ c.loop-aisle.invariant.inner node low d;
  unmarked = λ node unmarked d. ⊎_elim
      (λ (same : node ≡ 63 + c.loop-aisle.aisle). subst (λ (k : ℕ). IsKeptAt c.loop-aisle.tree c.put_if_marked.new.tree k) (sym same)
      (c.put_if_marked.ensures.unmarked (subst (λ (k : ℕ). is_marked c.args.marks.now k ≡ false) same unmarked)))
      (λ differs. c.put_if_marked.ensures.others node differs)
      (cases_eq node (63 + c.loop-aisle.aisle)) d ∙ c.loop-aisle.invariant.unmarked node unmarked d;
}
