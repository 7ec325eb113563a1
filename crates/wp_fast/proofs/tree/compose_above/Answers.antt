use Rattle.std.proofs.Common.{◌≡◌, ◌-◌, ℕ, false, arith, refl, subst, sym, ◌∙◌, ⊎_elim}
use Rattle.std.proofs.lemmas.Bool.{cases_eq}
use Rattle.wp_fast.specs.Trees.{IsComposedAt, IsKeptAt, is_marked}
use Rattle.wp_fast.proofs.TreeSteps.{composed_still}
use Rattle.wp_fast.proofs.tree.compose_above.Goals as goal

pub loop-done-init : goal.loop-done-init
loop-done-init c = record {
  composed = λ node low high. absurd (omega (arith, low, high));
  small = c.requires.small;
  ahead = λ node low d. refl;
  aisles = λ node high d. refl;
  unmarked = λ node unmarked d. refl;
  marks = λ node unmarked. unmarked;
}

pub compose_if_marked-requires-clause-composed : goal.compose_if_marked-requires-clause-composed
compose_if_marked-requires-clause-composed c = λ left right.
    composed_still c.args.tree.now c.loop-done.tree (64 - c.loop-done.done) (c.loop-done.invariant.unmarked _ left)
    (c.loop-done.invariant.unmarked _ right) (c.loop-done.invariant.ahead _ (omega arith))
    (c.requires.composed (64 - c.loop-done.done) (omega arith, omega arith) (c.loop-done.invariant.marks _ left) (c.loop-done.invariant.marks _ right))

pub loop-done-preserved : goal.loop-done-preserved
loop-done-preserved c =
    let node = 64 - c.loop-done.done in
    record {
      composed = λ other low high. ⊎_elim
          (λ (same : other ≡ node). subst (λ (k : ℕ). IsComposedAt c.compose_if_marked.new.tree k) (sym same) c.compose_if_marked.ensures.composed)
          (λ differs. composed_still c.loop-done.tree c.compose_if_marked.new.tree other
          (c.compose_if_marked.ensures.others _ (λ e. omega (arith, e, low))) (c.compose_if_marked.ensures.others _ (λ e. omega (arith, e, low)))
          (c.compose_if_marked.ensures.others _ differs) (c.loop-done.invariant.composed other (omega (arith, low, differs)) high))
          (cases_eq other node);
      small = c.compose_if_marked.ensures.small;
      ahead = λ other low d. c.compose_if_marked.ensures.others other (λ e. omega (arith, e, low)) d ∙ c.loop-done.invariant.ahead other (omega (arith, low)) d;
      aisles = λ other high d. c.compose_if_marked.ensures.others other (λ e. omega (arith, e, high)) d ∙ c.loop-done.invariant.aisles other high d;
      unmarked = λ other unmarked d. ⊎_elim
          (λ (same : other ≡ node). subst (λ (k : ℕ). IsKeptAt c.loop-done.tree c.compose_if_marked.new.tree k) (sym same)
          (c.compose_if_marked.ensures.unmarked (subst (λ (k : ℕ). is_marked c.compose_if_marked.new.marks k ≡ false) same unmarked)))
          (λ differs. c.compose_if_marked.ensures.others other differs)
          (cases_eq other node) d ∙ c.loop-done.invariant.unmarked other (c.compose_if_marked.ensures.marks other unmarked) d;
      marks = λ other unmarked. c.loop-done.invariant.marks other (c.compose_if_marked.ensures.marks other unmarked);
    }

pub returns-clause-composed : goal.returns-clause-composed
returns-clause-composed c = λ node up. c.loop-done.invariant.composed node (omega (arith, up)) up.1
