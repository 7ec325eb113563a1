use Rattle.std.proofs.Common.{Contains, arith, ap, List, ℕ, ◌∙◌, true≢false, sym, ◌≡◌, ◌<◌, subst, Vec, Global}
use Rattle.serde_json.specs.declared.value.Value.{Value}
use Rattle.serde_json.specs.Data.{Data, array}
use Rattle.serde_json.proofs.Views.{view-Array}
use Rattle.serde_json.specs.View.{items_of}
use Rattle.std.proofs.lemmas.List.Elements.{All-contains}
use Rattle.wp_cert.proofs.TextShown.{IsListedBelow, listed_all, listed_more, listed_same}
use Rattle.wp_cert.proofs.text.to_json.BatchToJson.to_json.Goals as goal
use Rattle.wp_cert.proofs.text.to_json.BatchToJson.to_json.Goals.{then-has+in_ok-push, else-has}

pub loop-order-preserved : goal.loop-order-preserved
loop-order-preserved c =
    elim c.if-has.branch [
      | then-has+in_ok-push w ↦
          let has = c.has.ensures.exact.0 w.if-has.true in
          rw (ap (λ (values : Vec Value Global). values.items) w.values-is ∙ w.in_ok-push.ensures.items)
          (listed_more _ _ _ _ has c.loop-order.invariant w.from.ensures)
      | else-has w ↦
          let none : Contains c.args.self.now c.loop-order.order → ⊥ = λ has. true≢false (sym (c.has.ensures.exact.1 has) ∙ w.if-has.false) in
          rw (ap (λ (values : Vec Value Global). values.items) w.values-is) (listed_same _ _ _ none c.loop-order.invariant)
    ]

pub returns-clause-value : goal.returns-clause-value
returns-clause-value c =
    let valid = c.len.ensures.valid in
    let all : c.loop-order.order ≡ 64 = omega arith in
    let listed = subst (λ (n : ℕ). IsListedBelow c.args.self.now n c.loop-order.values.items) all c.loop-order.invariant in
    view-Array c.loop-order.values
    ∙ ap (λ (values : List Data). array (items_of values))
    (listed_all c.args.self.now c.loop-order.values.items valid (λ p has. All-contains (λ (q : ℕ). q < 64) c.args.self.now p valid.below has) listed)
