use Rattle.std.proofs.Common.{rules, ap, arith, sym, subst, true≢false, ◌∙◌, ◌≡◌, ◌<◌, ◌++◌, ℕ, List, [], ◌∷◌, Contains}
use Rattle.std.specs.Fmt.{HasWritten}
use Rattle.std.specs.List.{flat_map}
use Rattle.std.proofs.Output.{has_written_append}
use Rattle.std.proofs.lemmas.Grind.{flat_map-append}
use Rattle.std.proofs.lemmas.List.{append-nil}
use Rattle.std.proofs.lemmas.List.Elements.{All-contains}
use Rattle.wp_model.specs.Journal.{number_after_space}
use Rattle.wp_cert.proofs.OrdersBelow.{AreBelow, all_below, more_below, same_below}
use Rattle.wp_cert.proofs.fault.write_batch.Goals as goal
use Rattle.wp_cert.proofs.fault.write_batch.Goals.{else-has, then-has+in_ok-write}

pub loop-order-preserved : goal.loop-order-preserved
loop-order-preserved g c =
    let so_far = c.loop-order.invariant in
    let order = c.loop-order.order-counter in
    elim c.if-has.branch [
      | then-has+in_ok-write w ↦
          let text = flat_map-append number_after_space so_far.0 (order ∷ []) ∙ ap (λ (bs : List ℕ). flat_map number_after_space so_far.0 ++ bs)
          (append-nil (number_after_space order)) in (
            so_far.0 ++ order ∷ [],
            more_below _ _ _ (c.has.ensures.exact.0 w.if-has.true) so_far.1,
            λ low. c.has.ensures.valid,
            λ plain. rw (text, w.f-is) (has_written_append _ _ _ _ _ _ (so_far.3 plain) (search rules)),
          )
      | else-has w ↦
          let none : Contains c.args.batch order → ⊥ = λ has. true≢false (sym (c.has.ensures.exact.1 has) ∙ w.if-has.false) in
          (so_far.0, same_below _ _ _ none so_far.1, λ low. c.has.ensures.valid, λ plain. rw w.f-is (so_far.3 plain))
    ]

pub returns : goal.returns
returns g c = λ plain ok.
    let so_far = c.loop-order.invariant in
    let all : c.loop-order.order-counter ≡ 64 = omega (arith, c.loop-order-test.false, c.loop-order.auto.order-counter-end) in
    let valid = so_far.2 (omega (arith, all)) in
    let listed = subst (λ (n : ℕ). AreBelow c.args.batch n so_far.0) all so_far.1 in
    let same = all_below c.args.batch so_far.0 valid (λ p has. All-contains (λ (q : ℕ). q < 64) c.args.batch p valid.below has) listed in
    subst (λ (xs : List ℕ). HasWritten g.W.Write.write_str_gives c.args.f.now (flat_map number_after_space xs) c.loop-order.f) same (so_far.3 plain)
