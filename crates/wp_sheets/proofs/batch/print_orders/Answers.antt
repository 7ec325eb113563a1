use Rattle.std.proofs.Common.{◌≡◌, ◌∙◌, sym, ap, subst, true≢false, ℕ, List, [], ◌∷◌, ◌++◌, Contains, append_assoc, arith, length, ◌<◌, All}
use Rattle.std.specs.List.{flat_map}
use Rattle.std.proofs.lemmas.Grind.{flat_map-append}
use Rattle.std.proofs.lemmas.List.{append-nil}
use Rattle.wp_sheets.specs.Sheets.{order_after_space}
use Rattle.wp_sheets.proofs.OrdersAhead.{divided_after, divided_at_end, divided_at_first, divided_past}
use Rattle.wp_sheets.proofs.Written.{written}
use Rattle.wp_sheets.proofs.batch.print_orders.Goals as goal
use Rattle.wp_sheets.proofs.batch.print_orders.Goals.{else-has, then-has+in_ok-or}

-- a text that has grown by items grows by one more
grown : {X : Type 0} (f : X → List ℕ) (old text new : List ℕ) (xs : List X) (x : X) → text ≡ old ++ flat_map f xs → new ≡ text ++ f x
    → new ≡ old ++ flat_map f (xs ++ x ∷ [])
grown f old text new xs x so_far next =
    next ∙ (ap (λ text. text ++ f x) so_far ∙ (append_assoc old (flat_map f xs) (f x)
    ∙ ap (λ text. old ++ text) (ap (λ text. flat_map f xs ++ text) (sym (append-nil (f x))) ∙ sym (flat_map-append f xs (x ∷ [])))))

pub loop-order-init : goal.loop-order-init
loop-order-init c = ([], c.args.batch, divided_at_first c.args.batch, sym (append-nil c.args.text.now.items))

pub loop-order-preserved : goal.loop-order-preserved
loop-order-preserved c =
    let so_far = c.loop-order.invariant in
    let order = c.loop-order.order in
    let batch = c.args.batch in
    elim c.if-has.branch [
      | then-has+in_ok-or w ↦
          let next = divided_after batch order so_far.0 so_far.1 c.has.ensures.valid.ascending (c.has.ensures.exact.0 w.if-has.true) so_far.2 in (
            so_far.0 ++ order ∷ [],
            next.0,
            next.1,
            grown (order_after_space c.args.wave.now) c.args.text.now.items c.loop-order.text.items _ so_far.0 order so_far.3
                (ap (λ v. v.items) w.text-is ∙ (written w.write.result _ _ w.in_ok-or.ensures w.write.ensures.bytes
                ∙ ap (λ name. c.loop-order.text.items ++ 32 ∷ name) w.order_at-name.ensures)),
          )
      | else-has w ↦
          let absent : Contains batch order → ⊥ = λ has. true≢false (sym (c.has.ensures.exact.1 has) ∙ w.if-has.false) in
          (so_far.0, so_far.1, divided_past batch order so_far.0 so_far.1 absent so_far.2, rw w.text-is so_far.3)
    ]

pub returns : goal.returns
returns c =
    let so_far = c.loop-order.invariant in
    let all : length c.args.wave.now.orders ≡ c.loop-order.order =
    omega (arith, c.loop-order-test.false, c.loop-order.auto.order-end, c.len-order-end.ensures) in
    so_far.3 ∙ ap (λ orders. c.args.text.now.items ++ flat_map (order_after_space c.args.wave.now) orders)
    (divided_at_end c.args.batch c.loop-order.order so_far.0 so_far.1 (subst (λ (n : ℕ). All (λ p. p < n) c.args.batch) all c.requires) so_far.2)
