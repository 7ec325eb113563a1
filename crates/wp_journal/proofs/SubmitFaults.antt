-- Why a wave can't be submitted is told by a reply of a journal.
use Rattle.std.proofs.Common.{◌≡◌, ℕ, ◌*◌, ◌<◌, ◌≤◌, ◌^◌, ◌==◌, ◌&&◌, true, List, [], ◌∷◌, ◌++◌, length, Option, Some, None, All, refl}
use Rattle.std.proofs.Common.{arith, lit<, nat_lt, not, option_map}
use Rattle.std.specs.Prelude.{IfSome, IsTrue}
use Rattle.std.specs.List.{list_all}
use Rattle.std.specs.Option.{option_or}
use Rattle.std.proofs.lemmas.Bool.{cond_both, lt-ltb}
use Rattle.std.proofs.lemmas.List.Elements.{All-head, All-tail}
use Rattle.wp_model.proofs.Demand.{few_order_units}
use Rattle.wp_model.specs.Name.{is_name}
use Rattle.wp_model.specs.Opening.{IsOpening, Opening, is_known_order, order_units}
use Rattle.wp_model.specs.Limits.{most_lines, most_quantity, most_wave_orders}
use Rattle.wp_model.specs.State.{State, Wave}
use Rattle.wp_model.specs.Step.{cart_fault, first_order_fault, is_among, is_live, is_over_cart, order_fault, submit_fault, taker_of, wave_from}
use Rattle.wp_model.specs.declared.reply.Reply.{Reply}
use Rattle.wp_model.specs.declared.reply.Reply.TheVariants as reply
use Rattle.wp_journal.specs.Grammar.{is_line_reply}
use Rattle.wp_journal.proofs.NamedStates.{HasName, IsNamed}
use Rattle.wp_journal.proofs.Phrases.{both}
use Rattle.wp_journal.proofs.WordBytes.{and_true}

orders_u32 : (n : ℕ) → n ≤ 100 → nat_lt n (2 ^ 32) ≡ true
orders_u32 n few = let numeral : 100 < 2 ^ 32 = lit< tt in lt-ltb n (2 ^ 32) (omega arith)

-- a reply, where there is one, is one of a journal
abbrev IfLine : Option Reply → Type 0
IfLine found = IfSome found (λ why. IsTrue (is_line_reply why))

either_line : (a b : Option Reply) → IfLine a → IfLine b → IfLine (option_or a b)
either_line None b first second = second
either_line (Some why) b first second = first

known_line : (found : Option (ℕ × Wave)) → IfLine (option_map (λ found. reply.KnownWave) found)
known_line None = tt
known_line (Some w) = refl

taken_line : (order : List ℕ) (taker : Option (List ℕ)) → is_name order ≡ true → IfSome taker (λ name. IsTrue (is_name name))
    → IfLine (option_map (reply.OrderTaken order) taker)
taken_line order None is named = tt
taken_line order (Some name) is named = and_true _ _ is named

taker_named : (waves : List Wave) (order : List ℕ) → All HasName waves → IfSome (taker_of waves order) (λ name. IsTrue (is_name name))
taker_named [] order each = tt
taker_named (w ∷ waves) order each =
    cond_both (is_live w.state && is_among w.orders order) (Some w.name) (taker_of waves order) (λ taker. IfSome taker (λ name. IsTrue (is_name name)))
    (λ has. All-head HasName w waves each) (λ other. taker_named waves order (All-tail HasName w waves each))

order_u32 : (opening : Opening) (order : List ℕ) → IsOpening opening → nat_lt (order_units opening.orders order) (2 ^ 32) ≡ true
order_u32 opening order is =
    let numeral : most_lines * most_quantity < 2 ^ 32 = lit< tt in
    let few = few_order_units opening.stock.articles opening.orders order is.orders in
    lt-ltb (order_units opening.orders order) (2 ^ 32) (omega arith)

cart_line : (opening : Opening) (order : List ℕ) → IsOpening opening → is_name order ≡ true → IfLine (cart_fault opening order)
cart_line opening order is_opening is =
    cond_both (is_over_cart opening.units (order_units opening.orders order)) (Some (reply.OverCart order (order_units opening.orders order))) None IfLine
    (λ over. and_true _ _ is (order_u32 opening order is_opening)) (λ fits. tt)

order_line : (opening : Opening) (waves : List Wave) (before : List (List ℕ)) (order : List ℕ) → IsOpening opening → All HasName waves → is_name order ≡ true
    → IfLine (order_fault opening waves before order)
order_line opening waves before order is_opening each is =
    cond_both (not (is_known_order opening.orders order)) (Some (reply.UnknownOrder order)) _ IfLine (λ unknown. is) (λ known.
    cond_both (is_among before order) (Some (reply.OrderTwice order)) _ IfLine (λ twice. is) (λ once.
    either_line (option_map (reply.OrderTaken order) (taker_of waves order)) (cart_fault opening order)
    (taken_line order (taker_of waves order) is (taker_named waves order each)) (cart_line opening order is_opening is)))

orders_line : (opening : Opening) (waves : List Wave) (before orders : List (List ℕ)) → IsOpening opening → All HasName waves
    → list_all is_name orders ≡ true
    → IfLine (first_order_fault opening waves before orders)
orders_line opening waves before [] is each are = tt
orders_line opening waves before (order ∷ orders) is each are =
    let parts = both (is_name order) (list_all is_name orders) are in
    either_line (order_fault opening waves before order) (first_order_fault opening waves (before ++ order ∷ []) orders)
    (order_line opening waves before order is each parts.0) (orders_line opening waves (before ++ order ∷ []) orders is each parts.1)

-- the fault of a wave is told by a reply of a journal, where its orders are few and have names
pub submit_line : (opening : Opening) (state : State) (name : List ℕ) (orders : List (List ℕ)) → IsOpening opening → IsNamed opening state
    → length orders ≤ 100 → list_all is_name orders ≡ true → IfSome (submit_fault opening state name orders) (λ why. IsTrue (is_line_reply why))
submit_line opening state name orders is named few are =
    cond_both (length orders == 0) (Some reply.NoOrders) _ IfLine (λ none. refl) (λ some.
    cond_both (nat_lt most_wave_orders (length orders)) (Some (reply.WaveFull (length orders))) _ IfLine (λ full. orders_u32 (length orders) few) (λ fits.
    either_line (option_map (λ found. reply.KnownWave) (wave_from 0 state.waves name)) (first_order_fault opening state.waves [] orders)
    (known_line (wave_from 0 state.waves name)) (orders_line opening state.waves [] orders is named.waves are)))
