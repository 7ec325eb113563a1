-- Orders that can't join a wave.
use Rattle.std.proofs.Common.{◌≡◌, ◌≢◌, ◌∙◌, refl, sym, ap, ap₂, ℕ, zero, suc, ◌<◌, ◌||◌, Bool, true, false, not, List, [], ◌∷◌, length, map, Option, Some}
use Rattle.std.proofs.Common.{None, slice_get, option_map, bytes_eq, if◌then◌else◌, arith}
use Rattle.std.proofs.lemmas.Slice.Eq.{bytes_eq-Decides}
use Rattle.std.proofs.lemmas.List.{length-map}
use Rattle.std.specs.Option.{option_or}
use Rattle.wp_model.proofs.NameEq.{found_there}
use Rattle.wp_model.specs.Opening.{Opening, Order, is_known_order}
use Rattle.wp_model.specs.State.{Wave}
use Rattle.wp_model.specs.Step.{cart_fault, is_among, order_fault, taker_of}
use Rattle.wp_model.specs.TableLines.{article_in}
use Rattle.wp_model.specs.declared.reply.Reply.{Reply}
use Rattle.wp_model.specs.declared.reply.Reply.TheVariants as reply
use Rattle.wp_tables.specs.Orders.{name_of}
use Rattle.wp_floor.specs.Floor.{AreTakers}
use Rattle.wp_floor.proofs.OrderNames.{no_order, order_at}

-- an order of a name is known
known_at : (orders : List Order) (name : List ℕ) (i : ℕ) (order : Order) → slice_get orders i ≡ Some order → order.name ≡ name
    → is_known_order orders name ≡ true
known_at [] name i order there named = absurd (cc)
known_at (o ∷ orders) name zero order there named =
    let same : o ≡ order = cc in
    ap (λ b. b || is_known_order orders name) ((bytes_eq-Decides o.name name).1 (ap (λ (p : Order). p.name) same ∙ named))
known_at (o ∷ orders) name (suc i) order there named =
    or_right (bytes_eq o.name name) (is_known_order orders name) (known_at orders name i order there named)
  where
    or_right : (a b : Bool) → b ≡ true → (a || b) ≡ true
    or_right true b e = refl
    or_right false b e = e

-- a name that no order has isn't
pub unknown : (orders : List Order) (name : List ℕ) → ((i : ℕ) (order : Order) → slice_get orders i ≡ Some order → order.name ≢ name)
    → is_known_order orders name ≡ false
unknown [] name none = refl
unknown (o ∷ orders) name none =
    ap₂ (λ a b. a || b) (is_false (bytes_eq o.name name) (λ e. none 0 o refl ((bytes_eq-Decides o.name name).0 e)))
    (unknown orders name (λ i order there. none (suc i) order there))
  where
    is_false : (b : Bool) → (b ≡ true → ⊥) → b ≡ false
    is_false true to = absurd (to refl)
    is_false false to = refl

-- why an order can't join a wave that is known or not, was named before or not, and for which there is this reason else
abbrev fault_of : List ℕ → Bool → Bool → Option Reply → Option Reply
fault_of order known before other = if not known then Some (reply.UnknownOrder order) else if before then Some (reply.OrderTwice order) else other

-- the reason where it has this taker, or none
abbrev taken_or_over : Opening → List ℕ → Option (List ℕ) → Option Reply
taken_or_over opening order taker = option_or (option_map (reply.OrderTaken order) taker) (cart_fault opening order)

-- an order of a name that isn't found is unknown
pub not_found : (opening : Opening) (waves : List Wave) (before : List (List ℕ)) (order : List ℕ) → article_in (map name_of opening.orders) order ≡ None
    → Some (reply.UnknownOrder order) ≡ order_fault opening waves before order
not_found opening waves before order none =
    ap (λ known. fault_of order known (is_among before order) (taken_or_over opening order (taker_of waves order)))
    (sym (unknown opening.orders order (no_order opening.orders order none)))

is_known : (opening : Opening) (order : List ℕ) (i : ℕ) → article_in (map name_of opening.orders) order ≡ Some i → is_known_order opening.orders order ≡ true
is_known opening order i found = let at = order_at opening.orders order i found in known_at opening.orders order i at.order at.there at.named

-- an order that was named before is named twice
pub twice : (opening : Opening) (waves : List Wave) (before : List (List ℕ)) (order : List ℕ) (i : ℕ) → article_in (map name_of opening.orders) order ≡ Some i
    → is_among before order ≡ true
    → Some (reply.OrderTwice order) ≡ order_fault opening waves before order
twice opening waves before order i found among =
    sym (ap₂ (λ known before. fault_of order known before (taken_or_over opening order (taker_of waves order))) (is_known opening order i found) among)

-- an order that is known and wasn't named before is refused just where a wave has it, or no cart holds it
pub by_taker : (opening : Opening) (waves : List Wave) (takers : List (Option (List ℕ))) (before : List (List ℕ)) (order : List ℕ) (i : ℕ)
    (taker : Option (List ℕ)) → AreTakers opening waves takers
    → article_in (map name_of opening.orders) order ≡ Some i → is_among before order ≡ false → slice_get takers i ≡ Some taker
    → taken_or_over opening order taker ≡ order_fault opening waves before order
by_taker opening waves takers before order i taker are found among has =
    let at = order_at opening.orders order i found in
    let both : Some taker ≡ Some (taker_of waves at.order.name) = sym has ∙ are.each i at.order at.there in
    let is : taker ≡ taker_of waves order = same_of taker (taker_of waves at.order.name) both ∙ ap (taker_of waves) at.named in
    ap (taken_or_over opening order) is
    ∙ sym (ap₂ (λ known before. fault_of order known before (taken_or_over opening order (taker_of waves order))) (is_known opening order i found) among)
  where
    same_of : (a b : Option (List ℕ)) → Some a ≡ Some b → a ≡ b
    same_of a b e = cc

-- what is found by a name among the orders that were read is found among the opening's
pub found_in : (opening : Opening) (orders : List Order) (name : List ℕ) (found : Option ℕ) (i : ℕ) → orders ≡ opening.orders
    → found ≡ article_in (map name_of orders) name → found ≡ Some i
    → article_in (map name_of opening.orders) name ≡ Some i
found_in opening orders name found i same is some = ap (λ os. article_in (map name_of os) name) (sym same) ∙ (sym is ∙ some)

-- an order that is found by a name has a number below the count of orders
pub found_within : (opening : Opening) (name : List ℕ) (i n : ℕ) → article_in (map name_of opening.orders) name ≡ Some i → n ≡ length opening.orders → i < n
found_within opening name i n found long = omega (arith, (found_there name (map name_of opening.orders) i found).1, length-map opening.orders name_of, long)
