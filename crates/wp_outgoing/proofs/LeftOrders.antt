-- The open orders that are left, one by one.
use Rattle.std.proofs.Common.{◌≡◌, ◌∙◌, refl, sym, ap, ℕ, zero, suc, ◌<◌, ◌≤◌, List, [], ◌∷◌, ◌++◌, length, map, drop, get_or, Option, Some, None, arith, IfSome}
use Rattle.std.proofs.lemmas.Bool.{cond_both}
use Rattle.std.proofs.lemmas.List.Elements.{All-head, All-tail}
use Rattle.std.specs.Str.{bytes_eq}
use Rattle.wp_model.specs.Opening.{Opening, Stock}
use Rattle.wp_model.specs.State.{Wave}
use Rattle.wp_outgoing.specs.Leaving.{AreOfStock, left_after, left_before, left_of, left_one, short_in}
use Rattle.wp_outgoing.specs.declared.left.LeftOrder.{LeftOrder}
use Rattle.wp_outgoing.specs.declared.lines.WaveOut.{WaveOut}
use Rattle.wp_waves.specs.declared.free_stock.Shortage.{Shortage}
use Rattle.wp_waves.specs.declared.open_orders.OpenOrder.{OpenOrder}
use Rattle.wp_waves.specs.declared.turns.OrderTurn.{OrderTurn}

first_left : (one : Option LeftOrder) → left_after [] one ≡ left_before one []
first_left None = refl
first_left (Some left) = refl

after_first : (first one : Option LeftOrder) (rest more : List LeftOrder) → left_after rest one ≡ more
    → left_after (left_before first rest) one ≡ left_before first more
after_first None one rest more is = is
after_first (Some left) None rest more is = ap (λ (l : List LeftOrder). left ∷ l) is
after_first (Some left) (Some one) rest more is = ap (λ (l : List LeftOrder). left ∷ l) is

-- one open order more
pub left_more : (opening : Opening) (taken : List Wave) (turns : List OrderTurn) (waves : List WaveOut) (listed : List OpenOrder) (one : OpenOrder)
    → left_after (left_of opening taken turns waves listed) (left_one opening taken turns waves one) ≡ left_of opening taken turns waves (listed ++ one ∷ [])
left_more opening taken turns waves [] one = first_left (left_one opening taken turns waves one)
left_more opening taken turns waves (other ∷ listed) one =
    after_first (left_one opening taken turns waves other) (left_one opening taken turns waves one) (left_of opening taken turns waves listed)
    (left_of opening taken turns waves (listed ++ one ∷ [])) (left_more opening taken turns waves listed one)

-- what stands at a place of what is made of a list
pub at_map : {X Y : Type 0} (f : X → Y) (xs : List X) (place : ℕ) (y : Y) (x : X) → place < length xs → y ≡ get_or (map f xs) place y
    → x ≡ get_or xs place x → y ≡ f x
at_map f [] place y x within is at = absurd (omega arith)
at_map f (z ∷ xs) zero y x within is at = is ∙ ap f (sym at)
at_map f (z ∷ xs) (suc place) y x within is at = at_map f xs place y x (omega arith) is at

-- no turn is left past the last
pub none_left : (turns : List OrderTurn) (i : ℕ) (name : List ℕ) → length turns ≤ i → short_in (drop i turns) name ≡ None
none_left [] zero name past = refl
none_left [] (suc i) name past = refl
none_left (turn ∷ turns) zero name past = absurd (omega arith)
none_left (turn ∷ turns) (suc i) name past = none_left turns i name (omega arith)

-- what an order is short of is an article of the stock where all are
pub of_stock : (stock : Stock) (turns : List OrderTurn) (name : List ℕ) → AreOfStock stock turns
    → IfSome (short_in turns name) (λ (short : Shortage). short.article < length stock.articles)
of_stock stock [] name are = tt
of_stock stock (turn ∷ turns) name are =
    cond_both (bytes_eq turn.one.order name) turn.short (short_in turns name)
    (λ (found : Option Shortage). IfSome found (λ (short : Shortage). short.article < length stock.articles))
    (λ same. All-head (λ (t : OrderTurn). IfSome t.short (λ (short : Shortage). short.article < length stock.articles)) turn turns are)
    (λ other. of_stock stock turns name
    (All-tail (λ (t : OrderTurn). IfSome t.short (λ (short : Shortage). short.article < length stock.articles)) turn turns are))
