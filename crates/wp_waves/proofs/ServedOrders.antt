-- The orders of turns that are served.
use Rattle.std.proofs.Common.{◌≡◌, refl, ap, ℕ, zero, suc, ◌≤◌, List, [], ◌∷◌, ◌++◌, length, map, Option, Some, None, All, arith}
use Rattle.std.proofs.lemmas.List.Elements.{All-cons, All-head, All-nil, All-tail}
use Rattle.std.specs.List.Sorted.{IsNonDecreasingBy}
use Rattle.wp_waves.specs.Turns.{one_of, rank_of, served_after, served_if, served_in}
use Rattle.wp_waves.specs.declared.free_stock.Shortage.{Shortage}
use Rattle.wp_waves.specs.declared.open_orders.OpenOrder.{OpenOrder}
use Rattle.wp_waves.specs.declared.turns.OrderTurn.{OrderTurn}

after_first : (a : Option Shortage) (x one : OpenOrder) (short : Option Shortage) (rest more : List OpenOrder) → served_after short one rest ≡ more
    → served_after short one (served_if a x rest) ≡ served_if a x more
after_first (Some a) x one short rest more e = e
after_first None x one None rest more e = ap (λ l. x ∷ l) e
after_first None x one (Some short) rest more e = ap (λ l. x ∷ l) e

with_turn : (turns : List OrderTurn) (one : OpenOrder) (short : Option Shortage)
    → served_after short one (served_in turns) ≡ served_in (turns ++ (record { one = one; short = short }) ∷ [])
with_turn [] one None = refl
with_turn [] one (Some short) = refl
with_turn (t ∷ turns) one short =
    after_first t.short t.one one short (served_in turns) (served_in (turns ++ (record { one = one; short = short }) ∷ [])) (with_turn turns one short)

-- one turn more
pub served_more : (turns : List OrderTurn) (turn : OrderTurn) → served_after turn.short turn.one (served_in turns) ≡ served_in (turns ++ turn ∷ [])
served_more turns turn = with_turn turns turn.one turn.short

above : (x : OpenOrder) (xs : List OpenOrder) → IsNonDecreasingBy rank_of (x ∷ xs) → All (λ (o : OpenOrder). x.rank ≤ o.rank) xs
above x xs rising k d within = rising 0 (suc k) d (omega arith) (omega arith)

tail_rises : (x : OpenOrder) (xs : List OpenOrder) → IsNonDecreasingBy rank_of (x ∷ xs) → IsNonDecreasingBy rank_of xs
tail_rises x xs rising i j d upto within = rising (suc i) (suc j) d (omega arith) (omega arith)

cons_rises : (x : OpenOrder) (xs : List OpenOrder) → All (λ (o : OpenOrder). x.rank ≤ o.rank) xs → IsNonDecreasingBy rank_of xs
    → IsNonDecreasingBy rank_of (x ∷ xs)
cons_rises x xs all rest zero zero d upto within = omega arith
cons_rises x xs all rest zero (suc j) d upto within = all j d (omega arith)
cons_rises x xs all rest (suc i) zero d upto within = absurd (omega arith)
cons_rises x xs all rest (suc i) (suc j) d upto within = rest i j d (omega arith) (omega arith)

all_if : (short : Option Shortage) (P : OpenOrder → Type 0) (one : OpenOrder) (others : List OpenOrder) → P one → All P others
    → All P (served_if short one others)
all_if None P one others here rest = All-cons P one others here rest
all_if (Some short) P one others here rest = rest

served_all : (P : OpenOrder → Type 0) (turns : List OrderTurn) → All P (map one_of turns) → All P (served_in turns)
served_all P [] all = All-nil P
served_all P (t ∷ turns) all =
    all_if t.short P t.one (served_in turns) (All-head P t.one (map one_of turns) all) (served_all P turns (All-tail P t.one (map one_of turns) all))

rises_if : (short : Option Shortage) (one : OpenOrder) (others : List OpenOrder) → All (λ (o : OpenOrder). one.rank ≤ o.rank) others
    → IsNonDecreasingBy rank_of others → IsNonDecreasingBy rank_of (served_if short one others)
rises_if None one others all rest = cons_rises one others all rest
rises_if (Some short) one others all rest = rest

-- of turns in ascending rank the orders that are served are in ascending rank
pub served_rises : (turns : List OrderTurn) → IsNonDecreasingBy rank_of (map one_of turns) → IsNonDecreasingBy rank_of (served_in turns)
served_rises [] rising = λ i j d upto within. absurd (omega arith)
served_rises (t ∷ turns) rising =
    rises_if t.short t.one (served_in turns)
    (served_all (λ (o : OpenOrder). t.one.rank ≤ o.rank) turns (above t.one (map one_of turns) rising))
    (served_rises turns (tail_rises t.one (map one_of turns) rising))
