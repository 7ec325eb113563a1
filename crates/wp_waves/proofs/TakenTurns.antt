-- Orders in their turns.
use Rattle.std.proofs.Common.{◌≡◌, ◌∙◌, refl, sym, ap, ap₂, ℕ, ◌-◌, List, [], ◌∷◌, length, map, Option, Some, None, IfSome, IfOk, Result, Ok, Err, Vec, subst}
use Rattle.std.proofs.Common.{arith}
use Rattle.std.proofs.Math.Path.{fun_ext}
use Rattle.std.specs.Option.{option_map_or}
use Rattle.std.specs.Prelude.{IfNone}
use Rattle.std.specs.declared.alloc.Global.{Global}
use Rattle.wp_model.specs.Demand.{order_demand}
use Rattle.wp_model.specs.Opening.{Opening, lines_of}
use Rattle.wp_model.specs.State.{State, Wave}
use Rattle.wp_model.specs.declared.memory.Memory.{Memory}
use Rattle.wp_model.specs.declared.row.Line.{Line}
use Rattle.wp_waves.specs.Shortages.{HaveTaken}
use Rattle.wp_waves.specs.Standing.{taker_in, waiting_of}
use Rattle.wp_waves.specs.Turns.{AreInTurn, AreTurns, free_after, free_in, lines_demand, one_of, shortage_in, shortage_of, turns_of, units_free}
use Rattle.wp_waves.specs.declared.free_stock.FreeStock.{FreeStock}
use Rattle.wp_waves.specs.declared.free_stock.Shortage.{Shortage}
use Rattle.wp_waves.specs.declared.open_orders.OpenOrder.{OpenOrder}
use Rattle.wp_waves.specs.declared.turns.OrderTurn.{OrderTurn}

-- an order had its turn: what it is short of, and what is free before and after it
pub record IsTurn (opening : Opening) (order : List ℕ) (lines : List Line) (old new : FreeStock) (short : Option Shortage) : Type 0 where
  pub lines_are : lines ≡ lines_of opening.orders order
  pub count : length old.units.items ≡ length opening.stock.articles
  pub short_is : short ≡ shortage_in (length old.units.items) (lines_demand lines) (units_free old)
  pub served : IfNone short (HaveTaken lines old new)
  pub same : IfSome short (λ s. new ≡ old)

-- what is free after a turn that came to this
abbrev left_by : Opening → List ℕ → FreeStock → Option Shortage → ℕ → ℕ
left_by opening order old short = option_map_or (λ s. units_free old) short (λ article. units_free old article - order_demand opening order article)

is_left : (opening : Opening) (order : List ℕ) (lines : List Line) (old new : FreeStock) (short : Option Shortage) → lines ≡ lines_of opening.orders order
    → IfNone short (HaveTaken lines old new) → IfSome short (λ s. new ≡ old) → left_by opening order old short ≡ units_free new
is_left opening order lines old new None lines_are served same =
    fun_ext (λ article. omega (arith, served.taken article, ap (λ (ls : List Line). lines_demand ls article) lines_are))
is_left opening order lines old new (Some short) lines_are served same = ap units_free (sym same)

abbrev turn_then : Opening → OpenOrder → List OpenOrder → Option Shortage → (ℕ → ℕ) → List OrderTurn
turn_then opening one others short free = (record { one = one; short = short }) ∷ turns_of opening free others

-- one turn, and then the others
pub turn_more : (opening : Opening) (one : OpenOrder) (others : List OpenOrder) (lines : List Line) (old new : FreeStock) (short : Option Shortage)
    → IsTurn opening one.order lines old new short
    → turns_of opening (units_free old) (one ∷ others) ≡ (record { one = one; short = short }) ∷ turns_of opening (units_free new) others
turn_more opening one others lines old new short is =
    let short' : short ≡ shortage_of opening (units_free old) one.order =
    is.short_is ∙ ap₂ (λ n (ls : List Line). shortage_in n (lines_demand ls) (units_free old)) is.count is.lines_are in
    ap (λ s. turn_then opening one others s (left_by opening one.order old s)) (sym short')
    ∙ ap (turn_then opening one others short) (is_left opening one.order lines old new short is.lines_are is.served is.same)

-- as many articles are counted after a turn
pub kept_count : (opening : Opening) (order : List ℕ) (lines : List Line) (old new : FreeStock) (short : Option Shortage)
    → IsTurn opening order lines old new short → length new.units.items ≡ length opening.stock.articles
kept_count opening order lines old new None is = is.served.count ∙ is.count
kept_count opening order lines old new (Some short) is = ap (λ (free : FreeStock). length free.units.items) is.same ∙ is.count

-- the turns are of these orders
pub turns_are_of : (opening : Opening) (free : ℕ → ℕ) (listed : List OpenOrder) → map one_of (turns_of opening free listed) ≡ listed
turns_are_of opening free [] = refl
turns_are_of opening free (one ∷ others) = ap (λ rest. one ∷ rest) (turns_are_of opening (free_after opening free one.order) others)

-- the turns that were made in a state
pub turns_told : (opening : Opening) (free : FreeStock) (listed waiting sorted slice : List OpenOrder) (takers : List (Option (List ℕ)))
    (told : Result (Vec OrderTurn Global) Memory) → slice ≡ sorted
    → ((waves : List Wave) → takers ≡ map (taker_in waves) listed → waiting ≡ waiting_of opening waves listed)
    → AreInTurn waiting sorted → IfOk told (λ turns. turns.items ≡ turns_of opening (units_free free) slice)
    → IfOk told (λ turns. (state : State) → ((article : ℕ) → units_free free article ≡ free_in state article)
    → takers ≡ map (taker_in state.waves) listed → AreTurns opening state listed turns.items)
turns_told opening free listed waiting sorted slice takers (Err e) same are in_turn is = tt
turns_told opening free listed waiting sorted slice takers (Ok turns) same are in_turn is = λ state free_is taken.
    let ones : map one_of turns.items ≡ sorted = ap (map one_of) is ∙ (turns_are_of opening (units_free free) slice ∙ same) in
    let units : units_free free ≡ free_in state = fun_ext free_is in
    record {
      in_turn = subst (λ l. AreInTurn l (map one_of turns.items)) (are state.waves taken) (subst (AreInTurn waiting) (sym ones) in_turn);
      each = is ∙ ap₂ (turns_of opening) units (same ∙ sym ones);
    }
