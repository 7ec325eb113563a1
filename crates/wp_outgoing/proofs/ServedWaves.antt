-- Right waves of served orders may go out.
use Rattle.std.proofs.Common.{◌≡◌, ◌∙◌, refl, sym, ap, subst, ℕ, ◌-◌, ◌<◌, ◌≤◌, not, Bool, true, false, List, [], ◌∷◌, ◌++◌, length, map, All, Option}
use Rattle.std.proofs.Common.{None, Some, arith, append_assoc, if◌then◌else◌}
use Rattle.std.proofs.lemmas.Bool.{cond_both}
use Rattle.std.proofs.lemmas.List.{length-map, map-append}
use Rattle.std.proofs.lemmas.List.Elements.{All-cons, All-head, All-nil, All-tail}
use Rattle.std.proofs.lemmas.List.Filters.{sum_by-filter_both}
use Rattle.std.proofs.lemmas.List.Sorted.{All-permutation, sum_by-IsPermutation}
use Rattle.std.proofs.lemmas.List.Sums.{sum_by-append, sum_by-cons}
use Rattle.std.specs.List.{sum_by}
use Rattle.std.specs.Option.{option_map_or}
use Rattle.wp_model.specs.Demand.{wave_demand}
use Rattle.wp_model.specs.Limits.{most_wave_orders}
use Rattle.wp_model.specs.Opening.{IsOpening, Opening, order_units}
use Rattle.wp_model.specs.State.{State, Wave}
use Rattle.wp_model.specs.Step.{is_among, is_over_cart, taker_of}
use Rattle.wp_outgoing.specs.Names.{AreNamesOf, name_of}
use Rattle.wp_outgoing.specs.Sending.{AreDone, orders_of, sendings_of}
use Rattle.wp_outgoing.proofs.NameCounts.{different_once, one_named, times, times_map}
use Rattle.wp_outgoing.proofs.WavesOut.{All-front, AreNew, CoverInTurn, HasRightSize, MayGo, go_out, joined}
use Rattle.wp_waves.proofs.Weights.{covered_in_turn, served_are_covered}
use Rattle.wp_waves.specs.OpenOrders.{AreOpenOrders, IsOpenOrder, order_of}
use Rattle.wp_waves.specs.Standing.{is_waiting, standing_at_cart, standing_of, waiting_of}
use Rattle.wp_waves.specs.Turns.{AreTurns, free_in, one_of, served_if, served_in}
use Rattle.wp_waves.specs.Waves.{AreWavesOf}
use Rattle.wp_waves.specs.Weights.{AreCoveredInTurn, all_of, wanted_together}
use Rattle.wp_waves.specs.declared.free_stock.Shortage.{Shortage}
use Rattle.wp_waves.specs.declared.open_orders.OpenOrder.{OpenOrder}
use Rattle.wp_waves.specs.declared.standings.Standing.{Standing}
use Rattle.wp_waves.specs.declared.standings.Standing.TheVariants as standing
use Rattle.wp_waves.specs.declared.turns.OrderTurn.{OrderTurn}

-- the orders of waves in a row
joined_is : (waves : List (List OpenOrder)) → joined (orders_of waves) ≡ map order_of (all_of waves)
joined_is [] = refl
joined_is (wave ∷ waves) = ap (λ rest. map order_of wave ++ rest) (joined_is waves) ∙ sym (map-append order_of wave (all_of waves))

pub all_append : (waves later : List (List OpenOrder)) → all_of (waves ++ later) ≡ all_of waves ++ all_of later
all_append [] later = refl
all_append (wave ∷ waves) later = ap (λ rest. wave ++ rest) (all_append waves later) ∙ sym (append_assoc wave (all_of waves) (all_of later))

-- the first waves are covered in turn where all are
covered_front : (opening : Opening) (free : ℕ → ℕ) (waves later : List (List OpenOrder)) → AreCoveredInTurn opening free (waves ++ later)
    → CoverInTurn opening free (orders_of waves)
covered_front opening free [] later covered = tt
covered_front opening free (wave ∷ waves) later covered = (
  covered.0,
  covered_front opening (λ article. free article - wave_demand opening (map order_of wave) article) waves later covered.1,
)

-- an order that waits for its turn may go
taken_if : (taker : Option (List ℕ)) (cart : Standing) → is_waiting (option_map_or standing.Taken taker cart) ≡ true
    → (taker ≡ None) × (is_waiting cart ≡ true)
taken_if None cart waits = (refl, waits)
taken_if (Some name) cart waits = absurd (cc waits)

over_if : (over : Bool) (units : ℕ) → is_waiting (if over then standing.OverCart units else standing.Waiting) ≡ true → over ≡ false
over_if true units waits = absurd (cc waits)
over_if false units waits = refl

abbrev May : Opening → List Wave → OpenOrder → Type 0
May opening waves one = MayGo opening waves one.order

may_go : (opening : Opening) (waves : List Wave) (one : OpenOrder) → IsOpenOrder opening.orders one → is_waiting (standing_of opening waves one) ≡ true
    → May opening waves one
may_go opening waves one is waits =
    let untaken = taken_if (taker_of waves one.order) (standing_at_cart opening one.order) waits in
    record {
      known = is.known;
      free = untaken.0;
      fits = over_if (is_over_cart opening.units (order_units opening.orders one.order)) (order_units opening.orders one.order) untaken.1;
    }

waiting_may_go : (opening : Opening) (waves : List Wave) (listed : List OpenOrder) → All (IsOpenOrder opening.orders) listed
    → All (May opening waves) (waiting_of opening waves listed)
waiting_may_go opening waves [] each = All-nil (May opening waves)
waiting_may_go opening waves (one ∷ listed) each =
    let rest = waiting_may_go opening waves listed (All-tail (IsOpenOrder opening.orders) one listed each) in
    cond_both (is_waiting (standing_of opening waves one)) (one ∷ waiting_of opening waves listed) (waiting_of opening waves listed) (All (May opening waves))
    (λ waits. All-cons (May opening waves) one (waiting_of opening waves listed)
    (may_go opening waves one (All-head (IsOpenOrder opening.orders) one listed each) waits) rest)
    (λ other. rest)

All-orders : (P : List ℕ → Type 0) (listed : List OpenOrder) → All (λ (one : OpenOrder). P one.order) listed → All P (map order_of listed)
All-orders P [] each = All-nil P
All-orders P (one ∷ listed) each =
    All-cons P one.order (map order_of listed) (All-head (λ (o : OpenOrder). P o.order) one listed each)
    (All-orders P listed (All-tail (λ (o : OpenOrder). P o.order) one listed each))

-- the served ones of turns are no more than the turns
fewer_if : (short : Option Shortage) (f : OpenOrder → ℕ) (one : OpenOrder) (served others : List OpenOrder) → sum_by f served ≤ sum_by f others
    → sum_by f (served_if short one served) ≤ sum_by f (one ∷ others)
fewer_if None f one served others fewer = omega (arith, sum_by-cons f one served, sum_by-cons f one others)
fewer_if (Some short) f one served others fewer = omega (arith, sum_by-cons f one others)

served_fewer : (f : OpenOrder → ℕ) (turns : List OrderTurn) → sum_by f (served_in turns) ≤ sum_by f (map one_of turns)
served_fewer f [] = omega arith
served_fewer f (t ∷ turns) = fewer_if t.short f t.one (served_in turns) (map one_of turns) (served_fewer f turns)

-- what holds of the orders of all turns holds of those that are served
all_if : (short : Option Shortage) (P : OpenOrder → Type 0) (one : OpenOrder) (served : List OpenOrder) → P one → All P served
    → All P (served_if short one served)
all_if None P one served here rest = All-cons P one served here rest
all_if (Some short) P one served here rest = rest

pub served_all : (P : OpenOrder → Type 0) (turns : List OrderTurn) → All P (map one_of turns) → All P (served_in turns)
served_all P [] each = All-nil P
served_all P (t ∷ turns) each =
    all_if t.short P t.one (served_in turns) (All-head P t.one (map one_of turns) each) (served_all P turns (All-tail P t.one (map one_of turns) each))

-- waves of right sizes
sizes_front : (most : ℕ) (waves later : List (List OpenOrder)) → most ≤ most_wave_orders → All (λ (wave : List OpenOrder). 0 < length wave) (waves ++ later)
    → All (λ (wave : List OpenOrder). length wave ≤ most) (waves ++ later) → All HasRightSize (orders_of waves)
sizes_front most [] later few some each = All-nil HasRightSize
sizes_front most (wave ∷ waves) later few some each =
    let first = All-head (λ (w : List OpenOrder). 0 < length w) wave (waves ++ later) some in
    let last = All-head (λ (w : List OpenOrder). length w ≤ most) wave (waves ++ later) each in
    All-cons HasRightSize (map order_of wave) (orders_of waves) (omega (arith, length-map wave order_of), omega (arith, length-map wave order_of))
    (sizes_front most waves later few (All-tail (λ (w : List OpenOrder). 0 < length w) wave (waves ++ later) some)
    (All-tail (λ (w : List OpenOrder). length w ≤ most) wave (waves ++ later) each))

-- names of waves are new
names_new : (taken : List (List ℕ)) (waves : List (List OpenOrder)) (names : List (List ℕ)) → AreNamesOf taken waves names → AreNew taken names
names_new taken [] [] are = tt
names_new taken [] (name ∷ names) are = absurd are
names_new taken (wave ∷ waves) [] are = tt
names_new taken (wave ∷ waves) (name ∷ names) are = (
  ap (is_among taken) are.0.is ∙ are.0.least.new,
  names_new (taken ++ name ∷ []) waves names are.1,
)

-- right waves of what is served in a state
pub record AreServed (opening : Opening) (state : State) (listed : List OpenOrder) (turns : List OrderTurn) (most : ℕ)
    (waves later : List (List OpenOrder)) : Type 0 where
  pub opens : IsOpening opening
  pub listed_are : AreOpenOrders opening.orders listed
  pub turns_are : AreTurns opening state listed turns
  pub few : most ≤ most_wave_orders
  pub right : AreWavesOf most (served_in turns) (waves ++ later)

-- what free stock covers
covered_waves : (opening : Opening) (state : State) (listed : List OpenOrder) (turns : List OrderTurn) (most : ℕ) (waves later : List (List OpenOrder))
    → AreServed opening state listed turns most waves later → CoverInTurn opening (free_in state) (orders_of waves)
covered_waves opening state listed turns most waves later are =
    covered_front opening (free_in state) waves later
    (covered_in_turn opening (free_in state) (served_in turns) (waves ++ later) are.right.once
    (λ article. subst (λ (ts : List OrderTurn). wanted_together opening (served_in ts) article ≤ free_in state article) (sym are.turns_are.each)
    (served_are_covered opening (free_in state) (map one_of turns) article are.opens)))

-- each order may go
orders_may_go : (opening : Opening) (state : State) (listed : List OpenOrder) (turns : List OrderTurn) (most : ℕ) (waves later : List (List OpenOrder))
    → AreServed opening state listed turns most waves later → All (MayGo opening state.waves) (joined (orders_of waves))
orders_may_go opening state listed turns most waves later are =
    let P = May opening state.waves in
    let waiting = waiting_may_go opening state.waves listed are.listed_are.each in
    let in_turn = All-permutation P (waiting_of opening state.waves listed) (map one_of turns) are.turns_are.in_turn.same waiting in
    let served = All-permutation P (served_in turns) (all_of (waves ++ later)) are.right.once (served_all P turns in_turn) in
    let front = All-front P (all_of waves) (all_of later) (subst (All P) (all_append waves later) served) in
    subst (All (MayGo opening state.waves)) (sym (joined_is waves)) (All-orders (MayGo opening state.waves) (all_of waves) front)

-- and none stands twice
orders_once : (opening : Opening) (state : State) (listed : List OpenOrder) (turns : List OrderTurn) (most : ℕ) (waves later : List (List OpenOrder))
    → AreServed opening state listed turns most waves later → (name : List ℕ) → times name (joined (orders_of waves)) ≤ 1
orders_once opening state listed turns most waves later are name =
    let f = λ (one : OpenOrder). one_named name one.order in
    let p = λ (one : OpenOrder). is_waiting (standing_of opening state.waves one) in
    omega (
      arith,
      different_once (map order_of listed) are.listed_are.different name,
      times_map order_of name listed,
      sum_by-filter_both p (λ (one : OpenOrder). not (p one)) (λ _. refl) f listed,
      sum_by-IsPermutation f (waiting_of opening state.waves listed) (map one_of turns) are.turns_are.in_turn.same,
      served_fewer f turns,
      sum_by-IsPermutation f (served_in turns) (all_of (waves ++ later)) are.right.once,
      ap (sum_by f) (all_append waves later),
      sum_by-append f (all_of waves) (all_of later),
      times_map order_of name (all_of waves),
      ap (times name) (joined_is waves),
    )

-- each command of the first waves is done
pub served_go_out : (opening : Opening) (state : State) (listed : List OpenOrder) (turns : List OrderTurn) (most : ℕ) (waves later : List (List OpenOrder))
    (names : List (List ℕ)) → AreServed opening state listed turns most waves later → AreNamesOf (map name_of state.waves) waves names
    → AreDone opening state (sendings_of names (orders_of waves))
served_go_out opening state listed turns most waves later names are named =
    go_out opening names (orders_of waves) state (record {
      covered = covered_waves opening state listed turns most waves later are;
      each = orders_may_go opening state listed turns most waves later are;
      once = orders_once opening state listed turns most waves later are;
      sizes = sizes_front most waves later are.few are.right.some are.right.few;
      fresh = names_new (map name_of state.waves) waves names named;
    })
