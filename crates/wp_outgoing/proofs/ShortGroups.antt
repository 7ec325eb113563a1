-- Right waves of served orders may be named.
use Rattle.std.proofs.Common.{subst, ℕ, ◌<◌, List, [], ◌∷◌, ◌++◌, length, map, All, arith}
use Rattle.std.proofs.lemmas.List.Elements.{All-cons, All-filter, All-head, All-nil, All-tail}
use Rattle.std.proofs.lemmas.List.Sorted.{All-permutation}
use Rattle.wp_model.specs.Opening.{Opening}
use Rattle.wp_model.specs.State.{State}
use Rattle.wp_outgoing.specs.Names.{HasShortGroup}
use Rattle.wp_outgoing.proofs.ServedWaves.{all_append, served_all}
use Rattle.wp_outgoing.proofs.WavesOut.{All-back, All-front}
use Rattle.wp_waves.specs.OpenOrders.{AreOpenOrders, IsOpenOrder}
use Rattle.wp_waves.specs.Standing.{is_waiting, standing_of, waiting_of}
use Rattle.wp_waves.specs.Turns.{AreTurns, one_of, served_in}
use Rattle.wp_waves.specs.Waves.{AreWavesOf}
use Rattle.wp_waves.specs.Weights.{all_of}
use Rattle.wp_waves.specs.declared.open_orders.OpenOrder.{OpenOrder}
use Rattle.wp_waves.specs.declared.turns.OrderTurn.{OrderTurn}

-- what holds of each open order holds of each that is served in its turn
pub each_served : (P : OpenOrder → Type 0) (opening : Opening) (state : State) (listed : List OpenOrder) (turns : List OrderTurn)
    → AreTurns opening state listed turns → All P listed → All P (served_in turns)
each_served P opening state listed turns turns_are each =
    let waiting = All-filter (λ one. is_waiting (standing_of opening state.waves one)) P listed each in
    served_all P turns (All-permutation P (waiting_of opening state.waves listed) (map one_of turns) turns_are.in_turn.same waiting)

-- so it holds of each order of the first waves
pub each_in_waves : (P : OpenOrder → Type 0) (opening : Opening) (state : State) (listed : List OpenOrder) (turns : List OrderTurn) (most : ℕ)
    (waves later : List (List OpenOrder)) → AreTurns opening state listed turns → AreWavesOf most (served_in turns) (waves ++ later) → All P listed
    → All P (all_of waves)
each_in_waves P opening state listed turns most waves later turns_are right each =
    let served = All-permutation P (served_in turns) (all_of (waves ++ later)) right.once
    (each_served P opening state listed turns turns_are each) in
    All-front P (all_of waves) (all_of later) (subst (All P) (all_append waves later) served)

-- a wave of open orders has a short group
short_group : (opening : Opening) (wave : List OpenOrder) → 0 < length wave → All (IsOpenOrder opening.orders) wave → HasShortGroup wave
short_group opening [] some each = absurd (omega arith)
short_group opening (one ∷ others) some each =
    record { some = some; short = (All-head (IsOpenOrder opening.orders) one others each).group }

each_short : (opening : Opening) (waves later : List (List OpenOrder)) → All (λ (wave : List OpenOrder). 0 < length wave) (waves ++ later)
    → All (IsOpenOrder opening.orders) (all_of waves) → All HasShortGroup waves
each_short opening [] later some each = All-nil HasShortGroup
each_short opening (wave ∷ waves) later some each =
    All-cons HasShortGroup wave waves
    (short_group opening wave (All-head (λ (w : List OpenOrder). 0 < length w) wave (waves ++ later) some)
    (All-front (IsOpenOrder opening.orders) wave (all_of waves) each))
    (each_short opening waves later (All-tail (λ (w : List OpenOrder). 0 < length w) wave (waves ++ later) some)
    (All-back (IsOpenOrder opening.orders) wave (all_of waves) each))

-- so each of the first waves has one
pub short_groups : (opening : Opening) (state : State) (listed : List OpenOrder) (turns : List OrderTurn) (most : ℕ) (waves later : List (List OpenOrder))
    → AreOpenOrders opening.orders listed → AreTurns opening state listed turns → AreWavesOf most (served_in turns) (waves ++ later)
    → All HasShortGroup waves
short_groups opening state listed turns most waves later listed_are turns_are right =
    each_short opening waves later right.some
    (each_in_waves (IsOpenOrder opening.orders) opening state listed turns most waves later turns_are right listed_are.each)
