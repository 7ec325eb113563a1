-- Waves of orders that may go, which free stock covers in turn, go out one after the other.
use Rattle.std.proofs.Common.{◌≡◌, ◌∙◌, refl, sym, ap, ap₂, subst, ℕ, suc, ◌+◌, ◌-◌, ◌<◌, ◌≤◌, ◌&&◌, ◌==◌, not, nat_lt, true, false, List, [], ◌∷◌, ◌++◌}
use Rattle.std.proofs.Common.{length, map, All, None, Some, arith, bytes_eq, option_map, append_assoc, slice_get, ne_eqb}
use Rattle.std.proofs.lemmas.Bool.{and_right, cond-false, cond-true, le-ltb, not_from_true, or_parts}
use Rattle.std.proofs.lemmas.List.{map-append}
use Rattle.std.proofs.lemmas.List.Elements.{All-cons, All-head, All-nil, All-tail}
use Rattle.std.proofs.lemmas.List.Sums.{get_or-le-sum_by, sum_by-append, sum_by-cons}
use Rattle.std.proofs.lemmas.Option.{get_or_from_slice_get, slice_get_within}
use Rattle.std.proofs.lemmas.Slice.Eq.{bytes_eq-Decides}
use Rattle.std.specs.Option.{option_map_or, option_or}
use Rattle.std.specs.Prelude.{slice_set, ⊤}
use Rattle.wp_model.proofs.Demand.{demand_at-some, none_from_covered}
use Rattle.wp_model.proofs.Elements.{All-at, All-from_at}
use Rattle.wp_model.proofs.Faults.{if-none}
use Rattle.wp_model.proofs.FoundWaves.{at_found}
use Rattle.wp_model.specs.Change.{hold, put_wave}
use Rattle.wp_model.specs.Demand.{demand_at, free_units, wave_demand}
use Rattle.wp_model.specs.Limits.{most_wave_orders}
use Rattle.wp_model.specs.Opening.{Opening, is_known_order, order_units}
use Rattle.wp_model.specs.State.{State, Wave}
use Rattle.wp_model.specs.Step.{Stepped, add_wave, first_order_fault, is_among, is_live, is_over_cart, order_fault, refuse, refuse_short}
use Rattle.wp_model.specs.Step.{release, step, submit_fault, taker_of, wave_from}
use Rattle.wp_model.specs.declared.command.Command.{Command}
use Rattle.wp_model.specs.declared.command.Command.TheVariants as command
use Rattle.wp_model.specs.declared.reply.Reply.TheVariants as reply
use Rattle.wp_model.specs.declared.reply.WaveState.TheVariants as wave
use Rattle.wp_outgoing.specs.Sending.{AreDone, sendings_of}
use Rattle.wp_outgoing.proofs.HeldStock.{free_left}
use Rattle.wp_outgoing.proofs.NameCounts.{none_among, one_itself, one_named, times}

-- the name of a wave
abbrev pub wave_name : Wave → List ℕ
wave_name w = w.name

-- an order may go: it is known, lies in no wave that isn't cancelled, and fits into a cart
pub record MayGo (opening : Opening) (waves : List Wave) (order : List ℕ) : Type 0 where
  pub known : is_known_order opening.orders order ≡ true
  pub free : taker_of waves order ≡ None
  pub fits : is_over_cart opening.units (order_units opening.orders order) ≡ false

-- the orders of all waves
abbrev pub joined : List (List (List ℕ)) → List (List ℕ)
joined [] = []
joined (orders ∷ waves) = orders ++ joined waves

-- each wave is covered by what is free less what the waves before it want
abbrev pub CoverInTurn : Opening → (ℕ → ℕ) → List (List (List ℕ)) → Type 0
CoverInTurn opening free [] = ⊤
CoverInTurn opening free (orders ∷ waves) =
    ((article : ℕ) → wave_demand opening orders article ≤ free article)
    × CoverInTurn opening (λ article. free article - wave_demand opening orders article) waves

-- each name is new where these are taken, and where the names before it are
abbrev pub AreNew : List (List ℕ) → List (List ℕ) → Type 0
AreNew taken [] = ⊤
AreNew taken (name ∷ names) = (is_among taken name ≡ false) × AreNew (taken ++ name ∷ []) names

-- a wave has at least one order, and not too many
abbrev pub HasRightSize : List (List ℕ) → Type 0
HasRightSize orders = (0 < length orders) × (length orders ≤ most_wave_orders)

-- waves may go out under names, from a state on
pub record CanGo (opening : Opening) (state : State) (names : List (List ℕ)) (waves : List (List (List ℕ))) : Type 0 where
  pub covered : CoverInTurn opening (λ article. free_units state.rows article None) waves
  pub each : All (MayGo opening state.waves) (joined waves)
  pub once : (name : List ℕ) → times name (joined waves) ≤ 1
  pub sizes : All HasRightSize waves
  pub fresh : AreNew (map wave_name state.waves) names

-- as much is free of each article
covered_same : (opening : Opening) (free other : ℕ → ℕ) (waves : List (List (List ℕ))) → ((article : ℕ) → free article ≡ other article)
    → CoverInTurn opening free waves → CoverInTurn opening other waves
covered_same opening free other [] same covered = tt
covered_same opening free other (orders ∷ waves) same covered = (
  λ article. omega (arith, covered.0 article, same article),
  covered_same opening (λ article. free article - wave_demand opening orders article) (λ article. other article - wave_demand opening orders article) waves
      (λ article. ap (λ n. n - wave_demand opening orders article) (same article)) covered.1,
)

-- a wave of a new name isn't found
found_none : (first : ℕ) (waves : List Wave) (name : List ℕ) → is_among (map wave_name waves) name ≡ false → wave_from first waves name ≡ None
found_none first [] name none = refl
found_none first (w ∷ waves) name none =
    let parts = or_parts (bytes_eq w.name name) (is_among (map wave_name waves) name) none in
    cond-false (bytes_eq w.name name) (Some (first, w)) (wave_from (first + 1) waves name) parts.0 ∙ found_none (first + 1) waves name parts.1

-- once it is the last of all it is
found_last : (first : ℕ) (waves : List Wave) (w : Wave) → is_among (map wave_name waves) w.name ≡ false
    → wave_from first (waves ++ w ∷ []) w.name ≡ Some (first + length waves, w)
found_last first [] w none =
    let e : first ≡ first + 0 = omega arith in
    cond-true (bytes_eq w.name w.name) (Some (first, w)) (wave_from (first + 1) [] w.name) ((bytes_eq-Decides w.name w.name).1 refl)
    ∙ ap (λ (n : ℕ). Some (n, w)) e
found_last first (v ∷ waves) w none =
    let parts = or_parts (bytes_eq v.name w.name) (is_among (map wave_name waves) w.name) none in
    let e : first + 1 + length waves ≡ first + suc (length waves) = omega arith in
    cond-false (bytes_eq v.name w.name) (Some (first, v)) (wave_from (first + 1) (waves ++ w ∷ []) w.name) parts.0
    ∙ (found_last (first + 1) waves w parts.1 ∙ ap (λ (n : ℕ). Some (n, w)) e)

-- the last wave is changed
set_last : (waves : List Wave) (w changed : Wave) → slice_set (waves ++ w ∷ []) (length waves) changed ≡ waves ++ changed ∷ []
set_last [] w changed = refl
set_last (v ∷ waves) w changed = ap (λ rest. v ∷ rest) (set_last waves w changed)

-- an order lies in no wave after one more wave that hasn't it
taker_push : (waves : List Wave) (w : Wave) (order : List ℕ) → taker_of waves order ≡ None → is_among w.orders order ≡ false
    → taker_of (waves ++ w ∷ []) order ≡ None
taker_push [] w order none other =
    cond-false (is_live w.state && is_among w.orders order) (Some w.name) (taker_of [] order) (and_right (is_live w.state) _ other)
taker_push (v ∷ waves) w order none other =
    let parts = if-none (is_live v.state && is_among v.orders order) v.name (taker_of waves order) none in
    cond-false (is_live v.state && is_among v.orders order) (Some v.name) (taker_of (waves ++ w ∷ []) order) parts.0
    ∙ taker_push waves w order parts.1 other

-- an order that may go, and isn't among those before it, has no fault
no_fault : (opening : Opening) (waves : List Wave) (before : List (List ℕ)) (order : List ℕ) → MayGo opening waves order → is_among before order ≡ false
    → order_fault opening waves before order ≡ None
no_fault opening waves before order may new =
    cond-false (not (is_known_order opening.orders order)) (Some (reply.UnknownOrder order)) _ (not_from_true _ may.known)
    ∙ (cond-false (is_among before order) (Some (reply.OrderTwice order)) _ new
    ∙ ap₂ option_or (ap (option_map (reply.OrderTaken order)) may.free)
    (cond-false (is_over_cart opening.units (order_units opening.orders order)) _ None may.fits))

-- orders that may go, none of which stands twice, have none
no_order_fault : (opening : Opening) (waves : List Wave) (before orders : List (List ℕ)) → All (MayGo opening waves) orders
    → ((name : List ℕ) → times name (before ++ orders) ≤ 1) → first_order_fault opening waves before orders ≡ None
no_order_fault opening waves before [] may once = refl
no_order_fault opening waves before (order ∷ orders) may once =
    let new = none_among order before (omega (
      arith,
      once order,
      one_itself order,
      sum_by-append (one_named order) before (order ∷ orders),
      sum_by-cons (one_named order) order orders,
    )) in
    ap₂ option_or (no_fault opening waves before order (All-head (MayGo opening waves) order orders may) new)
    (no_order_fault opening waves (before ++ order ∷ []) orders (All-tail (MayGo opening waves) order orders may)
    (λ name. subst (λ (l : List (List ℕ)). times name l ≤ 1) (sym (append_assoc before (order ∷ []) orders)) (once name)))

-- a wave of orders that may go is submitted
submits : (opening : Opening) (state : State) (name : List ℕ) (orders : List (List ℕ)) → HasRightSize orders
    → is_among (map wave_name state.waves) name ≡ false → All (MayGo opening state.waves) orders → ((name : List ℕ) → times name orders ≤ 1)
    → step opening state (command.Submit name orders) ≡ (record { reply = reply.Submitted; state = add_wave name orders state })
submits opening state name orders size new may once =
    let none : submit_fault opening state name orders ≡ None =
    cond-false (length orders == 0) (Some reply.NoOrders) _ (ne_eqb (length orders) 0 (λ none. omega arith))
    ∙ (cond-false (nat_lt most_wave_orders (length orders)) (Some (reply.WaveFull (length orders))) _ (le-ltb most_wave_orders (length orders) size.1)
    ∙ ap₂ option_or (ap (option_map (λ found. reply.KnownWave)) (found_none 0 state.waves name new))
    (no_order_fault opening state.waves [] orders may once)) in
    ap (λ fault. option_map_or (refuse state) fault (record { reply = reply.Submitted; state = add_wave name orders state })) none

-- the wave as it is submitted, and as it goes out
abbrev as_submitted : List ℕ → List (List ℕ) → Wave
as_submitted name orders = record { name = name; orders = orders; state = wave.Submitted; picked = false }

abbrev as_released : List ℕ → List (List ℕ) → Wave
as_released name orders = record { name = name; orders = orders; state = wave.Released; picked = false }

-- the state after it went out
abbrev sent : Opening → State → List ℕ → List (List ℕ) → State
sent opening state name orders =
    put_wave (length state.waves) (as_released name orders)
    (hold (demand_at opening orders) None (length state.waves) (length orders) (add_wave name orders state))

-- a submitted wave that free stock covers is released
releases : (opening : Opening) (state : State) (name : List ℕ) (orders : List (List ℕ)) → is_among (map wave_name state.waves) name ≡ false
    → ((article : ℕ) → wave_demand opening orders article ≤ free_units state.rows article None)
    → step opening (add_wave name orders state) (command.Release name) ≡ (record { reply = reply.Released; state = sent opening state name orders })
releases opening state name orders new covered =
    let w = as_submitted name orders in
    let e : 0 + length state.waves ≡ length state.waves = omega arith in
    let found : wave_from 0 (state.waves ++ w ∷ []) name ≡ Some (length state.waves, w) =
    found_last 0 state.waves w new ∙ ap (λ (n : ℕ). Some (n, w)) e in
    at_found (add_wave name orders state) name (λ number v. release opening (add_wave name orders state) number v v.state) (length state.waves) w found
    ∙ ap (λ short. option_map_or (refuse_short opening (add_wave name orders state) w) short
    (record { reply = reply.Released; state = sent opening state name orders }))
    (none_from_covered opening state.rows orders None covered)

-- the waves after it
waves_after : (opening : Opening) (state : State) (name : List ℕ) (orders : List (List ℕ))
    → (sent opening state name orders).waves ≡ state.waves ++ as_released name orders ∷ []
waves_after opening state name orders = set_last state.waves (as_submitted name orders) (as_released name orders)

-- an order stands at least once where it stands
counted : (orders : List (List ℕ)) (k : ℕ) (order : List ℕ) → slice_get orders k ≡ Some order → 1 ≤ times order orders
counted orders k order at =
    let within = slice_get_within orders k order at in
    omega (
      arith,
      get_or-le-sum_by (one_named order) orders k order within,
      ap (one_named order) (get_or_from_slice_get orders k order order at),
      one_itself order,
    )

-- the others may still go
may_still : (opening : Opening) (waves : List Wave) (name : List ℕ) (orders others : List (List ℕ)) → All (MayGo opening waves) others
    → ((order : List ℕ) → times order (orders ++ others) ≤ 1)
    → All (MayGo opening (waves ++ as_released name orders ∷ [])) others
may_still opening waves name orders others may once = All-from_at (MayGo opening (waves ++ as_released name orders ∷ [])) others (λ k order at.
    let was = All-at (MayGo opening waves) others k order may at in
    let none = none_among order orders (omega (arith, once order, sum_by-append (one_named order) orders others, counted others k order at)) in
    record { known = was.known; free = taker_push waves (as_released name orders) order was.free none; fits = was.fits })

-- what holds of each element of two lists in a row holds of those of the first
pub All-front : {X : Type 0} (P : X → Type 0) (xs ys : List X) → All P (xs ++ ys) → All P xs
All-front P [] ys all = All-nil P
All-front P (x ∷ xs) ys all = All-cons P x xs (All-head P x (xs ++ ys) all) (All-front P xs ys (All-tail P x (xs ++ ys) all))

-- and of those of the second
pub All-back : {X : Type 0} (P : X → Type 0) (xs ys : List X) → All P (xs ++ ys) → All P ys
All-back P [] ys all = all
All-back P (x ∷ xs) ys all = All-back P xs ys (All-tail P x (xs ++ ys) all)

-- the waves that are left may go out then
can_go_on : (opening : Opening) (state : State) (name : List ℕ) (names : List (List ℕ)) (orders : List (List ℕ)) (waves : List (List (List ℕ)))
    → CanGo opening state (name ∷ names) (orders ∷ waves) → CanGo opening (sent opening state name orders) names waves
can_go_on opening state name names orders waves can =
    let after = waves_after opening state name orders in
    record {
      covered = covered_same opening (λ article. free_units state.rows article None - wave_demand opening orders article)
          (λ article. free_units (sent opening state name orders).rows article None) waves
          (λ article. omega (
            arith,
            free_left (demand_at opening orders) state.rows (length orders) article (can.covered.0 article) (demand_at-some opening orders article),
          ))
          can.covered.1;
      each = subst (λ (ws : List Wave). All (MayGo opening ws) (joined waves)) (sym after)
          (may_still opening state.waves name orders (joined waves) (All-back (MayGo opening state.waves) orders (joined waves) can.each) can.once);
      once = λ order. omega (arith, can.once order, sum_by-append (one_named order) orders (joined waves));
      sizes = All-tail HasRightSize orders waves can.sizes;
      fresh = subst (λ (l : List (List ℕ)). AreNew l names)
          (sym (ap (map wave_name) after ∙ map-append wave_name state.waves (as_released name orders ∷ []))) can.fresh.1;
    }

-- two commands are done, and then the others
done_then : (opening : Opening) (state next last : State) (name : List ℕ) (orders : List (List ℕ)) (others : List Command)
    → step opening state (command.Submit name orders) ≡ (record { reply = reply.Submitted; state = next })
    → step opening next (command.Release name) ≡ (record { reply = reply.Released; state = last })
    → AreDone opening last others → AreDone opening state (command.Submit name orders ∷ command.Release name ∷ others)
done_then opening state next last name orders others first second done = (
  ap (λ (s : Stepped). s.reply) first,
  (
    ap (λ (s : Stepped). (step opening s.state (command.Release name)).reply) first ∙ ap (λ (s : Stepped). s.reply) second,
    subst (λ (s : Stepped). AreDone opening (step opening s.state (command.Release name)).state others) (sym first)
        (subst (λ (s : Stepped). AreDone opening s.state others) (sym second) done),
  ),
)

-- each command of waves that may go out is done
pub go_out : (opening : Opening) (names : List (List ℕ)) (waves : List (List (List ℕ))) (state : State) → CanGo opening state names waves
    → AreDone opening state (sendings_of names waves)
go_out opening [] waves state can = tt
go_out opening (name ∷ names) [] state can = tt
go_out opening (name ∷ names) (orders ∷ waves) state can =
    let front = All-front (MayGo opening state.waves) orders (joined waves) can.each in
    let once = λ (order : List ℕ). let few : times order orders ≤ 1 =
    omega (arith, can.once order, sum_by-append (one_named order) orders (joined waves)) in few in
    done_then opening state (add_wave name orders state) (sent opening state name orders) name orders (sendings_of names waves)
    (submits opening state name orders (All-head HasRightSize orders waves can.sizes) can.fresh.0 front once)
    (releases opening state name orders can.fresh.0 can.covered.0)
    (go_out opening names waves (sent opening state name orders) (can_go_on opening state name names orders waves can))
