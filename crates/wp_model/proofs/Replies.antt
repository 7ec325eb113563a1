-- Each command is refused, which leaves the state as it was, or it is done, and its reply says so.
use Rattle.std.proofs.Common.{◌≡◌, ◌⊎◌, inl, inr, ℕ, List, true, false, not, nat_le, nat_lt, bytes_eq, Some, None, refl, Bool, if◌then◌else◌, ◌+◌, ap, sym, ◌∙◌}
use Rattle.std.proofs.Common.{◌==◌, ◌++◌, [], ◌∷◌, Option, option_map, length}
use Rattle.std.specs.Option.{option_or}
use Rattle.std.specs.Prelude.{IfSome, IsTrue}
use Rattle.wp_model.proofs.Elements.{at_some}
use Rattle.wp_model.proofs.Found.{option_map_or-both}
use Rattle.wp_model.specs.Change.{take}
use Rattle.wp_model.specs.Demand.{free_units, short_article}
use Rattle.wp_model.specs.Limits.{most_on_hand, most_wave_orders}
use Rattle.wp_model.specs.Opening.{Opening, article_name, is_known_order, order_units}
use Rattle.wp_model.specs.State.{State, Wave}
use Rattle.wp_model.specs.Step.{Held, SaysDone, Stepped, allot, at_held, at_released, at_wave, cancel, cart_fault, first_order_fault, give_up, held_for}
use Rattle.wp_model.specs.Step.{hold_for}
use Rattle.wp_model.specs.Step.{is_among, is_over_cart, is_refusal, order_fault, pick, taker_of}
use Rattle.wp_model.specs.Step.{receive_at, refuse, refuse_short, release, row_from, step, submit_fault, wave_from, write_off}
use Rattle.wp_model.specs.declared.command.Command.{Command}
use Rattle.wp_model.specs.declared.command.Command.TheVariants as command
use Rattle.wp_model.specs.declared.location.Location.{Location}
use Rattle.wp_model.specs.declared.reply.Reply.{Reply}
use Rattle.wp_model.specs.declared.reply.Reply.TheVariants as reply
use Rattle.wp_model.specs.declared.reply.WaveState.{WaveState}
use Rattle.wp_model.specs.declared.reply.WaveState.TheVariants as wave
use Rattle.wp_model.specs.declared.row.Row.{Row}

-- what holds of each refusal in a state, and of each step of a command that is done
record Covers (state : State) (command : Command) (P : Stepped → Type 0) : Type 0 where
  refused : (why : Reply) → is_refusal why ≡ true → P (refuse state why)
  done : (answer : Reply) (after : State) → SaysDone command answer → P (record { reply = answer; state = after })

either : {X : Type 0} (P : X → Type 0) (test : Bool) (a b : X) → P a → P b → P (if test then a else b)
either P true a b first second = first
either P false a b first second = second

-- what may be found refuses
abbrev AllRefuse : Option Reply → Type 0
AllRefuse found = IfSome found (λ why. is_refusal why ≡ true)

first_refuses : (a b : Option Reply) → AllRefuse a → AllRefuse b → AllRefuse (option_or a b)
first_refuses None b first second = second
first_refuses (Some why) b first second = first

changed_refuses : {X : Type 0} (f : X → Reply) (found : Option X) → ((x : X) → is_refusal (f x) ≡ true) → AllRefuse (option_map f found)
changed_refuses f None each = tt
changed_refuses f (Some x) each = each x

cart_fault_refuses : (opening : Opening) (order : List ℕ) → AllRefuse (cart_fault opening order)
cart_fault_refuses opening order = either AllRefuse (is_over_cart opening.units (order_units opening.orders order)) _ _ refl tt

order_fault_refuses : (opening : Opening) (waves : List Wave) (before : List (List ℕ)) (order : List ℕ) → AllRefuse (order_fault opening waves before order)
order_fault_refuses opening waves before order =
    either AllRefuse (not (is_known_order opening.orders order)) _ _ refl
    (either AllRefuse (is_among before order) _ _ refl
    (first_refuses (option_map (reply.OrderTaken order) (taker_of waves order)) _
    (changed_refuses (reply.OrderTaken order) (taker_of waves order) (λ taker. refl)) (cart_fault_refuses opening order)))

orders_fault_refuses : (opening : Opening) (waves : List Wave) (before orders : List (List ℕ)) → AllRefuse (first_order_fault opening waves before orders)
orders_fault_refuses opening waves before [] = tt
orders_fault_refuses opening waves before (order ∷ orders) =
    first_refuses (order_fault opening waves before order) _ (order_fault_refuses opening waves before order)
    (orders_fault_refuses opening waves (before ++ order ∷ []) orders)

submit_fault_refuses : (opening : Opening) (state : State) (name : List ℕ) (orders : List (List ℕ)) → AllRefuse (submit_fault opening state name orders)
submit_fault_refuses opening state name orders =
    either AllRefuse (length orders == 0) _ _ refl
    (either AllRefuse (nat_lt most_wave_orders (length orders)) _ _ refl
    (first_refuses (option_map (λ found. reply.KnownWave) (wave_from 0 state.waves name)) _
    (changed_refuses (λ (found : ℕ × Wave). reply.KnownWave) (wave_from 0 state.waves name) (λ found. refl))
    (orders_fault_refuses opening state.waves [] orders)))

at_wave_covered : (state : State) (asked : Command) (P : Stepped → Type 0) (name : List ℕ) (change : ℕ → Wave → Stepped) → Covers state asked P
    → ((number : ℕ) (w : Wave) → P (change number w)) → P (at_wave state name change)
at_wave_covered state asked P name change covers each =
    option_map_or-both P (λ (found : ℕ × Wave). change found.0 found.1) (wave_from 0 state.waves name) _
    (λ found is. each found.0 found.1) (λ none. covers.refused reply.UnknownWave refl)

holding_covered : (opening : Opening) (state : State) (asked : Command) (P : Stepped → Type 0) (next : WaveState) (answer : Reply) (number : ℕ) (w : Wave)
    → Covers state asked P → SaysDone asked answer → P (hold_for opening state next answer number w)
holding_covered opening state asked P next answer number w covers says =
    option_map_or-both P (refuse_short opening state w) (short_article opening state.rows w.orders None) _
    (λ article short. covers.refused _ refl) (λ covered. covers.done answer _ says)

allot_covered : (opening : Opening) (state : State) (P : Stepped → Type 0) (name : List ℕ) (number : ℕ) (w : Wave) (s : WaveState)
    → Covers state (command.Allot name) P → P (allot opening state number w s)
allot_covered opening state P name number w wave.Submitted covers =
    holding_covered opening state (command.Allot name) P wave.Allotted reply.Allotted number w covers refl
allot_covered opening state P name number w wave.Allotted covers = covers.refused _ refl
allot_covered opening state P name number w wave.Released covers = covers.refused _ refl
allot_covered opening state P name number w wave.Cancelled covers = covers.refused _ refl
allot_covered opening state P name number w wave.Done covers = covers.refused _ refl

release_covered : (opening : Opening) (state : State) (P : Stepped → Type 0) (name : List ℕ) (number : ℕ) (w : Wave) (s : WaveState)
    → Covers state (command.Release name) P → P (release opening state number w s)
release_covered opening state P name number w wave.Submitted covers =
    holding_covered opening state (command.Release name) P wave.Released reply.Released number w covers refl
release_covered opening state P name number w wave.Allotted covers = covers.done reply.Released _ refl
release_covered opening state P name number w wave.Released covers = covers.refused _ refl
release_covered opening state P name number w wave.Cancelled covers = covers.refused _ refl
release_covered opening state P name number w wave.Done covers = covers.refused _ refl

cancel_covered : (state : State) (P : Stepped → Type 0) (name : List ℕ) (number : ℕ) (w : Wave) (s : WaveState)
    → Covers state (command.Cancel name) P → P (cancel state number w s)
cancel_covered state P name number w wave.Submitted covers = covers.done reply.Cancelled _ refl
cancel_covered state P name number w wave.Allotted covers = covers.done reply.Cancelled _ refl
cancel_covered state P name number w wave.Released covers =
    either P w.picked (refuse state reply.Picking) (give_up state number w) (covers.refused reply.Picking refl) (covers.done reply.Cancelled _ refl)
cancel_covered state P name number w wave.Cancelled covers = covers.refused _ refl
cancel_covered state P name number w wave.Done covers = covers.refused _ refl

at_held_covered : (state : State) (asked : Command) (P : Stepped → Type 0) (number : ℕ) (w : Wave) (order : List ℕ) (location : Location) (quantity : ℕ)
    (change : Held → Stepped) → Covers state asked P → ((held : Held) → P (change held)) → P (at_held state number w order location quantity change)
at_held_covered state asked P number w order location quantity change covers each =
    option_map_or-both P (λ (held : Held). if nat_lt held.units quantity then refuse state (reply.TooMuch held.units) else change held)
    (held_for state number w order location) _
    (λ held is. either P (nat_lt held.units quantity) _ _ (covers.refused (reply.TooMuch held.units) refl) (each held))
    (λ none. covers.refused (reply.NotHeld location) refl)

at_released_covered : (state : State) (asked : Command) (P : Stepped → Type 0) (number : ℕ) (w : Wave) (order : List ℕ) (location : Location)
    (quantity : ℕ) (change : Held → Stepped) (s : WaveState) → Covers state asked P → ((held : Held) → P (change held))
    → P (at_released state number w order location quantity change s)
at_released_covered state asked P number w order location quantity change wave.Released covers each =
    at_held_covered state asked P number w order location quantity change covers each
at_released_covered state asked P number w order location quantity change wave.Submitted covers each = covers.refused _ refl
at_released_covered state asked P number w order location quantity change wave.Allotted covers each = covers.refused _ refl
at_released_covered state asked P number w order location quantity change wave.Cancelled covers each = covers.refused _ refl
at_released_covered state asked P number w order location quantity change wave.Done covers each = covers.refused _ refl

write_off_covered : (opening : Opening) (state : State) (P : Stepped → Type 0) (name order : List ℕ) (location : Location) (number : ℕ) (w : Wave)
    (quantity : ℕ) (held : Held) → Covers state (command.Missing name order location quantity) P → P (write_off opening state number w quantity held)
write_off_covered opening state P name order location number w quantity held covers =
    either P (nat_le quantity (free_units (take number held.order held.row quantity state).rows held.article (Some held.row))) _ _
    (covers.done (reply.Refilled quantity) _ (inl refl)) (covers.done (reply.Lost (article_name opening held.article) quantity) _ (inr (_, refl)))

receive_covered : (opening : Opening) (state : State) (P : Stepped → Type 0) (location : Location) (article : List ℕ) (quantity number : ℕ) (row : Row)
    → Covers state (command.Receive location article quantity) P → P (receive_at opening state article quantity number row)
receive_covered opening state P location article quantity number row covers =
    either P (not (bytes_eq (article_name opening row.article) article)) _ _ (covers.refused _ refl)
    (either P (nat_lt most_on_hand (row.on_hand + quantity)) _ _ (covers.refused _ refl) (covers.done reply.Received _ refl))

-- what holds of each refusal and of each step that is done holds of the step of the command
step_covered : (opening : Opening) (state : State) (asked : Command) (P : Stepped → Type 0) → Covers state asked P → P (step opening state asked)
step_covered opening state (command.Submit name orders) P covers =
    option_map_or-both P (refuse state) (submit_fault opening state name orders) _
    (λ why is. covers.refused why (at_some _ (λ why. is_refusal why ≡ true) why is (submit_fault_refuses opening state name orders)))
    (λ none. covers.done reply.Submitted _ refl)
step_covered opening state (command.Allot name) P covers =
    at_wave_covered state (command.Allot name) P name _ covers (λ number w. allot_covered opening state P name number w w.state covers)
step_covered opening state (command.Release name) P covers =
    at_wave_covered state (command.Release name) P name _ covers (λ number w. release_covered opening state P name number w w.state covers)
step_covered opening state (command.Cancel name) P covers =
    at_wave_covered state (command.Cancel name) P name _ covers (λ number w. cancel_covered state P name number w w.state covers)
step_covered opening state (command.Pick name order location quantity) P covers =
    let asked = command.Pick name order location quantity in
    at_wave_covered state asked P name _ covers (λ number w. at_released_covered state asked P number w order location quantity
    (pick state number w quantity) w.state covers (λ held. covers.done reply.Picked _ refl))
step_covered opening state (command.Missing name order location quantity) P covers =
    let asked = command.Missing name order location quantity in
    at_wave_covered state asked P name _ covers (λ number w. at_released_covered state asked P number w order location quantity
    (write_off opening state number w quantity) w.state covers
    (λ held. write_off_covered opening state P name order location number w quantity held covers))
step_covered opening state (command.Receive location article quantity) P covers =
    option_map_or-both P (λ (found : ℕ × Row). receive_at opening state article quantity found.0 found.1) (row_from 0 state.rows location) _
    (λ found is. receive_covered opening state P location article quantity found.0 found.1 covers) (λ none. covers.refused reply.NoRow refl)

-- what says that a command was done refuses nothing
done_refuses_nothing : (asked : Command) (answer : Reply) → SaysDone asked answer → is_refusal answer ≡ true → ⊥
done_refuses_nothing (command.Submit name orders) answer says refuses = absurd (cc (sym refuses ∙ ap is_refusal says))
done_refuses_nothing (command.Allot name) answer says refuses = absurd (cc (sym refuses ∙ ap is_refusal says))
done_refuses_nothing (command.Release name) answer says refuses = absurd (cc (sym refuses ∙ ap is_refusal says))
done_refuses_nothing (command.Cancel name) answer says refuses = absurd (cc (sym refuses ∙ ap is_refusal says))
done_refuses_nothing (command.Pick name order location quantity) answer says refuses = absurd (cc (sym refuses ∙ ap is_refusal says))
done_refuses_nothing (command.Missing name order location quantity) answer (inl says) refuses = absurd (cc (sym refuses ∙ ap is_refusal says))
done_refuses_nothing (command.Missing name order location quantity) answer (inr says) refuses = absurd (cc (sym refuses ∙ ap is_refusal says.1))
done_refuses_nothing (command.Receive location article quantity) answer says refuses = absurd (cc (sym refuses ∙ ap is_refusal says))

-- a refusal leaves the state as it was
pub refusals_leave : (opening : Opening) (state : State) (asked : Command) → IsTrue (is_refusal (step opening state asked).reply)
    → (step opening state asked).state ≡ state
refusals_leave opening state asked = step_covered opening state asked (λ (s : Stepped). IsTrue (is_refusal s.reply) → s.state ≡ state)
    (record { refused = λ why is refuses. refl; done = λ answer after says refuses. absurd (done_refuses_nothing asked answer says refuses) })

-- a command's reply says that it was done, or refuses it
pub done_or_refused : (opening : Opening) (state : State) (asked : Command)
    → SaysDone asked (step opening state asked).reply ⊎ IsTrue (is_refusal (step opening state asked).reply)
done_or_refused opening state asked = step_covered opening state asked (λ (s : Stepped). SaysDone asked s.reply ⊎ IsTrue (is_refusal s.reply))
    (record { refused = λ why is. inr is; done = λ answer after says. inl says })
