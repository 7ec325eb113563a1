-- What a step tells beside its reply.
use Rattle.std.specs.Prelude.{ℕ, ◌+◌, Bool, true, false, List, [], ◌∷◌, length}
use Rattle.std.specs.List.{flat_map}
use Rattle.std.specs.Option.{option_map_or}
use Rattle.wp_model.specs.Book.{held_list, held_more}
use Rattle.wp_model.specs.Cancelled.{is_cancelled_in}
use Rattle.wp_model.specs.History.{History, state_after}
use Rattle.wp_model.specs.Opening.{Opening}
use Rattle.wp_model.specs.State.{State, opening_state}
use Rattle.wp_model.specs.Step.{Stepped, step, wave_from}
use Rattle.wp_model.specs.declared.command.Command.{Command}
use Rattle.wp_model.specs.declared.command.Command.TheVariants as command
use Rattle.wp_model.specs.declared.reply.Reply.{Reply}
use Rattle.wp_model.specs.declared.reply.Reply.TheVariants as reply
use Rattle.wp_model.specs.declared.entry.Entry.{Entry}
use Rattle.wp_machine.specs.declared.outcome.Outcome.{Outcome}
use Rattle.wp_machine.specs.declared.outcome.Outcome.TheVariants as outcome
use Rattle.wp_machine.specs.declared.outcome.Refill.{Refill}
use Rattle.wp_machine.specs.declared.outcome.WaveHolds.{WaveHolds}

-- all that the wave of a name holds in a state, by order and then by row
abbrev pub wave_holds : ℕ → State → List ℕ → Outcome
wave_holds number state name =
    option_map_or (λ found. outcome.Released (record {
      number = number;
      wave = name;
      orders = found.1.orders;
      holds = held_list (length found.1.orders) (length state.rows) (state.held found.0);
    }))
    (wave_from 0 state.waves name) outcome.Plain

-- what the wave of a name holds in a state beyond what it held in one before
abbrev pub refilled_holds : ℕ → State → State → List ℕ → List ℕ → Outcome
refilled_holds number before after name order =
    option_map_or (λ found. outcome.Refilled (record {
      number = number;
      wave = name;
      order = order;
      holds = held_more before after found.0 (length found.1.orders);
    }))
    (wave_from 0 after.waves name) outcome.Plain

-- a release that is done tells all that the wave holds
abbrev pub release_outcome : ℕ → State → List ℕ → Reply → Outcome
release_outcome number after name reply.Released = wave_holds number after name
release_outcome number after name other = outcome.Plain

-- a refill tells the units that it held
abbrev pub missing_outcome : ℕ → State → State → List ℕ → List ℕ → Reply → Outcome
missing_outcome number before after name order (reply.Refilled units) = refilled_holds number before after name order
missing_outcome number before after name order other = outcome.Plain

-- what the step of a command tells, as the entry with a number
abbrev pub outcome_of : ℕ → State → Command → Stepped → Outcome
outcome_of number before (command.Release name) stepped = release_outcome number stepped.state name stepped.reply
outcome_of number before (command.Missing name order location quantity) stepped
    = missing_outcome number before stepped.state name order stepped.reply
outcome_of number before other stepped = outcome.Plain

-- what the steps of entries tell, one after the other, from a state on, where the first entry has this number
abbrev pub outcomes_from : Opening → ℕ → State → List Entry → List Outcome
outcomes_from opening number state [] = []
outcomes_from opening number state (entry ∷ entries) =
    outcome_of number state entry.command (step opening state entry.command)
    ∷ outcomes_from opening (number + 1) (step opening state entry.command).state entries

-- the refill that a step tells, if it tells one
abbrev pub refill_in : Outcome → List Refill
refill_in (outcome.Refilled refill) = refill ∷ []
refill_in other = []

-- the refills of a history, in the order of its entries
abbrev pub refills_of : History → List Refill
refills_of history = flat_map refill_in (outcomes_from history.opening 0
    (opening_state history.opening) history.entries)

-- the wave that a step sends out, if it sends one out
abbrev pub released_in : Outcome → List WaveHolds
released_in (outcome.Released released) = released ∷ []
released_in other = []

-- the waves that went out in a history, in the order of its entries
abbrev pub released_of : History → List WaveHolds
released_of history = flat_map released_in
    (outcomes_from history.opening 0 (opening_state history.opening) history.entries)

-- a wave that went out is cancelled later: it is cancelled in the state after the history. That is so exactly where a
-- later entry cancels it: the law `later_entries_cancel_waves`.
abbrev pub is_cancelled_later : History → WaveHolds → Bool
is_cancelled_later history released = is_cancelled_in (state_after history) released.wave

-- an outcome tells the holds of a wave that went out
abbrev pub tells_holds : Outcome → Bool
tells_holds (outcome.Released holds) = true
tells_holds other = false

-- an outcome tells a refill
abbrev pub tells_refill : Outcome → Bool
tells_refill (outcome.Refilled refill) = true
tells_refill other = false
