-- A history that goes on from one to begin with, and what is new in it.
use Rattle.std.specs.Prelude.{◌≡◌, List, ◌++◌, drop, length}
use Rattle.std.specs.List.{flat_map}
use Rattle.wp_machine.specs.Outcome.{outcomes_from, refill_in, released_in}
use Rattle.wp_machine.specs.declared.outcome.Outcome.{Outcome}
use Rattle.wp_machine.specs.declared.outcome.Refill.{Refill}
use Rattle.wp_machine.specs.declared.outcome.WaveHolds.{WaveHolds}
use Rattle.wp_model.specs.History.{History, state_after}
use Rattle.wp_model.specs.declared.entry.Entry.{Entry}

-- a history, and these entries after its own
abbrev pub going_on : History → List Entry → History
going_on start entries = record start { entries = start.entries ++ entries }

-- the entries that a history has after as many as there were to begin with
abbrev pub new_entries : History → History → List Entry
new_entries start history = drop (length start.entries) history.entries

-- a history goes on from one to begin with: it is that one, and its new entries after it
abbrev pub GoesOnFrom : History → History → Type 0
GoesOnFrom start history = history ≡ going_on start (new_entries start history)

-- what the steps of entries tell that come after a history
abbrev pub told_after : History → List Entry → List Outcome
told_after start entries = outcomes_from start.opening (length start.entries) (state_after start) entries

-- the waves that they send out, in the order of the entries
abbrev pub released_after : History → List Entry → List WaveHolds
released_after start entries = flat_map released_in (told_after start entries)

-- and their refills, in the order of the entries
abbrev pub refills_after : History → List Entry → List Refill
refills_after start entries = flat_map refill_in (told_after start entries)
