-- The output of a run, section by section.
use Rattle.std.specs.Prelude.{◌≡◌, ℕ, ◌+◌, List, [], ◌∷◌, ◌++◌, codes, length, slice_get}
use Rattle.std.specs.List.{flat_map}
use Rattle.std.specs.Option.{option_map_or}
use Rattle.wp_desk.specs.GoingOn.{new_entries, told_after}
use Rattle.wp_model.specs.History.{History, state_after}
use Rattle.wp_model.specs.Journal.{journal, line}
use Rattle.wp_model.specs.Opening.{Opening, Stock}
use Rattle.wp_model.specs.State.{State}
use Rattle.wp_model.specs.Step.{Stepped, step}
use Rattle.wp_model.specs.declared.command.Command.{Command}
use Rattle.wp_model.specs.declared.command.Command.TheVariants as command
use Rattle.wp_model.specs.declared.entry.Entry.{Entry}
use Rattle.wp_model.specs.declared.row.Row.{Row}
use Rattle.wp_machine.specs.declared.outcome.Refill.{Refill}
use Rattle.wp_machine.specs.Outcome.{refill_in, release_outcome, released_in}
use Rattle.wp_machine.specs.declared.outcome.WaveHolds.{WaveHolds}
use Rattle.wp_sheets.specs.StockLines.{refill_lines, row_line}

-- the wave that a command sends out, as the entry with this number: a release that is done sends out all that its wave
-- holds
abbrev pub sent_by : ℕ → Command → Stepped → List WaveHolds
sent_by number (command.Release name) stepped = released_in (release_outcome number stepped.state name stepped.reply)
sent_by number other stepped = []

-- the waves that entries send out, one after the other, from a state on, where the first entry has this number
abbrev pub waves_from : Opening → ℕ → State → List Entry → List WaveHolds
waves_from opening number state [] = []
waves_from opening number state (entry ∷ entries) =
    sent_by number entry.command (step opening state entry.command)
    ++ waves_from opening (number + 1) (step opening state entry.command).state entries

-- the waves of which the output has sheets: those that the new entries send out, after the history with which the day
-- began
abbrev pub waves_out : History → History → List WaveHolds
waves_out start history = waves_from start.opening (length start.entries) (state_after start)
    (new_entries start history)

-- and the refills that it has: those of the new entries
abbrev pub refills_told : History → History → List Refill
refills_told start history = flat_map refill_in (told_after start (new_entries start history))

-- the refills, one after the other
abbrev pub refills_section : Stock → List Refill → List ℕ
refills_section stock refills = line (codes "refills") ++ flat_map (refill_lines stock) refills
    ++ line (codes "end refills")

-- the rows as they stand, one after the other
abbrev pub stock_section : Stock → List Row → List ℕ
stock_section stock rows = line (codes "stock") ++ flat_map (row_line stock) rows ++ line (codes "end stock")

-- the output of a history, of sheets of waves that went out, of refills and of the crew of the waves' batches: its
-- whole journal, the sheets, the refills, the section of the crew, the stock as the history leaves it, and a last line
abbrev pub output_of : History → List ℕ → List Refill → List ℕ → List ℕ
output_of history sheets refills crew =
    journal history.entries ++ sheets ++ refills_section history.opening.stock refills ++ crew
    ++ stock_section history.opening.stock (state_after history).rows ++ line (codes "end")

-- a text is that of the item at a place
abbrev pub IsTextAt : {X : Type 0} → (X → List ℕ) → List X → ℕ → List ℕ → Type 0
IsTextAt write items number text = text ≡ option_map_or write (slice_get items number) []

-- the end of an output: the stock as a history leaves it, and the last line
abbrev pub stock_and_end : History → List ℕ
stock_and_end history = stock_section history.opening.stock (state_after history).rows ++ line (codes "end")

-- what comes after the refills: the section of the crew, and the end
abbrev pub crew_and_end : History → List ℕ → List ℕ
crew_and_end history crew = crew ++ stock_and_end history

-- what comes after the sheets: the refills, and then that
abbrev pub refills_and_end : History → List Refill → List ℕ → List ℕ
refills_and_end history refills crew = refills_section history.opening.stock refills ++ crew_and_end history crew
