-- Each command leaves every row at its place and of its article.
use Rattle.std.proofs.Common.{◌≡◌, ◌∙◌, refl, ap, ap₂, ℕ, ◌+◌, List, [], ◌∷◌, map, ◌==◌, nat_le, nat_lt, not, None, Some}
use Rattle.std.proofs.lemmas.Bool.{cond_both}
use Rattle.std.specs.Str.{bytes_eq}
use Rattle.wp_model.proofs.Found.{option_map_or-both}
use Rattle.wp_model.specs.Change.{at_place, change_rows, receive_units, take, take_units}
use Rattle.wp_model.specs.Demand.{free_units, short_article}
use Rattle.wp_model.specs.Opening.{Opening, article_name}
use Rattle.wp_model.specs.Limits.{most_on_hand}
use Rattle.wp_model.specs.State.{State, Wave, opening_row, opening_state}
use Rattle.wp_model.specs.Step.{Held, Stepped, allot, at_released, at_wave, cancel, held_for, hold_for, pick, receive_at, refuse, release, row_from, step}
use Rattle.wp_model.specs.Step.{submit_fault, wave_from, write_off}
use Rattle.wp_model.specs.declared.command.Command.{Command}
use Rattle.wp_model.specs.declared.command.Command.TheVariants as command
use Rattle.wp_model.specs.declared.location.Location.{Location}
use Rattle.wp_model.specs.declared.reply.Reply.{Reply}
use Rattle.wp_model.specs.declared.reply.Reply.TheVariants as reply
use Rattle.wp_model.specs.declared.reply.WaveState.{WaveState}
use Rattle.wp_model.specs.declared.reply.WaveState.TheVariants as wave
use Rattle.wp_model.specs.declared.row.Row.{Row}
use Rattle.wp_model.specs.declared.row.StockRow.{StockRow}
use Rattle.wp_floor.specs.Floor.{AreSameRows, row_place, stock_row_place}

-- the step leaves the rows where they are
abbrev Stays : State → Stepped → Type 0
Stays state stepped = map row_place stepped.state.rows ≡ map row_place state.rows

-- what changes each row's units alone leaves them
places_kept : (change : ℕ → Row → Row) (place : ℕ) (rows : List Row) → ((k : ℕ) (r : Row) → row_place (change k r) ≡ row_place r)
    → map row_place (change_rows change place rows) ≡ map row_place rows
places_kept change place [] each = refl
places_kept change place (row ∷ rows) each = ap₂ (λ p ps. p ∷ ps) (each place row) (places_kept change (place + 1) rows each)

place_kept_at : (row k : ℕ) (change : Row → Row) (r : Row) → row_place (change r) ≡ row_place r → row_place (at_place row change k r) ≡ row_place r
place_kept_at row k change r kept = cond_both (k == row) (change r) r (λ s. row_place s ≡ row_place r) (λ here. kept) (λ other. refl)

hold_for_stays : (opening : Opening) (state : State) (next : WaveState) (done : Reply) (number : ℕ) (w : Wave)
    → Stays state (hold_for opening state next done number w)
hold_for_stays opening state next done number w =
    option_map_or-both (Stays state) _ (short_article opening state.rows w.orders None) _ (λ article short. refl)
    (λ none. places_kept _ 0 state.rows (λ k r. refl))

allot_stays : (opening : Opening) (state : State) (number : ℕ) (w : Wave) (s : WaveState) → Stays state (allot opening state number w s)
allot_stays opening state number w wave.Submitted = hold_for_stays opening state wave.Allotted reply.Allotted number w
allot_stays opening state number w wave.Allotted = refl
allot_stays opening state number w wave.Released = refl
allot_stays opening state number w wave.Cancelled = refl
allot_stays opening state number w wave.Done = refl

release_stays : (opening : Opening) (state : State) (number : ℕ) (w : Wave) (s : WaveState) → Stays state (release opening state number w s)
release_stays opening state number w wave.Submitted = hold_for_stays opening state wave.Released reply.Released number w
release_stays opening state number w wave.Allotted = refl
release_stays opening state number w wave.Released = refl
release_stays opening state number w wave.Cancelled = refl
release_stays opening state number w wave.Done = refl

cancel_stays : (state : State) (number : ℕ) (w : Wave) (s : WaveState) → Stays state (cancel state number w s)
cancel_stays state number w wave.Submitted = places_kept _ 0 state.rows (λ k r. refl)
cancel_stays state number w wave.Allotted = places_kept _ 0 state.rows (λ k r. refl)
cancel_stays state number w wave.Released = cond_both w.picked _ _ (Stays state) (λ picked. refl) (λ not_picked. places_kept _ 0 state.rows (λ k r. refl))
cancel_stays state number w wave.Cancelled = refl
cancel_stays state number w wave.Done = refl

taken_stays : (state : State) (held : Held) (quantity : ℕ) → map row_place
    (change_rows (at_place held.row (take_units quantity)) 0 state.rows) ≡ map row_place state.rows
taken_stays state held quantity = places_kept _ 0 state.rows (λ k r. place_kept_at held.row k (take_units quantity) r refl)

write_off_stays : (opening : Opening) (state : State) (number : ℕ) (w : Wave) (quantity : ℕ) (held : Held)
    → Stays state (write_off opening state number w quantity held)
write_off_stays opening state number w quantity held =
    let taken = take number held.order held.row quantity state in
    cond_both (nat_le quantity (free_units taken.rows held.article (Some held.row))) _ _ (Stays state)
    (λ enough. places_kept _ 0 taken.rows (λ k r. refl) ∙ taken_stays state held quantity)
    (λ short. taken_stays state held quantity)

at_released_stays : (state : State) (number : ℕ) (w : Wave) (order : List ℕ) (location : Location) (quantity : ℕ) (change : Held → Stepped) (s : WaveState)
    → ((held : Held) → Stays state (change held))
    → Stays state (at_released state number w order location quantity change s)
at_released_stays state number w order location quantity change wave.Released each =
    option_map_or-both (Stays state) _ (held_for state number w order location) _
    (λ held is. cond_both (nat_lt held.units quantity) _ _ (Stays state) (λ short. refl) (λ enough. each held))
    (λ none. refl)
at_released_stays state number w order location quantity change wave.Submitted each = refl
at_released_stays state number w order location quantity change wave.Allotted each = refl
at_released_stays state number w order location quantity change wave.Cancelled each = refl
at_released_stays state number w order location quantity change wave.Done each = refl

receive_stays : (opening : Opening) (state : State) (article : List ℕ) (quantity number : ℕ) (row : Row)
    → Stays state (receive_at opening state article quantity number row)
receive_stays opening state article quantity number row =
    cond_both (not (bytes_eq (article_name opening row.article) article)) _ _ (Stays state) (λ other. refl) (λ same.
    cond_both (nat_lt most_on_hand (row.on_hand + quantity)) _ _ (Stays state) (λ many. refl) (λ few.
    places_kept _ 0 state.rows (λ k r. place_kept_at number k (receive_units quantity) r refl)))

at_wave_stays : (state : State) (name : List ℕ) (change : ℕ → Wave → Stepped) → ((number : ℕ) (w : Wave) → Stays state (change number w))
    → Stays state (at_wave state name change)
at_wave_stays state name change each =
    option_map_or-both (Stays state) (λ (found : ℕ × Wave). change found.0 found.1) (wave_from 0 state.waves name) _ (λ found is. each found.0 found.1)
    (λ none. refl)

step_stays : (opening : Opening) (state : State) (command : Command) → Stays state (step opening state command)
step_stays opening state (command.Submit name orders) = option_map_or-both (Stays state) (refuse state) (submit_fault opening state name orders) _
    (λ fault is. refl) (λ none. refl)
step_stays opening state (command.Allot name) = at_wave_stays state name _ (λ number w. allot_stays opening state number w w.state)
step_stays opening state (command.Release name) = at_wave_stays state name _ (λ number w. release_stays opening state number w w.state)
step_stays opening state (command.Cancel name) = at_wave_stays state name _ (λ number w. cancel_stays state number w w.state)
step_stays opening state (command.Pick name order location quantity) =
    at_wave_stays state name _ (λ number w. at_released_stays state number w order location quantity (pick state number w quantity) w.state
    (λ held. taken_stays state held quantity))
step_stays opening state (command.Missing name order location quantity) =
    at_wave_stays state name _ (λ number w. at_released_stays state number w order location quantity (write_off opening state number w quantity) w.state
    (λ held. write_off_stays opening state number w quantity held))
step_stays opening state (command.Receive location article quantity) =
    option_map_or-both (Stays state) (λ (found : ℕ × Row). receive_at opening state article quantity found.0 found.1) (row_from 0 state.rows location) _
    (λ found is. receive_stays opening state article quantity found.0 found.1) (λ none. refl)

-- the rows that a machine opens with are the opening's
pub opening_same_rows : (opening : Opening) → AreSameRows opening (opening_state opening).rows
opening_same_rows opening = all opening.stock.rows
  where
    all : (rows : List StockRow) → map row_place (map opening_row rows) ≡ map stock_row_place rows
    all [] = refl
    all (row ∷ rows) = ap (λ places. stock_row_place row ∷ places) (all rows)

-- and after each command they still are
pub step_keeps_rows : (opening : Opening) (state : State) (command : Command) → AreSameRows opening state.rows
    → AreSameRows opening (step opening state command).state.rows
step_keeps_rows opening state command same = step_stays opening state command ∙ same
