-- Every state of a history is sound.
use Rattle.std.proofs.Common.{◌≡◌, List, [], ◌∷◌, map, slice_get, refl, arith}
use Rattle.std.proofs.lemmas.List.Elements.{All-map, All-weaker}
use Rattle.wp_model.proofs.Cancel.{cancel_keeps_sound}
use Rattle.wp_model.proofs.Picking.{missing_keeps_sound, pick_keeps_sound}
use Rattle.wp_model.proofs.Elements.{All-at, if_some}
use Rattle.wp_model.proofs.Receive.{receive_keeps_sound}
use Rattle.wp_model.proofs.Release.{allot_keeps_sound, release_keeps_sound}
use Rattle.wp_model.proofs.Submit.{submit_keeps_sound}
use Rattle.wp_model.specs.History.{state_from}
use Rattle.wp_model.specs.Opening.{IsOpening, IsStockRow, Opening}
use Rattle.wp_model.specs.Sound.{IsBalanced, IsSound}
use Rattle.wp_model.specs.State.{State, opening_row, opening_state}
use Rattle.wp_model.specs.Step.{step}
use Rattle.wp_model.specs.declared.command.Command.{Command}
use Rattle.wp_model.specs.declared.command.Command.TheVariants as command
use Rattle.wp_model.specs.declared.entry.Entry.{Entry}
use Rattle.wp_model.specs.declared.row.Row.{Row}

-- the opening state
pub opening_is_sound : (opening : Opening) → IsOpening opening → IsSound opening (opening_state opening)
opening_is_sound opening is =
    let rows = opening.stock.rows in
    let articles = opening.stock.articles in
    let none_held = All-map (λ (r : Row). r.held ≡ 0) opening_row rows (λ k d within. refl) in
    record {
      rows = All-map IsBalanced opening_row rows (All-weaker (IsStockRow articles) (λ r. IsBalanced (opening_row r))
          (λ r is_row. record { sum = omega arith; most = is_row.on_hand }) rows is.rows);
      held = λ k. if_some (slice_get (map opening_row rows) k) (λ r. r.held ≡ 0)
          (λ r there. All-at (λ (r : Row). r.held ≡ 0) (map opening_row rows) k r none_held there);
      nowhere_else = λ number order row some. absurd (some refl);
      waves = λ n. tt;
      names = λ i j v w at_i. absurd (cc);
      once = λ i j v w k l order at_i. absurd (cc);
    }

-- each command
pub step_keeps_sound : (opening : Opening) (state : State) (command : Command) → IsOpening opening → IsSound opening state
    → IsSound opening (step opening state command).state
step_keeps_sound opening state (command.Submit name orders) is sound = submit_keeps_sound opening state name orders sound
step_keeps_sound opening state (command.Allot name) is sound = allot_keeps_sound opening state name is sound
step_keeps_sound opening state (command.Release name) is sound = release_keeps_sound opening state name is sound
step_keeps_sound opening state (command.Cancel name) is sound = cancel_keeps_sound opening state name sound
step_keeps_sound opening state (command.Pick name order location quantity) is sound = pick_keeps_sound opening state name order location quantity sound
step_keeps_sound opening state (command.Missing name order location quantity) is sound = missing_keeps_sound opening state name order location quantity sound
step_keeps_sound opening state (command.Receive location article quantity) is sound = receive_keeps_sound opening state location article quantity sound

-- entries, one after the other
pub entries_keep_sound : (opening : Opening) (state : State) (entries : List Entry) → IsOpening opening → IsSound opening state
    → IsSound opening (state_from opening state entries)
entries_keep_sound opening state [] is sound = sound
entries_keep_sound opening state (entry ∷ entries) is sound =
    entries_keep_sound opening (step opening state entry.command).state entries is (step_keeps_sound opening state entry.command is sound)
