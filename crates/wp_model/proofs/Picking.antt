-- Pick and Missing keep a state sound.
use Rattle.std.proofs.Common.{◌≡◌, ◌≢◌, ℕ, ◌<◌, ◌≤◌, ◌==◌, ◌&&◌, List, length, slice_get, Option, Some, None, nat_le, nat_lt, true, inl, inr, if◌then◌else◌}
use Rattle.std.proofs.Common.{refl, subst, arith, ne_eqb}
use Rattle.std.proofs.lemmas.Bool.{and_right, cases_eq, cond-false, cond_both, ltb-false}
use Rattle.std.proofs.lemmas.Option.{same_Some, slice_get_within}
use Rattle.wp_model.proofs.Found.{at_wave_keeps_sound, option_map_or-both, place_found}
use Rattle.wp_model.proofs.Held.{orders_in-at}
use Rattle.wp_model.proofs.Moves.{hold_moves, moved_then, take_moves}
use Rattle.wp_model.specs.StockMoves.{IsMoved}
use Rattle.wp_model.proofs.Waves.{settle_keeps_sound, stock_of}
use Rattle.wp_model.specs.Change.{hold, settle, take}
use Rattle.wp_model.specs.Demand.{free_units}
use Rattle.wp_model.specs.Opening.{Opening, article_name}
use Rattle.wp_model.specs.Sound.{IsSound}
use Rattle.wp_model.specs.State.{State, Wave}
use Rattle.wp_model.specs.Step.{Held, Stepped, any_held, at_held, at_released, at_wave, held_for, one_demand, pick, place_from, refuse, row_from, write_off}
use Rattle.wp_model.specs.declared.location.Location.{Location}
use Rattle.wp_model.specs.declared.reply.Reply.TheVariants as reply
use Rattle.wp_model.specs.declared.reply.WaveState.{WaveState}
use Rattle.wp_model.specs.declared.reply.WaveState.TheVariants as wave

-- units that a wave holds for one of its orders
record AreHeld (state : State) (number : ℕ) (w : Wave) (held : Held) : Type 0 where
  order : held.order < length w.orders
  units : held.units ≡ state.held number held.order held.row

any_held-same : (a b : Held) → any_held a ≡ Some b → a ≡ b
any_held-same a b is =
    cond_both (a.units == 0) None (Some a) (λ (found : Option Held). found ≡ Some b → a ≡ b) (λ none e. absurd (cc)) (λ some e. same_Some a b e) is

held_for-are : (state : State) (number : ℕ) (w : Wave) (order : List ℕ) (location : Location) (held : Held)
    → held_for state number w order location ≡ Some held → AreHeld state number w held
held_for-are state number w order location held is =
    option_map_or-both (λ (found : Option Held). found ≡ Some held → AreHeld state number w held) _ (place_from 0 w.orders order) None
    (λ place at. option_map_or-both (λ (found : Option Held). found ≡ Some held → AreHeld state number w held) _ (row_from 0 state.rows location) None
    (λ found there same. subst (AreHeld state number w) (any_held-same _ held same) (record { order = place_found w.orders order place at; units = refl }))
    (λ none same. absurd (cc)))
    (λ none same. absurd (cc))
    is

-- a command on held units of a released wave keeps a state sound where it does at units that are held
at_held_keeps_sound : (opening : Opening) (state : State) (number : ℕ) (w : Wave) (order : List ℕ) (location : Location) (quantity : ℕ)
    (change : Held → Stepped) → IsSound opening state
    → ((held : Held) → AreHeld state number w held → quantity ≤ held.units → IsSound opening (change held).state)
    → IsSound opening (at_held state number w order location quantity change).state
at_held_keeps_sound opening state number w order location quantity change sound each =
    option_map_or-both (λ (stepped : Stepped). IsSound opening stepped.state)
    (λ held. if nat_lt held.units quantity then refuse state (reply.TooMuch held.units) else change held)
    (held_for state number w order location) (refuse state (reply.NotHeld location))
    (λ held is. cond_both (nat_lt held.units quantity) (refuse state (reply.TooMuch held.units)) (change held)
    (λ (stepped : Stepped). IsSound opening stepped.state)
    (λ much. sound) (λ enough. each held (held_for-are state number w order location held is) (ltb-false _ _ enough)))
    (λ none. sound)

at_released_keeps_sound : (opening : Opening) (state : State) (number : ℕ) (w : Wave) (order : List ℕ) (location : Location) (quantity : ℕ)
    (change : Held → Stepped) (s : WaveState) → IsSound opening state
    → (s ≡ wave.Released → (held : Held) → AreHeld state number w held → quantity ≤ held.units → IsSound opening (change held).state)
    → IsSound opening (at_released state number w order location quantity change s).state
at_released_keeps_sound opening state number w order location quantity change wave.Released sound each =
    at_held_keeps_sound opening state number w order location quantity change sound (each refl)
at_released_keeps_sound opening state number w order location quantity change wave.Submitted sound each = sound
at_released_keeps_sound opening state number w order location quantity change wave.Allotted sound each = sound
at_released_keeps_sound opening state number w order location quantity change wave.Cancelled sound each = sound
at_released_keeps_sound opening state number w order location quantity change wave.Done sound each = sound

-- held units are taken
held_taken : (opening : Opening) (state : State) (number : ℕ) (w : Wave) (quantity : ℕ) (held : Held) → IsSound opening state
    → slice_get state.waves number ≡ Some w → AreHeld state number w held → quantity ≤ held.units
    → IsMoved number state (take number held.order held.row quantity state)
held_taken opening state number w quantity held sound there are enough =
    take_moves number held.order held.row quantity (length w.orders) state (slice_get_within state.waves number w there)
    (orders_in-at state number w there) are.order (omega (arith, are.units)) (stock_of opening state sound)

-- a pick keeps a state sound
pub pick_keeps_sound : (opening : Opening) (state : State) (name order : List ℕ) (location : Location) (quantity : ℕ) → IsSound opening state
    → IsSound opening (at_wave state name (λ number w. at_released state number w order location quantity (pick state number w quantity) w.state)).state
pick_keeps_sound opening state name order location quantity sound =
    at_wave_keeps_sound opening state name _ sound (λ number w there.
    at_released_keeps_sound opening state number w order location quantity (pick state number w quantity) w.state sound (λ released held are enough.
    settle_keeps_sound opening state (take number held.order held.row quantity state) number w true there released sound
    (held_taken opening state number w quantity held sound there are enough)))

-- one order's demand is its own
one_demand-some : (order article units a place : ℕ) → one_demand order article units a place ≢ 0 → place ≡ order
one_demand-some order article units a place some = elim (cases_eq place order) [
  | inl same ↦ same
  | inr other ↦ absurd (some (cond-false ((a == article) && (place == order)) units 0 (and_right _ _ (ne_eqb place order other))))
]

write_off_keeps_sound : (opening : Opening) (state : State) (number : ℕ) (w : Wave) (quantity : ℕ) (held : Held) → IsSound opening state
    → slice_get state.waves number ≡ Some w → w.state ≡ wave.Released → AreHeld state number w held → quantity ≤ held.units
    → IsSound opening (write_off opening state number w quantity held).state
write_off_keeps_sound opening state number w quantity held sound there released are enough =
    let rest = take number held.order held.row quantity state in
    let again = hold (one_demand held.order held.article quantity) (Some held.row) number (length w.orders) rest in
    let taken = held_taken opening state number w quantity held sound there are enough in
    let held_again = hold_moves (one_demand held.order held.article quantity) (Some held.row) number (length w.orders) rest
    (slice_get_within state.waves number w there) (orders_in-at state number w there)
    (λ article order some. omega (arith, one_demand-some held.order held.article quantity article order some, are.order)) taken.stock in
    cond_both (nat_le quantity (free_units rest.rows held.article (Some held.row)))
    (record { reply = reply.Refilled quantity; state = settle number w again })
    (record { reply = reply.Lost (article_name opening held.article) quantity; state = settle number w rest })
    (λ (stepped : Stepped). IsSound opening stepped.state)
    (λ refilled. settle_keeps_sound opening state again number w w.picked there released sound (moved_then number state rest again taken held_again))
    (λ lost. settle_keeps_sound opening state rest number w w.picked there released sound taken)

-- a loss keeps a state sound
pub missing_keeps_sound : (opening : Opening) (state : State) (name order : List ℕ) (location : Location) (quantity : ℕ) → IsSound opening state
    → IsSound opening (at_wave state name (λ number w. at_released state number w order location quantity
    (write_off opening state number w quantity) w.state)).state
missing_keeps_sound opening state name order location quantity sound =
    at_wave_keeps_sound opening state name _ sound (λ number w there.
    at_released_keeps_sound opening state number w order location quantity (write_off opening state number w quantity) w.state sound
    (λ released held are enough.
    write_off_keeps_sound opening state number w quantity held sound there released are enough))
