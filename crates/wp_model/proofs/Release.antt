-- Allot and Release keep a state sound.
use Rattle.std.proofs.Common.{◌≡◌, ℕ, List, length, slice_get, Some, None, false, refl, ap, subst}
use Rattle.std.proofs.lemmas.Option.{slice_get_within}
use Rattle.wp_model.proofs.Allotment.{holds_demand, holds_something, nothing_held}
use Rattle.wp_model.proofs.Demand.{covered_from_none, demand_at-some}
use Rattle.wp_model.proofs.Found.{at_wave_keeps_sound, option_map_or-both}
use Rattle.wp_model.proofs.Held.{orders_in-at}
use Rattle.wp_model.proofs.Moves.{hold_moves, unmoved}
use Rattle.wp_model.proofs.Waves.{put_wave_keeps_sound, stock_of, wave_at}
use Rattle.wp_model.specs.Change.{hold}
use Rattle.wp_model.specs.Demand.{demand_at, short_article}
use Rattle.wp_model.specs.Opening.{IsOpening, Opening}
use Rattle.wp_model.specs.Sound.{HoldsAs, IsSound, PickedAs}
use Rattle.wp_model.specs.State.{State, Wave}
use Rattle.wp_model.specs.Step.{Stepped, allot, at_wave, hold_for, is_live, refuse_short, release}
use Rattle.wp_model.specs.declared.reply.Reply.{Reply}
use Rattle.wp_model.specs.declared.reply.Reply.TheVariants as reply
use Rattle.wp_model.specs.declared.reply.WaveState.{WaveState}
use Rattle.wp_model.specs.declared.reply.WaveState.TheVariants as wave

-- stock is held for a submitted wave where free stock covers it
holding_keeps_sound : (opening : Opening) (state : State) (next : WaveState) (done : Reply) (number : ℕ) (w : Wave) → IsOpening opening
    → IsSound opening state → slice_get state.waves number ≡ Some w → w.state ≡ wave.Submitted
    → ((new : State) → HoldsAs wave.Allotted opening new number w → HoldsAs next opening new number w) → (w.picked ≡ false → PickedAs next w.picked)
    → IsSound opening (hold_for opening state next done number w).state
holding_keeps_sound opening state next done number w is sound there submitted holds picks =
    let demand = demand_at opening w.orders in
    let orders = length w.orders in
    let new = hold demand None number orders state in
    let stock = stock_of opening state sound in
    let e = orders_in-at state number w there in
    let was = wave_at opening state number w sound there in
    let none = nothing_held state number orders stock e (subst (λ s. HoldsAs s opening state number w) submitted was.holds) in
    let moved = hold_moves demand None number orders state (slice_get_within state.waves number w there) e (demand_at-some opening w.orders) stock in
    option_map_or-both (λ (stepped : Stepped). IsSound opening stepped.state) (refuse_short opening state w) (short_article opening state.rows w.orders None) _
    (λ article short. sound)
    (λ covered. put_wave_keeps_sound opening state new number w next w.picked there sound moved (λ live. ap is_live submitted)
    (holds new (λ place article. holds_demand demand number orders state place article none
    (covered_from_none opening state.rows w.orders None is covered article) (demand_at-some opening w.orders article place)))
    (picks (subst (λ s. PickedAs s w.picked) submitted was.picked)))

allot_wave_keeps_sound : (opening : Opening) (state : State) (number : ℕ) (w : Wave) (s : WaveState) → IsOpening opening → IsSound opening state
    → slice_get state.waves number ≡ Some w → w.state ≡ s
    → IsSound opening (allot opening state number w s).state
allot_wave_keeps_sound opening state number w wave.Submitted is sound there e =
    holding_keeps_sound opening state wave.Allotted reply.Allotted number w is sound there e (λ new holds. holds) (λ picked. picked)
allot_wave_keeps_sound opening state number w wave.Allotted is sound there e = sound
allot_wave_keeps_sound opening state number w wave.Released is sound there e = sound
allot_wave_keeps_sound opening state number w wave.Cancelled is sound there e = sound
allot_wave_keeps_sound opening state number w wave.Done is sound there e = sound

-- an allotment keeps a state sound
pub allot_keeps_sound : (opening : Opening) (state : State) (name : List ℕ) → IsOpening opening → IsSound opening state
    → IsSound opening (at_wave state name (λ number w. allot opening state number w w.state)).state
allot_keeps_sound opening state name is sound =
    at_wave_keeps_sound opening state name _ sound (λ number w there. allot_wave_keeps_sound opening state number w w.state is sound there refl)

release_wave_keeps_sound : (opening : Opening) (state : State) (number : ℕ) (w : Wave) (s : WaveState) → IsOpening opening → IsSound opening state
    → slice_get state.waves number ≡ Some w → w.state ≡ s
    → IsSound opening (release opening state number w s).state
release_wave_keeps_sound opening state number w wave.Submitted is sound there e =
    let was = wave_at opening state number w sound there in
    holding_keeps_sound opening state wave.Released reply.Released number w is sound there e
    (λ new holds. holds_something opening new number w is was.some was.known holds) (λ picked. tt)
release_wave_keeps_sound opening state number w wave.Allotted is sound there e =
    let was = wave_at opening state number w sound there in
    let holds = holds_something opening state number w is was.some was.known (subst (λ s. HoldsAs s opening state number w) e was.holds) in
    put_wave_keeps_sound opening state state number w wave.Released w.picked there sound (unmoved number state (stock_of opening state sound))
    (λ live. ap is_live e) holds tt
release_wave_keeps_sound opening state number w wave.Released is sound there e = sound
release_wave_keeps_sound opening state number w wave.Cancelled is sound there e = sound
release_wave_keeps_sound opening state number w wave.Done is sound there e = sound

-- a release keeps a state sound
pub release_keeps_sound : (opening : Opening) (state : State) (name : List ℕ) → IsOpening opening → IsSound opening state
    → IsSound opening (at_wave state name (λ number w. release opening state number w w.state)).state
release_keeps_sound opening state name is sound =
    at_wave_keeps_sound opening state name _ sound (λ number w there. release_wave_keeps_sound opening state number w w.state is sound there refl)
