-- Cancel keeps a state sound.
use Rattle.std.proofs.Common.{◌≡◌, ℕ, List, length, slice_get, Some, true, refl, ap}
use Rattle.std.proofs.lemmas.Bool.{cond_both}
use Rattle.std.proofs.lemmas.Option.{slice_get_within}
use Rattle.wp_model.proofs.Found.{at_wave_keeps_sound}
use Rattle.wp_model.proofs.Held.{orders_in-at, with_held-same}
use Rattle.wp_model.proofs.Moves.{give_back_moves}
use Rattle.wp_model.proofs.Sums.{sum-zero}
use Rattle.wp_model.proofs.Waves.{put_wave_keeps_sound, stock_of}
use Rattle.wp_model.specs.Change.{give_back}
use Rattle.wp_model.specs.Opening.{Opening}
use Rattle.wp_model.specs.Sound.{IsSound}
use Rattle.wp_model.specs.State.{State, Wave, wave_held}
use Rattle.wp_model.specs.Step.{Stepped, at_wave, cancel, give_up, is_live, refuse}
use Rattle.wp_model.specs.declared.reply.Reply.TheVariants as reply
use Rattle.wp_model.specs.declared.reply.WaveState.{WaveState}
use Rattle.wp_model.specs.declared.reply.WaveState.TheVariants as wave

-- a wave that gives all back holds nothing
gives_all_back : (number orders : ℕ) (state : State) → wave_held (give_back number orders state) number orders ≡ 0
gives_all_back number orders state =
    sum-zero _ _ (λ row within. sum-zero orders _ (λ order below. with_held-same state number (λ order row. 0) order row))

give_up_keeps_sound : (opening : Opening) (state : State) (number : ℕ) (w : Wave) → IsSound opening state → slice_get state.waves number ≡ Some w
    → is_live w.state ≡ true → IsSound opening (give_up state number w).state
give_up_keeps_sound opening state number w sound there live =
    let orders = length w.orders in
    let moved = give_back_moves number orders state (slice_get_within state.waves number w there) (orders_in-at state number w there)
    (stock_of opening state sound) in
    put_wave_keeps_sound opening state (give_back number orders state) number w wave.Cancelled w.picked there sound moved (λ cancelled. live)
    (gives_all_back number orders state) tt

cancel_wave_keeps_sound : (opening : Opening) (state : State) (number : ℕ) (w : Wave) (s : WaveState) → IsSound opening state
    → slice_get state.waves number ≡ Some w → w.state ≡ s
    → IsSound opening (cancel state number w s).state
cancel_wave_keeps_sound opening state number w wave.Submitted sound there e = give_up_keeps_sound opening state number w sound there (ap is_live e)
cancel_wave_keeps_sound opening state number w wave.Allotted sound there e = give_up_keeps_sound opening state number w sound there (ap is_live e)
cancel_wave_keeps_sound opening state number w wave.Released sound there e =
    cond_both w.picked (refuse state reply.Picking) (give_up state number w) (λ (stepped : Stepped). IsSound opening stepped.state) (λ picked. sound)
    (λ unpicked. give_up_keeps_sound opening state number w sound there (ap is_live e))
cancel_wave_keeps_sound opening state number w wave.Cancelled sound there e = sound
cancel_wave_keeps_sound opening state number w wave.Done sound there e = sound

-- a cancel keeps a state sound
pub cancel_keeps_sound : (opening : Opening) (state : State) (name : List ℕ) → IsSound opening state
    → IsSound opening (at_wave state name (λ number w. cancel state number w w.state)).state
cancel_keeps_sound opening state name sound =
    at_wave_keeps_sound opening state name _ sound (λ number w there. cancel_wave_keeps_sound opening state number w w.state sound there refl)
