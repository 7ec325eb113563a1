-- How far a wave is.
use Rattle.std.proofs.Common.{◌≡◌, ◌∙◌, sym, ap, ℕ, List, map, Some, None, false, option_map, slice_get}
use Rattle.std.proofs.lemmas.Option.{slice_get-map}
use Rattle.std.specs.List.{list_any}
use Rattle.wp_model.specs.Opening.{Opening}
use Rattle.wp_model.specs.State.{Wave}
use Rattle.wp_model.specs.Step.{wave_from}
use Rattle.wp_floor.specs.Floor.{IsFloor, state_in, state_of, wave_of}
use Rattle.wp_floor.specs.Waves.{has_name, waves_of}
use Rattle.wp_floor.specs.declared.floor.Floor.{Floor}
use Rattle.wp_floor.specs.declared.waves.KeptWave.{KeptWave}
use Rattle.wp_floor.proofs.Floors.{none_by, wave_by}

-- a wave of the name that stands among them is the first
pub state_known : (opening : Opening) (floor : Floor) (name : List ℕ) (kept : KeptWave) (number : ℕ) → IsFloor opening floor → kept.name ≡ name
    → slice_get (waves_of floor.waves) number ≡ Some kept
    → Some (state_in kept.stage) ≡ option_map (λ (found : ℕ × Wave). found.1.state) (wave_from 0 (state_of floor).waves name)
state_known opening floor name kept number is named there =
    let stands : slice_get (map wave_of (waves_of floor.waves)) number ≡ Some (wave_of kept) =
    slice_get-map wave_of (waves_of floor.waves) number ∙ ap (option_map wave_of) there in
    sym (ap (option_map (λ (found : ℕ × Wave). found.1.state))
    (wave_by (map wave_of (waves_of floor.waves)) name 0 number (wave_of kept) stands named is.sound.names))

-- a name that no kept wave has finds no wave
pub state_unknown : (floor : Floor) (name : List ℕ) → list_any (has_name name) (waves_of floor.waves) ≡ false
    → None ≡ option_map (λ (found : ℕ × Wave). found.1.state) (wave_from 0 (state_of floor).waves name)
state_unknown floor name nobody = sym (ap (option_map (λ (found : ℕ × Wave). found.1.state)) (none_by (waves_of floor.waves) name 0 nobody))
