-- A machine finds a wave exactly where the wave's name is among those that were submitted.
use Rattle.std.proofs.Common.{◌≡◌, refl, ℕ, ◌+◌, Bool, true, false, cond, List, [], ◌∷◌, map, Some, bytes_eq, Option, None, option_map}
use Rattle.std.specs.Prelude.{◌||◌, is_some}
use Rattle.wp_model.specs.State.{Wave}
use Rattle.wp_model.specs.Step.{is_among, wave_from}
use Rattle.wp_outgoing.specs.Names.{name_of}

found_or : {A : Type 0} (b : Bool) (here : A) (later : Option A) (among : Bool) → is_some later ≡ among
    → is_some (cond b (Some here) later) ≡ (b || among)
found_or true here later among is = refl
found_or false here later among is = is

-- it does, where the first wave has this number
pub found_among : (first : ℕ) (waves : List Wave) (name : List ℕ) → is_some (wave_from first waves name) ≡ is_among (map name_of waves) name
found_among first [] name = refl
found_among first (w ∷ waves) name = found_or (bytes_eq w.name name) (first, w) (wave_from (first + 1) waves name) (is_among (map name_of waves) name)
    (found_among (first + 1) waves name)

-- what is made of something is there exactly where that is
pub some_mapped : {A B : Type 0} (f : A → B) (found : Option A) → is_some (option_map f found) ≡ is_some found
some_mapped f None = refl
some_mapped f (Some x) = refl
