-- The waves, in chains by their names.
use Rattle.std.specs.Prelude.{◌≡◌, ℕ, zero, suc, ◌+◌, ◌*◌, ◌%◌, ◌==◌, ◌++◌, ◌∷◌, Bool, List, [], length, Some, reverse}
use Rattle.std.specs.Prelude.{slice_get, slice_set, if◌then◌else◌}
use Rattle.std.specs.Str.{bytes_eq}
use Rattle.wp_floor.specs.declared.waves.Found.{Found}
use Rattle.wp_floor.specs.declared.waves.KeptWave.{KeptWave}
use Rattle.wp_floor.specs.declared.waves.NumberedWave.{NumberedWave}
use Rattle.wp_floor.specs.declared.waves.Waves.{Waves}

-- a wave has the name
abbrev pub has_name : List ℕ → KeptWave → Bool
has_name name kept = bytes_eq kept.name name

-- a numbered wave has the name
abbrev pub is_named : List ℕ → NumberedWave → Bool
is_named name numbered = has_name name numbered.wave

-- how many chains there are
abbrev pub chain_count : ℕ
chain_count = 1024

-- the place that bytes give, after bytes that gave a place
abbrev pub place_after : ℕ → List ℕ → ℕ
place_after place [] = place
place_after place (byte ∷ bytes) = place_after ((place * 31 + byte) % chain_count) bytes

-- the place of the chain that has the waves of a name
abbrev pub chain_of : List ℕ → ℕ
chain_of name = place_after 0 name

-- the waves of a list, numbered from a number on, that stand in the chain at a place
abbrev pub in_chain : ℕ → ℕ → List KeptWave → List NumberedWave
in_chain place number [] = []
in_chain place number (kept ∷ waves) =
    if chain_of kept.name == place then (record { number = number; wave = kept }) ∷ in_chain place (number + 1) waves
    else in_chain place (number + 1) waves

-- the waves of a chain that have a number
abbrev pub numbered_in : ℕ → List NumberedWave → List KeptWave
numbered_in number [] = []
numbered_in number (numbered ∷ chain) =
    if numbered.number == number then numbered.wave ∷ numbered_in number chain else numbered_in number chain

-- the waves of all chains that have a number
abbrev pub with_number : ℕ → List (List NumberedWave) → List KeptWave
with_number number [] = []
with_number number (chain ∷ chains) = numbered_in number chain ++ with_number number chains

-- the waves of chains with so many numbers, from a number on
abbrev pub by_number : ℕ → ℕ → List (List NumberedWave) → List KeptWave
by_number zero number chains = []
by_number (suc count) number chains = with_number number chains ++ by_number count (number + 1) chains

-- the waves in the order of their submission
abbrev pub waves_of : Waves → List KeptWave
waves_of waves = by_number waves.count 0 waves.chains.items

-- a list of so many waves stands in chains: each chain has the waves whose names give it, with their numbers
pub record HaveWaves (list : List KeptWave) (many : ℕ) (table : List (List NumberedWave)) : Type 0 where
  pub count : many ≡ length list
  pub chains : length table ≡ chain_count
  pub each : (place : ℕ) (chain : List NumberedWave) → slice_get table place ≡ Some chain
      → chain ≡ in_chain place 0 list

-- the waves stand in the chains of their names
abbrev pub AreWaves : Waves → Type 0
AreWaves waves = HaveWaves (waves_of waves) waves.count waves.chains.items

-- the waves are the same
pub record AreSameWaves (old new : Waves) : Type 0 where
  pub count : new.count ≡ old.count
  pub chains : new.chains.items ≡ old.chains.items

-- a wave that was taken out, with its number
abbrev pub numbered_of : Found → NumberedWave
numbered_of found = record { number = found.number; wave = found.wave }

-- a wave of the name was taken out of its chain, which is left with the waves before it
pub record IsFound (name : List ℕ) (old new : Waves) (found : Found) : Type 0 where
  pub place : found.place ≡ chain_of name
  pub named : found.wave.name ≡ name
  pub before : List NumberedWave
  pub was : slice_get old.chains.items found.place ≡ Some (before ++ numbered_of found ∷ reverse found.after)
  pub is : new.chains.items ≡ slice_set old.chains.items found.place before
  pub count : new.count ≡ old.count

-- a wave was put back in its chain, with the waves after it
pub record IsReturned (old : Waves) (found : Found) (new : Waves) : Type 0 where
  pub chains : (before : List NumberedWave) → slice_get old.chains.items found.place ≡ Some before
      → new.chains.items ≡ slice_set old.chains.items found.place (before ++ numbered_of found ∷ reverse found.after)
  pub count : new.count ≡ old.count
