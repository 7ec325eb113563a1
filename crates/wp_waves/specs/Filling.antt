-- How waves are filled, order by order.
use Rattle.std.specs.Prelude.{◌≡◌, ◌≢◌, ◌⊎◌, ℕ, ◌<◌, ◌≤◌, Bool, true, false, List, [], ◌∷◌, ◌++◌, length, map, Option}
use Rattle.std.specs.Prelude.{Some, None, slice_get, slice_set, Vec}
use Rattle.std.specs.List.{All}
use Rattle.std.specs.List.Sorted.{IsPermutation}
use Rattle.std.specs.declared.alloc.Global.{Global}
use Rattle.wp_waves.specs.Waves.{AreOfOneGroup, GoesBefore, HasOneGroup, IsPartOf, firsts, is_of_group}
use Rattle.wp_waves.specs.Weights.{all_of}
use Rattle.wp_waves.specs.declared.open_orders.OpenOrder.{OpenOrder}

-- waves as contracts see them
abbrev pub waves_kept : List (Vec OpenOrder Global) → List (List OpenOrder)
waves_kept = map (λ (wave : Vec OpenOrder Global). wave.items)

-- no wave from a place on is of a group
abbrev pub HaveNoneFrom : List ℕ → List (List OpenOrder) → ℕ → Type 0
HaveNoneFrom group waves from = (i : ℕ) (wave : List OpenOrder) → from ≤ i → slice_get waves i ≡ Some wave
    → is_of_group group wave ≡ false

-- the wave at a place is the last of a group
pub record IsLastOf (group : List ℕ) (waves : List (List OpenOrder)) (place : ℕ) : Type 0 where
  pub wave : List OpenOrder
  pub there : slice_get waves place ≡ Some wave
  pub is : is_of_group group wave ≡ true
  pub last : (i : ℕ) (other : List OpenOrder) → place < i → slice_get waves i ≡ Some other
      → is_of_group group other ≡ false

-- the wave at a place is the last of a group, and has room for one more
pub record HasRoomAt (most : ℕ) (group : List ℕ) (waves : List (List OpenOrder)) (place : ℕ) : Type 0 where
  pub last : IsLastOf group waves place
  pub room : length last.wave < most

-- there is no wave of a group, or the last of it has no room
abbrev pub HasNoRoom : ℕ → List ℕ → List (List OpenOrder) → Type 0
HasNoRoom most group waves = HaveNoneFrom group waves 0
    ⊎ ((place : ℕ) × (last : IsLastOf group waves place) × (most ≤ length last.wave))

-- an order joined the last wave of its group
pub record HasJoined (most : ℕ) (one : OpenOrder) (old new : List (List OpenOrder)) : Type 0 where
  pub place : ℕ
  pub last : IsLastOf one.group old place
  pub room : length last.wave < most
  pub new_is : new ≡ slice_set old place (last.wave ++ one ∷ [])

-- an order began a wave
pub record HasBegun (most : ℕ) (one : OpenOrder) (old new : List (List OpenOrder)) : Type 0 where
  pub full : HasNoRoom most one.group old
  pub new_is : new ≡ old ++ (one ∷ []) ∷ []

-- an order was put into the waves
abbrev pub IsPut : ℕ → OpenOrder → List (List OpenOrder) → List (List OpenOrder) → Type 0
IsPut most one old new = HasJoined most one old new ⊎ HasBegun most one old new

-- waves so far of the orders so far: but for the last of each group they are full
pub record AreFilled (most : ℕ) (done : List OpenOrder) (waves : List (List OpenOrder)) : Type 0 where
  pub once : IsPermutation done (all_of waves)
  pub some : All (λ wave. 0 < length wave) waves
  pub few : All (λ wave. length wave ≤ most) waves
  pub group : All HasOneGroup waves
  pub as_served : All (λ wave. IsPartOf wave done) waves
  pub full : (i j : ℕ) (one other : List OpenOrder) → i < j → slice_get waves i ≡ Some one
      → slice_get waves j ≡ Some other → AreOfOneGroup one other
      → length one ≡ most
  pub ranks : (i j : ℕ) (one other : List OpenOrder) → i < j → slice_get waves i ≡ Some one
      → slice_get waves j ≡ Some other → AreOfOneGroup one other
      → GoesBefore one other
  pub by_first : IsPartOf (firsts waves) done
