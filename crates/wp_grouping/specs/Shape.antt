-- Which waves of orders have the right shape.
use Rattle.std.specs.Prelude.{◌≡◌, ℕ, ◌<◌, ◌≤◌, ◌+◌, Bool, true, false, List, length, slice_get, Some, nat_le}
use Rattle.std.specs.List.{list_all}
use Rattle.wp_waves.specs.Waves.{AreOfOneGroup, GoesBefore, HasOneGroup}
use Rattle.wp_waves.specs.declared.open_orders.OpenOrder.{OpenOrder}

-- a wave goes after an earlier one of its group: that is full, and none of its orders has a rank above one of the later
pub record MayFollow (most : ℕ) (earlier later : List OpenOrder) : Type 0 where
  pub full : length earlier ≡ most
  pub ranks : GoesBefore earlier later

-- a wave may follow each wave of its group before a place
abbrev pub FollowsAll : ℕ → List (List OpenOrder) → ℕ → List OpenOrder → Type 0
FollowsAll most waves end wave = (i : ℕ) (earlier : List OpenOrder) → i < end → slice_get waves i ≡ Some earlier
    → AreOfOneGroup earlier wave → MayFollow most earlier wave

-- the wave at a place is right: it has at most so many orders, of one group, and may follow each earlier wave of it
pub record IsRightAt (most : ℕ) (waves : List (List OpenOrder)) (place : ℕ) (wave : List OpenOrder) : Type 0 where
  pub few : length wave ≤ most
  pub group : HasOneGroup wave
  pub follows : FollowsAll most waves place wave

-- each wave before a place is right
abbrev pub AreRightBefore : ℕ → List (List OpenOrder) → ℕ → Type 0
AreRightBefore most waves end = (place : ℕ) (wave : List OpenOrder) → place < end → slice_get waves place ≡ Some wave
    → IsRightAt most waves place wave

-- each wave is right
abbrev pub AreRight : ℕ → List (List OpenOrder) → Type 0
AreRight most waves = (place : ℕ) (wave : List OpenOrder) → slice_get waves place ≡ Some wave
    → IsRightAt most waves place wave

-- the answer of a test: something holds where it is true, and doesn't where it is false
abbrev pub Tells : Bool → Type 0 → Type 0
Tells true P = P
Tells false P = P → ⊥

-- no rank of a wave is below one
abbrev pub has_no_rank_below : ℕ → List OpenOrder → Bool
has_no_rank_below rank = list_all (λ (other : OpenOrder). nat_le rank other.rank)

-- no order of one wave has a rank above that of an order of another
abbrev pub goes_before : List OpenOrder → List OpenOrder → Bool
goes_before earlier later = list_all (λ (one : OpenOrder). has_no_rank_below one.rank later) earlier

-- no wave of a wave's group stands from one place on and before another
abbrev pub HasNoneBetween : List (List OpenOrder) → ℕ → ℕ → List OpenOrder → Type 0
HasNoneBetween waves from end wave = (i : ℕ) (earlier : List OpenOrder) → from ≤ i → i < end
    → slice_get waves i ≡ Some earlier → AreOfOneGroup earlier wave → ⊥

-- the last wave of a wave's group before a place
pub record IsLastBefore (waves : List (List OpenOrder)) (end : ℕ) (wave : List OpenOrder) (place : ℕ) : Type 0 where
  pub earlier : List OpenOrder
  pub there : slice_get waves place ≡ Some earlier
  pub before : place < end
  pub group : AreOfOneGroup earlier wave
  pub last : HasNoneBetween waves (place + 1) end wave
