-- Sets of slots, as contracts see them and as words of bits keep them.
use Rattle.std.specs.Prelude.{◌≡◌, ℕ, ◌+◌, ◌-◌, ◌*◌, ◌/◌, ◌%◌, ◌<◌, ◌≤◌, ◌==◌, Bool, Contains, List, filter, map, max}
use Rattle.std.specs.Prelude.{slice_index, IsTrue}
use Rattle.std.specs.Int.{bit_at}
use Rattle.std.specs.List.{flat_map, range_with_len}
use Rattle.wp_model.specs.declared.point.Point.{Point}
use Rattle.wp_model.specs.Limits.{most_aisles}
use Rattle.wp_model.specs.Warehouse.{Layout, IsLayout, IsSlot}
use Rattle.wp_graph.specs.NeededAisles.{MarksNeeded}

-- a set of slots of a layout, in the order of their aisles and then of their slots
pub record PickSet : Type 0 where
  pub layout : Layout
  pub points : List Point

-- points of a layout that are all slots of it
pub record AreSlots (layout : Layout) (points : List Point) : Type 0 where
  pub ranges : IsLayout layout
  pub slots : (p : Point) → Contains points p → IsSlot layout p

-- points have one in an aisle
abbrev pub HaveSlotIn : List Point → ℕ → Type 0
HaveSlotIn points aisle = (p : Point) × Contains points p × (p.aisle ≡ aisle)

-- the slots of an aisle at which the test passes
unfoldable pub slots_where : Layout → (ℕ → ℕ → Bool) → ℕ → List ℕ
slots_where layout test aisle = filter (test aisle) (range_with_len 1 layout.slots)

-- the points of an aisle
unfoldable pub points_in : ℕ → List ℕ → List Point
points_in aisle slots = map (λ slot. record { aisle = aisle; slot = slot }) slots

-- the slots of a layout at which the test passes
unfoldable pub points_where : Layout → (ℕ → ℕ → Bool) → List Point
points_where layout test = flat_map (λ aisle. points_in aisle (slots_where layout test aisle))
    (range_with_len 1 layout.aisles)

-- whether a slot's bit is set: each aisle has four words of 64 bits
unfoldable pub is_marked : List ℕ → ℕ → ℕ → Bool
is_marked words aisle slot = bit_at (slice_index words (4 * aisle + slot / 64)) (slot % 64) == 1

-- bits are set at slots of the layout alone
pub record MarksSlots (layout : Layout) (words : List ℕ) : Type 0 where
  pub ranges : IsLayout layout
  pub slots : (aisle slot : ℕ) → aisle ≤ 64 → slot < 256 → IsTrue (is_marked words aisle slot)
      → IsSlot layout (record { aisle = aisle; slot = slot })

-- the words mark slots of the layout, and a further word the aisles that are needed for them
pub record KeepsSlots (layout : Layout) (words : List ℕ) (needed : ℕ) : Type 0 where
  pub marks : MarksSlots layout words
  pub aisles : MarksNeeded layout (points_where layout (is_marked words)) needed

-- a word has the bits of two others
abbrev pub HasBitsOfBoth : ℕ → ℕ → ℕ → Type 0
HasBitsOfBoth left right word = (k : ℕ) → k < 64 → bit_at word k ≡ max (bit_at left k) (bit_at right k)

-- no bit is set in the words of an aisle that is not needed
abbrev pub AreBareElsewhere : ℕ → List ℕ → Type 0
AreBareElsewhere needed words = (at : ℕ) → at < 260 → bit_at needed (most_aisles - at / 4) ≡ 0 → (k : ℕ) → k < 64
    → bit_at (slice_index words at) k ≡ 0
