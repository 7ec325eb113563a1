-- What room for holds has in it.
use Rattle.std.specs.Prelude.{◌≡◌, ℕ, ◌≤◌, ◌<◌, ◌==◌, ◌&&◌, ◌||◌, Bool, true, false, nat_lt, List, Some, length, take}
use Rattle.std.specs.Prelude.{drop, slice_get, slice_index_or}
use Rattle.std.specs.List.Sorted.{IsPermutation}
use Rattle.wp_model.specs.Book.{units_for}
use Rattle.wp_model.specs.declared.row.Hold.{Hold}

-- how many holds there is room for, and those that are in it
pub record Content : Type 0 where
  pub size : ℕ
  pub holds : List Hold

-- a hold comes no later than another: it is for an earlier order, or for the same one at no later a row
pub record ComesFirst (g h : Hold) : Type 0 where
  pub order : g.order ≤ h.order
  pub row : g.order ≡ h.order → g.row ≤ h.row

-- holds go by order and then by row
abbrev pub AreInOrder : List Hold → Type 0
AreInOrder holds = (i j : ℕ) (g h : Hold) → i ≤ j → slice_get holds i ≡ Some g → slice_get holds j ≡ Some h
    → ComesFirst g h

-- the same holds, in order
pub record IsInOrder (old new : Content) : Type 0 where
  pub size : new.size ≡ old.size
  pub same : IsPermutation old.holds new.holds
  pub order : AreInOrder new.holds

-- a hold of no unit, for the same order at the same row
abbrev pub place_of : Hold → Hold
place_of hold = record { order = hold.order; row = hold.row; quantity = 0 }

-- whether a hold comes before all that are for an order at a row
abbrev pub is_before : ℕ → ℕ → Hold → Bool
is_before order row hold = nat_lt hold.order order || ((hold.order == order) && nat_lt hold.row row)

-- a place parts holds: those before it come before all that are for an order at a row, and no other does
pub record Parts (order row : ℕ) (holds : List Hold) (place : ℕ) : Type 0 where
  pub within : place ≤ length holds
  pub before : (k : ℕ) (d : Hold) → k < place → is_before order row (slice_index_or holds k d) ≡ true
  pub after : (k : ℕ) (d : Hold) → place ≤ k → k < length holds → is_before order row (slice_index_or holds k d) ≡ false

-- the holds for an order at a row stand from one place up to another, and none of them elsewhere
pub record StandBetween (order row : ℕ) (holds : List Hold) (start end : ℕ) : Type 0 where
  pub upto : start ≤ end
  pub within : end ≤ length holds
  pub before : units_for (take start holds) order row ≡ 0
  pub after : units_for (drop end holds) order row ≡ 0
