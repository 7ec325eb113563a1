-- What an allotment leaves as it was.
use Rattle.std.specs.Prelude.{◌≡◌, ℕ, ◌+◌, List, Option, Some, slice_get}
use Rattle.wp_model.specs.Book.{Book, held_for}
use Rattle.wp_model.specs.Change.{share}
use Rattle.wp_model.specs.declared.row.Row.{Row}
use Rattle.wp_allot.specs.Wants.{wanted_for, wanted_of}
use Rattle.wp_allot.specs.declared.want.Want.{Want}

-- each row of an article of which no unit is wanted is the same, at its place
abbrev pub KeepsOtherArticles : List Want → List Row → List Row → Type 0
KeepsOtherArticles wants old new = (place : ℕ) (row : Row) → slice_get old place ≡ Some row
    → wanted_of wants row.article ≡ 0 → slice_get new place ≡ Some row

-- the excepted row, where there is one, is the same
abbrev pub KeepsExcepted : Option ℕ → List Row → List Row → Type 0
KeepsExcepted except old new = (place : ℕ) → except ≡ Some place → slice_get new place ≡ slice_get old place

-- a wave holds for each order at each row what it held there before, and the units that the order takes from the row
abbrev pub KeepsEarlier : ℕ → List Want → Option ℕ → Book → Book → Type 0
KeepsEarlier wave wants except old new =
    (order row : ℕ) → held_for new wave order row
    ≡ held_for old wave order row + share (wanted_for wants) old.rows except order row
