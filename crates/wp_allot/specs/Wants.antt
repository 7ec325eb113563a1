-- What a wave wants, whether free stock covers it, and how stock is held for it.
use Rattle.std.specs.Prelude.{◌≡◌, ℕ, ◌+◌, ◌<◌, ◌≤◌, ◌^◌, ◌&&◌, ◌==◌, nat_lt, min, Bool, List, [], length, Option, Some}
use Rattle.std.specs.Prelude.{None, if◌then◌else◌, slice_get}
use Rattle.std.specs.List.{All, count_by, sum_by}
use Rattle.wp_model.specs.Book.{Book, held_for, held_list}
use Rattle.wp_model.specs.Change.{change_rows, hold_units, share}
use Rattle.wp_model.specs.Demand.{free_units}
use Rattle.wp_model.specs.Sums.{sum_below}
use Rattle.wp_model.specs.declared.row.Row.{Row}
use Rattle.wp_model.specs.declared.row.StockRow.{StockRow}
use Rattle.wp_book.specs.Calls.{KeepsOthers}
use Rattle.wp_book.specs.Room.{Content}
use Rattle.wp_allot.specs.declared.want.Short.{Short}
use Rattle.wp_allot.specs.declared.want.Want.{Want}

-- the units of a want, where it is of the article
abbrev pub units_of : ℕ → Want → ℕ
units_of article want = if want.article == article then want.quantity else 0

-- the units of a want, where it is of the article and for the order
abbrev pub units_for : ℕ → ℕ → Want → ℕ
units_for article order want = if (want.article == article) && (want.order == order) then want.quantity else 0

-- how many units of an article are wanted
abbrev pub wanted_of : List Want → ℕ → ℕ
wanted_of wants article = sum_by (units_of article) wants

-- how many units of an article are wanted for an order
abbrev pub wanted_for : List Want → ℕ → ℕ → ℕ
wanted_for wants article order = sum_by (units_for article order) wants

-- the units of all wants together
abbrev pub units_in : List Want → ℕ
units_in wants = sum_by (λ (want : Want). want.quantity) wants

-- wants go by their orders, no order has two of one article, each is of at least one unit, and all together are few
-- enough to be counted
pub record AreRegular (wants : List Want) : Type 0 where
  pub ordered : (i j : ℕ) (v w : Want) → i < j → slice_get wants i ≡ Some v → slice_get wants j ≡ Some w
      → v.order ≤ w.order
  pub once : (i j : ℕ) (v w : Want) → slice_get wants i ≡ Some v → slice_get wants j ≡ Some w → v.order ≡ w.order
      → v.article ≡ w.article → i ≡ j
  pub some : All (λ (want : Want). 0 < want.quantity) wants
  pub small : units_in wants < 2 ^ 40

-- of the wants of an article each is for a later order than those before it; each is of at least one unit, and all
-- together are few enough to be counted
pub record AreInTurn (wants : List Want) : Type 0 where
  pub later : (i j : ℕ) (v w : Want) → i < j → slice_get wants i ≡ Some v → slice_get wants j ≡ Some w
      → v.article ≡ w.article → v.order < w.order
  pub some : All (λ (want : Want). 0 < want.quantity) wants
  pub small : units_in wants < 2 ^ 40

-- wants are gathered: they go by their articles, and those of one article by their orders
pub record AreGathered (wants : List Want) : Type 0 where
  pub articles : (i j : ℕ) (v w : Want) → i < j → slice_get wants i ≡ Some v → slice_get wants j ≡ Some w
      → v.article ≤ w.article
  pub turn : AreInTurn wants

-- free stock covers what is wanted of an article
abbrev pub IsEnough : List Row → List Want → Option ℕ → ℕ → Type 0
IsEnough rows wants except article = wanted_of wants article ≤ free_units rows article except

-- of the article less is free than is wanted, and of each article before it there is enough
pub record IsFirstShort (rows : List Row) (wants : List Want) (except : Option ℕ) (short : Short) : Type 0 where
  pub wanted : short.wanted ≡ wanted_of wants short.article
  pub free : short.free ≡ free_units rows short.article except
  pub less : short.free < short.wanted
  pub first : (article : ℕ) → article < short.article → IsEnough rows wants except article

-- the first article of which there isn't enough, or none where there is enough of every article
abbrev pub IsShort : List Row → List Want → Option ℕ → Option Short → Type 0
IsShort rows wants except None = (article : ℕ) → IsEnough rows wants except article
IsShort rows wants except (Some short) = IsFirstShort rows wants except short

-- whether any unit of an article is wanted
abbrev pub is_wanted : List Want → ℕ → Bool
is_wanted wants article = nat_lt 0 (wanted_of wants article)

-- how many rows are of articles that are wanted
abbrev pub wanted_rows : List Row → List Want → ℕ
wanted_rows rows wants = count_by (λ (row : Row). is_wanted wants row.article) rows

-- how many rows of a stock are of articles that are wanted
abbrev pub wanted_places : List StockRow → List Want → ℕ
wanted_places rows wants = count_by (λ (row : StockRow). is_wanted wants row.article) rows

-- how many holds stock for wants takes at most, where so many rows are wanted: one a row and one a want, and no more
-- than one a unit
abbrev pub holds_at_most : ℕ → List Want → ℕ
holds_at_most rows wants = min (rows + length wants) (units_in wants)

-- how many it takes at most of these rows
abbrev pub most_holds : List Row → List Want → ℕ
most_holds rows wants = holds_at_most (wanted_rows rows wants) wants

-- room in which no hold is yet, and that has space for as many as stock for wants takes
pub record IsRoomFor (rows : List Row) (wants : List Want) (room : Content) : Type 0 where
  pub empty : room.holds ≡ []
  pub size : most_holds rows wants ≤ room.size

-- nothing is wanted for any order from this place on
abbrev pub WantsBelow : List Want → ℕ → Type 0
WantsBelow wants orders = (article order : ℕ) → orders ≤ order → wanted_for wants article order ≡ 0

-- the room has what the orders take from the rows by overlap: one hold for an order at a row of which it takes units,
-- by order and then by row
pub record HasOverlaps (rows : List Row) (wants : List Want) (except : Option ℕ) (old new : Content) : Type 0 where
  pub size : new.size ≡ old.size
  pub few : length new.holds ≤ most_holds rows wants
  pub holds : (orders : ℕ) → WantsBelow wants orders
      → new.holds ≡ held_list orders (length rows) (share (wanted_for wants) rows except)

-- what the orders take from the rows by overlap went from free to held, for a wave
pub record IsAllotted (wave : ℕ) (wants : List Want) (except : Option ℕ) (old new : Book) : Type 0 where
  pub rows : (orders : ℕ) → WantsBelow wants orders → new.rows ≡ change_rows
      (λ row. hold_units (sum_below orders (λ order. share (wanted_for wants) old.rows except order row))) 0 old.rows
  pub held : (order row : ℕ) → held_for new wave order row ≡ held_for old wave order row
      + share (wanted_for wants) old.rows except order row
  pub others : KeepsOthers wave old new
