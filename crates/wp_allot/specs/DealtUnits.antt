-- How the free units of an article are dealt to the orders that want it.
use Rattle.std.specs.Prelude.{◌≡◌, ℕ, suc, ◌+◌, ◌-◌, ◌<◌, ◌≤◌, ◌&&◌, ◌==◌, Bool, List, length, take, min, Option}
use Rattle.std.specs.Prelude.{if◌then◌else◌, slice_get}
use Rattle.std.specs.List.{All, count_by, sum_by}
use Rattle.std.specs.Option.{option_map_or}
use Rattle.wp_model.specs.Book.{units_for}
use Rattle.wp_model.specs.Demand.{offer_at}
use Rattle.wp_model.specs.Overlap.{common, overlap}
use Rattle.wp_model.specs.Sums.{sum_below}
use Rattle.wp_model.specs.declared.row.Hold.{Hold}
use Rattle.wp_model.specs.declared.row.Row.{Row}
use Rattle.wp_book.specs.ArticleRows.{rows_of}
use Rattle.wp_book.specs.Room.{Content}
use Rattle.wp_allot.specs.Wants.{AreInTurn, IsEnough, is_wanted, most_holds, wanted_for, wanted_of, wanted_rows}
use Rattle.wp_allot.specs.declared.mark.Mark.{Mark}
use Rattle.wp_allot.specs.declared.want.Want.{Want}

-- what an article's rows offer, by their places among them
abbrev pub offer_in : List Row → ℕ → Option ℕ → ℕ → ℕ
offer_in rows article except place = option_map_or (offer_at rows article except)
    (slice_get (rows_of article rows) place) 0

-- how many units of the line of free units lie before a mark
abbrev pub position : (ℕ → ℕ) → Mark → ℕ
position offer mark = sum_below mark.place offer + mark.taken

-- how many units a row has of an interval of the line
abbrev pub part : (ℕ → ℕ) → ℕ → ℕ → ℕ → ℕ
part offer from to row = common from to (sum_below row offer) (sum_below (suc row) offer)

-- how many rows the article has from a place among them on
abbrev pub rows_from : List Row → ℕ → ℕ → ℕ
rows_from rows article place = length (rows_of article rows) - place

-- a hold is for the order at the row
abbrev pub is_hold : ℕ → ℕ → Hold → Bool
is_hold order row hold = (hold.order == order) && (hold.row == row)

-- each hold is of at least one unit at a row of the book, and an order has no two at one row
pub record AreSingle (rows : List Row) (holds : List Hold) : Type 0 where
  pub some : All (λ (hold : Hold). 0 < hold.quantity) holds
  pub within : All (λ (hold : Hold). hold.row < length rows) holds
  pub once : (order row : ℕ) → count_by (is_hold order row) holds ≤ 1

-- an order can be served from the mark on: the line has the units that it wants, it has no hold at the article's rows
-- yet, and the room has space for one hold a row and one more, or for one a unit
pub record CanServe (rows : List Row) (want : Want) (except : Option ℕ) (mark : Mark) (room : Content) : Type 0 where
  pub taken : mark.taken ≤ offer_in rows want.article except mark.place
  pub enough : position (offer_in rows want.article except) mark + want.quantity
      ≤ sum_below (length rows) (offer_at rows want.article except)
  pub single : AreSingle rows room.holds
  pub fresh : (row : ℕ) → 0 < offer_at rows want.article except row → units_for room.holds want.order row ≡ 0
  pub space : length room.holds + min (rows_from rows want.article mark.place + 1) want.quantity ≤ room.size

-- an order was served from one mark up to another, but for the units that it still wants
pub record IsServed (rows : List Row) (want : Want) (except : Option ℕ) (wanted : ℕ) (mark mark' : Mark)
    (room room' : Content) : Type 0 where
  pub most : wanted ≤ want.quantity
  pub taken : mark'.taken ≤ offer_in rows want.article except mark'.place
  pub dealt : position (offer_in rows want.article except) mark' + wanted
      ≡ position (offer_in rows want.article except) mark + want.quantity
  pub single : AreSingle rows room'.holds
  pub size : room'.size ≡ room.size
  pub space : length room'.holds + rows_from rows want.article mark'.place + min 1 wanted
      ≤ length room.holds + rows_from rows want.article mark.place + 1
  pub few : length room'.holds + wanted ≤ length room.holds + want.quantity
  pub units : (order row : ℕ) → units_for room'.holds order row
      ≡ units_for room.holds order row + (if order == want.order then part (offer_at rows want.article except)
      (position (offer_in rows want.article except) mark) (position (offer_in rows want.article except) mark') row
      else 0)

-- how many wants are of an article
abbrev pub wants_of : List Want → ℕ → ℕ
wants_of wants article = count_by (λ (want : Want). want.article == article) wants

-- an article can be dealt: there is enough of it, no order has a hold at its rows yet, and the room has space for one
-- hold a row and one a want, or for one a unit
pub record CanDeal (rows : List Row) (wants : List Want) (article : ℕ) (except : Option ℕ)
    (room : Content) : Type 0 where
  pub turn : AreInTurn wants
  pub enough : IsEnough rows wants except article
  pub single : AreSingle rows room.holds
  pub fresh : (order row : ℕ) → 0 < offer_at rows article except row → units_for room.holds order row ≡ 0
  pub space : length room.holds + min (length (rows_of article rows) + wants_of wants article) (wanted_of wants article)
      ≤ room.size

-- an article was dealt to the orders that want it
pub record IsDealt (rows : List Row) (wants : List Want) (article : ℕ) (except : Option ℕ)
    (room room' : Content) : Type 0 where
  pub single : AreSingle rows room'.holds
  pub size : room'.size ≡ room.size
  pub space : length room'.holds ≤ length room.holds + length (rows_of article rows) + wants_of wants article
  pub few : length room'.holds ≤ length room.holds + wanted_of wants article
  pub units : (order row : ℕ) → units_for room'.holds order row ≡ units_for room.holds order row
      + overlap (wanted_for wants article)
      (offer_at rows article except) order row

-- what an order takes from a row, where its article is wanted by one of the first wants
abbrev pub share_among : List Row → List Want → Option ℕ → ℕ → ℕ → ℕ → ℕ
share_among rows wants except count order row =
    option_map_or (λ (r : Row). if is_wanted (take count wants) r.article then overlap (wanted_for wants r.article)
    (offer_at rows r.article except) order row else 0) (slice_get rows row) 0

-- how many units are wanted of the articles of the first wants
abbrev pub units_among : List Want → ℕ → ℕ
units_among wants count = sum_by (λ (want : Want). if is_wanted (take count wants) want.article then want.quantity
    else 0) wants

-- the articles of the first wants were dealt
pub record AreDealtUnits (rows : List Row) (wants : List Want) (except : Option ℕ) (count : ℕ)
    (room : Content) : Type 0 where
  pub single : AreSingle rows room.holds
  pub size : most_holds rows wants ≤ room.size
  pub few : length room.holds ≤ units_among wants count
  pub space : length room.holds ≤ wanted_rows rows (take count wants)
      + count_by (λ (want : Want). is_wanted (take count wants) want.article) wants
  pub units : (order row : ℕ) → units_for room.holds order row ≡ share_among rows wants except count order row
