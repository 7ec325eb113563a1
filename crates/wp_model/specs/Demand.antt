-- What orders and waves want, and whether free stock covers it.
use Rattle.std.specs.Prelude.{ℕ, zero, suc, ◌+◌, ◌<◌, ◌≤◌, ◌&&◌, ◌==◌, not, nat_lt, Bool, false, List, length, Option}
use Rattle.std.specs.Prelude.{Some, None, if◌then◌else◌, slice_get}
use Rattle.std.specs.List.{sum_by}
use Rattle.std.specs.Option.{option_map_or}
use Rattle.wp_model.specs.Opening.{Opening, lines_of}
use Rattle.wp_model.specs.Sums.{sum_below}
use Rattle.wp_model.specs.declared.row.Line.{Line}
use Rattle.wp_model.specs.declared.row.Row.{Row}

-- a line's quantity, where it is of the article
abbrev pub quantity_of : ℕ → Line → ℕ
quantity_of article line = if line.article == article then line.quantity else 0

-- how many units of an article an order wants: the sum of its lines' quantities of it
abbrev pub order_demand : Opening → List ℕ → ℕ → ℕ
order_demand opening order article = sum_by (quantity_of article) (lines_of opening.orders order)

-- the same of the order at a place of a list, nothing where there is none
abbrev pub demand_at : Opening → List (List ℕ) → ℕ → ℕ → ℕ
demand_at opening orders article place = option_map_or (λ order. order_demand opening order article)
    (slice_get orders place) 0

-- how many units of an article a wave's orders want together
abbrev pub wave_demand : Opening → List (List ℕ) → ℕ → ℕ
wave_demand opening orders article = sum_below (length orders) (demand_at opening orders article)

-- whether a row, by its number, is the excepted one
abbrev pub is_excepted : Option ℕ → ℕ → Bool
is_excepted None place = false
is_excepted (Some row) place = row == place

-- the free units of an article that a row offers, nothing where it is excepted
abbrev pub offer_of : ℕ → Option ℕ → ℕ → Row → ℕ
offer_of article except place row = if (row.article == article) && not (is_excepted except place) then row.free else 0

-- the same of the row with a number, nothing where there is none
abbrev pub offer_at : List Row → ℕ → Option ℕ → ℕ → ℕ
offer_at rows article except place = option_map_or (offer_of article except place) (slice_get rows place) 0

-- the free units of an article, without those of the excepted row
abbrev pub free_units : List Row → ℕ → Option ℕ → ℕ
free_units rows article except = sum_below (length rows) (offer_at rows article except)

-- free stock covers what the orders want, of every article
abbrev pub IsCovered : Opening → List Row → List (List ℕ) → Option ℕ → Type 0
IsCovered opening rows orders except = (article : ℕ) → wave_demand opening orders article
    ≤ free_units rows article except

-- of each article from one on no more is wanted than is free
abbrev pub AreCovered : (ℕ → ℕ) → (ℕ → ℕ) → ℕ → ℕ → Type 0
AreCovered wanted free from until = (k : ℕ) → from ≤ k → k < until → wanted k ≤ free k

-- an article of which more is wanted than is free, and none before it from one on
pub record IsFirstShort (wanted free : ℕ → ℕ) (from until article : ℕ) : Type 0 where
  pub after : from ≤ article
  pub within : article < until
  pub short : free article < wanted article
  pub before : AreCovered wanted free from article

-- the first of so many articles from one on of which more is wanted than is free
abbrev pub first_short : (ℕ → ℕ) → (ℕ → ℕ) → ℕ → ℕ → Option ℕ
first_short wanted free zero article = None
first_short wanted free (suc more) article
    = if nat_lt (free article) (wanted article) then Some article else first_short wanted free more (article + 1)

-- the first article, in the order of the stock file, that free stock doesn't cover
abbrev pub short_article : Opening → List Row → List (List ℕ) → Option ℕ → Option ℕ
short_article opening rows orders except =
    first_short (wave_demand opening orders) (λ article. free_units rows article except)
    (length opening.stock.articles) 0
