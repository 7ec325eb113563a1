-- The lines that name rows of the stock: those of refills, and those of rows as they stand.
use Rattle.std.specs.Prelude.{ℕ, List, [], ◌++◌, codes, slice_get, slice_index_or}
use Rattle.std.specs.List.{flat_map}
use Rattle.std.specs.Option.{option_map_or}
use Rattle.wp_model.specs.Journal.{after_space, line, location_text, number_after_space}
use Rattle.wp_model.specs.Opening.{Stock}
use Rattle.wp_model.specs.declared.row.Hold.{Hold}
use Rattle.wp_model.specs.declared.row.Row.{Row}
use Rattle.wp_machine.specs.declared.outcome.Refill.{Refill}

-- the name of the article with a number
abbrev pub name_of_article : Stock → ℕ → List ℕ
name_of_article stock article = slice_index_or stock.articles article []

-- where the row with a number lies, after a space
abbrev pub location_after_space : Stock → ℕ → List ℕ
location_after_space stock number = option_map_or (λ row. after_space (location_text row.location))
    (slice_get stock.rows number) []

-- the line of one row from which a refill took: the entry's number, the wave, the order, the location and the units
abbrev pub refill_line : Stock → Refill → Hold → List ℕ
refill_line stock refill hold =
    line (codes "refill" ++ number_after_space refill.number ++ after_space refill.wave ++ after_space refill.order
    ++ location_after_space stock hold.row
    ++ number_after_space hold.quantity)

-- the lines of a refill, a hold after the other
abbrev pub refill_lines : Stock → Refill → List ℕ
refill_lines stock refill = flat_map (refill_line stock refill) refill.holds

-- the line of a row of an article as it stands: its location, the article, the units on hand, the free ones and the
-- held ones
abbrev pub article_line : List ℕ → Row → List ℕ
article_line article row =
    line (location_text row.location ++ after_space article ++ number_after_space row.on_hand
    ++ number_after_space row.free ++ number_after_space row.held)

-- the line of a row as it stands
abbrev pub row_line : Stock → Row → List ℕ
row_line stock row = article_line (name_of_article stock row.article) row
