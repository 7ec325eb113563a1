-- The number of the row at a location, now and in the opening.
use Rattle.std.proofs.Common.{◌≡◌, ◌∙◌, refl, sym, ap, ℕ, ◌+◌, ◌<◌, inl, inr, Bool, true, false, List, [], ◌∷◌, arith, length, map, Option, Some, option_map}
use Rattle.std.proofs.Common.{if◌then◌else◌, IfSome, None}
use Rattle.std.proofs.lemmas.Bool.{cases_Bool}
use Rattle.std.proofs.lemmas.Option.{same_Some}
use Rattle.wp_model.specs.Opening.{Opening}
use Rattle.wp_model.specs.Step.{row_from, same_location}
use Rattle.wp_model.specs.Tables.{row_number_from}
use Rattle.wp_model.specs.declared.location.Location.{Location}
use Rattle.wp_model.specs.declared.row.Row.{Row}
use Rattle.wp_model.specs.declared.row.StockRow.{StockRow}
use Rattle.wp_floor.specs.Floor.{AreSameRows, row_place, stock_row_place}
use Rattle.wp_floor.specs.HeldUnits.{IsRowAt}

-- rows that lie where others lie have the same numbers
same_numbers : (number : ℕ) (rows : List Row) (others : List StockRow) (location : Location) → map row_place rows ≡ map stock_row_place others
    → option_map (λ (found : ℕ × Row). found.0) (row_from number rows location) ≡ row_number_from number others location
same_numbers number [] [] location same = refl
same_numbers number [] (other ∷ others) location same = absurd (cc)
same_numbers number (row ∷ rows) [] location same = absurd (cc)
same_numbers number (row ∷ rows) (other ∷ others) location same =
    let place : row_place row ≡ stock_row_place other = cc in
    let rest : map row_place rows ≡ map stock_row_place others = cc in
    by (same_location row.location location) (row_from (number + 1) rows location) (row_number_from (number + 1) others location)
    (same_numbers (number + 1) rows others location rest)
    ∙ ap (λ (there : Location). if same_location there location then Some number else row_number_from (number + 1) others location)
    (ap (λ (p : Location × ℕ). p.0) place)
  where
    by : (b : Bool) (found : Option (ℕ × Row)) (later : Option ℕ) → option_map (λ (found : ℕ × Row). found.0) found ≡ later
        → option_map (λ (found : ℕ × Row). found.0) (if b then Some (number, row) else found) ≡ (if b then Some number else later)
    by true found later same = refl
    by false found later same = same

-- the row that lies at a location lay there in the opening
pub row_there : (opening : Opening) (rows : List Row) (location : Location) (row : Option ℕ) → AreSameRows opening rows
    → row_number_from 0 opening.stock.rows location ≡ row → IsRowAt rows location row
row_there opening rows location row same is = same_numbers 0 rows opening.stock.rows location same ∙ is

-- the number that a row has is below that of all rows
number_within : (number : ℕ) (rows : List StockRow) (location : Location) (row : ℕ) → row_number_from number rows location ≡ Some row
    → row < number + length rows
number_within number [] location row is = absurd (cc)
number_within number (other ∷ rows) location row is = elim (cases_Bool (same_location other.location location)) [
  | inl here ↦
      let e : Some number ≡ Some row = sym (ap (λ b. if b then Some number else row_number_from (number + 1) rows location) here) ∙ is in
      omega (arith, same_Some number row e)
  | inr elsewhere ↦
      omega (
        arith,
        number_within (number + 1) rows location row
            (sym (ap (λ b. if b then Some number else row_number_from (number + 1) rows location) elsewhere) ∙ is),
      )
]

-- a row that lies at a location is one of the rows
pub row_within : (rows : List StockRow) (location : Location) (row : Option ℕ) → row_number_from 0 rows location ≡ row
    → IfSome row (λ number. number < length rows)
row_within rows location None is = tt
row_within rows location (Some number) is = omega (arith, number_within 0 rows location number is)
