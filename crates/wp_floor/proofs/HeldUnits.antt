-- Units that are held for an order of a wave at a location.
use Rattle.std.proofs.Common.{◌≡◌, ◌∙◌, refl, sym, ap, ℕ, ◌<◌, List, length, Option, Some, None, slice_get, option_map}
use Rattle.std.proofs.lemmas.Option.{slice_get_within}
use Rattle.std.specs.Option.{option_map_or}
use Rattle.wp_model.proofs.Found.{row_found}
use Rattle.wp_model.specs.Book.{Book, held_for}
use Rattle.wp_model.specs.Step as step
use Rattle.wp_model.specs.declared.location.Location.{Location}
use Rattle.wp_model.specs.declared.row.Row.{Row}
use Rattle.wp_floor.specs.HeldUnits.{IsRowAt, held_there}
use Rattle.wp_floor.specs.declared.waves.KeptWave.{KeptWave}

-- the row at a location is found, and it has this number
pub record IsRowFound (rows : List Row) (location : Location) (number : ℕ) : Type 0 where
  pub row : Row
  pub found : step.row_from 0 rows location ≡ Some (number, row)
  pub there : slice_get rows number ≡ Some row
  pub within : number < length rows

found_of : (rows : List Row) (location : Location) (number : ℕ) (found : Option (ℕ × Row)) → step.row_from 0 rows location ≡ found
    → option_map (λ (f : ℕ × Row). f.0) found ≡ Some number → IsRowFound rows location number
found_of rows location number None is e = absurd (cc)
found_of rows location number (Some f) is e =
    let same : f.0 ≡ number = cc in
    let there = row_found rows location f is in
    let at : slice_get rows number ≡ Some f.1 = ap (slice_get rows) (sym same) ∙ there in
    record {
      row = f.1;
      found = is ∙ ap (λ n. Some (n, f.1)) same;
      there = at;
      within = slice_get_within rows number f.1 at;
    }

-- where the number of the row at a location is known, that row is found
pub row_is_found : (rows : List Row) (location : Location) (row : Option ℕ) (number : ℕ) → IsRowAt rows location row → row ≡ Some number
    → IsRowFound rows location number
row_is_found rows location row number at is = found_of rows location number (step.row_from 0 rows location) refl (at ∙ is)

-- what is held there
pub held_there_is : (book : Book) (number : ℕ) (kept : KeptWave) (order : List ℕ) (location : Location) (place row : ℕ) (r : Row)
    → step.place_from 0 kept.orders order ≡ Some place → step.row_from 0 book.rows location ≡ Some (row, r)
    → held_there book number kept order location ≡ step.any_held
    (record { order = place; row = row; article = r.article; units = held_for book number place row })
held_there_is book number kept order location place row r placed found =
    ap (λ (at : Option ℕ). option_map_or (λ p. option_map_or
    (λ (f : ℕ × Row). step.any_held (record { order = p; row = f.0; article = f.1.article; units = held_for book number p f.0 }))
    (step.row_from 0 book.rows location) None) at None) placed
    ∙ ap (λ (at : Option (ℕ × Row)). option_map_or (λ (f : ℕ × Row). step.any_held
    (record { order = place; row = f.0; article = f.1.article; units = held_for book number place f.0 })) at None) found
