-- Rows by their locations, in a map.
use Rattle.std.proofs.Common.{◌≡◌, ◌∙◌, refl, sym, ap, Bool, true, false, List, [], ◌∷◌, map}
use Rattle.std.specs.Prelude.{◌||◌, if◌then◌else◌, Option, Some}
use Rattle.std.specs.List.{list_any}
use Rattle.std.specs.Map.{lookup}
use Rattle.std.specs.Option.{is_some}
use Rattle.std.specs.Ordering.{is_eq, is_lt, match_ordering}
use Rattle.std.specs.BTreeMap.{insert_entry, is_at}
use Rattle.std.specs.declared.cmp.Ordering.{Ordering}
use Rattle.std.specs.declared.cmp.Ordering.TheVariants.{Less, Equal, Greater}
use Rattle.wp_model.proofs.LocationOrder.{before_by_cmp, same_by_cmp}
use Rattle.wp_model.specs.Location.{is_before, location_cmp}
use Rattle.wp_model.specs.TableLines.{lies_at, put_row}
use Rattle.wp_model.specs.Step.{same_location}
use Rattle.wp_model.specs.declared.location.Location.{Location}
use Rattle.wp_model.specs.declared.row.StockRow.{StockRow}
use Rattle.wp_tables.specs.Stock.{by_location}

found_if : {A : Type 0} (b : Bool) (x : A) (o : Option A) (any : Bool) → is_some o ≡ any → is_some (if b then Some x else o) ≡ (b || any)
found_if true x o any e = refl
found_if false x o any e = e

-- a map of rows by their locations has a location where a row lies there
pub found_by_location : (cmp : Location → Location → Ordering) (agrees : (a b : Location) → cmp a b ≡ location_cmp a b) (location : Location)
    (rows : List StockRow)
    → is_some (lookup (is_at (cmp location)) (by_location rows)) ≡ list_any (lies_at location) rows
found_by_location cmp agrees location [] = refl
found_by_location cmp agrees location (row ∷ rows) =
    let here : is_eq (cmp location row.location) ≡ same_location row.location location =
    ap is_eq (agrees location row.location) ∙ same_by_cmp location row.location in
    rw here (found_if (same_location row.location location) row (lookup (is_at (cmp location)) (by_location rows)) (list_any (lies_at location) rows)
    (found_by_location cmp agrees location rows))

neither : (p q : Bool) → (p || q) ≡ false → (p ≡ false) × (q ≡ false)
neither false q e = (refl, e)
neither true q e = absurd (cc e)

put_case : (o : Ordering) (same before : Bool) (row r : StockRow) (rows : List StockRow) (instead rest : List (Location × StockRow))
    → is_eq o ≡ same → is_lt o ≡ before → same ≡ false → rest ≡ by_location (put_row row rows)
    → match_ordering o ((row.location, row) ∷ (r.location, r) ∷ by_location rows) instead ((r.location, r) ∷ rest)
    ≡ by_location (if before then row ∷ r ∷ rows else r ∷ put_row row rows)
put_case Less same before row r rows instead rest eq lt other e = rw (← lt) refl
put_case Equal same before row r rows instead rest eq lt other e = absurd (cc (eq, other))
put_case Greater same before row r rows instead rest eq lt other e = rw (← lt, e) refl

-- a new row goes to its place
pub put_by_location : (cmp : Location → Location → Ordering) (agrees : (a b : Location) → cmp a b ≡ location_cmp a b) (row : StockRow) (rows : List StockRow)
    → list_any (lies_at row.location) rows ≡ false → insert_entry cmp (by_location rows) row.location row ≡ by_location (put_row row rows)
put_by_location cmp agrees row [] new = refl
put_by_location cmp agrees row (r ∷ rows) new =
    let o = location_cmp row.location r.location in
    let there : cmp row.location r.location ≡ o = agrees row.location r.location in
    let same : is_eq o ≡ same_location r.location row.location = same_by_cmp row.location r.location in
    let before : is_lt o ≡ is_before row.location r.location = before_by_cmp row.location r.location in
    let parts = neither (same_location r.location row.location) (list_any (lies_at row.location) rows) new in
    rw there (put_case o (same_location r.location row.location) (is_before row.location r.location) row r rows ((r.location, row) ∷ by_location rows)
    (insert_entry cmp (by_location rows) row.location row) same before parts.0 (put_by_location cmp agrees row rows parts.1))

-- the rows of rows by their locations
pub rows_back : (rows : List StockRow) → map (λ (e : Location × StockRow). e.1) (by_location rows) ≡ rows
rows_back [] = refl
rows_back (row ∷ rows) = ap (λ rest. row ∷ rest) (rows_back rows)

-- a map that has these rows by their locations has just them
pub kept_by_location : (entries : List (Location × StockRow)) (rows : List StockRow) → entries ≡ by_location rows
    → entries ≡ by_location (map (λ e. e.1) entries)
kept_by_location entries rows e = rw e (ap by_location (sym (rows_back rows)))
