-- Rows and articles with one more.
use Rattle.std.proofs.Common.{◌≡◌, ◌∙◌, refl, ℕ, ◌+◌, ◌≤◌, Bool, true, false, List, [], ◌∷◌, ◌++◌, length, arith, length-append}
use Rattle.std.specs.Prelude.{if◌then◌else◌, ◌||◌}
use Rattle.std.specs.List.{AllByRecursion}
use Rattle.std.specs.Str.{bytes_eq}
use Rattle.wp_model.specs.Location.{is_before}
use Rattle.wp_model.specs.Opening.{Stock}
use Rattle.wp_model.specs.Step.{is_among}
use Rattle.wp_model.specs.TableLines.{add_line, join, number_among, put_row, row_of}
use Rattle.wp_model.specs.declared.line.StockLine.{StockLine}
use Rattle.wp_model.specs.declared.row.StockRow.{StockRow}
use Rattle.wp_model.proofs.NameEq.{bytes_eq_flips}

-- what holds of rows and of one more holds of the rows with that one in its place
pub all_put : (P : StockRow → Type 0) (row : StockRow) (rows : List StockRow) → P row → AllByRecursion P rows → AllByRecursion P (put_row row rows)
all_put P row [] here rest = (here, rest)
all_put P row (r ∷ rows) here rest = all_put_if (is_before row.location r.location) P row r rows here rest (all_put P row rows here rest.1)
  where
    all_put_if : (b : Bool) (P : StockRow → Type 0) (row r : StockRow) (rows : List StockRow) → P row → AllByRecursion P (r ∷ rows)
        → AllByRecursion P (put_row row rows)
        → AllByRecursion P (if b then row ∷ r ∷ rows else r ∷ put_row row rows)
    all_put_if true P row r rows here rest put = (here, rest)
    all_put_if false P row r rows here rest put = (rest.0, put)

-- what follows from what holds of all rows holds of all of them
pub all_weaker : (P Q : StockRow → Type 0) (so : (r : StockRow) → P r → Q r) (rows : List StockRow) → AllByRecursion P rows → AllByRecursion Q rows
all_weaker P Q so [] all = tt
all_weaker P Q so (r ∷ rows) all = (so r all.0, all_weaker P Q so rows all.1)

length_if : {A : Type 0} (b : Bool) (xs ys : List A) (n : ℕ) → length xs ≡ n → length ys ≡ n → length (if b then xs else ys) ≡ n
length_if true xs ys n one other = one
length_if false xs ys n one other = other

-- a row that is put into its place makes the list longer by one
pub length_put : (row : StockRow) (rows : List StockRow) → length (put_row row rows) ≡ length rows + 1
length_put row [] = refl
length_put row (r ∷ rows) =
    length_if (is_before row.location r.location) (row ∷ r ∷ rows) (r ∷ put_row row rows) (length (r ∷ rows) + 1) (omega arith)
    (omega (arith, length_put row rows))

-- the place of a name that isn't there
pub number_new : (names : List (List ℕ)) (name : List ℕ) → is_among names name ≡ false → number_among names name ≡ length names
number_new [] name new = refl
number_new (other ∷ names) name new =
    let parts = neither (bytes_eq other name) (is_among names name) new in
    let differs : bytes_eq name other ≡ false = bytes_eq_flips name other ∙ parts.0 in
    rw (differs, number_new names name parts.1) (omega arith)
  where
    neither : (p q : Bool) → (p || q) ≡ false → (p ≡ false) × (q ≡ false)
    neither false q e = (refl, e)
    neither true q e = absurd (cc e)

join_if : (b : Bool) (names : List (List ℕ)) (name : List ℕ) → b ≡ false → (if b then names else names ++ name ∷ []) ≡ names ++ name ∷ []
join_if true names name new = absurd (cc new)
join_if false names name new = refl

-- a new name comes last
pub join_new : (names : List (List ℕ)) (name : List ℕ) → is_among names name ≡ false → join names name ≡ names ++ name ∷ []
join_new names name new = join_if (is_among names name) names name new

-- an article more needs a row more
pub few_kept : (stock : Stock) (line : StockLine) → length stock.articles ≤ length stock.rows
    → length (add_line stock line).articles ≤ length (add_line stock line).rows
few_kept stock line few =
    let names = join_longer (is_among stock.articles line.article) stock.articles line.article in
    omega (arith, names, length_put (row_of (join stock.articles line.article) line) stock.rows)
  where
    join_longer : (b : Bool) (names : List (List ℕ)) (name : List ℕ) → length (if b then names else names ++ name ∷ []) ≤ length names + 1
    join_longer true names name = omega arith
    join_longer false names name = omega (arith, length-append names (name ∷ []))
