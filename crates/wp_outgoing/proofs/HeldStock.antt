-- What stays free where stock is held.
use Rattle.std.proofs.Common.{◌≡◌, ◌≢◌, ◌∙◌, refl, ap, ℕ, zero, suc, ◌+◌, ◌-◌, ◌<◌, ◌≤◌, ◌&&◌, ◌==◌, not, Bool, true, false, List, length, Option, Some, None}
use Rattle.std.proofs.Common.{arith, if◌then◌else◌, slice_get, option_map}
use Rattle.std.specs.Option.{option_map_or}
use Rattle.wp_model.proofs.Elements.{within_some}
use Rattle.wp_model.proofs.Rows.{length-change_rows, slice_get-change_rows}
use Rattle.wp_model.proofs.Share.{shares, shares-le-free, shares_are_demand}
use Rattle.wp_model.proofs.Sums.{sum-add, sum-agree, sum-zero}
use Rattle.wp_model.specs.Change.{change_rows, hold_units, share}
use Rattle.wp_model.specs.Demand.{free_units, offer_at, offer_of}
use Rattle.wp_model.specs.Sound.{units_of}
use Rattle.wp_model.specs.Sums.{sum_below}
use Rattle.wp_model.specs.declared.row.Row.{Row}

-- two numbers of units at a row together
if_added : (test : Bool) (f g : ℕ) → (if test then f + g else 0) ≡ (if test then f else 0) + (if test then g else 0)
if_added true f g = refl
if_added false f g = refl

units_added : (article f g : ℕ) (found : Option Row)
    → option_map_or (λ (r : Row). if r.article == article then f + g else 0) found 0
    ≡ option_map_or (λ (r : Row). if r.article == article then f else 0) found 0 + option_map_or (λ (r : Row). if r.article == article then g else 0) found 0
units_added article f g None = refl
units_added article f g (Some r) = if_added (r.article == article) f g

-- no units at a row
if_none : (test : Bool) → ◌≡◌ {A = ℕ} (if test then 0 else 0) 0
if_none true = refl
if_none false = refl

no_units : (article : ℕ) (found : Option Row) → ◌≡◌ {A = ℕ} (option_map_or (λ (r : Row). if r.article == article then 0 else 0) found 0) 0
no_units article None = refl
no_units article (Some r) = if_none (r.article == article)

-- what orders take of an article from all rows is what each of them takes
all_shares : (demand : ℕ → ℕ → ℕ) (rows : List Row) (orders article : ℕ)
    → sum_below (length rows) (units_of rows article (shares demand rows None orders))
    ≡ sum_below orders (λ place. sum_below (length rows) (units_of rows article (share demand rows None place)))
all_shares demand rows zero article = sum-zero (length rows) _ (λ k within. no_units article (slice_get rows k))
all_shares demand rows (suc orders) article =
    sum-agree (length rows) _ _
    (λ k within. units_added article (shares demand rows None orders k) (share demand rows None orders k) (slice_get rows k))
    ∙ (sum-add (length rows) (units_of rows article (shares demand rows None orders)) (units_of rows article (share demand rows None orders))
    ∙ ap (λ n. n + sum_below (length rows) (units_of rows article (share demand rows None orders))) (all_shares demand rows orders article))

-- and, where free stock covers it, what they want
taken_in_all : (demand : ℕ → ℕ → ℕ) (rows : List Row) (orders article : ℕ) → sum_below orders (demand article) ≤ free_units rows article None
    → ((place : ℕ) → demand article place ≢ 0 → place < orders)
    → sum_below (length rows) (units_of rows article (shares demand rows None orders)) ≡ sum_below orders (demand article)
taken_in_all demand rows orders article covered wanted =
    all_shares demand rows orders article
    ∙ sum-agree orders _ _ (λ place within. shares_are_demand demand rows None orders place article covered (wanted place))

row_if : (test : Bool) (free taken : ℕ) → taken ≤ free
    → (if test && not false then free - taken else 0) + (if test then taken else 0) ≡ (if test && not false then free else 0)
row_if true free taken enough = omega arith
row_if false free taken enough = refl

-- a row offers what it did before, less what is taken of it
row_left : (demand : ℕ → ℕ → ℕ) (rows : List Row) (orders article k : ℕ) → k < length rows
    → offer_at (change_rows (λ row. hold_units (shares demand rows None orders row)) 0 rows) article None k
    + units_of rows article (shares demand rows None orders) k
    ≡ offer_at rows article None k
row_left demand rows orders article k within =
    let found = within_some rows k within in
    let r = found.0 in
    let taken = shares demand rows None orders in
    let after = ap (λ f. option_map_or (offer_of article None k) f 0)
    (slice_get-change_rows (λ row. hold_units (taken row)) rows k ∙ ap (option_map (hold_units (taken k))) found.1) in
    let there = ap (λ f. option_map_or (λ (r : Row). if r.article == article then taken k else 0) f 0) found.1 in
    let before = ap (λ f. option_map_or (offer_of article None k) f 0) found.1 in
    omega (arith, after, there, before, row_if (r.article == article) r.free (taken k) (shares-le-free demand rows None orders k r found.1))

-- what is free of an article, after stock is held that free stock covers, is what was free less what is wanted of it
pub free_left : (demand : ℕ → ℕ → ℕ) (rows : List Row) (orders article : ℕ) → sum_below orders (demand article) ≤ free_units rows article None
    → ((place : ℕ) → demand article place ≢ 0 → place < orders)
    → free_units (change_rows (λ row. hold_units (shares demand rows None orders row)) 0 rows) article None + sum_below orders (demand article)
    ≡ free_units rows article None
free_left demand rows orders article covered wanted =
    let new = change_rows (λ row. hold_units (shares demand rows None orders row)) 0 rows in
    let left = sum-agree (length rows) (λ k. offer_at new article None k + units_of rows article (shares demand rows None orders) k)
    (offer_at rows article None) (λ k within. row_left demand rows orders article k within) in
    let both = sum-add (length rows) (offer_at new article None) (units_of rows article (shares demand rows None orders)) in
    let long = ap (λ n. sum_below n (offer_at new article None)) (length-change_rows (λ row. hold_units (shares demand rows None orders row)) rows) in
    omega (arith, left, both, long, taken_in_all demand rows orders article covered wanted)
