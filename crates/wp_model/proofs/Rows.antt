-- Rows that are changed by their places.
use Rattle.std.proofs.Common.{◌≡◌, ◌≢◌, ℕ, zero, suc, ◌+◌, List, [], ◌∷◌, length, slice_get, Option, Some, None, IfSome, All, option_map, ◌==◌, refl, sym, ap}
use Rattle.std.proofs.Common.{◌∙◌, subst, arith, eq-eqb, ne_eqb}
use Rattle.std.proofs.lemmas.Bool.{cond-true, cond-false, cond_both}
use Rattle.wp_model.proofs.Elements.{All-from_at, at_some}
use Rattle.wp_model.specs.Change.{at_place, change_rows}
use Rattle.wp_model.specs.declared.row.Row.{Row}

slice_get-change_rows_from : (change : ℕ → Row → Row) (rows : List Row) (place k : ℕ)
    → slice_get (change_rows change place rows) k ≡ option_map (change (place + k)) (slice_get rows k)
slice_get-change_rows_from change [] place k = refl
slice_get-change_rows_from change (row ∷ rows) place zero =
    let same : place ≡ place + 0 = omega arith in
    ap (λ p. Some (change p row)) same
slice_get-change_rows_from change (row ∷ rows) place (suc k) =
    let same : place + 1 + k ≡ place + suc k = omega arith in
    slice_get-change_rows_from change rows (place + 1) k ∙ ap (λ p. option_map (change p) (slice_get rows k)) same

-- each row is changed by its number
pub slice_get-change_rows : (change : ℕ → Row → Row) (rows : List Row) (k : ℕ)
    → slice_get (change_rows change 0 rows) k ≡ option_map (change k) (slice_get rows k)
slice_get-change_rows change rows k =
    let same : 0 + k ≡ k = omega arith in
    slice_get-change_rows_from change rows 0 k ∙ ap (λ p. option_map (change p) (slice_get rows k)) same

length-change_rows_from : (change : ℕ → Row → Row) (rows : List Row) (place : ℕ) → length (change_rows change place rows) ≡ length rows
length-change_rows_from change [] place = refl
length-change_rows_from change (row ∷ rows) place = ap suc (length-change_rows_from change rows (place + 1))

-- as many rows
pub length-change_rows : (change : ℕ → Row → Row) (rows : List Row) → length (change_rows change 0 rows) ≡ length rows
length-change_rows change rows = length-change_rows_from change rows 0

if_some-option_map : (found : Option Row) (f : Row → Row) (P : Row → Type 0) → ((r : Row) → found ≡ Some r → P (f r)) → IfSome (option_map f found) P
if_some-option_map None f P each = tt
if_some-option_map (Some r) f P each = each r refl

-- what holds of each changed row
pub IfSome-change_rows : (change : ℕ → Row → Row) (rows : List Row) (k : ℕ) (P : Row → Type 0) → ((r : Row) → slice_get rows k ≡ Some r → P (change k r))
    → IfSome (slice_get (change_rows change 0 rows) k) P
IfSome-change_rows change rows k P each =
    subst (λ (found : Option Row). IfSome found P) (sym (slice_get-change_rows change rows k)) (if_some-option_map (slice_get rows k) (change k) P each)

-- what holds of each changed row holds of all of them
pub All-change_rows : (change : ℕ → Row → Row) (rows : List Row) (P : Row → Type 0) → ((k : ℕ) (r : Row) → slice_get rows k ≡ Some r → P (change k r))
    → All P (change_rows change 0 rows)
All-change_rows change rows P each =
    All-from_at P _ (λ k r is. at_some _ P r is (IfSome-change_rows change rows k P (each k)))

-- one row is changed, and no other
pub at_place-same : (row k : ℕ) (change : Row → Row) (r : Row) → k ≡ row → at_place row change k r ≡ change r
at_place-same row k change r here = cond-true (k == row) _ _ (eq-eqb k row here)

-- the other rows stay
pub at_place-other : (row k : ℕ) (change : Row → Row) (r : Row) → k ≢ row → at_place row change k r ≡ r
at_place-other row k change r other = cond-false (k == row) _ _ (ne_eqb k row other)

-- a change of one row that keeps its article keeps every article
pub at_place-article : (row k : ℕ) (change : Row → Row) (r : Row) → (change r).article ≡ r.article → (at_place row change k r).article ≡ r.article
at_place-article row k change r kept = cond_both (k == row) (change r) r (λ s. s.article ≡ r.article) (λ here. kept) (λ other. refl)
