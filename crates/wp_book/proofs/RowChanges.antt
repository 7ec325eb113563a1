-- Changes of rows by their places.
use Rattle.std.proofs.Common.{◌≡◌, ◌∙◌, refl, sym, ap, ℕ, zero, suc, ◌+◌, ◌<◌, List, [], ◌∷◌, length, slice_get, slice_set, slice_index_or, Some, arith}
use Rattle.wp_model.proofs.Rows.{at_place-other, at_place-same}
use Rattle.wp_model.specs.Change.{at_place, change_rows}
use Rattle.wp_model.specs.declared.row.Row.{Row}

untouched : (change : Row → Row) (rows : List Row) (k from : ℕ) → k < from → change_rows (at_place k change) from rows ≡ rows
untouched change [] k from before = refl
untouched change (row ∷ rows) k from before =
    rw (at_place-other k from change row (omega arith), untouched change rows k (from + 1) (omega arith)) refl

set_is_change_from : (change : Row → Row) (rows : List Row) (i from : ℕ) (d : Row) → i < length rows
    → slice_set rows i (change (slice_index_or rows i d)) ≡ change_rows (at_place (from + i) change) from rows
set_is_change_from change [] i from d within = absurd (omega arith)
set_is_change_from change (row ∷ rows) zero from d within =
    rw (at_place-same (from + 0) from change row (omega arith), untouched change rows (from + 0) (from + 1) (omega arith)) refl
set_is_change_from change (row ∷ rows) (suc i) from d within =
    let e : from + suc i ≡ from + 1 + i = omega arith in
    rw (at_place-other (from + suc i) from change row (omega arith))
    (ap (λ rest. row ∷ rest) (set_is_change_from change rows i (from + 1) d (omega arith) ∙ ap (λ k. change_rows (at_place k change) (from + 1) rows) (sym e)))

-- a row that is written over is changed at its place
pub set_is_change : (change : Row → Row) (rows : List Row) (i : ℕ) (d : Row) → i < length rows
    → slice_set rows i (change (slice_index_or rows i d)) ≡ change_rows (at_place i change) 0 rows
set_is_change change rows i d within =
    let e : 0 + i ≡ i = omega arith in
    set_is_change_from change rows i 0 d within ∙ ap (λ k. change_rows (at_place k change) 0 rows) e

changes_agree_from : (change other : ℕ → Row → Row) (rows : List Row) (from : ℕ)
    → ((k : ℕ) (r : Row) → slice_get rows k ≡ Some r → change (from + k) r ≡ other (from + k) r) → change_rows change from rows ≡ change_rows other from rows
changes_agree_from change other [] from same = refl
changes_agree_from change other (row ∷ rows) from same =
    let e : from + 0 ≡ from = omega arith in
    let here = ap (λ k. change k row) (sym e) ∙ (same 0 row refl ∙ ap (λ k. other k row) e) in
    rw here (ap (λ rest. other from row ∷ rest) (changes_agree_from change other rows (from + 1)
    (λ k r at. let s : from + 1 + k ≡ from + suc k = omega arith in ap (λ n. change n r) s ∙ (same (suc k) r at ∙ ap (λ n. other n r) (sym s)))))

-- changes that agree at each row
pub changes_agree : (change other : ℕ → Row → Row) (rows : List Row)
    → ((k : ℕ) (r : Row) → slice_get rows k ≡ Some r → change k r ≡ other k r) → change_rows change 0 rows ≡ change_rows other 0 rows
changes_agree change other rows same =
    changes_agree_from change other rows 0 (λ k r at. let s : 0 + k ≡ k = omega arith in ap (λ n. change n r) s ∙ (same k r at ∙ ap (λ n. other n r) (sym s)))

change_after_from : (first then' : ℕ → Row → Row) (rows : List Row) (from : ℕ)
    → change_rows then' from (change_rows first from rows) ≡ change_rows (λ k r. then' k (first k r)) from rows
change_after_from first then' [] from = refl
change_after_from first then' (row ∷ rows) from = ap (λ rest. then' from (first from row) ∷ rest) (change_after_from first then' rows (from + 1))

-- one change after another
pub change_after : (first then' : ℕ → Row → Row) (rows : List Row)
    → change_rows then' 0 (change_rows first 0 rows) ≡ change_rows (λ k r. then' k (first k r)) 0 rows
change_after first then' rows = change_after_from first then' rows 0

change_none_from : (change : ℕ → Row → Row) (rows : List Row) (from : ℕ) → ((k : ℕ) (r : Row) → change k r ≡ r) → change_rows change from rows ≡ rows
change_none_from change [] from none = refl
change_none_from change (row ∷ rows) from none = rw (none from row, change_none_from change rows (from + 1) none) refl

-- a change that changes nothing
pub change_none : (change : ℕ → Row → Row) (rows : List Row) → ((k : ℕ) (r : Row) → change k r ≡ r) → change_rows change 0 rows ≡ rows
change_none change rows none = change_none_from change rows 0 none

-- a row of a list that was read and is written over is changed at its place
pub write_is_change : (change : Row → Row) (rows all : List Row) (i : ℕ) (r : Row) → i < length all → r ≡ slice_index_or rows i r → rows ≡ all
    → slice_set rows i (change r) ≡ change_rows (at_place i change) 0 all
write_is_change change rows all i r within is same =
    ap (λ (t : Row). slice_set rows i (change t)) is
    ∙ (set_is_change change rows i r (omega (arith, ap length same)) ∙ ap (change_rows (at_place i change) 0) same)
