-- Determinants: what a swap of two columns makes of them, and that they are linear in each column.
use Rattle.std.proofs.Common.{◌≡◌, ℕ, zero, suc, ◌+◌, ◌<◌, ◌≤◌, [], ◌∷◌, ◌++◌, get_or, length, append_assoc, ℤ, pos}
use Rattle.std.proofs.Common.{◌+ℤ◌, ◌-ℤ◌, ◌*ℤ◌, neg_ℤ, arith, ap, refl, sym, ◌∙◌}
use Rattle.std.proofs.lemmas.Int.{ints}
use Rattle.wp_master.proofs.Rings.{linear_head, linear_term, no_terms, one_term, swapped_term, swapped_terms}
use Rattle.wp_master.specs.Minors.{Columns, determinant, expanded}

-- the column of nothing
abbrev pub no_column : ℕ → ℤ
no_column row = pos 0

-- the column of a number
abbrev pub column_in : Columns → ℕ → ℕ → ℤ
column_in columns at = get_or columns at no_column

-- two neighbouring columns swapped turn the number
abbrev pub IsAlternating : (Columns → ℤ) → Type 0
IsAlternating f = (before after : Columns) (x y : ℕ → ℤ) → f (before ++ x ∷ y ∷ after) ≡ neg_ℤ (f (before ++ y ∷ x ∷ after))

-- linear in each column, over the rows below one
abbrev pub IsLinear : ℕ → (Columns → ℤ) → Type 0
IsLinear rows f = (before after : Columns) (q a : ℤ) (v u w : ℕ → ℤ) → ((row : ℕ) → row < rows → q *ℤ v row ≡ (a *ℤ u row) +ℤ w row)
    → q *ℤ f (before ++ v ∷ after) ≡ (a *ℤ f (before ++ u ∷ after)) +ℤ f (before ++ w ∷ after)

regrouped : (f : Columns → ℤ) (a b c : Columns) → f ((a ++ b) ++ c) ≡ f (a ++ (b ++ c))
regrouped f a b c = ap f (append_assoc a b c)

regrouped_rest : (f : Columns → ℤ) (row : ℕ) (a b c s : Columns) → expanded f row ((a ++ b) ++ c) s ≡ expanded f row (a ++ (b ++ c)) s
regrouped_rest f row a b c s = ap (λ (t : Columns). expanded f row t s) (append_assoc a b c)

-- two neighbours swapped among the columns before the rest, or in the rest
swapped_before : (f : Columns → ℤ) → IsAlternating f → (row : ℕ) (before after : Columns) (x y : ℕ → ℤ) (rest : Columns)
    → expanded f row (before ++ x ∷ y ∷ after) rest ≡ neg_ℤ (expanded f row (before ++ y ∷ x ∷ after) rest)
unfolding expanded
swapped_before f alternating row before after x y [] = refl
swapped_before f alternating row before after x y (z ∷ rest) = swapped_term (z row) _ _ _ _
    (regrouped f before (x ∷ y ∷ after) rest ∙ alternating before (after ++ rest) x y ∙ ap neg_ℤ (sym (regrouped f before (y ∷ x ∷ after) rest)))
    (regrouped_rest f row before (x ∷ y ∷ after) (z ∷ []) rest ∙ swapped_before f alternating row before (after ++ z ∷ []) x y rest
    ∙ ap neg_ℤ (sym (regrouped_rest f row before (y ∷ x ∷ after) (z ∷ []) rest)))

swapped_after : (f : Columns → ℤ) → IsAlternating f → (row : ℕ) (before rest after : Columns) (x y : ℕ → ℤ)
    → expanded f row before (rest ++ x ∷ y ∷ after) ≡ neg_ℤ (expanded f row before (rest ++ y ∷ x ∷ after))
unfolding expanded
swapped_after f alternating row before [] after x y =
    ap (λ (t : ℤ). (x row *ℤ f (before ++ y ∷ after)) -ℤ ((y row *ℤ t) -ℤ expanded f row ((before ++ x ∷ []) ++ y ∷ []) after))
    (regrouped f before (x ∷ []) after)
    ∙ swapped_terms (x row *ℤ f (before ++ y ∷ after)) (y row *ℤ f (before ++ x ∷ after)) (expanded f row ((before ++ x ∷ []) ++ y ∷ []) after)
    (expanded f row ((before ++ y ∷ []) ++ x ∷ []) after)
    (regrouped_rest f row before (x ∷ []) (y ∷ []) after ∙ swapped_before f alternating row before [] x y after
    ∙ ap neg_ℤ (sym (regrouped_rest f row before (y ∷ []) (x ∷ []) after)))
    ∙ ap (λ (t : ℤ). neg_ℤ ((y row *ℤ f (before ++ x ∷ after)) -ℤ ((x row *ℤ t) -ℤ expanded f row ((before ++ y ∷ []) ++ x ∷ []) after)))
    (sym (regrouped f before (y ∷ []) after))
swapped_after f alternating row before (z ∷ rest) after x y = swapped_term (z row) _ _ _ _
    (sym (regrouped f before rest (x ∷ y ∷ after)) ∙ alternating (before ++ rest) after x y ∙ ap neg_ℤ (regrouped f before rest (y ∷ x ∷ after)))
    (swapped_after f alternating row (before ++ z ∷ []) rest after x y)

alternates_empty : (row : ℕ) (before after : Columns) (x y : ℕ → ℤ)
    → determinant zero row (before ++ x ∷ y ∷ after) ≡ neg_ℤ (determinant zero row (before ++ y ∷ x ∷ after))
unfolding determinant
alternates_empty row [] after x y = refl
alternates_empty row (z ∷ before) after x y = refl

-- two neighbouring columns swapped turn a determinant
pub alternates : (count row : ℕ) → IsAlternating (determinant count row)
unfolding determinant
alternates zero row = alternates_empty row
alternates (suc count) row = λ before after x y. swapped_after (determinant count (suc row)) (alternates count (suc row)) row [] before after x y

nothing : (q a : ℤ) → q *ℤ pos 0 ≡ (a *ℤ pos 0) +ℤ pos 0
nothing q a = omega (arith, ints)

linear_before : (rows : ℕ) (f : Columns → ℤ) → IsLinear rows f → (row : ℕ) (before after : Columns) (q a : ℤ) (v u w : ℕ → ℤ)
    → ((n : ℕ) → n < rows → q *ℤ v n ≡ (a *ℤ u n) +ℤ w n) → (rest : Columns)
    → q *ℤ expanded f row (before ++ v ∷ after) rest
    ≡ (a *ℤ expanded f row (before ++ u ∷ after) rest) +ℤ expanded f row (before ++ w ∷ after) rest
unfolding expanded
linear_before rows f linear row before after q a v u w each [] = nothing q a
linear_before rows f linear row before after q a v u w each (z ∷ rest) = linear_term q a (z row) _ _ _ _ _ _
    (simp append_assoc (linear before (after ++ rest) q a v u w each))
    (simp append_assoc (linear_before rows f linear row before (after ++ z ∷ []) q a v u w each rest))

linear_after : (rows : ℕ) (f : Columns → ℤ) → IsLinear rows f → (row : ℕ) → row < rows → (before rest after : Columns) (q a : ℤ) (v u w : ℕ → ℤ)
    → ((n : ℕ) → n < rows → q *ℤ v n ≡ (a *ℤ u n) +ℤ w n)
    → q *ℤ expanded f row before (rest ++ v ∷ after)
    ≡ (a *ℤ expanded f row before (rest ++ u ∷ after)) +ℤ expanded f row before (rest ++ w ∷ after)
unfolding expanded
linear_after rows f linear row within before [] after q a v u w each = linear_head q a (v row) (u row) (w row) _ _ _ _ (each row within)
    (linear_before rows f linear row before [] q a v u w each after)
linear_after rows f linear row within before (z ∷ rest) after q a v u w each = linear_term q a (z row) _ _ _ _ _ _
    (simp append_assoc at (linear (before ++ rest) after q a v u w each))
    (linear_after rows f linear row within (before ++ z ∷ []) rest after q a v u w each)

linear_empty : (row : ℕ) (before after : Columns) (q a : ℤ) (v u w : ℕ → ℤ)
    → q *ℤ determinant zero row (before ++ v ∷ after) ≡ (a *ℤ determinant zero row (before ++ u ∷ after)) +ℤ determinant zero row (before ++ w ∷ after)
unfolding determinant
linear_empty row [] after q a v u w = nothing q a
linear_empty row (z ∷ before) after q a v u w = nothing q a

-- a determinant is linear in each column, over its rows
pub linear : (count row rows : ℕ) → row + count ≡ rows → IsLinear rows (determinant count row)
unfolding determinant
linear zero row rows e = λ before after q a v u w each. linear_empty row before after q a v u w
linear (suc count) row rows e = λ before after q a v u w each.
    linear_after rows (determinant count (suc row)) (linear count (suc row) rows (omega arith)) row (omega arith) [] before after q a v u w each

nothing_left : (f : Columns → ℤ) (row : ℕ) (before rest : Columns) → ((t : ℕ) → t < length rest → column_in rest t row ≡ pos 0)
    → expanded f row before rest ≡ pos 0
unfolding expanded
nothing_left f row before [] none = refl
nothing_left f row before (z ∷ rest) none = no_terms (z row) _ _ (none zero (omega arith))
    (nothing_left f row (before ++ z ∷ []) rest (λ t low. none (suc t) (omega (arith, low))))

-- the determinant of columns that have 1 each in a row of its own and 0 in the rows before that
pub triangular : (count row : ℕ) (columns : Columns) → length columns ≡ count → ((t : ℕ) → t < count → column_in columns t (row + t) ≡ pos 1)
    → ((t n : ℕ) → t < count → row ≤ n → n < row + t → column_in columns t n ≡ pos 0) → determinant count row columns ≡ pos 1
unfolding determinant expanded
triangular zero row [] many ones zeros = refl
triangular zero row (x ∷ columns) many ones zeros = absurd (omega (arith, many))
triangular (suc count) row [] many ones zeros = absurd (omega (arith, many))
triangular (suc count) row (x ∷ columns) many ones zeros =
    let tail : length columns ≡ count = omega (arith, many) in
    one_term (x row) _ _
    (ap x (omega arith) ∙ ones zero (omega arith))
    (triangular count (suc row) columns tail (λ t low. ap (column_in columns t) (omega arith) ∙ ones (suc t) (omega (arith, low)))
    (λ t n low from below. zeros (suc t) n (omega (arith, low)) (omega (arith, from)) (omega (arith, below))))
    (nothing_left (determinant count (suc row)) row (x ∷ []) columns
    (λ t low. zeros (suc t) row (omega (arith, low, tail)) (omega arith) (omega arith)))
