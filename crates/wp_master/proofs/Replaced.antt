-- Numbers of columns that alternate and are linear, where columns are replaced by others.
use Rattle.std.proofs.Common.{◌≡◌, ◌≢◌, ◌⊎◌, ⊎_elim, ℕ, zero, suc, ◌<◌, [], ◌∷◌, ◌++◌, length, set, append_assoc, ℤ, pos, ◌+ℤ◌, ◌-ℤ◌, ◌*ℤ◌}
use Rattle.std.proofs.Common.{neg_ℤ, arith, ap, refl, sym, ◌∙◌}
use Rattle.std.proofs.lemmas.List.{get_or-set_other, get_or-set_same, length-set, set-get_or, set_comm}
use Rattle.wp_master.proofs.Choosing.{order_of}
use Rattle.wp_master.proofs.Determinants.{IsAlternating, IsLinear, column_in, no_column}
use Rattle.wp_master.proofs.Rings.{doubled, no_times, one_more, one_more_term, turned_itself, turned_twice, two_terms, without, without_term}
use Rattle.wp_master.proofs.Totals.{one_total, two_total}
use Rattle.wp_master.specs.Bases.{total_below}
use Rattle.wp_master.specs.Minors.{Columns}

one_behind : (f : Columns → ℤ) (before rest : Columns) (x : ℕ → ℤ) → f ((before ++ x ∷ []) ++ rest) ≡ f (before ++ x ∷ rest)
one_behind f before rest x = ap f (append_assoc before (x ∷ []) rest)

equal_rest : (f : Columns → ℤ) → IsAlternating f → (before rest : Columns) (x : ℕ → ℤ) (k : ℕ) → k < length rest → column_in rest k ≡ x
    → f (before ++ x ∷ rest) ≡ pos 0
equal_rest f alternating before [] x k within e = absurd (omega (arith, within))
equal_rest f alternating before (y ∷ rest) x zero within e =
    turned_itself _ (alternating before rest x y
    ∙ ap neg_ℤ (ap (λ (t : ℕ → ℤ). f (before ++ t ∷ x ∷ rest)) e ∙ ap (λ (t : ℕ → ℤ). f (before ++ x ∷ t ∷ rest)) (sym e)))
equal_rest f alternating before (y ∷ rest) x (suc k) within e = alternating before rest x y ∙ ap neg_ℤ
    (sym (one_behind f before (x ∷ rest) y) ∙ equal_rest f alternating (before ++ y ∷ []) rest x k (omega (arith, within)) e)

equal_ordered : (f : Columns → ℤ) → IsAlternating f → (before columns : Columns) (i k : ℕ) → i < k → k < length columns
    → column_in columns i ≡ column_in columns k → f (before ++ columns) ≡ pos 0
equal_ordered f alternating before [] i k less within e = absurd (omega (arith, within))
equal_ordered f alternating before (x ∷ columns) zero zero less within e = absurd (omega (arith, less))
equal_ordered f alternating before (x ∷ columns) zero (suc k) less within e = equal_rest f alternating before columns x k (omega (arith, within)) (sym e)
equal_ordered f alternating before (x ∷ columns) (suc i) zero less within e = absurd (omega (arith, less))
equal_ordered f alternating before (x ∷ columns) (suc i) (suc k) less within e = sym (one_behind f before columns x)
    ∙ equal_ordered f alternating (before ++ x ∷ []) columns i k (omega (arith, less)) (omega (arith, within)) e

-- two equal columns give 0
pub equal_columns : (f : Columns → ℤ) → IsAlternating f → (columns : Columns) (i k : ℕ) → i < length columns → k < length columns → i ≢ k
    → column_in columns i ≡ column_in columns k → f columns ≡ pos 0
equal_columns f alternating columns i k low within apart e = ⊎_elim
    (λ (less : i < k). equal_ordered f alternating [] columns i k less within e)
    (λ (rest : (k < i) ⊎ (i ≡ k)). ⊎_elim
    (λ (more : k < i). equal_ordered f alternating [] columns k i more low (sym e))
    (λ (same : i ≡ k). absurd (apart same)) rest) (order_of i k)

swapped_rest : (f : Columns → ℤ) → IsAlternating f → (before rest : Columns) (x y : ℕ → ℤ) (k : ℕ) → k < length rest
    → f (before ++ x ∷ set rest k y) ≡ neg_ℤ (f (before ++ y ∷ set rest k x))
swapped_rest f alternating before [] x y k within = absurd (omega (arith, within))
swapped_rest f alternating before (z ∷ rest) x y zero within = alternating before rest x y
swapped_rest f alternating before (z ∷ rest) x y (suc k) within = alternating before (set rest k y) x z ∙ ap neg_ℤ
    (sym (one_behind f before (x ∷ set rest k y) z) ∙ swapped_rest f alternating (before ++ z ∷ []) rest x y k (omega (arith, within))
    ∙ ap neg_ℤ (one_behind f before (y ∷ set rest k x) z) ∙ sym (alternating before (set rest k x) y z))

swapped_ordered : (f : Columns → ℤ) → IsAlternating f → (before columns : Columns) (x y : ℕ → ℤ) (i k : ℕ) → i < k → k < length columns
    → f (before ++ set (set columns i x) k y) ≡ neg_ℤ (f (before ++ set (set columns i y) k x))
swapped_ordered f alternating before [] x y i k less within = absurd (omega (arith, within))
swapped_ordered f alternating before (z ∷ columns) x y zero zero less within = absurd (omega (arith, less))
swapped_ordered f alternating before (z ∷ columns) x y zero (suc k) less within = swapped_rest f alternating before columns x y k (omega (arith, within))
swapped_ordered f alternating before (z ∷ columns) x y (suc i) zero less within = absurd (omega (arith, less))
swapped_ordered f alternating before (z ∷ columns) x y (suc i) (suc k) less within = sym (one_behind f before (set (set columns i x) k y) z)
    ∙ swapped_ordered f alternating (before ++ z ∷ []) columns x y i k (omega (arith, less)) (omega (arith, within))
    ∙ ap neg_ℤ (one_behind f before (set (set columns i y) k x) z)

-- two columns swapped turn the number
pub swapped_columns : (f : Columns → ℤ) → IsAlternating f → (columns : Columns) (x y : ℕ → ℤ) (i k : ℕ) → i < length columns → k < length columns → i ≢ k
    → f (set (set columns i x) k y) ≡ neg_ℤ (f (set (set columns i y) k x))
swapped_columns f alternating columns x y i k low within apart = ⊎_elim
    (λ (less : i < k). swapped_ordered f alternating [] columns x y i k less within)
    (λ (rest : (k < i) ⊎ (i ≡ k)). ⊎_elim
    (λ (more : k < i). ap f (set_comm columns i k x y apart)
    ∙ sym (turned_twice (f (set (set columns k y) i x)))
    ∙ ap neg_ℤ (sym (swapped_ordered f alternating [] columns x y k i more low) ∙ ap f (sym (set_comm columns i k y x apart))))
    (λ (same : i ≡ k). absurd (apart same)) rest) (order_of i k)

linear_ordered : (rows : ℕ) (f : Columns → ℤ) → IsLinear rows f → (before columns : Columns) (k : ℕ) → k < length columns → (q a : ℤ) (v u w : ℕ → ℤ)
    → ((row : ℕ) → row < rows → q *ℤ v row ≡ (a *ℤ u row) +ℤ w row)
    → q *ℤ f (before ++ set columns k v) ≡ (a *ℤ f (before ++ set columns k u)) +ℤ f (before ++ set columns k w)
linear_ordered rows f linear before [] k within q a v u w each = absurd (omega (arith, within))
linear_ordered rows f linear before (x ∷ columns) zero within q a v u w each = linear before columns q a v u w each
linear_ordered rows f linear before (x ∷ columns) (suc k) within q a v u w each =
    simp append_assoc at (linear_ordered rows f linear (before ++ x ∷ []) columns k (omega (arith, within)) q a v u w each)

-- the sum of columns, each times a number
combined_column : ℕ → (ℕ → ℕ → ℤ) → (ℕ → ℤ) → ℕ → ℤ
combined_column n u c row = total_below n (λ (t : ℕ). u t row *ℤ c t)

of_combined : (rows : ℕ) (f : Columns → ℤ) → IsLinear rows f → (columns : Columns) (k : ℕ) → k < length columns → (n : ℕ) (u : ℕ → ℕ → ℤ) (c : ℕ → ℤ)
    → f (set columns k (combined_column n u c)) ≡ total_below n (λ (t : ℕ). f (set columns k (u t)) *ℤ c t)
unfolding combined_column total_below
of_combined rows f linear columns k within zero u c =
    doubled _ (linear_ordered rows f linear [] columns k within (pos 1) (pos 1) no_column no_column no_column (λ row low. refl))
of_combined rows f linear columns k within (suc n) u c =
    one_more_term (f (set columns k (combined_column (suc n) u c))) (c n) (f (set columns k (combined_column n u c))) (f (set columns k (u n)))
    (linear_ordered rows f linear [] columns k within (pos 1) (c n) (combined_column (suc n) u c) (u n) (combined_column n u c)
    (λ row low. one_more (c n) (combined_column n u c row) (u n row)))
    ∙ ap (λ (t : ℤ). t +ℤ (f (set columns k (u n)) *ℤ c n)) (of_combined rows f linear columns k within n u c)

-- where a column times a number is a sum of columns, each times a number, the number of columns with it is the like sum
pub of_total : (rows : ℕ) (f : Columns → ℤ) → IsLinear rows f → (columns : Columns) (k : ℕ) → k < length columns
    → (n : ℕ) (u : ℕ → ℕ → ℤ) (c : ℕ → ℤ) (q : ℤ) (v : ℕ → ℤ)
    → ((row : ℕ) → row < rows → q *ℤ v row ≡ total_below n (λ (t : ℕ). u t row *ℤ c t))
    → q *ℤ f (set columns k v) ≡ total_below n (λ (t : ℕ). f (set columns k (u t)) *ℤ c t)
unfolding combined_column
of_total rows f linear columns k within n u c q v each =
    without_term q _ _ (linear_ordered rows f linear [] columns k within q (pos 0) v v (combined_column n u c) (λ row low. without q _ _ (each row low)))
    ∙ of_combined rows f linear columns k within n u c

-- a column put where it stands
put_back : (columns : Columns) (i r : ℕ) (v : ℕ → ℤ) → r ≢ i → set (set columns i v) r (column_in columns r) ≡ set columns i v
put_back columns i r v apart =
    ap (λ (t : ℕ → ℤ). set (set columns i v) r t) (sym (get_or-set_other columns i r v no_column apart)) ∙ set-get_or (set columns i v) r no_column

-- a column put in another's place swaps with what stands in its own
put_across : (f : Columns → ℤ) → IsAlternating f → (columns : Columns) (i r : ℕ) (v : ℕ → ℤ) → i < length columns → r < length columns → i ≢ r
    → f (set (set columns i v) r (column_in columns i)) ≡ neg_ℤ (f (set columns r v))
put_across f alternating columns i r v low within apart =
    swapped_columns f alternating columns v (column_in columns i) i r low within apart
    ∙ ap neg_ℤ (ap (λ (t : Columns). f (set t r v)) (set-get_or columns i no_column))

-- a column that stands twice
put_twice : (f : Columns → ℤ) → IsAlternating f → (columns : Columns) (i r t : ℕ) (v : ℕ → ℤ) → r < length columns → t < length columns → t ≢ r → t ≢ i
    → f (set (set columns i v) r (column_in columns t)) ≡ pos 0
put_twice f alternating columns i r t v within low apart other =
    let both = set columns i v in
    let x = column_in columns t in
    let inside : r < length both = omega (arith, within, length-set columns i v) in
    equal_columns f alternating (set both r x) t r (omega (arith, low, length-set columns i v, length-set both r x))
    (omega (arith, inside, length-set both r x)) apart
    (get_or-set_other both r t x no_column apart ∙ get_or-set_other columns i t v no_column other ∙ sym (get_or-set_same both r x no_column inside))

set_twice : (f : Columns → ℤ) → IsAlternating f → (columns : Columns) (i t : ℕ) → i < length columns → t < length columns → t ≢ i
    → f (set columns i (column_in columns t)) ≡ pos 0
set_twice f alternating columns i t low less other =
    let x = column_in columns t in
    equal_columns f alternating (set columns i x) t i (omega (arith, less, length-set columns i x)) (omega (arith, low, length-set columns i x)) other
    (get_or-set_other columns i t x no_column other ∙ sym (get_or-set_same columns i x no_column low))

-- where a column times a number is the sum of the columns, each times a number of its own, two replacements give the exchange of one
pub exchanged_columns : (rows : ℕ) (f : Columns → ℤ) → IsAlternating f → IsLinear rows f → (columns : Columns) (i r : ℕ)
    → i < length columns → r < length columns → i ≢ r → (c : ℕ → ℤ) (q : ℤ) (u v : ℕ → ℤ)
    → ((row : ℕ) → row < rows → q *ℤ u row ≡ total_below (length columns) (λ (t : ℕ). column_in columns t row *ℤ c t))
    → q *ℤ f (set (set columns r u) i v) ≡ (c r *ℤ f (set columns i v)) -ℤ (c i *ℤ f (set columns r v))
exchanged_columns rows f alternating linear columns i r low within apart c q u v each =
    let both = set columns i v in
    let inside : r < length both = omega (arith, within, length-set columns i v) in
    ap (λ (t : Columns). q *ℤ f t) (set_comm columns r i u v (λ h. apart (sym h)))
    ∙ of_total rows f linear both r inside (length columns) (column_in columns) c q u each
    ∙ two_total (length columns) (λ (t : ℕ). f (set both r (column_in columns t)) *ℤ c t) r i within low (λ h. apart (sym h))
    (λ t less other unequal. no_times _ _ (put_twice f alternating columns i r t v within less other unequal))
    ∙ ap (λ (t : Columns). (f t *ℤ c r) +ℤ (f (set both r (column_in columns i)) *ℤ c i)) (put_back columns i r v (λ h. apart (sym h)))
    ∙ two_terms (f (set columns i v)) (f (set columns r v)) (c r) (c i) _ (put_across f alternating columns i r v low within apart)

-- where a column is the sum of the columns, each times a number of its own, its replacement gives that number times what the columns give
pub replaced_column : (rows : ℕ) (f : Columns → ℤ) → IsAlternating f → IsLinear rows f → (columns : Columns) (i : ℕ) → i < length columns
    → (c : ℕ → ℤ) (v : ℕ → ℤ) → ((row : ℕ) → row < rows → pos 1 *ℤ v row ≡ total_below (length columns) (λ (t : ℕ). column_in columns t row *ℤ c t))
    → pos 1 *ℤ f (set columns i v) ≡ f columns *ℤ c i
replaced_column rows f alternating linear columns i low c v each =
    of_total rows f linear columns i low (length columns) (column_in columns) c (pos 1) v each
    ∙ one_total (length columns) (λ (t : ℕ). f (set columns i (column_in columns t)) *ℤ c t) i low
    (λ t less other. no_times _ _ (set_twice f alternating columns i t low less other))
    ∙ ap (λ (t : Columns). f t *ℤ c i) (set-get_or columns i no_column)
