-- Orders that columns hold, and the start table's entries at their places.
use Rattle.std.proofs.Common.{◌≡◌, ◌≢◌, ◌⊎◌, ⊎_elim, inl, inr, ℕ, ◌-◌, ◌<◌, ◌≤◌, Bool, true, false, cond, eqb, List, [], ◌∷◌, ℤ, pos}
use Rattle.std.proofs.Common.{◌≤ℤ◌, ◌*ℤ◌, ◌||◌, Contains, arith, ap, sym, subst, refl, ◌∙◌}
use Rattle.std.proofs.lemmas.Bool.Decides.{eqb_tells}
use Rattle.std.proofs.lemmas.Int.{ints}
use Rattle.std.specs.List.{list_any}
use Rattle.wp_master.proofs.Starts.{none_at_others, one_at_own}
use Rattle.wp_master.specs.Pairs.{holds}
use Rattle.wp_master.specs.Pivots.{IsStart, Table, column_place, entry_of, last_row, order_place, places}
use Rattle.wp_master.specs.Pools.{ColumnPool, column_of}
use Rattle.wp_pairs.proofs.Members.{contains_cases, contains_first, contains_later, contains_none}

-- the test whether an order is in a list tells
held_tells : (order : ℕ) (xs : List ℕ)
    → ((list_any (λ x. eqb x order) xs ≡ true) × Contains xs order) ⊎ ((list_any (λ x. eqb x order) xs ≡ false) × (Contains xs order → ⊥))
held_tells order [] = inr (refl, contains_none order)
held_tells order (x ∷ xs) = ⊎_elim
    (λ (same : (eqb x order ≡ true) × (x ≡ order)). inl (
      ap (λ (b : Bool). b || list_any (λ x. eqb x order) xs) same.0,
      subst (Contains (x ∷ xs)) same.1 (contains_first x xs),
    ))
    (λ (other : (eqb x order ≡ false) × (x ≢ order)). ⊎_elim
    (λ (later : (list_any (λ x. eqb x order) xs ≡ true) × Contains xs order). inl (
      ap (λ (b : Bool). b || list_any (λ x. eqb x order) xs) other.0 ∙ later.0,
      contains_later x order xs later.1,
    ))
    (λ (none : (list_any (λ x. eqb x order) xs ≡ false) × (Contains xs order → ⊥)). inr (
      ap (λ (b : Bool). b || list_any (λ x. eqb x order) xs) other.0 ∙ none.0,
      λ has. ⊎_elim other.1 none.1 (contains_cases x order xs has),
    )) (held_tells order xs)) (eqb_tells x order)

-- the row of a column has at the place of an order 1 where it holds the order, else 0
pub held_entry : (pool : ColumnPool) (table : Table) (row order : ℕ) → IsStart pool table → row < last_row pool → order < pool.orders
    → entry_of table row (order_place pool order) ≡ cond (holds pool row order) (pos 1) (pos 0)
held_entry pool table row order start low known =
    let entry = start.entries row (order_place pool order) (omega (arith, low)) (omega (arith, known)) in
    ⊎_elim
    (λ (held : (holds pool row order ≡ true) × Contains (column_of pool row).batch order).
    entry.held order low refl held.1 ∙ sym (ap (λ (b : Bool). cond b (pos 1) (pos 0)) held.0))
    (λ (none : (holds pool row order ≡ false) × (Contains (column_of pool row).batch order → ⊥)).
    entry.unheld order low refl none.1 ∙ sym (ap (λ (b : Bool). cond b (pos 1) (pos 0)) none.0))
    (held_tells order (column_of pool row).batch)

-- a number times the entry there is the number where the column holds the order, else 0
pub held_times : (b : Bool) (x entry : ℤ) → entry ≡ cond b (pos 1) (pos 0) → x *ℤ entry ≡ cond b x (pos 0)
held_times true x entry e = ap (λ (t : ℤ). x *ℤ t) e ∙ omega (arith, ints)
held_times false x entry e = ap (λ (t : ℤ). x *ℤ t) e ∙ omega (arith, ints)

not_below_0 : (b : Bool) (entry : ℤ) → entry ≡ cond b (pos 1) (pos 0) → pos 0 ≤ℤ entry
not_below_0 true entry e = omega (arith, ints, e)
not_below_0 false entry e = omega (arith, ints, e)

-- the place of a column
abbrev pub IsOfColumn : ColumnPool → ℕ → Type 0
IsOfColumn pool place = (column : ℕ) × (column < last_row pool) × (place ≡ column_place column)

-- the place of an order
abbrev pub IsOfOrder : ColumnPool → ℕ → Type 0
IsOfOrder pool place = (order : ℕ) × (order < pool.orders) × (place ≡ order_place pool order)

before_or_from : (m n : ℕ) → (m < n) ⊎ (n ≤ m)
before_or_from m n = grind arith

-- each place but the first is that of a column or of an order
pub column_or_order : (pool : ColumnPool) (place : ℕ) → 1 ≤ place → place < places pool → IsOfColumn pool place ⊎ IsOfOrder pool place
column_or_order pool place some within = ⊎_elim
    (λ (early : place < column_place (last_row pool)). inl (place - 1, omega (arith, early, some), omega (arith, some)))
    (λ (late : column_place (last_row pool) ≤ place). inr (
      place - column_place (last_row pool),
      omega (arith, late, within),
      omega (arith, late),
    )) (before_or_from place (column_place (last_row pool)))

is_or_not : (k row : ℕ) → (k ≡ row) ⊎ (k ≢ row)
is_or_not k row = grind arith

one_not_below : (x : ℤ) → x ≡ pos 1 → pos 0 ≤ℤ x
one_not_below x e = omega (arith, ints, e)

none_not_below : (x : ℤ) → x ≡ pos 0 → pos 0 ≤ℤ x
none_not_below x e = omega (arith, ints, e)

-- the row of a column is nowhere below 0 but at its first place
pub start_not_below : (pool : ColumnPool) (table : Table) (row place : ℕ) → IsStart pool table → row < last_row pool → 1 ≤ place → place < places pool
    → pos 0 ≤ℤ entry_of table row place
start_not_below pool table row place start low some within = ⊎_elim
    (λ (at : IsOfColumn pool place). subst (λ (p : ℕ). pos 0 ≤ℤ entry_of table row p) (sym at.2)
    (⊎_elim (λ (own : at.0 ≡ row). one_not_below _ (ap (λ (c : ℕ). entry_of table row (column_place c)) own ∙ one_at_own pool table row start low))
    (λ (other : at.0 ≢ row). none_not_below _ (none_at_others pool table row at.0 start (omega (arith, low)) at.1 other)) (is_or_not at.0 row)))
    (λ (at : IsOfOrder pool place). subst (λ (p : ℕ). pos 0 ≤ℤ entry_of table row p) (sym at.2)
    (not_below_0 (holds pool row at.0) _ (held_entry pool table row at.0 start low at.1)))
    (column_or_order pool place some within)
