-- Sums of held units.
use Rattle.std.proofs.Common.{◌≡◌, ◌≢◌, ◌∙◌, refl, sym, ap, ℕ, suc, ◌+◌, ◌-◌, ◌<◌, ◌≤◌, ◌==◌, ◌&&◌, not, Bool, true, false, List, [], ◌∷◌, length, drop, get_or}
use Rattle.std.proofs.Common.{if◌then◌else◌, arith, eq-eqb, ne_eqb}
use Rattle.std.proofs.Math.ListN.{set}
use Rattle.std.proofs.lemmas.Bool.{and_left, and_right, cond-false, cond-true, cond_both}
use Rattle.std.proofs.lemmas.List.{drop-set-lt}
use Rattle.std.proofs.lemmas.List.Sums.{sum_by-drop_more, sum_by-set, sum_by-cons}
use Rattle.std.specs.List.{sum_by}
use Rattle.wp_model.specs.Book.{Where, but_of, hold_at, hold_for, hold_units_where, is_for, is_for_wave, is_of, units_at, units_for}
use Rattle.wp_model.specs.Change.{change_rows, free_held_units, hold_units}
use Rattle.wp_book.proofs.RowChanges.{change_after, change_none, changes_agree}
use Rattle.wp_model.specs.declared.row.Hold.{Hold}
use Rattle.wp_model.specs.declared.row.Row.{Row}

-- a row of which no unit is given back is as it was
pub none_freed : (at k units : ℕ) (r : Row) → units ≤ 0 → free_held_units (if at == k then units else 0) r ≡ r
none_freed at k units r none =
    let e : (if at == k then units else 0) ≡ 0 = cond_both (at == k) units 0 (λ n. n ≡ 0) (λ here. omega arith) (λ other. refl) in
    let free : r.free + 0 ≡ r.free = omega arith in
    let held : r.held - 0 ≡ r.held = omega arith in
    rw (e, free, held) refl

-- an element that is written over, in a sum of all and in a sum of the rest
pub record AreSums {X : Type 0} (f : X → ℕ) (xs : List X) (i : ℕ) (old new : X) : Type 0 where
  pub all : sum_by f (set xs i new) + f old ≡ sum_by f xs + f new
  pub rest : sum_by f (drop i xs) ≡ f old + sum_by f (drop (i + 1) (set xs i new))

-- what both sums come to where an element is written over
pub sums_are : {X : Type 0} (f : X → ℕ) (xs : List X) (i : ℕ) (d new : X) → i < length xs → AreSums f xs i (get_or xs i d) new
sums_are f xs i d new within = record {
  all = sum_by-set f xs i new d within;
  rest = sum_by-drop_more f xs i d within ∙ ap (λ ys. f (get_or xs i d) + sum_by f ys) (sym (drop-set-lt (i + 1) xs i new (omega arith)));
}

-- a row in which no unit is held more is as it was
pub none_held : (at k units : ℕ) (r : Row) → units ≤ 0 → hold_units (if at == k then units else 0) r ≡ r
none_held at k units r none =
    let e : (if at == k then units else 0) ≡ 0 = cond_both (at == k) units 0 (λ n. n ≡ 0) (λ here. omega arith) (λ other. refl) in
    let free : r.free - 0 ≡ r.free = omega arith in
    let held : r.held + 0 ≡ r.held = omega arith in
    rw (e, free, held) refl

-- sums whose terms are the same are the same
pub sum_by-same : {X : Type 0} (f g : X → ℕ) (xs : List X) → ((x : X) → f x ≡ g x) → sum_by f xs ≡ sum_by g xs
sum_by-same f g [] same = refl
sum_by-same f g (x ∷ xs) same = omega (arith, sum_by-cons f x xs, sum_by-cons g x xs, same x, sum_by-same f g xs same)

-- a sum whose terms are 0 is 0
pub sum_by-none : {X : Type 0} (f : X → ℕ) (xs : List X) → ((x : X) → f x ≡ 0) → sum_by f xs ≡ 0
sum_by-none f [] none = refl
sum_by-none f (x ∷ xs) none = omega (arith, sum_by-cons f x xs, none x, sum_by-none f xs none)

-- a sum whose terms are 0 at each place is 0
pub sum_by-zeros : {X : Type 0} (f : X → ℕ) (xs : List X) (d : X) → ((k : ℕ) → k < length xs → f (get_or xs k d) ≡ 0) → sum_by f xs ≡ 0
sum_by-zeros f [] d none = refl
sum_by-zeros f (x ∷ xs) d none = omega (arith, sum_by-cons f x xs, none 0 (omega arith), sum_by-zeros f xs d (λ k below. none (suc k) (omega arith)))

-- a sum whose terms are each within those of another is within that one
pub sum_by-within : {X : Type 0} (f g : X → ℕ) (xs : List X) → ((x : X) → f x ≤ g x) → sum_by f xs ≤ sum_by g xs
sum_by-within f g [] within = omega arith
sum_by-within f g (x ∷ xs) within = omega (arith, sum_by-cons f x xs, sum_by-cons g x xs, within x, sum_by-within f g xs within)

-- what is taken in two steps
pub taken_so_far : (b : Bool) (units left left' : ℕ) → left ≤ units → left' ≤ left
    → (if b then units - left' else 0) ≡ (if b then units - left else 0) + (if b then left - left' else 0)
taken_so_far true units left left' most less = omega arith
taken_so_far false units left left' most less = omega arith

-- a hold is at its own row
pub hold_at-own : (hold : Hold) → hold_at hold.row hold ≡ hold.quantity
hold_at-own hold = cond-true (hold.row == hold.row) _ _ (eq-eqb hold.row hold.row refl)

-- holds of another wave have no unit for an order of the wave at a row
pub other_wave-for : (w wave order row : ℕ) (holds : List Hold) → w ≢ wave → sum_by (hold_units_where (is_for wave order row) w) holds ≡ 0
other_wave-for w wave order row holds other =
    sum_by-none (hold_units_where (is_for wave order row) w) holds
    (λ hold. cond-false ((w == wave) && ((hold.order == order) && (hold.row == row))) hold.quantity 0 (and_left _ _ (ne_eqb w wave other)))

-- holds of the wave have just those units for an order of it at a row that are for the order there
pub same_wave-for : (w wave order row : ℕ) (holds : List Hold) → w ≡ wave
    → sum_by (hold_units_where (is_for wave order row) w) holds ≡ units_for holds order row
same_wave-for w wave order row holds same =
    sum_by-same (hold_units_where (is_for wave order row) w) (hold_for order row) holds (λ hold.
    ap (λ b. if b && ((hold.order == order) && (hold.row == row)) then hold.quantity else 0) (eq-eqb w wave same))

-- holds of another wave have no unit for the wave at a row
pub other_wave-at : (w wave row : ℕ) (holds : List Hold) → w ≢ wave → sum_by (hold_units_where (is_for_wave wave row) w) holds ≡ 0
other_wave-at w wave row holds other =
    sum_by-none (hold_units_where (is_for_wave wave row) w) holds
    (λ hold. cond-false ((w == wave) && (hold.row == row)) hold.quantity 0 (and_left _ _ (ne_eqb w wave other)))

-- holds of the wave have just those units for it at a row that are at the row
pub same_wave-at : (w wave row : ℕ) (holds : List Hold) → w ≡ wave → sum_by (hold_units_where (is_for_wave wave row) w) holds ≡ units_at holds row
same_wave-at w wave row holds same =
    sum_by-same (hold_units_where (is_for_wave wave row) w) (hold_at row) holds
    (λ hold. ap (λ b. if b && (hold.row == row) then hold.quantity else 0) (eq-eqb w wave same))

-- units that go from held to free, or from free to held, in two steps
freed_twice : (u q : ℕ) (r : Row) → free_held_units q (free_held_units u r) ≡ free_held_units (u + q) r
freed_twice u q r =
    let free : r.free + u + q ≡ r.free + (u + q) = omega arith in
    let held : r.held - u - q ≡ r.held - (u + q) = omega arith in
    rw (free, held) refl

held_twice : (u q : ℕ) (r : Row) → hold_units q (hold_units u r) ≡ hold_units (u + q) r
held_twice u q r =
    let free : r.free - u - q ≡ r.free - (u + q) = omega arith in
    let held : r.held + u + q ≡ r.held + (u + q) = omega arith in
    rw (free, held) refl

-- units that are given back in two steps are given back as their sum, in each row
pub freed_more : (before at after : ℕ → ℕ) (rows : List Row) → ((k : ℕ) → after k ≡ before k + at k)
    → change_rows (λ k. free_held_units (at k)) 0 (change_rows (λ k. free_held_units (before k)) 0 rows) ≡ change_rows (λ k. free_held_units (after k)) 0 rows
freed_more before at after rows more =
    change_after _ _ rows ∙ changes_agree _ _ rows (λ k r there. freed_twice (before k) (at k) r ∙ ap (λ n. free_held_units n r) (sym (more k)))

-- units that are held in two steps are held as their sum, in each row
pub held_more : (before at after : ℕ → ℕ) (rows : List Row) → ((k : ℕ) → after k ≡ before k + at k)
    → change_rows (λ k. hold_units (at k)) 0 (change_rows (λ k. hold_units (before k)) 0 rows) ≡ change_rows (λ k. hold_units (after k)) 0 rows
held_more before at after rows more =
    change_after _ _ rows ∙ changes_agree _ _ rows (λ k r there. held_twice (before k) (at k) r ∙ ap (λ n. hold_units n r) (sym (more k)))

-- rows of which no unit is given back are as they were
pub freed_none : (units : ℕ → ℕ) (rows : List Row) → ((k : ℕ) → units k ≡ 0) → change_rows (λ k. free_held_units (units k)) 0 rows ≡ rows
freed_none units rows none =
    change_none _ rows (λ k r.
    let free : r.free + units k ≡ r.free = omega (arith, none k) in
    let held : r.held - units k ≡ r.held = omega (arith, none k) in
    rw (free, held) refl)

-- rows in which no unit is held more are as they were
pub held_none : (units : ℕ → ℕ) (rows : List Row) → ((k : ℕ) → units k ≡ 0) → change_rows (λ k. hold_units (units k)) 0 rows ≡ rows
held_none units rows none =
    change_none _ rows (λ k r.
    let free : r.free - units k ≡ r.free = omega (arith, none k) in
    let held : r.held + units k ≡ r.held = omega (arith, none k) in
    rw (free, held) refl)

-- a test that leaves a wave out passes the same units of another wave's holds
pub but_of-other : (w wave : ℕ) (passes : Where) (holds : List Hold) → w ≢ wave
    → sum_by (hold_units_where passes w) holds ≡ sum_by (hold_units_where (but_of wave passes) w) holds
but_of-other w wave passes holds other =
    sum_by-same (hold_units_where passes w) (hold_units_where (but_of wave passes) w) holds (λ hold.
    let b = passes w hold.order hold.row in
    let keeps : (b && not (w == wave)) ≡ b = ap (λ e. b && not e) (ne_eqb w wave other) ∙ and_true b in
    ap (λ e. if e then hold.quantity else 0) (sym keeps))
  where
    and_true : (b : Bool) → (b && true) ≡ b
    and_true true = refl
    and_true false = refl

-- and no unit of the wave's own holds
pub but_of-own : (w wave : ℕ) (passes : Where) (holds : List Hold) → w ≡ wave → sum_by (hold_units_where (but_of wave passes) w) holds ≡ 0
but_of-own w wave passes holds same =
    sum_by-none (hold_units_where (but_of wave passes) w) holds (λ hold.
    let drops : (passes w hold.order hold.row && not (w == wave)) ≡ false = and_right _ _ (ap not (eq-eqb w wave same)) in
    ap (λ e. if e then hold.quantity else 0) drops)

-- holds of the wave have all their units for it
pub same_wave-of : (w wave : ℕ) (holds : List Hold) → w ≡ wave → sum_by (hold_units_where (is_of wave) w) holds ≡ sum_by (λ (hold : Hold). hold.quantity) holds
same_wave-of w wave holds same =
    sum_by-same (hold_units_where (is_of wave) w) (λ (hold : Hold). hold.quantity) holds (λ hold. cond-true (w == wave) hold.quantity 0 (eq-eqb w wave same))

-- and holds of another wave have none for it
pub other_wave-of : (w wave : ℕ) (holds : List Hold) → w ≢ wave → sum_by (hold_units_where (is_of wave) w) holds ≡ 0
other_wave-of w wave holds other = sum_by-none (hold_units_where (is_of wave) w) holds (λ hold. cond-false (w == wave) hold.quantity 0 (ne_eqb w wave other))

-- giving back the same units of each row comes to the same rows
pub freed_same : (u v : ℕ → ℕ) (rows : List Row) → ((k : ℕ) → u k ≡ v k)
    → change_rows (λ k. free_held_units (u k)) 0 rows ≡ change_rows (λ k. free_held_units (v k)) 0 rows
freed_same u v rows same = changes_agree _ _ rows (λ k r there. ap (λ n. free_held_units n r) (same k))

-- holding the same units in each row comes to the same rows
pub held_same : (u v : ℕ → ℕ) (rows : List Row) → ((k : ℕ) → u k ≡ v k)
    → change_rows (λ k. hold_units (u k)) 0 rows ≡ change_rows (λ k. hold_units (v k)) 0 rows
held_same u v rows same = changes_agree _ _ rows (λ k r there. ap (λ n. hold_units n r) (same k))
