-- Orders kept by their names and their lines.
use Rattle.std.proofs.Common.{◌≡◌, refl, sym, ap, ℕ, zero, suc, ◌+◌, ◌<◌, Bool, true, false, List, [], ◌∷◌, ◌++◌, ◌∙◌, subst, Vec, get_or, length, map, set}
use Rattle.std.proofs.Common.{Some, arith}
use Rattle.std.specs.Prelude.{if◌then◌else◌, not, slice_get, ◌||◌}
use Rattle.std.specs.List.{All}
use Rattle.std.proofs.lemmas.List.{get_or-map, length-map}
use Rattle.std.specs.Str.{bytes_eq}
use Rattle.std.specs.declared.alloc.Global.{Global}
use Rattle.wp_model.specs.TableLines.{add_order_line, article_in, number_among}
use Rattle.wp_model.specs.Opening.{is_known_order, lines_of}
use Rattle.wp_model.specs.Step.{is_among}
use Rattle.wp_model.specs.declared.line.OrderLine.{OrderLine}
use Rattle.wp_model.specs.declared.row.Line.{Line}
use Rattle.wp_model.proofs.NameEq.{bytes_eq_flips, found_there}
use Rattle.wp_tables.specs.Orders.{lines_in, name_of, orders_of_parts}

-- there is an order for each name
pub parts_length : (names : List (List ℕ)) (lines : List (Vec Line Global)) → length lines ≡ length names → length (orders_of_parts names lines) ≡ length names
parts_length [] lines same = refl
parts_length (name ∷ names) [] same = absurd (omega arith)
parts_length (name ∷ names) (v ∷ lines) same = omega (arith, parts_length names lines (omega arith))

-- an order of a name is known where the name is among the names
pub parts_known : (names : List (List ℕ)) (lines : List (Vec Line Global)) (order : List ℕ) → length lines ≡ length names
    → is_known_order (orders_of_parts names lines) order ≡ is_among names order
parts_known [] lines order same = refl
parts_known (name ∷ names) [] order same = absurd (omega arith)
parts_known (name ∷ names) (v ∷ lines) order same = ap (λ rest. bytes_eq name order || rest) (parts_known names lines order (omega arith))

after_first : {A : Type 0} (xs : List A) (x y : A) (i : ℕ) → slice_get (x ∷ xs) (1 + i) ≡ Some y → slice_get xs i ≡ Some y
after_first xs x y i at = let e : 1 + i ≡ suc i = omega arith in rw e at at

neither : (p q : Bool) → (p || q) ≡ false → (p ≡ false) × (q ≡ false)
neither false q e = (refl, e)
neither true q e = absurd (cc e)

parts_lines_if : (b : Bool) (i : ℕ) (order : List ℕ) (names : List (List ℕ)) (lines : List (Vec Line Global)) (v w : Vec Line Global)
    → slice_get (v ∷ lines) (if not b then 1 + i else 0) ≡ Some w
    → (slice_get lines i ≡ Some w → lines_of (orders_of_parts names lines) order ≡ w.items)
    → (if b then v.items else lines_of (orders_of_parts names lines) order) ≡ w.items
parts_lines_if true i order names lines v w at rest = let same : v ≡ w = cc in ap (λ (x : Vec Line Global). x.items) same
parts_lines_if false i order names lines v w at rest = rest (after_first lines v w i at)

-- the lines of an order that is there
pub parts_lines : (names : List (List ℕ)) (lines : List (Vec Line Global)) (order : List ℕ) (w : Vec Line Global)
    → slice_get lines (number_among names order) ≡ Some w
    → length lines ≡ length names → lines_of (orders_of_parts names lines) order ≡ w.items
parts_lines [] [] order w at same = absurd (cc at)
parts_lines [] (v ∷ lines) order w at same = absurd (omega arith)
parts_lines (name ∷ names) [] order w at same = absurd (omega arith)
parts_lines (name ∷ names) (v ∷ lines) order w at same = rw (bytes_eq_flips name order)
    (parts_lines_if (bytes_eq order name) (number_among names order) order names lines v w at (λ there. parts_lines names lines order w there (omega arith)))

-- an order that isn't there has none
pub parts_no_lines : (names : List (List ℕ)) (lines : List (Vec Line Global)) (order : List ℕ) → is_among names order ≡ false
    → lines_of (orders_of_parts names lines) order ≡ []
parts_no_lines [] lines order new = refl
parts_no_lines (name ∷ names) [] order new = refl
parts_no_lines (name ∷ names) (v ∷ lines) order new =
    let parts = neither (bytes_eq name order) (is_among names order) new in
    rw parts.0 (parts_no_lines names lines order parts.1)

set_after_first : {A : Type 0} (xs : List A) (x y : A) (i : ℕ) → set (x ∷ xs) (1 + i) y ≡ x ∷ set xs i y
set_after_first xs x y i = let e : 1 + i ≡ suc i = omega arith in rw e refl

parts_added_if : (b : Bool) (i : ℕ) (line : OrderLine) (name : List ℕ) (names : List (List ℕ)) (v : Vec Line Global) (lines : List (Vec Line Global))
    (old new : Vec Line Global)
    → slice_get (v ∷ lines) (if not b then 1 + i else 0) ≡ Some old → new.items ≡ old.items ++ line.line ∷ []
    → (slice_get lines i ≡ Some old → add_order_line (orders_of_parts names lines) line ≡ orders_of_parts names (set lines i new))
    → (if b then record { name = name; lines = v.items ++ line.line ∷ [] } ∷ orders_of_parts names lines
    else record { name = name; lines = v.items } ∷ add_order_line (orders_of_parts names lines) line)
    ≡ orders_of_parts (name ∷ names) (set (v ∷ lines) (if not b then 1 + i else 0) new)
parts_added_if true i line name names v lines old new at more rest =
    let same : v ≡ old = cc in
    rw (more, ← same) refl
parts_added_if false i line name names v lines old new at more rest =
    rw (set_after_first lines v new i) (ap (λ os. record { name = name; lines = v.items } ∷ os) (rest (after_first lines v old i at)))

-- a line joins the order of its name
pub parts_added : (names : List (List ℕ)) (lines : List (Vec Line Global)) (line : OrderLine) (old new : Vec Line Global)
    → slice_get lines (number_among names line.order) ≡ Some old → new.items ≡ old.items ++ line.line ∷ [] → length lines ≡ length names
    → add_order_line (orders_of_parts names lines) line ≡ orders_of_parts names (set lines (number_among names line.order) new)
parts_added [] [] line old new at more same = absurd (cc at)
parts_added [] (v ∷ lines) line old new at more same = absurd (omega arith)
parts_added (name ∷ names) [] line old new at more same = absurd (omega arith)
parts_added (name ∷ names) (v ∷ lines) line old new at more same =
    rw (bytes_eq_flips name line.order)
    (parts_added_if (bytes_eq line.order name) (number_among names line.order) line name names v lines old new at more
    (λ there. parts_added names lines line old new there more (omega arith)))

-- a line of a new order comes last
pub parts_new : (names : List (List ℕ)) (lines : List (Vec Line Global)) (line : OrderLine) (first : Vec Line Global)
    → is_among names line.order ≡ false → first.items ≡ line.line ∷ [] → length lines ≡ length names
    → add_order_line (orders_of_parts names lines) line ≡ orders_of_parts (names ++ line.order ∷ []) (lines ++ first ∷ [])
parts_new [] [] line first new only same = rw only refl
parts_new [] (v ∷ lines) line first new only same = absurd (omega arith)
parts_new (name ∷ names) [] line first new only same = absurd (omega arith)
parts_new (name ∷ names) (v ∷ lines) line first new only same =
    let parts = neither (bytes_eq name line.order) (is_among names line.order) new in
    rw parts.0 (ap (λ os. record { name = name; lines = v.items } ∷ os) (parts_new names lines line first parts.1 only (omega arith)))

-- the names of orders kept by their parts
pub names_back : (names : List (List ℕ)) (lines : List (Vec Line Global)) → length lines ≡ length names → map name_of (orders_of_parts names lines) ≡ names
names_back [] lines same = refl
names_back (name ∷ names) [] same = absurd (omega arith)
names_back (name ∷ names) (v ∷ lines) same = ap (λ rest. name ∷ rest) (names_back names lines (omega arith))

-- where an order that is found has its lines
pub order_there : (names : List (List ℕ)) (lines : List (Vec Line Global)) (order : List ℕ) (i : ℕ) → length lines ≡ length names
    → article_in (map name_of (orders_of_parts names lines)) order ≡ Some i
    → (number_among names order ≡ i) × (i < length lines) × (is_among names order ≡ true)
order_there names lines order i same found =
    let there = found_there order names i (rw (names_back names lines same) at found) in
    (there.0, omega (arith, there.1), there.2)

-- the item of a vector that was read at a place
pub item_at : {A : Type 0} (xs : List A) (i : ℕ) (x : A) → i < length xs → x ≡ get_or xs i x → slice_get xs i ≡ Some x
item_at [] i x below is = absurd (omega arith)
item_at (y ∷ xs) zero x below is = ap Some (sym is)
item_at (y ∷ xs) (suc i) x below is = item_at xs i x (omega arith) is

-- the name of the order at a place
pub name_at : (names : List (List ℕ)) (lines : List (Vec Line Global)) (i : ℕ) (name : List ℕ) → length lines ≡ length names → slice_get names i ≡ Some name
    → slice_get (map name_of (orders_of_parts names lines)) i ≡ Some name
name_at names lines i name same at = rw (names_back names lines same) at

-- its lines
pub lines_at : (names : List (List ℕ)) (lines : List (Vec Line Global)) (i : ℕ) (v : Vec Line Global) → length lines ≡ length names
    → slice_get lines i ≡ Some v → slice_get (map lines_in (orders_of_parts names lines)) i ≡ Some v.items
lines_at names [] i v same at = absurd (cc at)
lines_at [] (w ∷ lines) i v same at = absurd (omega arith)
lines_at (name ∷ names) (w ∷ lines) zero v same at = let e : w ≡ v = cc in ap (λ (x : Vec Line Global). Some x.items) e
lines_at (name ∷ names) (w ∷ lines) (suc i) v same at = lines_at names lines i v (omega arith) at

-- what holds of what each item is holds of what the item at a place is
pub all_at : {A B : Type 0} (f : A → B) (P : B → Type 0) (xs : List A) (i : ℕ) (x : A) → All P (map f xs) → i < length xs → x ≡ get_or xs i x → P (f x)
all_at f P xs i x all below is =
    let place : i < length (map f xs) = omega (arith, length-map xs f) in
    subst P (get_or-map f xs i x (f x) below ∙ ap f (sym is)) (all i (f x) place)
