-- The lines of the orders of an opening.
use Rattle.std.proofs.Common.{◌≡◌, ◌∙◌, refl, sym, ap, ℕ, suc, ◌+◌, ◌||◌, Bool, true, false, not, List, [], ◌∷◌, map, Some, None, slice_get}
use Rattle.std.proofs.Common.{bytes_eq, if◌then◌else◌, arith}
use Rattle.std.proofs.lemmas.Option.{same_Some}
use Rattle.wp_model.proofs.NameEq.{bytes_eq_flips, found_there, not_there}
use Rattle.wp_model.specs.Opening.{Order, lines_of}
use Rattle.wp_model.specs.Step.{is_among}
use Rattle.wp_model.specs.TableLines.{article_in, number_among}
use Rattle.wp_model.specs.declared.row.Line.{Line}
use Rattle.wp_tables.specs.Orders.{lines_in, name_of}

after_first : {A : Type 0} (xs : List A) (x y : A) (i : ℕ) → slice_get (x ∷ xs) (1 + i) ≡ Some y → slice_get xs i ≡ Some y
after_first xs x y i at = let e : 1 + i ≡ suc i = omega arith in rw e at at

lines_if : (b : Bool) (i : ℕ) (name : List ℕ) (order : Order) (orders : List Order) (lines : List Line)
    → slice_get (map lines_in (order ∷ orders)) (if not b then 1 + i else 0) ≡ Some lines
    → (slice_get (map lines_in orders) i ≡ Some lines → lines_of orders name ≡ lines) → (if b then order.lines else lines_of orders name) ≡ lines
lines_if true i name order orders lines at rest = same_Some order.lines lines at
lines_if false i name order orders lines at rest = rest (after_first (map lines_in orders) order.lines lines i at)

lines_there : (orders : List Order) (name : List ℕ) (lines : List Line)
    → slice_get (map lines_in orders) (number_among (map name_of orders) name) ≡ Some lines → lines_of orders name ≡ lines
lines_there [] name lines at = absurd (cc at)
lines_there (order ∷ orders) name lines at =
    rw (bytes_eq_flips order.name name) (lines_if (bytes_eq name order.name) (number_among (map name_of orders) name) name order orders lines at
    (lines_there orders name lines))

-- the lines of an order that is found
pub lines_found : (orders : List Order) (name : List ℕ) (i : ℕ) (lines : List Line) → article_in (map name_of orders) name ≡ Some i
    → slice_get (map lines_in orders) i ≡ Some lines → lines ≡ lines_of orders name
lines_found orders name i lines found at =
    sym (lines_there orders name lines (ap (slice_get (map lines_in orders)) (found_there name (map name_of orders) i found).0 ∙ at))

-- an order that isn't found has none
pub no_lines : (orders : List Order) (name : List ℕ) → article_in (map name_of orders) name ≡ None → lines_of orders name ≡ []
no_lines orders name none = by orders (not_there name (map name_of orders) none)
  where
    neither : (p q : Bool) → (p || q) ≡ false → (p ≡ false) × (q ≡ false)
    neither false q e = (refl, e)
    neither true q e = absurd (cc e)

    by : (orders : List Order) → is_among (map name_of orders) name ≡ false → lines_of orders name ≡ []
    by [] unknown = refl
    by (order ∷ orders) unknown =
        let parts = neither (bytes_eq order.name name) (is_among (map name_of orders) name) unknown in
        ap (λ b. if b then order.lines else lines_of orders name) parts.0 ∙ by orders parts.1
