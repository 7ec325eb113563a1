-- Orders by their names and their numbers.
use Rattle.std.proofs.Common.{◌≡◌, ◌∙◌, refl, sym, ap, ℕ, suc, ◌+◌, ◌<◌, ◌||◌, Bool, true, false, List, [], ◌∷◌, length, map, get_or, Option, Some, None, arith}
use Rattle.std.proofs.Common.{rules}
use Rattle.std.proofs.lemmas.List.{length-map}
use Rattle.std.proofs.lemmas.List.Sums.{passes_at_first}
use Rattle.std.proofs.lemmas.Option.{same_Some, slice_get-get_or, slice_get-map}
use Rattle.std.proofs.lemmas.Slice.Eq.{bytes_eq-Decides}
use Rattle.std.specs.Prelude.{slice_get, if◌then◌else◌, not, IsSome}
use Rattle.std.specs.Str.{bytes_eq}
use Rattle.wp_model.proofs.Elements.{option_map_some}
use Rattle.wp_model.proofs.NameEq.{bytes_eq_flips, found_there, not_there}
use Rattle.wp_model.specs.Opening.{Order, is_known_order, lines_of}
use Rattle.wp_model.specs.Step.{is_among}
use Rattle.wp_model.specs.TableLines.{article_in, number_among}
use Rattle.wp_model.specs.declared.row.Line.{Line}
use Rattle.wp_tables.specs.Orders.{lines_in, name_of}

-- a known order is one whose name is among the names
pub known_among : (orders : List Order) (name : List ℕ) → is_known_order orders name ≡ is_among (map name_of orders) name
known_among [] name = refl
known_among (order ∷ orders) name = ap (λ rest. bytes_eq order.name name || rest) (known_among orders name)

-- an order that is found stands at its number
pub record IsFoundAt (orders : List Order) (name : List ℕ) (number : ℕ) : Type 0 where
  pub order : Order
  pub there : slice_get orders number ≡ Some order
  pub named : order.name ≡ name
  pub within : number < length orders
  pub known : is_known_order orders name ≡ true

name_at : (names : List (List ℕ)) (name : List ℕ) (i : ℕ) → article_in names name ≡ Some i → slice_get names i ≡ Some name
name_at names name i found =
    let is = found_there name names i found in
    let passes = passes_at_first (bytes_eq name) names [] (omega (arith, is.0, is.1)) in
    let same : bytes_eq name (get_or names i []) ≡ true = ap (λ k. bytes_eq name (get_or names k [])) (sym is.0) ∙ passes in
    slice_get-get_or names i [] is.1 ∙ ap Some (sym ((bytes_eq-Decides name (get_or names i [])).0 same))

pub found_at : (orders : List Order) (name : List ℕ) (number : ℕ) → article_in (map name_of orders) name ≡ Some number → IsFoundAt orders name number
found_at orders name number found =
    let is = found_there name (map name_of orders) number found in
    option_map_some (slice_get orders number) name_of name
    (sym (slice_get-map name_of orders number) ∙ name_at (map name_of orders) name number found)
    (λ order there named. record {
      order = order;
      there = there;
      named = named;
      within = omega (arith, is.1, length-map orders name_of);
      known = known_among orders name ∙ is.2;
    })

-- an order that isn't found isn't known
pub not_found : (orders : List Order) (name : List ℕ) → article_in (map name_of orders) name ≡ None → is_known_order orders name ≡ false
not_found orders name none = known_among orders name ∙ not_there name (map name_of orders) none

-- a known order is found
pub some_found : (orders : List Order) (name : List ℕ) (found : Option ℕ) → found ≡ article_in (map name_of orders) name
    → is_known_order orders name ≡ true → IsSome found
some_found orders name (Some number) is known = search rules
some_found orders name None is known =
    let both : true ≡ false = sym known ∙ not_found orders name (sym is) in
    absurd (cc both)

lines_if : (b : Bool) (i : ℕ) (name : List ℕ) (order : Order) (orders : List Order) (lines : List Line)
    → slice_get (map lines_in (order ∷ orders)) (if not b then 1 + i else 0) ≡ Some lines
    → (slice_get (map lines_in orders) i ≡ Some lines → lines_of orders name ≡ lines) → (if b then order.lines else lines_of orders name) ≡ lines
lines_if true i name order orders lines at rest = same_Some order.lines lines at
lines_if false i name order orders lines at rest =
    let e : 1 + i ≡ suc i = omega arith in
    rest (rw e at at)

lines_there : (orders : List Order) (name : List ℕ) (lines : List Line)
    → slice_get (map lines_in orders) (number_among (map name_of orders) name) ≡ Some lines → lines_of orders name ≡ lines
lines_there [] name lines at = absurd (cc at)
lines_there (order ∷ orders) name lines at =
    rw (bytes_eq_flips order.name name) (lines_if (bytes_eq name order.name) (number_among (map name_of orders) name) name order orders lines at
    (lines_there orders name lines))

-- the lines of an order that is found
pub lines_found : (orders : List Order) (name : List ℕ) (number : ℕ) (lines : List Line) → article_in (map name_of orders) name ≡ Some number
    → slice_get (map lines_in orders) number ≡ Some lines → lines ≡ lines_of orders name
lines_found orders name number lines found at =
    sym (lines_there orders name lines (ap (slice_get (map lines_in orders)) (found_there name (map name_of orders) number found).0 ∙ at))
