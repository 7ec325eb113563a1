-- The end at which the depot lies, and the place of it.
use Rattle.std.proofs.Common.{◌≡◌, ℕ, ◌<◌, ◌≤◌, ◌==◌, ◌&&◌, Bool, true, false, not, arith, refl, sym, ◌∙◌, ⊎_elim}
use Rattle.std.proofs.lemmas.Bool.{and_right, cases_eq, eq-eqb, ne_eqb}
use Rattle.wp_model.specs.Warehouse.{End, end_place}
use Rattle.wp_model.specs.Warehouse.End.{at_front, at_back}
use Rattle.wp_graph.specs.Sites.{is_end}

-- an end is the one in front where it isn't the one at the back
pub front_told : (end : End) → is_end end at_front ≡ not (is_end end at_back)
front_told at_front = refl
front_told at_back = refl

-- an end lies no further than the back end
pub end_within : (last : ℕ) (end : End) → end_place last end ≤ last
end_within last at_front = omega arith
end_within last at_back = omega arith

eqb_turned : (a b : ℕ) → (a == b) ≡ (b == a)
eqb_turned a b = ⊎_elim (λ e. eq-eqb a b e ∙ sym (eq-eqb b a (sym e))) (λ ne. ne_eqb a b ne ∙ sym (ne_eqb b a (λ e. ne (sym e)))) (cases_eq a b)

and_true : (a b : Bool) → b ≡ true → (a && b) ≡ a
and_true true b e = e
and_true false b e = refl

-- the depot is the front end of an aisle where it lies in front in this aisle
pub depot_in_front : (depot aisle last : ℕ) (end : End) → 0 < last → ((depot == aisle) && (end_place last end == 0)) ≡ (is_end end at_front && (aisle == depot))
depot_in_front depot aisle last at_front some = and_true (depot == aisle) (0 == 0) refl ∙ eqb_turned depot aisle
depot_in_front depot aisle last at_back some = and_right (depot == aisle) (last == 0) (ne_eqb last 0 (λ e. omega (arith, e, some)))

-- and the back end where it lies at the back in this aisle
pub depot_behind : (depot aisle last : ℕ) (end : End) → 0 < last → ((depot == aisle) && (end_place last end == last)) ≡ (is_end end at_back && (aisle == depot))
depot_behind depot aisle last at_front some = and_right (depot == aisle) (0 == last) (ne_eqb 0 last (λ e. omega (arith, e, some)))
depot_behind depot aisle last at_back some = and_true (depot == aisle) (last == last) (eq-eqb last last refl) ∙ eqb_turned depot aisle

-- it is no place between
pub depot_no_slot : (depot aisle last place : ℕ) (end : End) → 0 < place → place < last → ((depot == aisle) && (end_place last end == place)) ≡ false
depot_no_slot depot aisle last place at_front low high = and_right (depot == aisle) (0 == place) (ne_eqb 0 place (λ e. omega (arith, e, low)))
depot_no_slot depot aisle last place at_back low high = and_right (depot == aisle) (last == place) (ne_eqb last place (λ e. omega (arith, e, high)))
