-- The slots of orders as they are printed.
use Rattle.std.proofs.Common.{◌≡◌, ℕ, zero, suc, ◌+◌, Bool, true, false, List, [], ◌∷◌, ◌++◌, map, Contains}
use Rattle.std.proofs.Common.{arith, refl, sym, ap, ◌∙◌, append_assoc}
use Rattle.std.specs.List.{filter, flat_map, range_with_len}
use Rattle.std.proofs.lemmas.List.{map-append}
use Rattle.std.proofs.lemmas.List.Concat.{flat_map-append}
use Rattle.std.proofs.lemmas.List.Elements.{filter-append}
use Rattle.serde_json.specs.Data.{Data, array}
use Rattle.serde_json.specs.View.{items_of, view}
use Rattle.serde_json.specs.declared.value.Value.{Value}
use Rattle.wp_model.specs.declared.point.Point.{Point}
use Rattle.wp_model.specs.Warehouse.{Layout}
use Rattle.wp_graph.specs.PickSets.{PickSet, points_in, points_where, slots_where}
use Rattle.wp_graph.specs.Required.{has_point}
use Rattle.wp_graph.proofs.Members.{Contains-from_among, among_from_Contains}
use Rattle.wp_graph.proofs.PointTests.{among_has, has_among, same_tests}
use Rattle.wp_cert.specs.Text.{place_of}
use Rattle.wp_cert.specs.TextData.{aisle_points, aisles_points, list_data, order_data, order_places, place_data, point_data}

-- nothing more
pub append_none : {A : Type 0} (xs : List A) → xs ++ [] ≡ xs
append_none [] = refl
append_none {A} (x ∷ xs) = ap (λ (ys : List A). x ∷ ys) (append_none xs)

range_more : (a n : ℕ) → range_with_len a (n + 1) ≡ range_with_len a n ++ (a + n) ∷ []
range_more a zero = let e : a + 0 ≡ a = omega arith in rw e refl
range_more a (suc n) =
    let e : suc n + 1 ≡ suc (n + 1) = omega arith in
    let f : a + suc n ≡ a + 1 + n = omega arith in
    rw (e, f) (ap (λ (xs : List ℕ). a ∷ xs) (range_more (a + 1) n))

-- an order that picks at the next slot of an aisle has one more
pub aisle_more : (points : List Point) (aisle slots : ℕ) → has_point points aisle (slots + 1) ≡ true
    → aisle_points points aisle (slots + 1) ≡ aisle_points points aisle slots ++ record { aisle = aisle; slot = slots + 1 } ∷ []
unfolding points_in
aisle_more points aisle slots has =
    let test = has_point points aisle in
    let e : 1 + slots ≡ slots + 1 = omega arith in
    let one : filter test ((1 + slots) ∷ []) ≡ (slots + 1) ∷ [] = rw (e, has) refl in
    ap (λ (xs : List ℕ). points_in aisle (filter test xs)) (range_more 1 slots)
    ∙ ap (points_in aisle) (filter-append test (range_with_len 1 slots) ((1 + slots) ∷ [])
    ∙ ap (λ (xs : List ℕ). filter test (range_with_len 1 slots) ++ xs) one)
    ∙ map-append (λ (slot : ℕ). record { aisle = aisle; slot = slot }) (filter test (range_with_len 1 slots)) ((slots + 1) ∷ [])

-- one that doesn't has the same
pub aisle_same : (points : List Point) (aisle slots : ℕ) → has_point points aisle (slots + 1) ≡ false
    → aisle_points points aisle (slots + 1) ≡ aisle_points points aisle slots
aisle_same points aisle slots none =
    let test = has_point points aisle in
    let e : 1 + slots ≡ slots + 1 = omega arith in
    let gone : filter test ((1 + slots) ∷ []) ≡ [] = rw (e, none) refl in
    ap (λ (xs : List ℕ). points_in aisle (filter test xs)) (range_more 1 slots)
    ∙ ap (points_in aisle) (filter-append test (range_with_len 1 slots) ((1 + slots) ∷ [])
    ∙ ap (λ (xs : List ℕ). filter test (range_with_len 1 slots) ++ xs) gone
    ∙ append_none (filter test (range_with_len 1 slots)))

-- whether an order picks at a slot
pub has_told : (points : List Point) (point : Point) (told : Bool) → (told ≡ true → Contains points point) → (Contains points point → told ≡ true)
    → has_point points point.aisle point.slot ≡ told
has_told points point told there back =
    same_tests _ _ (λ has. back (Contains-from_among points point (has_among points point.aisle point.slot has)))
    (λ is. among_has points point (among_from_Contains points point (there is)))

-- one more aisle
pub aisles_more : (layout : Layout) (points : List Point) (aisles : ℕ) → aisles_points layout points (aisles + 1)
    ≡ aisles_points layout points aisles ++ aisle_points points (aisles + 1) layout.slots
unfolding slots_where
aisles_more layout points aisles =
    let f : ℕ → List Point = λ aisle. points_in aisle (slots_where layout (has_point points) aisle) in
    let e : 1 + aisles ≡ aisles + 1 = omega arith in
    ap (flat_map f) (range_more 1 aisles) ∙ flat_map-append f (range_with_len 1 aisles) ((1 + aisles) ∷ [])
    ∙ ap (λ (xs : List Point). flat_map f (range_with_len 1 aisles) ++ xs) (append_none (f (1 + aisles)) ∙ ap f e)

-- all aisles are all slots at which the order picks
pub aisles_all : (layout : Layout) (points : List Point) → aisles_points layout points layout.aisles ≡ points_where layout (has_point points)
unfolding points_where
aisles_all layout points = refl

-- slots as places, one after another
pub places_shown : (points : List Point) → map place_data (map place_of points) ≡ map point_data points
places_shown [] = refl
places_shown (p ∷ points) = ap (λ (ds : List Data). point_data p ∷ ds) (places_shown points)

-- no slot of an aisle
pub aisle_none : (points : List Point) (aisle : ℕ) → aisle_points points aisle 0 ≡ []
unfolding points_in
aisle_none points aisle = refl

-- one more slot of an aisle is shown
pub slot_shown : (old : List Data) (values : List Value) (value : Value) (points : List Point) (aisle slots : ℕ) → has_point points aisle (slots + 1) ≡ true
    → map view values ≡ old ++ map point_data (aisle_points points aisle slots) → view value ≡ point_data (record { aisle = aisle; slot = slots + 1 })
    → map view (values ++ value ∷ []) ≡ old ++ map point_data (aisle_points points aisle (slots + 1))
slot_shown old values value points aisle slots has all one =
    let before = aisle_points points aisle slots in
    let point : Point = record { aisle = aisle; slot = slots + 1 } in
    map-append view values (value ∷ []) ∙ (rw (all, one) refl) ∙ append_assoc old (map point_data before) (point_data point ∷ [])
    ∙ ap (λ (ds : List Data). old ++ ds) (sym (map-append point_data before (point ∷ [])))
    ∙ ap (λ (ps : List Point). old ++ map point_data ps) (sym (aisle_more points aisle slots has))

-- a slot at which the order doesn't pick isn't shown
pub slot_passed : (old : List Data) (values : List Value) (points : List Point) (aisle slots : ℕ) → has_point points aisle (slots + 1) ≡ false
    → map view values ≡ old ++ map point_data (aisle_points points aisle slots)
    → map view values ≡ old ++ map point_data (aisle_points points aisle (slots + 1))
slot_passed old values points aisle slots none all = all ∙ ap (λ (ps : List Point). old ++ map point_data ps) (sym (aisle_same points aisle slots none))

-- one more aisle is shown
pub aisle_shown : (layout : Layout) (points : List Point) (aisles slots : ℕ) (old new : List Data) → slots ≡ layout.slots
    → old ≡ map point_data (aisles_points layout points aisles) → new ≡ old ++ map point_data (aisle_points points (aisles + 1) slots)
    → new ≡ map point_data (aisles_points layout points (aisles + 1))
aisle_shown layout points aisles slots old new same all one =
    one ∙ (rw (all, same) refl)
    ∙ sym (map-append point_data (aisles_points layout points aisles) (aisle_points points (aisles + 1) layout.slots))
    ∙ ap (map point_data) (sym (aisles_more layout points aisles))

-- all aisles are shown as the order's slots
pub order_shown : (layout : Layout) (picks : PickSet) (aisles : ℕ) (values : List Data) → aisles ≡ layout.aisles
    → values ≡ map point_data (aisles_points layout picks.points aisles) → array (items_of values) ≡ order_data layout picks
order_shown layout picks aisles values same all =
    ap (λ (ds : List Data). array (items_of ds))
    (all ∙ (rw same refl) ∙ ap (map point_data) (aisles_all layout picks.points) ∙ sym (places_shown (points_where layout (has_point picks.points))))

-- orders as places, one after another
pub orders_shown : (layout : Layout) (orders : List PickSet)
    → map (order_data layout) orders ≡ map (list_data place_data) (map (λ (picks : PickSet). order_places layout picks.points) orders)
orders_shown layout [] = refl
orders_shown layout (picks ∷ orders) = ap (λ (ds : List Data). order_data layout picks ∷ ds) (orders_shown layout orders)
