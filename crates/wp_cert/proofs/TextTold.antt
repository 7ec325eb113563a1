-- What is printed of a certificate tells its wave, its capacity and its tree.
use Rattle.std.proofs.Common.{◌≡◌, ℕ, suc, ◌<◌, ◌≤◌, Bool, true, false, List, [], ◌∷◌, length, map, All, Contains, Option, Some, None, Ok, ◌&&◌, ◌==◌, option_map}
use Rattle.std.proofs.Common.{arith, refl, sym, ap, subst, ◌∙◌, IsUtf8}
use Rattle.std.specs.List.{list_all}
use Rattle.std.specs.Prelude.{is_some, nat_le}
use Rattle.std.proofs.lemmas.List.Elements.{All-head, All-tail}
use Rattle.serde_json.specs.Read.{read}
use Rattle.wp_model.specs.declared.point.Point.{Point}
use Rattle.wp_model.specs.Limits.{most_cart_units}
use Rattle.wp_model.specs.Warehouse.{IsSlot, Layout}
use Rattle.wp_lengths.specs.Waves.{IsWave, WavePicks}
use Rattle.wp_graph.proofs.Marks.{listed_passes, passing_listed}
use Rattle.wp_graph.proofs.Members.{Contains-from_among, among-map, among_from_Contains, map_source}
use Rattle.wp_graph.proofs.PointTests.{among_has, has_among}
use Rattle.wp_graph.specs.PickSets.{AreSlots, PickSet, points_where}
use Rattle.wp_graph.specs.Required.{has_point}
use Rattle.wp_pairs.specs.Carts.{IsCartFor, LoadedCart}
use Rattle.wp_cert.specs.declared.text.form.WrittenCart.{WrittenCart}
use Rattle.serde_json.specs.Data.{Data}
use Rattle.wp_cuts.specs.Cuts.{CutParts}
use Rattle.wp_cuts.specs.Steps.{layout_step}
use Rattle.wp_cert.specs.declared.text.form.Form.{Form}
use Rattle.wp_cert.specs.declared.tree.Tree.{Tree}
use Rattle.wp_cert.specs.Text.{PickAt, PicksAt, Tells, cuts_written, form_said, is_any_cart_for, is_node_within, is_order_of, is_slot_of, is_step_of}
use Rattle.wp_cert.specs.Text.{is_up_to, is_within, loaded_cart, place_of, value_says, version_of}
use Rattle.wp_cert.specs.TextData.{AreKeptCuts, HaveDualsWithin, HaveSlots, IsKeptNode, certificate_data, order_places, terms_written, wave_places}
use Rattle.wp_cert.proofs.TextJson.{value_read-text}
use Rattle.wp_cert.proofs.TextPicks.{same_point}
use Rattle.wp_cert.proofs.TextReadBack.{AreKeptTerms, form_again, printed_form, written_cart}

both : (a b : Bool) → a ≡ true → b ≡ true → (a && b) ≡ true
both a b one other = rw (one, other) refl

up_to : (most n : ℕ) → 1 ≤ n → n ≤ most → is_up_to most n ≡ true
up_to most n low high = grind arith

no_more_than : (n most : ℕ) → n ≤ most → nat_le n most ≡ true
no_more_than n most h = grind arith

same_number : (m n : ℕ) → m ≡ n → (m == n) ≡ true
same_number m n h = grind arith

-- ---- the slots of an order

pub listed_slot : (layout : Layout) (points : List Point) (p : Point) → Contains (points_where layout (has_point points)) p → IsSlot layout p
listed_slot layout points p has =
    (listed_passes layout (has_point points) p (among_from_Contains (points_where layout (has_point points)) p has)).0

slot_listed : (layout : Layout) (points : List Point) (p : Point) → AreSlots layout points → Contains points p
    → Contains (points_where layout (has_point points)) p
slot_listed layout points p slots has =
    Contains-from_among (points_where layout (has_point points)) p
    (passing_listed layout (has_point points) p (slots.slots p has) (among_has points p (among_from_Contains points p has)))

all_slots : (layout : Layout) (points : List Point) → ((p : Point) → Contains points p → IsSlot layout p)
    → list_all (is_slot_of layout) (map place_of points) ≡ true
all_slots layout [] slots = refl
all_slots layout (p ∷ points) slots =
    let slot = slots p (0, omega arith, refl) in
    both _ _ (both _ _ (up_to layout.aisles p.aisle slot.aisle.0 slot.aisle.1) (up_to layout.slots p.slot slot.slot.0 slot.slot.1))
    (all_slots layout points (λ q has. slots q (suc has.0, omega (arith, has.1), has.2)))

some_place : (points : List Point) (p : Point) → Contains points p → nat_le 1 (length (map place_of points)) ≡ true
some_place [] p has = absurd (omega (arith, has.1))
some_place (q ∷ points) p has = grind arith

first_point : (points : List Point) → 0 < length points → (p : Point) × Contains points p
first_point [] some = absurd (omega arith)
first_point (p ∷ points) some = (p, (0, omega arith, refl))

order_within : (layout : Layout) (points : List Point) → AreSlots layout points → 0 < length points → is_order_of layout (order_places layout points) ≡ true
order_within layout points slots some =
    let first = first_point points some in
    both _ _ (some_place (points_where layout (has_point points)) first.0 (slot_listed layout points first.0 slots first.1))
    (all_slots layout (points_where layout (has_point points)) (listed_slot layout points))

orders_within : (layout : Layout) (orders : List PickSet) → HaveSlots layout orders → All (λ (picks : PickSet). 0 < length picks.points) orders
    → list_all (is_order_of layout) (map (λ (picks : PickSet). order_places layout picks.points) orders) ≡ true
orders_within layout [] slots filled = refl
orders_within layout (picks ∷ orders) slots filled =
    both _ _
    (order_within layout picks.points (All-head (λ (picks : PickSet). AreSlots layout picks.points) picks orders slots)
    (All-head (λ (picks : PickSet). 0 < length picks.points) picks orders filled))
    (orders_within layout orders (All-tail (λ (picks : PickSet). AreSlots layout picks.points) picks orders slots)
    (All-tail (λ (picks : PickSet). 0 < length picks.points) picks orders filled))

-- an order picks just at the places that are printed for it
order_at : (layout : Layout) (picks : PickSet) → AreSlots layout picks.points → PicksAt picks (order_places layout picks.points)
order_at layout picks slots p =
    let listed = points_where layout (has_point picks.points) in (
      λ has. Contains-from_among (map place_of listed) (place_of p)
          (among-map place_of listed p (among_from_Contains listed p (slot_listed layout picks.points p slots has))),
      λ has.
          let source = map_source place_of listed (place_of p) (among_from_Contains (map place_of listed) (place_of p) has) in
          let same = same_point source.0 p source.2 in
          let passes = (listed_passes layout (has_point picks.points) source.0 source.1).1 in
          subst (λ (q : Point). Contains picks.points q) same
          (Contains-from_among picks.points source.0 (has_among picks.points source.0.aisle source.0.slot passes)),
    )

orders_at : (layout : Layout) (orders : List PickSet) → HaveSlots layout orders
    → PickAt orders (map (λ (picks : PickSet). order_places layout picks.points) orders)
orders_at layout [] slots = tt
orders_at layout (picks ∷ orders) slots = (
  order_at layout picks (All-head (λ (picks : PickSet). AreSlots layout picks.points) picks orders slots),
  orders_at layout orders (All-tail (λ (picks : PickSet). AreSlots layout picks.points) picks orders slots),
)

as_many_places : (layout : Layout) (orders : List PickSet) → length (map (λ (picks : PickSet). order_places layout picks.points) orders) ≡ length orders
as_many_places layout [] = refl
as_many_places layout (picks ∷ orders) = ap suc (as_many_places layout orders)

-- ---- the whole

light_loads : (units : ℕ) (loads : List ℕ) → All (λ (load : ℕ). load ≤ units) loads → list_all (λ (load : ℕ). nat_le load units) loads ≡ true
light_loads units [] light = refl
light_loads units (load ∷ loads) light =
    both _ _ (no_more_than load units (All-head (λ (n : ℕ). n ≤ units) load loads light))
    (light_loads units loads (All-tail (λ (n : ℕ). n ≤ units) load loads light))

cart_within : (orders : ℕ) (cart : Option LoadedCart) → IsCartFor cart orders → is_any_cart_for orders (option_map written_cart cart) ≡ true
cart_within orders None is = refl
cart_within orders (Some cart) is =
    both _ _ (up_to most_cart_units cart.units is.0.units.0 is.0.units.1)
    (both _ _ (same_number (length cart.loads) orders is.1) (light_loads cart.units cart.loads is.0.light))

right_version : (third : Bool) (cart : Option WrittenCart) → (version_of third cart == version_of third cart) ≡ true
right_version true cart = refl
right_version false None = refl
right_version false (Some cart) = refl

right_step : (layout : Layout) (cuts : Option (List CutParts)) → is_step_of layout (terms_written layout cuts) ≡ true
right_step layout None = refl
right_step layout (Some cuts) = same_number (layout_step layout) (layout_step layout) refl

same_form : (layout : Layout) (cuts : Option (List CutParts)) → is_some (terms_written layout cuts) ≡ is_some cuts
same_form layout None = refl
same_form layout (Some cuts) = refl

-- nodes are within their ranges as those of a tree that is printed
nodes_within : (layout : Layout) (tree : Tree) → HaveDualsWithin tree
    → list_all (is_node_within (is_some (terms_written layout tree.cuts))) tree.nodes ≡ true
nodes_within layout tree within = ap (λ (third : Bool). list_all (is_node_within third) tree.nodes) (same_form layout tree.cuts) ∙ within

form_within : (wave : WavePicks) (capacity : ℕ) (tree : Tree) → IsWave wave → HaveSlots wave.layout wave.orders → 1 ≤ capacity → capacity ≤ 8
    → HaveDualsWithin tree
    → is_within wave.layout (printed_form (wave_places wave) wave.cart (terms_written wave.layout tree.cuts) capacity tree.nodes) ≡ true
form_within wave capacity tree valid slots some most duals =
    let count = as_many_places wave.layout wave.orders in
    let cart = subst (λ (orders : ℕ). IsCartFor wave.cart orders) (sym count) valid.cart in
    both _ _ (right_version (is_some (terms_written wave.layout tree.cuts)) (option_map written_cart wave.cart))
    (both _ _ (up_to 8 capacity some most)
    (both _ _ (up_to 64 (length (wave_places wave)) (omega (arith, count, valid.some)) (omega (arith, count, valid.most)))
    (both _ _ (orders_within wave.layout wave.orders slots valid.filled)
    (both _ _ (nodes_within wave.layout tree duals)
    (both _ _ (cart_within (length (wave_places wave)) wave.cart cart) (right_step wave.layout tree.cuts))))))

said_within : (layout : Layout) (value : Data) (form : Form) → form_said value ≡ Some form → is_within layout form ≡ true → value_says layout value ≡ Ok form
said_within layout value form said inside = rw (said, inside) refl

same_cart : (cart : Option LoadedCart) → cart ≡ option_map loaded_cart (option_map written_cart cart)
same_cart None = refl
same_cart (Some cart) = refl

same_cuts : (layout : Layout) (cuts : Option (List CutParts)) → cuts_written (terms_written layout cuts) ≡ cuts
same_cuts layout None = refl
same_cuts layout (Some cuts) = refl

kept_terms : (layout : Layout) (cuts : Option (List CutParts)) → AreKeptCuts cuts → AreKeptTerms (terms_written layout cuts)
kept_terms layout None kept = tt
kept_terms layout (Some cuts) kept = kept

-- bytes that are text and are read as the certificate's value tell the certificate
pub told_again : (wave : WavePicks) (capacity : ℕ) (tree : Tree) (bytes : List ℕ) → IsWave wave → HaveSlots wave.layout wave.orders
    → 1 ≤ capacity → capacity ≤ 8 → HaveDualsWithin tree → All IsKeptNode tree.nodes → AreKeptCuts tree.cuts → IsUtf8 bytes
    → read bytes ≡ Some (certificate_data (wave_places wave) wave.cart (terms_written wave.layout tree.cuts) capacity tree.nodes)
    → Tells wave.layout bytes wave capacity tree
told_again wave capacity tree bytes valid slots some most duals kept cuts text is =
    let terms = terms_written wave.layout tree.cuts in
    let value = certificate_data (wave_places wave) wave.cart terms capacity tree.nodes in
    let form = printed_form (wave_places wave) wave.cart terms capacity tree.nodes in record {
      form = form;
      said = rw (value_read-text bytes value (text, is)) (said_within wave.layout value form
          (form_again (wave_places wave) wave.cart terms capacity tree.nodes kept (nodes_within wave.layout tree duals)
          (kept_terms wave.layout tree.cuts cuts))
          (form_within wave capacity tree valid slots some most duals));
      layout_is = refl;
      orders_pick = orders_at wave.layout wave.orders slots;
      cart_is = same_cart wave.cart;
      capacity_is = refl;
      nodes_are = refl;
      cuts_are = same_cuts wave.layout tree.cuts;
    }
