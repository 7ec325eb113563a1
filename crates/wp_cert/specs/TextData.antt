-- The value of a certificate as it is printed.
use Rattle.std.specs.Prelude.{◌<◌, ℕ, ◌^◌, Bool, true, false, List, map, All, IsTrue, Option, Some, None, codes, ⊤}
use Rattle.std.specs.Prelude.{is_some, option_map}
use Rattle.std.specs.List.{filter, flat_map, list_all, range_with_len}
use Rattle.serde_json.specs.Data.{Data, array, item, member, no_items, no_members, number, object, string, unsigned}
use Rattle.serde_json.specs.View.{items_of}
use Rattle.serde_json.specs.Written.{compact_text}
use Rattle.wp_model.specs.declared.point.Point.{Point}
use Rattle.wp_model.specs.Warehouse.{Layout}
use Rattle.wp_graph.specs.PickSets.{AreSlots, PickSet, points_in, points_where, slots_where}
use Rattle.wp_graph.specs.Required.{has_point}
use Rattle.wp_lengths.specs.Waves.{WavePicks}
use Rattle.wp_cuts.specs.Cuts.{CutParts}
use Rattle.wp_cuts.specs.Steps.{layout_step}
use Rattle.wp_pairs.specs.Batches.{IsBatch}
use Rattle.wp_pairs.specs.Carts.{LoadedCart}
use Rattle.wp_cert.specs.declared.tree.Node.{Node}
use Rattle.wp_cert.specs.declared.tree.Node.TheVariants as node
use Rattle.wp_cert.specs.declared.tree.Own.{Own}
use Rattle.wp_cert.specs.declared.tree.Tree.{Tree}
use Rattle.wp_cert.specs.declared.text.form.WrittenSlot.{WrittenSlot}
use Rattle.wp_cert.specs.declared.text.form.WrittenTerms.{WrittenTerms}
use Rattle.wp_cert.specs.Text.{is_node_within, place_of}

-- a list of values
abbrev pub list_data : {A : Type 0} → (A → Data) → List A → Data
list_data shown xs = array (items_of (map shown xs))

-- a whole number
abbrev pub number_data : ℕ → Data
number_data n = number (unsigned n)

-- a slot: the numbers of its aisle and of the slot in it
abbrev pub place_data : WrittenSlot → Data
place_data place = array (item (number_data place.aisle) (item (number_data place.slot) no_items))

-- a batch: its orders in ascending order
abbrev pub batch_data : List ℕ → Data
batch_data batch = list_data number_data batch

-- a mark as a character
abbrev pub mark_code : Bool → ℕ
mark_code true = 49
mark_code false = 48

-- marks as a text
abbrev pub marks_data : List Bool → Data
marks_data marks = string (map mark_code marks)

-- a leaf with duals of its own: in the third form with prices
abbrev pub own_leaf_data : Bool → Own → Data
own_leaf_data false own = object
    (member (codes "duals") (list_data number_data own.duals)
    (member (codes "kind") (string (codes "leaf"))
    (member (codes "marks") (marks_data own.marks)
    (member (codes "tight") (list_data batch_data own.tight) no_members))))
own_leaf_data true own = object
    (member (codes "count") (number_data own.count)
    (member (codes "duals") (list_data number_data own.duals)
    (member (codes "kind") (string (codes "leaf"))
    (member (codes "marks") (marks_data own.marks)
    (member (codes "prices") (list_data number_data own.prices)
    (member (codes "tight") (list_data batch_data own.tight) no_members))))))

-- a leaf
abbrev pub leaf_data : Bool → Option Own → Data
leaf_data third None = object (member (codes "kind") (string (codes "kept")) no_members)
leaf_data third (Some own) = own_leaf_data third own

-- a split on a pair of orders with duals of its own: in the third form with prices
abbrev pub own_split_data : Bool → ℕ → ℕ → Own → Data
own_split_data false first second own = object
    (member (codes "duals") (list_data number_data own.duals)
    (member (codes "first") (number_data first)
    (member (codes "kind") (string (codes "split"))
    (member (codes "marks") (marks_data own.marks)
    (member (codes "second") (number_data second)
    (member (codes "tight") (list_data batch_data own.tight) no_members))))))
own_split_data true first second own = object
    (member (codes "count") (number_data own.count)
    (member (codes "duals") (list_data number_data own.duals)
    (member (codes "first") (number_data first)
    (member (codes "kind") (string (codes "split"))
    (member (codes "marks") (marks_data own.marks)
    (member (codes "prices") (list_data number_data own.prices)
    (member (codes "second") (number_data second)
    (member (codes "tight") (list_data batch_data own.tight) no_members))))))))

-- a split on a pair of orders
abbrev pub split_data : Bool → ℕ → ℕ → Option Own → Data
split_data third first second None = object
    (member (codes "first") (number_data first)
    (member (codes "kind") (string (codes "split"))
    (member (codes "second") (number_data second) no_members)))
split_data third first second (Some own) = own_split_data third first second own

-- a leaf with an order that no permitted batch holds
abbrev pub dead_data : ℕ → Data
dead_data order = object (member (codes "kind") (string (codes "dead"))
    (member (codes "order") (number_data order) no_members))

-- a node
abbrev pub node_data : Bool → Node → Data
node_data third (node.Leaf own) = leaf_data third own
node_data third (node.Split first second own) = split_data third first second own
node_data third (node.Dead order) = dead_data order

-- a cut
abbrev pub cut_data : CutParts → Data
cut_data cut = object
    (member (codes "divisor") (number_data cut.divisor)
    (member (codes "orders") (list_data number_data cut.orders)
    (member (codes "parts") (list_data number_data cut.parts) no_members)))

-- a certificate without a cart; its keys stand in the order of their bytes
abbrev pub plain_data : List (List WrittenSlot) → ℕ → List Node → Data
plain_data orders capacity nodes = object
    (member (codes "capacity") (number_data capacity)
    (member (codes "nodes") (list_data (node_data false) nodes)
    (member (codes "orders") (list_data (list_data place_data) orders)
    (member (codes "version") (number_data 1) no_members))))

-- a certificate with a cart; its keys stand in the order of their bytes
abbrev pub loaded_data : List (List WrittenSlot) → LoadedCart → ℕ → List Node → Data
loaded_data orders cart capacity nodes = object
    (member (codes "capacity") (number_data capacity)
    (member (codes "loads") (list_data number_data cart.loads)
    (member (codes "nodes") (list_data (node_data false) nodes)
    (member (codes "orders") (list_data (list_data place_data) orders)
    (member (codes "units") (number_data cart.units)
    (member (codes "version") (number_data 2) no_members))))))

-- a certificate of the third form without a cart
abbrev pub third_data : List (List WrittenSlot) → WrittenTerms → ℕ → List Node → Data
third_data orders terms capacity nodes = object
    (member (codes "capacity") (number_data capacity)
    (member (codes "cuts") (list_data cut_data terms.cuts)
    (member (codes "nodes") (list_data (node_data true) nodes)
    (member (codes "orders") (list_data (list_data place_data) orders)
    (member (codes "step") (number_data terms.step)
    (member (codes "version") (number_data 3) no_members))))))

-- a certificate of the third form with a cart
abbrev pub loaded_third_data : List (List WrittenSlot) → LoadedCart → WrittenTerms → ℕ → List Node → Data
loaded_third_data orders cart terms capacity nodes = object
    (member (codes "capacity") (number_data capacity)
    (member (codes "cuts") (list_data cut_data terms.cuts)
    (member (codes "loads") (list_data number_data cart.loads)
    (member (codes "nodes") (list_data (node_data true) nodes)
    (member (codes "orders") (list_data (list_data place_data) orders)
    (member (codes "step") (number_data terms.step)
    (member (codes "units") (number_data cart.units)
    (member (codes "version") (number_data 3) no_members))))))))

-- a certificate, with a cart where there is one, and of the third form where it has a step and cuts
abbrev pub certificate_data : List (List WrittenSlot) → Option LoadedCart → Option WrittenTerms → ℕ → List Node → Data
certificate_data orders None None capacity nodes = plain_data orders capacity nodes
certificate_data orders (Some cart) None capacity nodes = loaded_data orders cart capacity nodes
certificate_data orders None (Some terms) capacity nodes = third_data orders terms capacity nodes
certificate_data orders (Some cart) (Some terms) capacity nodes = loaded_third_data orders cart terms capacity nodes

-- the slots of a set, in the order of their aisles and then of their slots, each once
abbrev pub order_places : Layout → List Point → List WrittenSlot
order_places layout points = map place_of (points_where layout (has_point points))

-- the slots of each order of a wave
abbrev pub wave_places : WavePicks → List (List WrittenSlot)
wave_places wave = map (λ picks. order_places wave.layout picks.points) wave.orders

-- the step of a layout, and these cuts
abbrev pub step_and_cuts : Layout → List CutParts → WrittenTerms
step_and_cuts layout cuts = record { step = layout_step layout; cuts = cuts }

-- a tree of the third form has the layout's step besides its cuts
abbrev pub terms_written : Layout → Option (List CutParts) → Option WrittenTerms
terms_written layout cuts = option_map (step_and_cuts layout) cuts

-- the text of a certificate, with nothing between its parts
unfoldable pub certificate_text : WavePicks → ℕ → Tree → List ℕ
certificate_text wave capacity tree = compact_text
    (certificate_data (wave_places wave) wave.cart (terms_written wave.layout tree.cuts) capacity tree.nodes)

-- no dual or price is above the greatest dual; in the first two forms neither batches nor cuts have one
abbrev pub HaveDualsWithin : Tree → Type 0
HaveDualsWithin tree = IsTrue (list_all (is_node_within (is_some tree.cuts)) tree.nodes)

-- a number of 32 bits
abbrev pub IsPosition : ℕ → Type 0
IsPosition n = n < 2 ^ 32

-- a cut as the code keeps it: its numbers are of 32 bits
pub record IsKeptCut (cut : CutParts) : Type 0 where
  pub divisor : IsPosition cut.divisor
  pub orders : All IsPosition cut.orders
  pub parts : All IsPosition cut.parts

-- so are the cuts of a tree
abbrev pub AreKeptCuts : Option (List CutParts) → Type 0
AreKeptCuts None = ⊤
AreKeptCuts (Some cuts) = All IsKeptCut cuts

-- the tight batches are batches
abbrev pub AreTightBatches : Option Own → Type 0
AreTightBatches None = ⊤
AreTightBatches (Some own) = All IsBatch own.tight

-- a node as the code keeps it: its orders are numbers of 32 bits, and its batches are batches
abbrev pub IsKeptNode : Node → Type 0
IsKeptNode (node.Leaf own) = AreTightBatches own
IsKeptNode (node.Split first second own) = IsPosition first × IsPosition second × AreTightBatches own
IsKeptNode (node.Dead order) = IsPosition order

-- a slot of an order
abbrev pub point_data : Point → Data
point_data point = place_data (place_of point)

-- what an order picks at
abbrev pub order_data : Layout → PickSet → Data
order_data layout picks = list_data place_data (order_places layout picks.points)

-- the slots among the first of an aisle at which an order picks
abbrev pub aisle_points : List Point → ℕ → ℕ → List Point
aisle_points points aisle slots = points_in aisle (filter (has_point points aisle) (range_with_len 1 slots))

-- the slots in the first aisles at which an order picks
abbrev pub aisles_points : Layout → List Point → ℕ → List Point
aisles_points layout points aisles = flat_map (λ aisle. points_in aisle (slots_where layout (has_point points) aisle))
    (range_with_len 1 aisles)

-- all orders pick at slots of the layout
abbrev pub HaveSlots : Layout → List PickSet → Type 0
HaveSlots layout orders = All (λ picks. AreSlots layout picks.points) orders
