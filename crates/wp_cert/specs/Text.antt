-- What a value of JSON says: the form of a certificate, and which numbers it may have.
use Rattle.std.specs.Prelude.{◌≡◌, ℕ, ◌+◌, ◌^◌, ◌==◌, ◌&&◌, ◌↔◌, Bool, true, false, List, [], ◌∷◌, Contains, Option}
use Rattle.std.specs.Prelude.{Some, None, option_map}
use Rattle.std.specs.Prelude.{option_and_then}
use Rattle.std.specs.Prelude.{Result, Ok, Err, if◌then◌else◌, is_none, is_some, nat_le, nat_lt, length, codes, bytes_eq}
use Rattle.std.specs.List.{AllZip, list_all}
use Rattle.std.specs.Option.{ok_or, option_map_or}
use Rattle.std.specs.Str.{is_utf8}
use Rattle.serde_json.specs.Data.{Data, Items, no_items, item}
use Rattle.serde_json.specs.Events.{members_len}
use Rattle.serde_json.specs.Find.{as_array, as_number, as_object, as_str, as_u64, at, get}
use Rattle.serde_json.specs.Read.{read}
use Rattle.wp_model.specs.declared.point.Point.{Point}
use Rattle.wp_model.specs.Outcomes.{and_then}
use Rattle.wp_model.specs.Limits.{most_cart_units}
use Rattle.wp_model.specs.Warehouse.{Layout}
use Rattle.wp_graph.specs.PickSets.{PickSet}
use Rattle.wp_pairs.specs.Carts.{LoadedCart}
use Rattle.wp_lengths.specs.Waves.{HaveSamePicks, WavePicks}
use Rattle.wp_lengths.specs.Duals.{greatest_dual}
use Rattle.wp_cuts.specs.Cuts.{CutParts}
use Rattle.wp_cuts.specs.Steps.{layout_step}
use Rattle.wp_cert.specs.declared.tree.CertWhy.{CertWhy}
use Rattle.wp_cert.specs.declared.tree.CertWhy.TheVariants as why
use Rattle.wp_cert.specs.declared.tree.Node.{Node}
use Rattle.wp_cert.specs.declared.tree.Node.TheVariants as node
use Rattle.wp_cert.specs.declared.tree.Own.{Own}
use Rattle.wp_cert.specs.declared.tree.Tree.{Tree}
use Rattle.wp_cert.specs.declared.text.form.Form.{Form}
use Rattle.wp_cert.specs.declared.text.form.WrittenCart.{WrittenCart}
use Rattle.wp_cert.specs.declared.text.form.WrittenSlot.{WrittenSlot}
use Rattle.wp_cert.specs.declared.text.form.WrittenTerms.{WrittenTerms}
use Rattle.wp_cert.specs.declared.text.form.Unread.{Unread}
use Rattle.wp_cert.specs.declared.text.form.Unread.TheVariants as unread

-- ---- values

-- what is read of each, where it is read of every one
abbrev pub each_of : {A B : Type 0} → (A → Option B) → List A → Option (List B)
each_of read [] = Some []
each_of read (x ∷ xs) = option_and_then (λ y. option_map (λ ys. y ∷ ys) (each_of read xs)) (read x)

-- what each item says, where each says something
abbrev pub each_said : {A : Type 0} → (Data → Option A) → Items → Option (List A)
each_said said no_items = Some []
each_said said (item value values) = option_and_then (λ x. option_map (λ xs. x ∷ xs) (each_said said values))
    (said value)

-- a list of values, each of which says something
abbrev pub list_said : {A : Type 0} → (Data → Option A) → Data → Option (List A)
list_said said value = option_and_then (each_said said) (as_array value)

-- what the value at a key says
abbrev pub said_at : {A : Type 0} → (Data → Option A) → List ℕ → Data → Option A
said_at said key value = option_and_then said (get key value)

-- a whole number
abbrev pub number_said : Data → Option ℕ
number_said value = option_and_then as_u64 (as_number value)

-- a number from the one bound on, and below the other
abbrev pub within : ℕ → ℕ → ℕ → Option ℕ
within least end n = if nat_le least n && nat_lt n end then Some n else None

-- the place of an order: a whole number of 32 bits
abbrev pub position_said : Data → Option ℕ
position_said value = option_and_then (within 0 (2 ^ 32)) (number_said value)

-- whether a value is an object with so many keys; an object has each key once
abbrev pub has_keys : ℕ → Data → Bool
has_keys count value = option_map_or (λ members. members_len members == count) (as_object value) false

-- ---- the parts of a certificate

-- a slot that an order picks at: the numbers of its aisle and of the slot in it, and nothing else
abbrev pub place_said : Data → Option WrittenSlot
place_said value =
    if is_none (at 2 value)
    then option_and_then
    (λ aisle. option_map (λ slot. record { aisle = aisle; slot = slot }) (option_and_then number_said (at 1 value)))
    (option_and_then number_said (at 0 value))
    else None

-- orders, each above the one before it; the first is at least this one, and all are below 64
abbrev pub orders_from : ℕ → Items → Option (List ℕ)
orders_from least no_items = Some []
orders_from least (item value values) =
    option_and_then (λ order. option_map (λ orders. order ∷ orders) (orders_from (order + 1) values))
    (option_and_then (within least 64) (number_said value))

-- a batch: orders in ascending order
abbrev pub batch_said : Data → Option (List ℕ)
batch_said value = option_and_then (orders_from 0) (as_array value)

-- a mark as a character
abbrev pub mark_said : ℕ → Option Bool
mark_said code = if code == 49 then Some true else (if code == 48 then Some false else None)

-- marks as a text
abbrev pub marks_said : Data → Option (List Bool)
marks_said value = option_and_then (each_of mark_said) (as_str value)

-- the duals, the marks and the tight batches of a node; nothing else has a price
abbrev pub plain_own_said : Data → Option Own
plain_own_said value =
    option_and_then (λ duals. option_and_then
    (λ marks. option_map
    (λ tight. record { duals = duals; marks = marks; tight = tight; count = 0; prices = [] })
    (said_at (list_said batch_said) (codes "tight") value)) (said_at marks_said (codes "marks") value))
    (said_at (list_said number_said) (codes "duals") value)

-- what a node has of its own, with these prices
abbrev pub with_prices : Own → ℕ → List ℕ → Own
with_prices own count prices
    = record { duals = own.duals; marks = own.marks; tight = own.tight; count = count; prices = prices }

-- it has besides what each batch pays, and a price for each cut
abbrev pub priced_said : Data → Own → Option Own
priced_said value own =
    option_and_then (λ count. option_map (λ prices. with_prices own count prices)
    (said_at (list_said number_said) (codes "prices") value)) (said_at number_said (codes "count") value)

-- what a node has of its own: in the third form with prices
abbrev pub own_said : Bool → Data → Option Own
own_said third value = option_and_then (λ own. if third then priced_said value own else Some own) (plain_own_said value)

-- so many keys, and in the third form two more
abbrev pub keys_in : Bool → ℕ → ℕ
keys_in third count = if third then count + 2 else count

-- a leaf that keeps its parent's duals
abbrev pub kept_said : Data → Option Node
kept_said value = if has_keys 1 value then Some (node.Leaf None) else None

-- a leaf with duals of its own
abbrev pub leaf_said : Bool → Data → Option Node
leaf_said third value = if has_keys (keys_in third 4) value
    then option_map (λ own. node.Leaf (Some own)) (own_said third value) else None

-- what a split has of its own: all of it or nothing
abbrev pub split_own_said : Bool → Data → Option (Option Own)
split_own_said third value = if has_keys 3 value then Some None
    else (if has_keys (keys_in third 6) value then option_map (λ own. Some own) (own_said third value) else None)

-- a split on a pair of orders
abbrev pub split_said : Bool → Data → Option Node
split_said third value =
    option_and_then (λ first. option_and_then (λ second. option_map (λ own. node.Split first second own)
    (split_own_said third value)) (said_at position_said (codes "second") value))
    (said_at position_said (codes "first") value)

-- a leaf with an order that no permitted batch holds
abbrev pub dead_said : Data → Option Node
dead_said value = if has_keys 2 value then option_map (λ order. node.Dead order)
    (said_at position_said (codes "order") value) else None

-- a node of this kind
abbrev pub node_of_kind : Bool → Data → List ℕ → Option Node
node_of_kind third value kind =
    if bytes_eq kind (codes "kept") then kept_said value
    else (if bytes_eq kind (codes "leaf") then leaf_said third value
    else (if bytes_eq kind (codes "split") then split_said third value
    else (if bytes_eq kind (codes "dead") then dead_said value else None)))

-- a node
abbrev pub node_said : Bool → Data → Option Node
node_said third value = option_and_then (node_of_kind third value) (said_at as_str (codes "kind") value)

-- the units of a cart, and what each order loads
abbrev pub cart_said : Data → Option WrittenCart
cart_said value =
    option_and_then (λ units. option_map (λ loads. record { units = units; loads = loads })
    (said_at (list_said number_said) (codes "loads") value))
    (said_at number_said (codes "units") value)

-- a cut: a divisor, orders and parts, which are whole numbers of 32 bits, and nothing else
abbrev pub cut_said : Data → Option CutParts
cut_said value =
    if has_keys 3 value then option_and_then (λ divisor. option_and_then (λ orders. option_map
    (λ parts. record { divisor = divisor; orders = orders; parts = parts })
    (said_at (list_said position_said) (codes "parts") value))
    (said_at (list_said position_said) (codes "orders") value))
    (said_at position_said (codes "divisor") value) else None

-- what the third form has besides: the layout's step, and cuts
abbrev pub written_terms_said : Data → Option WrittenTerms
written_terms_said value =
    option_and_then (λ step. option_map (λ cuts. record { step = step; cuts = cuts })
    (said_at (list_said cut_said) (codes "cuts") value))
    (said_at number_said (codes "step") value)

-- a certificate with a step is of the third form
abbrev pub terms_said : Data → Option (Option WrittenTerms)
terms_said value = if is_none (get (codes "step") value) then Some None
    else option_map (λ terms. Some terms) (written_terms_said value)

-- the cart of a certificate: none where it has no more keys than its four parts, and one where it has two keys more
abbrev pub any_cart_said : Bool → Data → Option (Option WrittenCart)
any_cart_said third value =
    if has_keys (keys_in third 4) value then Some None
    else (if has_keys (keys_in third 6) value then option_map (λ cart. Some cart) (cart_said value) else None)

-- the four parts of a certificate that has this cart or none, and is of the third form or not
abbrev pub parts_said : Option WrittenTerms → Option WrittenCart → Data → Option Form
parts_said terms cart value =
    option_and_then (λ version. option_and_then (λ capacity. option_and_then (λ orders. option_map
    (λ nodes. record {
      version = version;
      capacity = capacity;
      cart = cart;
      orders = orders;
      nodes = nodes;
      terms = terms;
    })
    (said_at (list_said (node_said (is_some terms))) (codes "nodes") value))
    (said_at (list_said (list_said place_said)) (codes "orders") value))
    (said_at number_said (codes "capacity") value))
    (said_at number_said (codes "version") value)

-- the form of a certificate: an object with its four parts, with both keys of a cart or with neither, with both keys of
-- the third form or with neither, and with no other key
abbrev pub form_said : Data → Option Form
form_said value = option_and_then (λ terms. option_and_then (λ cart. parts_said terms cart value)
    (any_cart_said (is_some terms) value)) (terms_said value)

-- ---- ranges

-- whether a number is from 1 to this one
abbrev pub is_up_to : ℕ → ℕ → Bool
is_up_to most n = nat_le 1 n && nat_le n most

-- whether a place is a slot of the layout
abbrev pub is_slot_of : Layout → WrittenSlot → Bool
is_slot_of layout place = is_up_to layout.aisles place.aisle && is_up_to layout.slots place.slot

-- whether an order picks at some slots, which are slots of the layout
abbrev pub is_order_of : Layout → List WrittenSlot → Bool
is_order_of layout places = nat_le 1 (length places) && list_all (is_slot_of layout) places

-- whether a price is within its range
abbrev pub is_price : ℕ → Bool
is_price price = nat_le price greatest_dual

-- whether batches and cuts have prices within their range: in the first two forms none
abbrev pub are_priced : Bool → Own → Bool
are_priced third own = if third then is_price own.count && list_all is_price own.prices
    else (own.count == 0) && (length own.prices == 0)

-- whether the duals and prices, where there are some, are all within their range
abbrev pub are_duals_within : Bool → Option Own → Bool
are_duals_within third None = true
are_duals_within third (Some own) = list_all is_price own.duals && are_priced third own

-- whether the duals and prices of a node are within their range
abbrev pub is_node_within : Bool → Node → Bool
is_node_within third (node.Leaf own) = are_duals_within third own
is_node_within third (node.Split first second own) = are_duals_within third own
is_node_within third (node.Dead order) = true

-- the version of a certificate of the third form, that of one without a cart, and that of one with a cart
abbrev pub version_of : Bool → Option WrittenCart → ℕ
version_of true cart = 3
version_of false None = 1
version_of false (Some cart) = 2

-- whether the step, where there is one, is the layout's
abbrev pub is_step_of : Layout → Option WrittenTerms → Bool
is_step_of layout None = true
is_step_of layout (Some terms) = terms.step == layout_step layout

-- whether the units are those of a cart, each of so many orders has a load, and none loads more than the cart holds
abbrev pub is_cart_for : ℕ → WrittenCart → Bool
is_cart_for orders cart =
    is_up_to most_cart_units cart.units && ((length cart.loads == orders) && list_all
    (λ load. nat_le load cart.units) cart.loads)

-- whether the cart, where there is one, is a cart for so many orders
abbrev pub is_any_cart_for : ℕ → Option WrittenCart → Bool
is_any_cart_for orders None = true
is_any_cart_for orders (Some cart) = is_cart_for orders cart

-- whether version, capacity, orders, duals and prices, cart and step are in their ranges
abbrev pub is_within : Layout → Form → Bool
is_within layout form =
    (form.version == version_of (is_some form.terms) form.cart)
    && (is_up_to 8 form.capacity && (is_up_to 64 (length form.orders)
    && (list_all (is_order_of layout) form.orders &&
    (list_all (is_node_within (is_some form.terms)) form.nodes
    && (is_any_cart_for (length form.orders) form.cart && is_step_of layout form.terms)))))

-- ---- the whole text

-- what a part that isn't read is told as
abbrev pub why_unread : Unread → CertWhy
why_unread unread.BadShape = why.BadShape
why_unread unread.Memory = why.Memory

-- the value that bytes are read as: they must be text, and the text must be JSON
abbrev pub value_read : List ℕ → Result Data CertWhy
value_read bytes = ok_or (if is_utf8 bytes then read bytes else None) why.NotJson

-- the form comes first, and then the ranges
abbrev pub value_says : Layout → Data → Result Form CertWhy
value_says layout value =
    and_then (ok_or (form_said value) why.BadShape) (λ form. if is_within layout form then Ok form
    else Err why.OutOfRange)

-- what the bytes of a certificate say, or why they say none
abbrev pub certificate_said : Layout → List ℕ → Result Form CertWhy
certificate_said layout bytes = and_then (value_read bytes) (value_says layout)

-- a point as the text has it
abbrev pub place_of : Point → WrittenSlot
place_of point = record { aisle = point.aisle; slot = point.slot }

-- an order picks just at the slots that the text has for it
abbrev pub PicksAt : PickSet → List WrittenSlot → Type 0
PicksAt picks places = (p : Point) → Contains picks.points p ↔ Contains places (place_of p)

-- each order picks just at the slots that the text has for it
abbrev pub PickAt : List PickSet → List (List WrittenSlot) → Type 0
PickAt orders places = AllZip PicksAt orders places

-- the cart that the text has
abbrev pub loaded_cart : WrittenCart → LoadedCart
loaded_cart cart = record { units = cart.units; loads = cart.loads }

-- the cuts of a tree of the third form
abbrev pub cuts_written : Option WrittenTerms → Option (List CutParts)
cuts_written terms = option_map (λ written. written.cuts) terms

-- the bytes of a certificate tell this wave of the layout, with its cart, if it has one, this capacity, and a tree of
-- these nodes and cuts
pub record Tells (layout : Layout) (bytes : List ℕ) (wave : WavePicks) (capacity : ℕ) (tree : Tree) : Type 0 where
  pub form : Form
  pub said : certificate_said layout bytes ≡ Ok form
  pub layout_is : wave.layout ≡ layout
  pub orders_pick : PickAt wave.orders form.orders
  pub cart_is : wave.cart ≡ option_map loaded_cart form.cart
  pub capacity_is : form.capacity ≡ capacity
  pub nodes_are : form.nodes ≡ tree.nodes
  pub cuts_are : cuts_written form.terms ≡ tree.cuts

-- what is read is this wave, this capacity and this tree: each order picks at the same slots, and the cart is the same
pub record IsSame (wave other : WavePicks) (capacity other_capacity : ℕ) (tree other_tree : Tree) : Type 0 where
  pub layout : wave.layout ≡ other.layout
  pub orders : HaveSamePicks wave.orders other.orders
  pub cart : wave.cart ≡ other.cart
  pub capacity_is : capacity ≡ other_capacity
  pub tree_is : tree ≡ other_tree
