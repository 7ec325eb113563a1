-- The value of a certificate says the certificate: what is printed is read again.
use Rattle.std.proofs.Common.{◌≡◌, ◌∙◌, ℕ, suc, ◌+◌, ◌<◌, ◌≤◌, ◌^◌, ◌==◌, Bool, true, false, List, [], ◌∷◌, map, length, All, Contains, Option, Some}
use Rattle.std.proofs.Common.{None, option_map, ap, ap₂, arith, refl, sym}
use Rattle.std.specs.List.{list_all}
use Rattle.std.specs.Prelude.{is_some}
use Rattle.std.proofs.lemmas.Bool.{and_parts}
use Rattle.std.proofs.lemmas.Bool.Decides.{nat_tests}
use Rattle.std.specs.List.Sorted.{IsStrictlyIncreasing}
use Rattle.std.proofs.lemmas.List.Elements.{All-cons, All-contains, All-head, All-tail}
use Rattle.serde_json.specs.Data.{Data}
use Rattle.serde_json.specs.View.{items_of}
use Rattle.wp_pairs.proofs.Members.{contains_first, contains_later}
use Rattle.wp_pairs.specs.Batches.{IsBatch}
use Rattle.wp_pairs.specs.Carts.{LoadedCart}
use Rattle.wp_cert.specs.declared.text.form.Form.{Form}
use Rattle.wp_cert.specs.declared.text.form.WrittenCart.{WrittenCart}
use Rattle.wp_cert.specs.declared.text.form.WrittenSlot.{WrittenSlot}
use Rattle.wp_cert.specs.declared.tree.Node.{Node}
use Rattle.wp_cert.specs.declared.tree.Node.TheVariants as node
use Rattle.wp_cuts.specs.Cuts.{CutParts}
use Rattle.wp_cert.specs.declared.text.form.WrittenTerms.{WrittenTerms}
use Rattle.wp_cert.specs.declared.tree.Own.{Own}
use Rattle.wp_cert.specs.Text.{are_duals_within, batch_said, cut_said, each_of, each_said, form_said, is_node_within, is_price, list_said, mark_said}
use Rattle.wp_cert.specs.Text.{node_said, number_said, orders_from, place_said, position_said, version_of, within}
use Rattle.wp_cert.specs.TextData.{IsKeptCut, IsKeptNode, IsPosition, batch_data, certificate_data, cut_data, list_data, mark_code, node_data}
use Rattle.wp_cert.specs.TextData.{number_data, place_data}
use Rattle.wp_cert.proofs.TextBatches.{head_below, tail_ascends}

-- ---- what is said again

-- a list says what it shows, where each item does
said_again : {A : Type 0} (said : Data → Option A) (shown : A → Data) (Kept : A → Type 0) → ((x : A) → Kept x → said (shown x) ≡ Some x)
    → (xs : List A) → All Kept xs → each_said said (items_of (map shown xs)) ≡ Some xs
said_again said shown Kept again [] all = refl
said_again said shown Kept again (x ∷ xs) all =
    rw (again x (All-head Kept x xs all), said_again said shown Kept again xs (All-tail Kept x xs all)) refl

numbers_again : (xs : List ℕ) → each_said number_said (items_of (map number_data xs)) ≡ Some xs
numbers_again [] = refl
numbers_again (x ∷ xs) = rw (numbers_again xs) refl

within_again : (least end n : ℕ) → least ≤ n → n < end → within least end n ≡ Some n
within_again least end n low high = grind arith

orders_again : (least : ℕ) (xs : List ℕ) → IsStrictlyIncreasing xs → ((x : ℕ) → Contains xs x → (least ≤ x) × (x < 64))
    → orders_from least (items_of (map number_data xs)) ≡ Some xs
orders_again least [] up bounds = refl
orders_again least (x ∷ xs) up bounds =
    let here = bounds x (contains_first x xs) in
    rw (
      within_again least 64 x here.0 here.1,
      orders_again (x + 1) xs (tail_ascends x xs up)
          (λ y has. let above = head_below x xs up y has in let most = bounds y (contains_later x y xs has) in (omega arith, most.1)),
    ) refl

-- a batch is said again
pub batch_again : (batch : List ℕ) → IsBatch batch → batch_said (batch_data batch) ≡ Some batch
batch_again batch is = orders_again 0 batch is.ascending (λ x has. (omega arith, All-contains (λ (order : ℕ). order < 64) batch x is.below has))

mark_again : (mark : Bool) → mark_said (mark_code mark) ≡ Some mark
mark_again true = refl
mark_again false = refl

marks_again : (marks : List Bool) → each_of mark_said (map mark_code marks) ≡ Some marks
marks_again [] = refl
marks_again (mark ∷ marks) = rw (mark_again mark, marks_again marks) refl

batches_again : (batches : List (List ℕ)) → All IsBatch batches → each_said batch_said (items_of (map batch_data batches)) ≡ Some batches
batches_again batches all = said_again batch_said batch_data IsBatch batch_again batches all

place_again : (place : WrittenSlot) → place_said (place_data place) ≡ Some place
place_again place = refl

order_again : (places : List WrittenSlot) → list_said place_said (list_data place_data places) ≡ Some places
order_again [] = refl
order_again (place ∷ places) = rw (order_again places) refl

orders_all_again : (orders : List (List WrittenSlot)) → each_said (list_said place_said) (items_of (map (list_data place_data) orders)) ≡ Some orders
orders_all_again [] = refl
orders_all_again (places ∷ orders) = rw (order_again places, orders_all_again orders) refl

position_again : (n : ℕ) → IsPosition n → within 0 (2 ^ 32) n ≡ Some n
position_again n small = within_again 0 (2 ^ 32) n (omega arith) small

positions_again : (xs : List ℕ) → All IsPosition xs → each_said position_said (items_of (map number_data xs)) ≡ Some xs
positions_again xs all = said_again position_said number_data IsPosition position_again xs all

-- a cut is said again
pub cut_again : (cut : CutParts) → IsKeptCut cut → cut_said (cut_data cut) ≡ Some cut
cut_again cut kept =
    rw (position_again cut.divisor kept.divisor, positions_again cut.orders kept.orders, positions_again cut.parts kept.parts) refl

cuts_again : (cuts : List CutParts) → All IsKeptCut cuts → each_said cut_said (items_of (map cut_data cuts)) ≡ Some cuts
cuts_again cuts all = said_again cut_said cut_data IsKeptCut cut_again cuts all

-- what a node has of its own in the first two forms, where nothing but duals has a price
as_plain : Own → Own
as_plain own = record { duals = own.duals; marks = own.marks; tight = own.tight; count = 0; prices = [] }

no_items_in : (xs : List ℕ) → (length xs == 0) ≡ true → xs ≡ []
no_items_in [] none = refl
no_items_in (x ∷ xs) none = absurd (none_of (length xs) none)
  where
    none_of : (n : ℕ) → (suc n == 0) ≡ true → ⊥
    none_of n h = grind (arith, nat_tests, h)

is_plain : (own : Own) → are_duals_within false (Some own) ≡ true → as_plain own ≡ own
unfolding as_plain
is_plain own within =
    let priced = and_parts (own.count == 0) _ (and_parts (list_all is_price own.duals) _ within).1 in
    let none : own.count ≡ 0 = zero_of own.count priced.0 in
    ap₂ (λ (n : ℕ) (ps : List ℕ). record { duals = own.duals; marks = own.marks; tight = own.tight; count = n; prices = ps }) (sym none)
    (sym (no_items_in own.prices priced.1))
  where
    zero_of : (n : ℕ) → (n == 0) ≡ true → n ≡ 0
    zero_of n h = grind (arith, nat_tests, h)

-- a node is said again
plain_again : (tree_node : Node) → IsKeptNode tree_node → is_node_within false tree_node ≡ true
    → node_said false (node_data false tree_node) ≡ Some tree_node
unfolding as_plain
plain_again (node.Leaf None) kept within = refl
plain_again (node.Leaf (Some own)) kept within =
    let said : node_said false (node_data false (node.Leaf (Some own))) ≡ Some (node.Leaf (Some (as_plain own))) =
    rw (numbers_again own.duals, marks_again own.marks, batches_again own.tight kept) refl in
    said ∙ ap (λ (o : Own). Some (node.Leaf (Some o))) (is_plain own within)
plain_again (node.Split first second None) kept within = rw (position_again first kept.0, position_again second kept.1) refl
plain_again (node.Split first second (Some own)) kept within =
    let said : node_said false (node_data false (node.Split first second (Some own))) ≡ Some (node.Split first second (Some (as_plain own))) =
    rw (position_again first kept.0, position_again second kept.1, numbers_again own.duals, marks_again own.marks, batches_again own.tight kept.2) refl in
    said ∙ ap (λ (o : Own). Some (node.Split first second (Some o))) (is_plain own within)
plain_again (node.Dead order) kept within = rw (position_again order kept) refl

priced_again : (tree_node : Node) → IsKeptNode tree_node → node_said true (node_data true tree_node) ≡ Some tree_node
priced_again (node.Leaf None) kept = refl
priced_again (node.Leaf (Some own)) kept =
    rw (numbers_again own.duals, marks_again own.marks, batches_again own.tight kept, numbers_again own.prices) refl
priced_again (node.Split first second None) kept = rw (position_again first kept.0, position_again second kept.1) refl
priced_again (node.Split first second (Some own)) kept = rw (
  position_again first kept.0,
  position_again second kept.1,
  numbers_again own.duals,
  marks_again own.marks,
  batches_again own.tight kept.2,
  numbers_again own.prices,
) refl
priced_again (node.Dead order) kept = rw (position_again order kept) refl

-- what is known of a node that is printed
abbrev pub KeptWithin : Bool → Node → Type 0
KeptWithin third tree_node = IsKeptNode tree_node × (is_node_within third tree_node ≡ true)

pub node_again : (third : Bool) (tree_node : Node) → KeptWithin third tree_node → node_said third (node_data third tree_node) ≡ Some tree_node
node_again false tree_node kept = plain_again tree_node kept.0 kept.1
node_again true tree_node kept = priced_again tree_node kept.0

nodes_again : (third : Bool) (nodes : List Node) → All (KeptWithin third) nodes
    → each_said (node_said third) (items_of (map (node_data third) nodes)) ≡ Some nodes
nodes_again third nodes all = said_again (node_said third) (node_data third) (KeptWithin third) (node_again third) nodes all

-- all nodes that are kept and within their ranges are so
kept_within : (third : Bool) (nodes : List Node) → All IsKeptNode nodes → list_all (is_node_within third) nodes ≡ true → All (KeptWithin third) nodes
kept_within third [] all within = λ k d low. absurd (omega (arith, low))
kept_within third (tree_node ∷ nodes) all within =
    let both = and_parts (is_node_within third tree_node) _ within in
    All-cons (KeptWithin third) tree_node nodes (All-head IsKeptNode tree_node nodes all, both.0)
    (kept_within third nodes (All-tail IsKeptNode tree_node nodes all) both.1)

-- a cart as it is printed
abbrev pub written_cart : LoadedCart → WrittenCart
written_cart cart = record { units = cart.units; loads = cart.loads }

-- the form that is printed
abbrev pub printed_form : List (List WrittenSlot) → Option LoadedCart → Option WrittenTerms → ℕ → List Node → Form
printed_form orders cart terms capacity nodes =
    let written = option_map written_cart cart in
    record { version = version_of (is_some terms) written; capacity = capacity; cart = written; orders = orders; nodes = nodes; terms = terms }

-- the cuts of what is printed are as the code keeps them
abbrev pub AreKeptTerms : Option WrittenTerms → Type 0
AreKeptTerms None = Unit {0}
AreKeptTerms (Some terms) = All IsKeptCut terms.cuts

-- the form of a certificate is said again
pub form_again : (orders : List (List WrittenSlot)) (cart : Option LoadedCart) (terms : Option WrittenTerms) (capacity : ℕ) (nodes : List Node)
    → All IsKeptNode nodes → list_all (is_node_within (is_some terms)) nodes ≡ true → AreKeptTerms terms
    → form_said (certificate_data orders cart terms capacity nodes) ≡ Some (printed_form orders cart terms capacity nodes)
form_again orders None None capacity nodes all within cuts =
    rw (nodes_again false nodes (kept_within false nodes all within), orders_all_again orders) refl
form_again orders (Some cart) None capacity nodes all within cuts =
    rw (numbers_again cart.loads, nodes_again false nodes (kept_within false nodes all within), orders_all_again orders) refl
form_again orders None (Some terms) capacity nodes all within cuts =
    rw (cuts_again terms.cuts cuts, nodes_again true nodes (kept_within true nodes all within), orders_all_again orders) refl
form_again orders (Some cart) (Some terms) capacity nodes all within cuts =
    rw (cuts_again terms.cuts cuts, numbers_again cart.loads, nodes_again true nodes (kept_within true nodes all within), orders_all_again orders) refl
