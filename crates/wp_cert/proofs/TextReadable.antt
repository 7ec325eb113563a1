-- The compact text of a certificate's value is text, and is read as that value.
use Rattle.std.proofs.Common.{◌≡◌, ◌∙◌, refl, sym, ap, ap₂, subst, ℕ, suc, ◌<◌, ◌≤◌, ◌^◌, max, Bool, true, false, List, [], ◌∷◌, map, All, arith, append-nil}
use Rattle.std.proofs.Common.{IsUtf8}
use Rattle.std.specs.Prelude.{Option, Some, None, codes, option_and_then, option_map}
use Rattle.std.specs.Fmt.{decimal}
use Rattle.std.proofs.lemmas.Fmt.{IsAscii-decimal}
use Rattle.std.proofs.lemmas.List.Elements.{All-head, All-tail}
use Rattle.std.proofs.lemmas.Str.{IsUtf8-append, IsUtf8-from_ascii, IsUtf8-nil}
use Rattle.json.proofs.Printed.Decimals.{IsNumber-decimal}
use Rattle.json.proofs.Printed.Tokens.{tokens-print}
use Rattle.json.proofs.Printed.Trees.{ArePrintable-json_tokens, value-json_tokens}
use Rattle.json.proofs.Printed.Utf8.{IsUtf8-are_ascii, IsUtf8-quoted}
use Rattle.json.specs.Json as json
use Rattle.json.specs.Print.{quoted}
use Rattle.json.specs.Tree.{HasNumbers, ItemsHaveNumbers, MembersHaveNumbers, json_tokens}
use Rattle.json.specs.Token.{Token}
use Rattle.json.specs.Tree as tree
use Rattle.serde_json.specs.Data.{Data, Items, Members, array, boolean, depth, item, items_depth, member, members_depth, no_items, no_members, null}
use Rattle.serde_json.specs.Data.{number, object, string}
use Rattle.serde_json.specs.Read.{max_depth, of_items, of_json, of_members, read}
use Rattle.serde_json.specs.View.{items_of}
use Rattle.serde_json.specs.Written.{comma_if, compact_text, items_outline, items_text, members_outline, members_text, outline}
use Rattle.serde_json.proofs.Numbers.{number_of-decimal}
use Rattle.serde_json.proofs.Texts.{print-outline}
use Rattle.wp_pairs.specs.Carts.{LoadedCart}
use Rattle.wp_cert.specs.declared.text.form.WrittenSlot.{WrittenSlot}
use Rattle.wp_cert.specs.declared.tree.Node.{Node}
use Rattle.wp_cert.specs.declared.tree.Node.TheVariants as node
use Rattle.wp_cert.specs.declared.tree.Own.{Own}
use Rattle.wp_cuts.specs.Cuts.{CutParts}
use Rattle.wp_cert.specs.declared.text.form.WrittenTerms.{WrittenTerms}
use Rattle.wp_cert.specs.TextData.{batch_data, certificate_data, cut_data, list_data, mark_code, node_data, number_data, place_data}
use Rattle.wp_cert.proofs.TextPlain.{shallow_certificate}

-- ---- values in general

-- a value's text is text, its numbers are numbers, and it says the value
pub record IsReadable (value : Data) : Type 0 where
  pub said : of_json (outline value) ≡ Some value
  pub numbers : HasNumbers (outline value)
  pub utf8 : IsUtf8 (compact_text value)

-- so it is with each item
pub record AreReadable (values : Items) : Type 0 where
  pub said : of_items (items_outline values) ≡ Some values
  pub numbers : ItemsHaveNumbers (items_outline values)
  pub utf8 : (later : Bool) → IsUtf8 (items_text later values)

-- and with the value of each member, whose keys are text
pub record HaveReadable (members : Members) : Type 0 where
  pub numbers : MembersHaveNumbers (members_outline members)
  pub utf8 : (later : Bool) → IsUtf8 (members_text later members)

comma : (later : Bool) → IsUtf8 (comma_if later)
comma true = IsUtf8-are_ascii (44 ∷ []) refl
comma false = IsUtf8-nil

number_readable : (n : ℕ) → n < 2 ^ 64 → IsReadable (number_data n)
number_readable n small = record {
  said = ap (option_map number) (number_of-decimal n small);
  numbers = IsNumber-decimal n small;
  utf8 = IsUtf8-from_ascii (decimal n) (IsAscii-decimal n small);
}

text_readable : (bytes : List ℕ) → IsUtf8 bytes → IsReadable (string bytes)
text_readable bytes utf8 = record { said = refl; numbers = tt; utf8 = IsUtf8-quoted bytes utf8 }

items_readable : {A : Type 0} (shown : A → Data) (Kept : A → Type 0) → ((x : A) → Kept x → IsReadable (shown x)) → (xs : List A) → All Kept xs
    → AreReadable (items_of (map shown xs))
items_readable shown Kept readable [] all = record { said = refl; numbers = tt; utf8 = λ later. IsUtf8-are_ascii (93 ∷ []) refl }
items_readable shown Kept readable (x ∷ xs) all =
    let first = readable x (All-head Kept x xs all) in
    let others = items_readable shown Kept readable xs (All-tail Kept x xs all) in record {
      said = rw (first.said, others.said) refl;
      numbers = (first.numbers, others.numbers);
      utf8 = λ later. IsUtf8-append (comma_if later) _ (comma later) (IsUtf8-append (compact_text (shown x)) _ first.utf8 (others.utf8 true));
    }

array_readable : (values : Items) → AreReadable values → IsReadable (array values)
array_readable values each = record {
  said = ap (option_map array) each.said;
  numbers = each.numbers;
  utf8 = IsUtf8-append (91 ∷ []) (items_text false values) (IsUtf8-are_ascii (91 ∷ []) refl) (each.utf8 false);
}

list_readable : {A : Type 0} (shown : A → Data) (Kept : A → Type 0) → ((x : A) → Kept x → IsReadable (shown x)) → (xs : List A) → All Kept xs
    → IsReadable (list_data shown xs)
list_readable shown Kept readable xs all = array_readable (items_of (map shown xs)) (items_readable shown Kept readable xs all)

none_readable : HaveReadable no_members
none_readable = record { numbers = tt; utf8 = λ later. IsUtf8-are_ascii (125 ∷ []) refl }

member_readable : (key : List ℕ) (value : Data) (more : Members) → IsUtf8 key → IsReadable value → HaveReadable more
    → HaveReadable (member key value more)
member_readable key value more text is others = record {
  numbers = (is.numbers, others.numbers);
  utf8 = λ later. IsUtf8-append (comma_if later) _ (comma later) (IsUtf8-append (quoted key) _ (IsUtf8-quoted key text)
      (IsUtf8-append (58 ∷ []) _ (IsUtf8-are_ascii (58 ∷ []) refl) (IsUtf8-append (compact_text value) _ is.utf8 (others.utf8 true))));
}

object_readable : (members : Members) → of_members (members_outline members) no_members ≡ Some members → HaveReadable members → IsReadable (object members)
object_readable members said each = record {
  said = ap (option_map object) said;
  numbers = each.numbers;
  utf8 = IsUtf8-append (123 ∷ []) (members_text false members) (IsUtf8-are_ascii (123 ∷ []) refl) (each.utf8 false);
}

mutual
  outline_depth : (value : Data) → tree.depth (outline value) ≡ depth value
  outline_depth null = refl
  outline_depth (boolean b) = refl
  outline_depth (number n) = refl
  outline_depth (string bytes) = refl
  outline_depth (array values) = ap suc (items_outline_depth values)
  outline_depth (object members) = ap suc (members_outline_depth members)

  items_outline_depth : (values : Items) → tree.items_depth (items_outline values) ≡ items_depth values
  items_outline_depth no_items = refl
  items_outline_depth (item value values) = ap₂ (λ (m n : ℕ). max m n) (outline_depth value) (items_outline_depth values)

  members_outline_depth : (members : Members) → tree.members_depth (members_outline members) ≡ members_depth members
  members_outline_depth no_members = refl
  members_outline_depth (member key value members) = ap₂ (λ (m n : ℕ). max m n) (outline_depth value) (members_outline_depth members)

-- the value of a whole list of tokens
abbrev whole : Option (json.Json × List Token) → Option Data
whole found = option_and_then of_json (option_and_then (λ p. json.if_last p.0 p.1) found)

-- the compact text of such a value is read as the value
read_compact : (value : Data) → IsReadable value → depth value ≤ max_depth → read (compact_text value) ≡ Some value
read_compact value is shallow =
    subst (λ (bytes : List ℕ). read bytes ≡ Some value) (print-outline value)
    (ap whole (ap (json.value max_depth) (tokens-print (json_tokens (outline value)) (ArePrintable-json_tokens (outline value) is.numbers)
    ∙ sym (append-nil (json_tokens (outline value))))
    ∙ value-json_tokens (outline value) max_depth [] (omega (arith, outline_depth value, shallow))) ∙ is.said)

-- ---- the parts of a certificate

-- a number that a text may have
abbrev pub IsPrinted : ℕ → Type 0
IsPrinted n = n < 2 ^ 64

-- what a node has of its own, with numbers that a text may have
pub record IsPrintedOwn (own : Own) : Type 0 where
  pub count : IsPrinted own.count
  pub prices : All IsPrinted own.prices
  pub duals : All IsPrinted own.duals
  pub tight : All (All IsPrinted) own.tight

-- a node with numbers that a text may have
abbrev pub IsPrintedNode : Node → Type 0
IsPrintedNode (node.Leaf None) = Unit {0}
IsPrintedNode (node.Leaf (Some own)) = IsPrintedOwn own
IsPrintedNode (node.Split first second None) = IsPrinted first × IsPrinted second
IsPrintedNode (node.Split first second (Some own)) = IsPrinted first × IsPrinted second × IsPrintedOwn own
IsPrintedNode (node.Dead order) = IsPrinted order

-- a slot with such numbers
pub record IsPrintedPlace (place : WrittenSlot) : Type 0 where
  pub aisle : IsPrinted place.aisle
  pub slot : IsPrinted place.slot

-- a cart with such numbers, if there is one
abbrev pub IsPrintedCart : Option LoadedCart → Type 0
IsPrintedCart None = Unit {0}
IsPrintedCart (Some cart) = IsPrinted cart.units × All IsPrinted cart.loads

-- a cut with such numbers
pub record IsPrintedCut (cut : CutParts) : Type 0 where
  pub divisor : IsPrinted cut.divisor
  pub orders : All IsPrinted cut.orders
  pub parts : All IsPrinted cut.parts

-- a step and cuts with such numbers, if there are some
abbrev pub ArePrintedTerms : Option WrittenTerms → Type 0
ArePrintedTerms None = Unit {0}
ArePrintedTerms (Some terms) = IsPrinted terms.step × All IsPrintedCut terms.cuts

numbers_readable : (xs : List ℕ) → All IsPrinted xs → AreReadable (items_of (map number_data xs))
numbers_readable = items_readable number_data IsPrinted number_readable

batches_readable : (batches : List (List ℕ)) → All (All IsPrinted) batches → AreReadable (items_of (map batch_data batches))
batches_readable = items_readable batch_data (All IsPrinted) (list_readable number_data IsPrinted number_readable)

marks_utf8 : (marks : List Bool) → IsUtf8 (map mark_code marks)
marks_utf8 [] = IsUtf8-nil
marks_utf8 (true ∷ marks) = IsUtf8-append (49 ∷ []) _ (IsUtf8-are_ascii (49 ∷ []) refl) (marks_utf8 marks)
marks_utf8 (false ∷ marks) = IsUtf8-append (48 ∷ []) _ (IsUtf8-are_ascii (48 ∷ []) refl) (marks_utf8 marks)

place_readable : (place : WrittenSlot) → IsPrintedPlace place → IsReadable (place_data place)
place_readable place is =
    let aisle = number_readable place.aisle is.aisle in
    let slot = number_readable place.slot is.slot in
    array_readable (item (number_data place.aisle) (item (number_data place.slot) no_items)) (record {
      said = rw (number_of-decimal place.aisle is.aisle, number_of-decimal place.slot is.slot) refl;
      numbers = (aisle.numbers, (slot.numbers, tt));
      utf8 = λ later. IsUtf8-append (comma_if later) _ (comma later) (IsUtf8-append (decimal place.aisle) _ aisle.utf8
          (IsUtf8-append (44 ∷ []) _ (IsUtf8-are_ascii (44 ∷ []) refl) (IsUtf8-append (decimal place.slot) _ slot.utf8 (IsUtf8-are_ascii (93 ∷ []) refl))));
    })

orders_readable : (orders : List (List WrittenSlot)) → All (All IsPrintedPlace) orders → AreReadable (items_of (map (list_data place_data) orders))
orders_readable = items_readable (list_data place_data) (All IsPrintedPlace) (list_readable place_data IsPrintedPlace place_readable)

node_readable : (third : Bool) (tree_node : Node) → IsPrintedNode tree_node → IsReadable (node_data third tree_node)
node_readable false (node.Leaf None) is =
    object_readable _ refl (member_readable (codes "kind") _ _ (IsUtf8-are_ascii _ refl) (text_readable (codes "kept") (IsUtf8-are_ascii _ refl)) none_readable)
node_readable false (node.Leaf (Some own)) is =
    let duals = numbers_readable own.duals is.duals in
    let tight = batches_readable own.tight is.tight in
    object_readable _ (rw (duals.said, tight.said) refl)
    (member_readable (codes "duals") _ _ (IsUtf8-are_ascii _ refl) (array_readable _ duals)
    (member_readable (codes "kind") _ _ (IsUtf8-are_ascii _ refl) (text_readable (codes "leaf") (IsUtf8-are_ascii _ refl))
    (member_readable (codes "marks") _ _ (IsUtf8-are_ascii _ refl) (text_readable _ (marks_utf8 own.marks))
    (member_readable (codes "tight") _ _ (IsUtf8-are_ascii _ refl) (array_readable _ tight) none_readable))))
node_readable false (node.Split first second None) is =
    object_readable _ (rw (number_of-decimal first is.0, number_of-decimal second is.1) refl)
    (member_readable (codes "first") _ _ (IsUtf8-are_ascii _ refl) (number_readable first is.0)
    (member_readable (codes "kind") _ _ (IsUtf8-are_ascii _ refl) (text_readable (codes "split") (IsUtf8-are_ascii _ refl))
    (member_readable (codes "second") _ _ (IsUtf8-are_ascii _ refl) (number_readable second is.1) none_readable)))
node_readable false (node.Split first second (Some own)) is =
    let duals = numbers_readable own.duals is.2.duals in
    let tight = batches_readable own.tight is.2.tight in
    object_readable _ (rw (duals.said, number_of-decimal first is.0, number_of-decimal second is.1, tight.said) refl)
    (member_readable (codes "duals") _ _ (IsUtf8-are_ascii _ refl) (array_readable _ duals)
    (member_readable (codes "first") _ _ (IsUtf8-are_ascii _ refl) (number_readable first is.0)
    (member_readable (codes "kind") _ _ (IsUtf8-are_ascii _ refl) (text_readable (codes "split") (IsUtf8-are_ascii _ refl))
    (member_readable (codes "marks") _ _ (IsUtf8-are_ascii _ refl) (text_readable _ (marks_utf8 own.marks))
    (member_readable (codes "second") _ _ (IsUtf8-are_ascii _ refl) (number_readable second is.1)
    (member_readable (codes "tight") _ _ (IsUtf8-are_ascii _ refl) (array_readable _ tight) none_readable))))))
node_readable false (node.Dead order) is =
    object_readable _ (rw (number_of-decimal order is) refl)
    (member_readable (codes "kind") _ _ (IsUtf8-are_ascii _ refl) (text_readable (codes "dead") (IsUtf8-are_ascii _ refl))
    (member_readable (codes "order") _ _ (IsUtf8-are_ascii _ refl) (number_readable order is) none_readable))
node_readable true (node.Leaf None) is =
    object_readable _ refl (member_readable (codes "kind") _ _ (IsUtf8-are_ascii _ refl) (text_readable (codes "kept") (IsUtf8-are_ascii _ refl)) none_readable)
node_readable true (node.Leaf (Some own)) is =
    let duals = numbers_readable own.duals is.duals in
    let prices = numbers_readable own.prices is.prices in
    let tight = batches_readable own.tight is.tight in
    object_readable _ (rw (number_of-decimal own.count is.count, duals.said, prices.said, tight.said) refl)
    (member_readable (codes "count") _ _ (IsUtf8-are_ascii _ refl) (number_readable own.count is.count)
    (member_readable (codes "duals") _ _ (IsUtf8-are_ascii _ refl) (array_readable _ duals)
    (member_readable (codes "kind") _ _ (IsUtf8-are_ascii _ refl) (text_readable (codes "leaf") (IsUtf8-are_ascii _ refl))
    (member_readable (codes "marks") _ _ (IsUtf8-are_ascii _ refl) (text_readable _ (marks_utf8 own.marks))
    (member_readable (codes "prices") _ _ (IsUtf8-are_ascii _ refl) (array_readable _ prices)
    (member_readable (codes "tight") _ _ (IsUtf8-are_ascii _ refl) (array_readable _ tight) none_readable))))))
node_readable true (node.Split first second None) is =
    object_readable _ (rw (number_of-decimal first is.0, number_of-decimal second is.1) refl)
    (member_readable (codes "first") _ _ (IsUtf8-are_ascii _ refl) (number_readable first is.0)
    (member_readable (codes "kind") _ _ (IsUtf8-are_ascii _ refl) (text_readable (codes "split") (IsUtf8-are_ascii _ refl))
    (member_readable (codes "second") _ _ (IsUtf8-are_ascii _ refl) (number_readable second is.1) none_readable)))
node_readable true (node.Split first second (Some own)) is =
    let duals = numbers_readable own.duals is.2.duals in
    let prices = numbers_readable own.prices is.2.prices in
    let tight = batches_readable own.tight is.2.tight in
    object_readable _ (rw (
      number_of-decimal own.count is.2.count,
      duals.said,
      number_of-decimal first is.0,
      prices.said,
      number_of-decimal second is.1,
      tight.said,
    ) refl)
    (member_readable (codes "count") _ _ (IsUtf8-are_ascii _ refl) (number_readable own.count is.2.count)
    (member_readable (codes "duals") _ _ (IsUtf8-are_ascii _ refl) (array_readable _ duals)
    (member_readable (codes "first") _ _ (IsUtf8-are_ascii _ refl) (number_readable first is.0)
    (member_readable (codes "kind") _ _ (IsUtf8-are_ascii _ refl) (text_readable (codes "split") (IsUtf8-are_ascii _ refl))
    (member_readable (codes "marks") _ _ (IsUtf8-are_ascii _ refl) (text_readable _ (marks_utf8 own.marks))
    (member_readable (codes "prices") _ _ (IsUtf8-are_ascii _ refl) (array_readable _ prices)
    (member_readable (codes "second") _ _ (IsUtf8-are_ascii _ refl) (number_readable second is.1)
    (member_readable (codes "tight") _ _ (IsUtf8-are_ascii _ refl) (array_readable _ tight) none_readable))))))))
node_readable true (node.Dead order) is =
    object_readable _ (rw (number_of-decimal order is) refl)
    (member_readable (codes "kind") _ _ (IsUtf8-are_ascii _ refl) (text_readable (codes "dead") (IsUtf8-are_ascii _ refl))
    (member_readable (codes "order") _ _ (IsUtf8-are_ascii _ refl) (number_readable order is) none_readable))

nodes_readable : (third : Bool) (nodes : List Node) → All IsPrintedNode nodes → AreReadable (items_of (map (node_data third) nodes))
nodes_readable third = items_readable (node_data third) IsPrintedNode (node_readable third)

cut_readable : (cut : CutParts) → IsPrintedCut cut → IsReadable (cut_data cut)
cut_readable cut is =
    let orders = numbers_readable cut.orders is.orders in
    let parts = numbers_readable cut.parts is.parts in
    object_readable _ (rw (number_of-decimal cut.divisor is.divisor, orders.said, parts.said) refl)
    (member_readable (codes "divisor") _ _ (IsUtf8-are_ascii _ refl) (number_readable cut.divisor is.divisor)
    (member_readable (codes "orders") _ _ (IsUtf8-are_ascii _ refl) (array_readable _ orders)
    (member_readable (codes "parts") _ _ (IsUtf8-are_ascii _ refl) (array_readable _ parts) none_readable)))

cuts_readable : (cuts : List CutParts) → All IsPrintedCut cuts → AreReadable (items_of (map cut_data cuts))
cuts_readable = items_readable cut_data IsPrintedCut cut_readable

certificate_readable : (orders : List (List WrittenSlot)) (cart : Option LoadedCart) (terms : Option WrittenTerms) (capacity : ℕ) (nodes : List Node)
    → All (All IsPrintedPlace) orders → IsPrintedCart cart → ArePrintedTerms terms → IsPrinted capacity → All IsPrintedNode nodes
    → IsReadable (certificate_data orders cart terms capacity nodes)
certificate_readable orders None None capacity nodes places loaded written small fits =
    let tree_nodes = nodes_readable false nodes fits in
    let picks = orders_readable orders places in
    object_readable _ (rw (
      number_of-decimal capacity small,
      tree_nodes.said,
      picks.said,
      number_of-decimal 1 (omega arith),
    ) refl)
    (member_readable (codes "capacity") _ _ (IsUtf8-are_ascii _ refl) (number_readable capacity small)
    (member_readable (codes "nodes") _ _ (IsUtf8-are_ascii _ refl) (array_readable _ tree_nodes)
    (member_readable (codes "orders") _ _ (IsUtf8-are_ascii _ refl) (array_readable _ picks)
    (member_readable (codes "version") _ _ (IsUtf8-are_ascii _ refl) (number_readable 1 (omega arith)) none_readable))))
certificate_readable orders None (Some terms) capacity nodes places loaded written small fits =
    let tree_nodes = nodes_readable true nodes fits in
    let picks = orders_readable orders places in
    let cuts = cuts_readable terms.cuts written.1 in
    object_readable _ (rw (
      number_of-decimal capacity small,
      cuts.said,
      tree_nodes.said,
      picks.said,
      number_of-decimal terms.step written.0,
      number_of-decimal 3 (omega arith),
    ) refl)
    (member_readable (codes "capacity") _ _ (IsUtf8-are_ascii _ refl) (number_readable capacity small)
    (member_readable (codes "cuts") _ _ (IsUtf8-are_ascii _ refl) (array_readable _ cuts)
    (member_readable (codes "nodes") _ _ (IsUtf8-are_ascii _ refl) (array_readable _ tree_nodes)
    (member_readable (codes "orders") _ _ (IsUtf8-are_ascii _ refl) (array_readable _ picks)
    (member_readable (codes "step") _ _ (IsUtf8-are_ascii _ refl) (number_readable terms.step written.0)
    (member_readable (codes "version") _ _ (IsUtf8-are_ascii _ refl) (number_readable 3 (omega arith)) none_readable))))))
certificate_readable orders (Some cart) None capacity nodes places loaded written small fits =
    let tree_nodes = nodes_readable false nodes fits in
    let picks = orders_readable orders places in
    let loads = numbers_readable cart.loads loaded.1 in
    object_readable _ (rw (
      number_of-decimal capacity small,
      loads.said,
      tree_nodes.said,
      picks.said,
      number_of-decimal cart.units loaded.0,
      number_of-decimal 2 (omega arith),
    ) refl)
    (member_readable (codes "capacity") _ _ (IsUtf8-are_ascii _ refl) (number_readable capacity small)
    (member_readable (codes "loads") _ _ (IsUtf8-are_ascii _ refl) (array_readable _ loads)
    (member_readable (codes "nodes") _ _ (IsUtf8-are_ascii _ refl) (array_readable _ tree_nodes)
    (member_readable (codes "orders") _ _ (IsUtf8-are_ascii _ refl) (array_readable _ picks)
    (member_readable (codes "units") _ _ (IsUtf8-are_ascii _ refl) (number_readable cart.units loaded.0)
    (member_readable (codes "version") _ _ (IsUtf8-are_ascii _ refl) (number_readable 2 (omega arith)) none_readable))))))
certificate_readable orders (Some cart) (Some terms) capacity nodes places loaded written small fits =
    let tree_nodes = nodes_readable true nodes fits in
    let picks = orders_readable orders places in
    let loads = numbers_readable cart.loads loaded.1 in
    let cuts = cuts_readable terms.cuts written.1 in
    object_readable _ (rw (
      number_of-decimal capacity small,
      cuts.said,
      loads.said,
      tree_nodes.said,
      picks.said,
      number_of-decimal terms.step written.0,
      number_of-decimal cart.units loaded.0,
      number_of-decimal 3 (omega arith),
    ) refl)
    (member_readable (codes "capacity") _ _ (IsUtf8-are_ascii _ refl) (number_readable capacity small)
    (member_readable (codes "cuts") _ _ (IsUtf8-are_ascii _ refl) (array_readable _ cuts)
    (member_readable (codes "loads") _ _ (IsUtf8-are_ascii _ refl) (array_readable _ loads)
    (member_readable (codes "nodes") _ _ (IsUtf8-are_ascii _ refl) (array_readable _ tree_nodes)
    (member_readable (codes "orders") _ _ (IsUtf8-are_ascii _ refl) (array_readable _ picks)
    (member_readable (codes "step") _ _ (IsUtf8-are_ascii _ refl) (number_readable terms.step written.0)
    (member_readable (codes "units") _ _ (IsUtf8-are_ascii _ refl) (number_readable cart.units loaded.0)
    (member_readable (codes "version") _ _ (IsUtf8-are_ascii _ refl) (number_readable 3 (omega arith)) none_readable))))))))

-- the text of a certificate is text, and is read as its value
pub text_again : (orders : List (List WrittenSlot)) (cart : Option LoadedCart) (terms : Option WrittenTerms) (capacity : ℕ) (nodes : List Node)
    → All (All IsPrintedPlace) orders → IsPrintedCart cart → ArePrintedTerms terms → IsPrinted capacity → All IsPrintedNode nodes
    → IsUtf8 (compact_text (certificate_data orders cart terms capacity nodes))
    × (read (compact_text (certificate_data orders cart terms capacity nodes)) ≡ Some (certificate_data orders cart terms capacity nodes))
text_again orders cart terms capacity nodes places loaded written small fits =
    let is = certificate_readable orders cart terms capacity nodes places loaded written small fits in
    (is.utf8, read_compact (certificate_data orders cart terms capacity nodes) is (shallow_certificate orders cart terms capacity nodes))
