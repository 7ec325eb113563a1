-- A certificate's value has no float, and its lists and objects lie at most five deep.
use Rattle.std.proofs.Common.{◌≡◌, ℕ, ◌≤◌, Bool, true, false, List, [], ◌∷◌, map, Option, Some, None, arith, refl, ap, sym, subst, ◌∙◌}
use Rattle.serde_json.specs.Read.{read}
use Rattle.serde_json.specs.Data.{Data, depth, items_depth}
use Rattle.serde_json.specs.View.{items_of}
use Rattle.serde_json.specs.Written.{compact_text, has_float, items_have_float}
use Rattle.wp_pairs.specs.Carts.{LoadedCart}
use Rattle.wp_cert.specs.declared.text.form.WrittenSlot.{WrittenSlot}
use Rattle.wp_cert.specs.declared.tree.Node.{Node}
use Rattle.wp_cert.specs.declared.tree.Node.TheVariants as node
use Rattle.wp_lengths.specs.Waves.{WavePicks}
use Rattle.wp_cuts.specs.Cuts.{CutParts}
use Rattle.wp_cert.specs.declared.text.form.WrittenTerms.{WrittenTerms}
use Rattle.wp_cert.specs.declared.tree.Tree.{Tree}
use Rattle.wp_cert.specs.TextData.{batch_data, certificate_data, certificate_text, cut_data, list_data, node_data, number_data, place_data}
use Rattle.wp_cert.specs.TextData.{terms_written, wave_places}

plain_list : {A : Type 0} (shown : A → Data) → ((x : A) → has_float (shown x) ≡ false) → (xs : List A) → items_have_float (items_of (map shown xs)) ≡ false
plain_list shown plain [] = refl
plain_list shown plain (x ∷ xs) = rw (plain x, plain_list shown plain xs) refl

plain_numbers : (xs : List ℕ) → items_have_float (items_of (map number_data xs)) ≡ false
plain_numbers = plain_list number_data (λ n. refl)

plain_batches : (batches : List (List ℕ)) → items_have_float (items_of (map batch_data batches)) ≡ false
plain_batches = plain_list batch_data plain_numbers

plain_places : (places : List WrittenSlot) → items_have_float (items_of (map place_data places)) ≡ false
plain_places = plain_list place_data (λ place. refl)

plain_node : (third : Bool) (tree_node : Node) → has_float (node_data third tree_node) ≡ false
plain_node false (node.Leaf None) = refl
plain_node true (node.Leaf None) = refl
plain_node false (node.Leaf (Some own)) = rw (plain_numbers own.duals, plain_batches own.tight) refl
plain_node true (node.Leaf (Some own)) = rw (plain_numbers own.duals, plain_numbers own.prices, plain_batches own.tight) refl
plain_node false (node.Split first second None) = refl
plain_node true (node.Split first second None) = refl
plain_node false (node.Split first second (Some own)) = rw (plain_numbers own.duals, plain_batches own.tight) refl
plain_node true (node.Split first second (Some own)) = rw (plain_numbers own.duals, plain_numbers own.prices, plain_batches own.tight) refl
plain_node false (node.Dead order) = refl
plain_node true (node.Dead order) = refl

plain_nodes : (third : Bool) (nodes : List Node) → items_have_float (items_of (map (node_data third) nodes)) ≡ false
plain_nodes third = plain_list (node_data third) (plain_node third)

plain_cut : (cut : CutParts) → has_float (cut_data cut) ≡ false
plain_cut cut = rw (plain_numbers cut.orders, plain_numbers cut.parts) refl

plain_orders : (orders : List (List WrittenSlot)) → items_have_float (items_of (map (list_data place_data) orders)) ≡ false
plain_orders = plain_list (list_data place_data) plain_places

-- no number of a certificate is a float
pub plain_certificate : (orders : List (List WrittenSlot)) (cart : Option LoadedCart) (terms : Option WrittenTerms) (capacity : ℕ) (nodes : List Node)
    → has_float (certificate_data orders cart terms capacity nodes) ≡ false
plain_certificate orders None None capacity nodes = rw (plain_nodes false nodes, plain_orders orders) refl
plain_certificate orders (Some cart) None capacity nodes = rw (plain_numbers cart.loads, plain_nodes false nodes, plain_orders orders) refl
plain_certificate orders None (Some terms) capacity nodes =
    rw (plain_list cut_data plain_cut terms.cuts, plain_nodes true nodes, plain_orders orders) refl
plain_certificate orders (Some cart) (Some terms) capacity nodes =
    rw (plain_list cut_data plain_cut terms.cuts, plain_numbers cart.loads, plain_nodes true nodes, plain_orders orders) refl

shallow_list : {A : Type 0} (shown : A → Data) (most : ℕ) → ((x : A) → depth (shown x) ≤ most) → (xs : List A) → items_depth (items_of (map shown xs)) ≤ most
shallow_list shown most shallow [] = omega arith
shallow_list shown most shallow (x ∷ xs) = omega (arith, shallow x, shallow_list shown most shallow xs)

shallow_numbers : (xs : List ℕ) → items_depth (items_of (map number_data xs)) ≤ 0
shallow_numbers = shallow_list number_data 0 (λ n. omega arith)

shallow_batches : (batches : List (List ℕ)) → items_depth (items_of (map batch_data batches)) ≤ 1
shallow_batches = shallow_list batch_data 1 (λ batch. omega (arith, shallow_numbers batch))

shallow_places : (places : List WrittenSlot) → items_depth (items_of (map place_data places)) ≤ 1
shallow_places = shallow_list place_data 1 (λ place. omega arith)

shallow_node : (third : Bool) (tree_node : Node) → depth (node_data third tree_node) ≤ 3
shallow_node false (node.Leaf None) = omega arith
shallow_node true (node.Leaf None) = omega arith
shallow_node false (node.Leaf (Some own)) = omega (arith, shallow_numbers own.duals, shallow_batches own.tight)
shallow_node true (node.Leaf (Some own)) = omega (arith, shallow_numbers own.duals, shallow_numbers own.prices, shallow_batches own.tight)
shallow_node false (node.Split first second None) = omega arith
shallow_node true (node.Split first second None) = omega arith
shallow_node false (node.Split first second (Some own)) = omega (arith, shallow_numbers own.duals, shallow_batches own.tight)
shallow_node true (node.Split first second (Some own)) = omega (
  arith,
  shallow_numbers own.duals,
  shallow_numbers own.prices,
  shallow_batches own.tight,
)
shallow_node false (node.Dead order) = omega arith
shallow_node true (node.Dead order) = omega arith

shallow_nodes : (third : Bool) (nodes : List Node) → items_depth (items_of (map (node_data third) nodes)) ≤ 3
shallow_nodes third = shallow_list (node_data third) 3 (shallow_node third)

shallow_cuts : (cuts : List CutParts) → items_depth (items_of (map cut_data cuts)) ≤ 2
shallow_cuts = shallow_list cut_data 2 (λ cut. omega (arith, shallow_numbers cut.orders, shallow_numbers cut.parts))

shallow_orders : (orders : List (List WrittenSlot)) → items_depth (items_of (map (list_data place_data) orders)) ≤ 2
shallow_orders = shallow_list (list_data place_data) 2 (λ places. omega (arith, shallow_places places))

-- a certificate is no deeper than a reader goes
pub shallow_certificate : (orders : List (List WrittenSlot)) (cart : Option LoadedCart) (terms : Option WrittenTerms) (capacity : ℕ) (nodes : List Node)
    → depth (certificate_data orders cart terms capacity nodes) ≤ 127
shallow_certificate orders None None capacity nodes = omega (arith, shallow_nodes false nodes, shallow_orders orders)
shallow_certificate orders (Some cart) None capacity nodes =
    omega (arith, shallow_numbers cart.loads, shallow_nodes false nodes, shallow_orders orders)
shallow_certificate orders None (Some terms) capacity nodes =
    omega (arith, shallow_cuts terms.cuts, shallow_nodes true nodes, shallow_orders orders)
shallow_certificate orders (Some cart) (Some terms) capacity nodes =
    omega (arith, shallow_cuts terms.cuts, shallow_numbers cart.loads, shallow_nodes true nodes, shallow_orders orders)

-- bytes that are a value's compact text are a certificate's text, where the value is the certificate's
pub printed : (value : Data) (wave : WavePicks) (capacity : ℕ) (tree : Tree) (bytes : List ℕ)
    → value ≡ certificate_data (wave_places wave) wave.cart (terms_written wave.layout tree.cuts) capacity tree.nodes
    → (has_float value ≡ false → bytes ≡ compact_text value) → bytes ≡ certificate_text wave capacity tree
unfolding certificate_text
printed value wave capacity tree bytes is text =
    text (ap has_float is ∙ plain_certificate (wave_places wave) wave.cart (terms_written wave.layout tree.cuts) capacity tree.nodes) ∙ ap compact_text is

-- bytes that are read as a value as deep as this are read as the certificate's
pub read_again : (value : Data) (orders : List (List WrittenSlot)) (cart : Option LoadedCart) (terms : Option WrittenTerms) (capacity : ℕ)
    (nodes : List Node) (bytes : List ℕ)
    → value ≡ certificate_data orders cart terms capacity nodes → (depth value ≤ 127 → read bytes ≡ Some value)
    → read bytes ≡ Some (certificate_data orders cart terms capacity nodes)
read_again value orders cart terms capacity nodes bytes is read_back =
    let shallow = subst (λ (v : Data). depth v ≤ 127) (sym is) (shallow_certificate orders cart terms capacity nodes) in
    read_back shallow ∙ ap (λ (v : Data). Some v) is
