-- Carts of texts whose numbers are in their ranges.
use Rattle.std.proofs.Common.{◌≡◌, ℕ, ◌≤◌, true, length, Option, Some, None, ◌==◌, option_map, ap, ◌∙◌}
use Rattle.std.proofs.Common.{arith}
use Rattle.std.specs.List.{list_all}
use Rattle.std.specs.Prelude.{is_some}
use Rattle.wp_model.specs.Limits.{most_cart_units}
use Rattle.wp_model.specs.Warehouse.{Layout}
use Rattle.wp_pairs.specs.Carts.{LoadedCart}
use Rattle.wp_cert.specs.declared.text.form.Form.{Form}
use Rattle.wp_cert.specs.declared.text.form.WrittenCart.{WrittenCart}
use Rattle.wp_cert.specs.Text.{is_any_cart_for, is_node_within, is_order_of, is_up_to, is_within, loaded_cart, version_of}
use Rattle.wp_cert.proofs.TextPicks.{and_left, and_right, no_more}

same_number : (m n : ℕ) → (m == n) ≡ true → m ≡ n
same_number m n h = grind arith

-- a form whose numbers are in their ranges has at most 64 orders, and a cart for them, if it has one
pub orders_within : (layout : Layout) (form : Form) → is_within layout form ≡ true
    → (length form.orders ≤ 64) × (is_any_cart_for (length form.orders) form.cart ≡ true)
orders_within layout form within =
    let capacity = and_right (form.version == version_of (is_some form.terms) form.cart) _ within in
    let count = and_right (is_up_to 8 form.capacity) _ capacity in
    let orders = and_right (is_up_to 64 (length form.orders)) _ count in
    let nodes = and_right (list_all (is_order_of layout) form.orders) _ orders in (
      no_more 64 (length form.orders) (and_left (is_up_to 64 (length form.orders)) _ count),
      and_left (is_any_cart_for (length form.orders) form.cart) _ (and_right (list_all (is_node_within (is_some form.terms)) form.nodes) _ nodes),
    )

-- the cart that is made of one for so many orders has a load for each of them
pub as_many_loads : (orders : ℕ) (cart : Option WrittenCart) (made : LoadedCart) → is_any_cart_for orders cart ≡ true → Some made ≡ option_map loaded_cart cart
    → length made.loads ≡ orders
as_many_loads orders None made within is = absurd (cc is)
as_many_loads orders (Some cart) made within is =
    let same : made ≡ loaded_cart cart = cc is in
    let loads = and_right (is_up_to most_cart_units cart.units) _ within in
    ap (λ (c : LoadedCart). length c.loads) same ∙ same_number (length cart.loads) orders (and_left (length cart.loads == orders) _ loads)
