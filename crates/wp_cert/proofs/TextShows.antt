-- The text of a wave, a capacity and a right tree tells the tree's bound.
use Rattle.std.proofs.Common.{◌≡◌, subst, ℕ, zero, suc, ◌<◌, ◌≤◌, ◌^◌, ◌==◌, Bool, true, false, List, [], ◌∷◌, map, All, length, arith}
use Rattle.std.specs.Prelude.{Option, Some, None, if◌then◌else◌, is_some}
use Rattle.std.specs.List.{list_all}
use Rattle.std.proofs.lemmas.Bool.{and_parts}
use Rattle.std.proofs.lemmas.Bool.Decides.{nat_tests}
use Rattle.std.proofs.lemmas.List.{get_or_default}
use Rattle.std.proofs.lemmas.List.Elements.{All-cons, All-head, All-map, All-tail, All-weaker}
use Rattle.wp_model.specs.declared.point.Point.{Point}
use Rattle.wp_model.specs.Warehouse.{Layout}
use Rattle.wp_graph.specs.PickSets.{AreSlots, PickSet, points_where}
use Rattle.wp_graph.specs.Required.{has_point}
use Rattle.wp_pairs.specs.Batches.{IsBatch}
use Rattle.wp_pairs.specs.Carts.{IsCartFor, LoadedCart}
use Rattle.wp_pairs.specs.Permitted.{IsPermitted, Pairing}
use Rattle.wp_lengths.specs.Batchings.{no_pairs}
use Rattle.wp_lengths.specs.Waves.{IsWave, WavePicks}
use Rattle.wp_lengths.proofs.Unions.{all_from_contained}
use Rattle.wp_cert.specs.declared.tree.Node.{Node}
use Rattle.wp_cert.specs.declared.tree.Node.TheVariants as node
use Rattle.wp_cert.specs.declared.tree.Own.{Own}
use Rattle.wp_cert.specs.Bounds.{TellsBound}
use Rattle.wp_cuts.specs.Cuts.{CutParts, IsRankCut}
use Rattle.wp_cuts.specs.Steps.{divides_moves, greatest_of, layout_step}
use Rattle.wp_cert.specs.declared.tree.Tree.{Tree}
use Rattle.wp_cert.specs.Terms.{AreTermsFor, Terms, net_of, terms_of}
use Rattle.wp_cert.specs.Text.{are_duals_within, are_priced, is_node_within, is_price, place_of}
use Rattle.wp_cert.specs.TextData.{AreKeptCuts, HaveDualsWithin, HaveSlots, IsKeptCut, IsKeptNode, IsPosition, certificate_text, order_places}
use Rattle.wp_cert.specs.TextData.{terms_written, wave_places}
use Rattle.wp_cert.specs.Trees.{IsBoundOf, IsRight, IsRightOwn, dead, kept, leaf, split, with_pair}
use Rattle.wp_cert.proofs.TextReadable.{ArePrintedTerms, IsPrinted, IsPrintedCart, IsPrintedCut, IsPrintedNode, IsPrintedOwn, IsPrintedPlace, text_again}
use Rattle.wp_cert.proofs.TextTold.{listed_slot, told_again}

-- the tight batches of a node that is right are batches
tight_batches : (terms : Terms) (pairing : Pairing) (above : ℕ) (own : Own) → pairing.orders ≤ 64 → IsRightOwn terms pairing above own
    → All IsBatch own.tight
tight_batches terms pairing above own few right = λ k d within.
    let tight = right.shown k (omega (arith, within, right.all.tight)) in
    let permitted = subst (IsPermitted pairing) (get_or_default own.tight k [] d within) tight.permitted in
    record { ascending = permitted.ascending; below = λ j e low. omega (arith, permitted.known j e low, few) }

-- the nodes of a right tree are as the code keeps them
kept_nodes : (terms : Terms) (pairing : Pairing) (above : ℕ) (nodes rest : List Node) (bound : Option ℕ) → pairing.orders ≤ 64
    → IsRight terms pairing above nodes rest bound → All IsKeptNode rest → All IsKeptNode nodes
kept_nodes terms pairing above _ rest _ few (kept rounded) others = All-cons IsKeptNode (node.Leaf None) rest tt others
kept_nodes terms pairing above _ rest _ few (leaf {own} right rounded) others =
    All-cons IsKeptNode (node.Leaf (Some own)) rest (tight_batches terms pairing above own few right) others
kept_nodes terms pairing above _ rest _ few (dead {order} is) others =
    All-cons IsKeptNode (node.Dead order) rest (omega (arith, is.known, few)) others
kept_nodes terms pairing above _ rest _ few (split {first} {second} {own} {nodes} {between} {left} {right} own_is open_ l r) others =
    All-cons IsKeptNode (node.Split first second (Some own)) nodes
    (omega (arith, open_.order, open_.known, few), omega (arith, open_.known, few), tight_batches terms pairing above own few own_is)
    (kept_nodes terms (with_pair pairing first second true) (net_of terms own) nodes between left few l
    (kept_nodes terms (with_pair pairing first second false) (net_of terms own) between rest right few r others))

-- prices within their range are numbers that a text may have
small_price : (n : ℕ) → is_price n ≡ true → n < 2 ^ 64
small_price n h = grind arith

small_prices : (prices : List ℕ) → list_all is_price prices ≡ true → All IsPrinted prices
small_prices [] within = λ k d low. absurd (omega (arith, low))
small_prices (price ∷ prices) within =
    let both = and_parts (is_price price) _ within in
    All-cons IsPrinted price prices (small_price price both.0) (small_prices prices both.1)

small_batches : (batches : List (List ℕ)) → All IsBatch batches → All (All IsPrinted) batches
small_batches batches all = All-weaker IsBatch (All IsPrinted) (λ batch is. λ j e low. omega (arith, is.below j e low)) batches all

small_count : (third : Bool) (own : Own) → are_priced third own ≡ true → IsPrinted own.count × All IsPrinted own.prices
small_count true own within =
    let both = and_parts (is_price own.count) _ within in (small_price own.count both.0, small_prices own.prices both.1)
small_count false own within =
    let both = and_parts (own.count == 0) _ within in (zero_small own.count both.0, none_printed own.prices both.1)
  where
    zero_small : (n : ℕ) → (n == 0) ≡ true → n < 2 ^ 64
    zero_small n h = let none : n ≡ 0 = grind (arith, nat_tests, h) in omega (arith, none)

    none_printed : (xs : List ℕ) → (length xs == 0) ≡ true → All IsPrinted xs
    none_printed xs h = let none : length xs ≡ 0 = grind (arith, nat_tests, h) in λ k d low. absurd (omega (arith, low, none))

printed_own : (third : Bool) (own : Own) → All IsBatch own.tight → are_duals_within third (Some own) ≡ true → IsPrintedOwn own
printed_own third own tight within =
    let both = and_parts (list_all is_price own.duals) _ within in
    let priced = small_count third own both.1 in record {
      count = priced.0;
      prices = priced.1;
      duals = small_prices own.duals both.0;
      tight = small_batches own.tight tight;
    }

printed_node : (third : Bool) (tree_node : Node) → IsKeptNode tree_node → is_node_within third tree_node ≡ true → IsPrintedNode tree_node
printed_node third (node.Leaf None) is within = tt
printed_node third (node.Leaf (Some own)) is within = printed_own third own is within
printed_node third (node.Split first second None) is within = (omega (arith, is.0), omega (arith, is.1))
printed_node third (node.Split first second (Some own)) is within = (
  omega (arith, is.0),
  omega (arith, is.1),
  printed_own third own is.2 within,
)
printed_node third (node.Dead order) is within = omega (arith, is)

printed_nodes : (third : Bool) (nodes : List Node) → All IsKeptNode nodes → list_all (is_node_within third) nodes ≡ true → All IsPrintedNode nodes
printed_nodes third [] all within = λ k d low. absurd (omega (arith, low))
printed_nodes third (tree_node ∷ nodes) all within =
    let both = and_parts (is_node_within third tree_node) _ within in
    All-cons IsPrintedNode tree_node nodes (printed_node third tree_node (All-head IsKeptNode tree_node nodes all) both.0)
    (printed_nodes third nodes (All-tail IsKeptNode tree_node nodes all) both.1)

-- cuts of up to 64 orders have numbers that a text may have, as the code keeps them
small_cut : (orders : ℕ) (cut : CutParts) → orders ≤ 64 → IsRankCut orders cut → IsKeptCut cut
small_cut orders cut few is = record {
  divisor = omega (arith, is.high);
  orders = All-weaker (λ (order : ℕ). order < orders) IsPosition (λ order low. omega (arith, low, few)) cut.orders is.known;
  parts = All-weaker (λ (part : ℕ). (1 ≤ part) × (part < cut.divisor)) IsPosition (λ part low. omega (arith, low.1, is.high)) cut.parts is.parts;
}

kept_cuts : (wave : WavePicks) (step : ℕ) (cuts : Option (List CutParts)) → length wave.orders ≤ 64 → AreTermsFor wave cuts step → AreKeptCuts cuts
kept_cuts wave step None few are = tt
kept_cuts wave step (Some cuts) few are =
    All-weaker (IsRankCut (length wave.orders)) IsKeptCut (λ cut is. small_cut (length wave.orders) cut few is) cuts are.1.each

printed_cut : (cut : CutParts) → IsKeptCut cut → IsPrintedCut cut
printed_cut cut is = record {
  divisor = omega (arith, is.divisor);
  orders = All-weaker IsPosition IsPrinted (λ order low. omega (arith, low)) cut.orders is.orders;
  parts = All-weaker IsPosition IsPrinted (λ part low. omega (arith, low)) cut.parts is.parts;
}

printed_terms : (layout : Layout) (cuts : Option (List CutParts)) → layout_step layout < 2 ^ 64 → AreKeptCuts cuts → ArePrintedTerms (terms_written layout cuts)
printed_terms layout None small all = tt
printed_terms layout (Some cuts) small all = (small, All-weaker IsKeptCut IsPrintedCut printed_cut cuts all)

-- slots of a layout have numbers that a text may have
printed_order : (layout : Layout) (picks : PickSet) → AreSlots layout picks.points → All IsPrintedPlace (order_places layout picks.points)
printed_order layout picks slots =
    let listed = points_where layout (has_point picks.points) in
    All-map IsPrintedPlace place_of listed (all_from_contained (λ (p : Point). IsPrintedPlace (place_of p)) listed (λ p has.
    let slot = listed_slot layout picks.points p has in record {
      aisle = omega (arith, slot.aisle.1, slots.ranges.aisles.1);
      slot = omega (arith, slot.slot.1, slots.ranges.slots.1);
    }))

printed_orders : (layout : Layout) (orders : List PickSet) → HaveSlots layout orders
    → All (All IsPrintedPlace) (map (λ (picks : PickSet). order_places layout picks.points) orders)
printed_orders layout orders slots =
    All-map (All IsPrintedPlace) (λ (picks : PickSet). order_places layout picks.points) orders
    (All-weaker (λ (picks : PickSet). AreSlots layout picks.points) (λ (picks : PickSet). All IsPrintedPlace (order_places layout picks.points))
    (printed_order layout) orders slots)

printed_cart : (orders : ℕ) (cart : Option LoadedCart) → IsCartFor cart orders → IsPrintedCart cart
printed_cart orders None is = tt
printed_cart orders (Some cart) is = (
  omega (arith, is.0.units.1),
  All-weaker (λ (load : ℕ). load ≤ cart.units) IsPrinted (λ load light. omega (arith, light, is.0.units.1)) cart.loads is.0.light,
)

-- the step of a layout is a number that a text may have
greatest_small : (passes : ℕ → Bool) (most : ℕ) → greatest_of passes most ≤ most
unfolding greatest_of
greatest_small passes zero = omega arith
greatest_small passes (suc most) = next (passes (suc most)) (greatest_of passes most) most (greatest_small passes most)
  where
    next : (b : Bool) (g most : ℕ) → g ≤ most → (if b then suc most else g) ≤ suc most
    next true g most low = omega arith
    next false g most low = omega (arith, low)

step_small : (wave : WavePicks) → HaveSlots wave.layout wave.orders → IsWave wave → layout_step wave.layout < 2 ^ 64
step_small wave slots valid =
    let first = slots 0 (record { layout = wave.layout; points = [] }) valid.some in
    omega (arith, greatest_small (divides_moves wave.layout) wave.layout.clearance, first.ranges.clearance.1)

-- the text of a wave, a capacity and a right tree tells the tree's bound
pub shows_bound : (wave : WavePicks) (capacity : ℕ) (tree : Tree) (bound : ℕ) → IsWave wave → HaveSlots wave.layout wave.orders → 1 ≤ capacity
    → capacity ≤ 8 → HaveDualsWithin tree → IsBoundOf wave capacity tree bound
    → TellsBound wave.layout (certificate_text wave capacity tree) bound
unfolding certificate_text
shows_bound wave capacity tree bound valid slots some most duals right =
    let kept_all = kept_nodes (terms_of wave capacity tree.cuts right.0) (no_pairs wave capacity) right.1 tree.nodes [] (Some bound) valid.most right.4
    (λ k d low. absurd (omega (arith, low))) in
    let cuts = kept_cuts wave right.0 tree.cuts valid.most right.2 in
    let again = text_again (wave_places wave) wave.cart (terms_written wave.layout tree.cuts) capacity tree.nodes
    (printed_orders wave.layout wave.orders slots) (printed_cart (length wave.orders) wave.cart valid.cart)
    (printed_terms wave.layout tree.cuts (step_small wave slots valid) cuts) (omega (arith, most))
    (printed_nodes (is_some tree.cuts) tree.nodes kept_all duals) in
    record {
      wave = wave;
      capacity = capacity;
      tree = tree;
      told = told_again wave capacity tree _ valid slots some most duals kept_all cuts again.0 again.1;
      right = right;
    }
