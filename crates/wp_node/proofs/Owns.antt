-- What nodes have of their own: when it is right, and that its duals are within their range.
use Rattle.std.proofs.Common.{◌≡◌, ℕ, ◌<◌, ◌≤◌, All, true, List, [], ◌∷◌, length, arith, ap, refl, subst, sym}
use Rattle.std.proofs.lemmas.Bool.{le-leb}
use Rattle.std.proofs.lemmas.List.Elements.{All-weaker}
use Rattle.std.proofs.lemmas.List.Sums.{list_all-from_AllPass}
use Rattle.std.specs.Prelude.{Some, slice_index_or, sum}
use Rattle.std.specs.List.{list_all}
use Rattle.wp_pairs.specs.Permitted.{Pairing}
use Rattle.wp_lengths.specs.Waves.{WavePicks}
use Rattle.wp_lengths.specs.Duals.{AreDuals, AreFeasible, greatest_dual}
use Rattle.wp_lengths.specs.Visits.{IsVisitOfAll, Passed, Place}
use Rattle.wp_cuts.specs.Prices.{ArePlain, ShowsTight}
use Rattle.wp_cuts.proofs.PlainPrices.{plain_prices_say}
use Rattle.wp_cuts.proofs.PlainVisits.{visit_priced}
use Rattle.wp_cert.specs.Terms.{Terms, net_of, plain_terms, prices_of}
use Rattle.wp_cert.specs.Text.{is_price}
use Rattle.wp_cert.specs.TextData.{HaveDualsWithin}
use Rattle.wp_cert.specs.Trees.{IsRightOwn, plain_tree}
use Rattle.wp_cert.specs.declared.tree.Node.TheVariants as node
use Rattle.wp_cert.specs.declared.tree.Own.{Own}
use Rattle.wp_node.specs.declared.own.NodeOwn.{NodeOwn}
use Rattle.wp_node.specs.Owns.{as_own}
use Rattle.wp_node.specs.Raises.{AreListedTight}

-- what a node has of its own in the first two forms: neither batches nor cuts have a price
plain_prices : (own : Own) → own.count ≡ 0 → own.prices ≡ [] → ArePlain (prices_of own)
plain_prices own count prices = record {
  count = count;
  cuts = subst (λ (ps : List ℕ). All (λ (price : ℕ). price ≡ 0) ps) (sym prices) (λ k d low. absurd (omega (arith, low)));
}

-- its net is what its duals come to
pub plain_net : (wave : WavePicks) (own : NodeOwn) → net_of (plain_terms wave) (as_own own) ≡ sum own.duals
plain_net wave own = omega arith

-- duals that are feasible, marked and shown to be tight are right
pub right_own : (wave : WavePicks) (pairing : Pairing) (above : ℕ) (own : Own) → own.count ≡ 0 → own.prices ≡ [] → pairing.orders ≡ length wave.orders
    → length own.duals ≡ length wave.orders
    → above ≤ sum own.duals → AreFeasible wave pairing own.duals → AreListedTight wave pairing own.duals (length wave.orders) own.tight
    → IsVisitOfAll wave pairing own.duals own.marks (Passed []) → IsRightOwn (plain_terms wave) pairing above own
right_own wave pairing above own count prices orders are raised feasible tight marked =
    let plain = plain_prices own count prices in
    let says = plain_prices_say wave pairing [] (prices_of own) plain in
    let shown : (order : ℕ) → order < pairing.orders → ShowsTight wave pairing [] (prices_of own) order (slice_index_or own.tight order []) =
    λ order low. let t = tight.each order (omega (arith, low, orders)) in record {
      permitted = t.permitted;
      holds = t.holds;
      total = t.total;
      long = t.long;
      equal = omega (arith, t.equal, count);
    } in record {
      all = record { duals = omega (arith, are, orders); tight = omega (arith, tight.count, orders); prices = ap (λ (ps : List ℕ). length ps) prices };
      allowed = λ _. plain;
      raised = omega (arith, raised);
      feasible = says.feasible.1 feasible;
      tight = λ order low. (slice_index_or own.tight order [], shown order low);
      marked = visit_priced wave pairing [] (prices_of own) plain (Place [] 0) own.marks (Passed []) marked;
      shown = shown;
    }

-- duals within the range are told to be so
within_told : (duals : List ℕ) → AreDuals duals → list_all is_price duals ≡ true
within_told duals are =
    list_all-from_AllPass is_price duals
    (All-weaker (λ (dual : ℕ). dual ≤ greatest_dual) (λ (dual : ℕ). is_price dual ≡ true) (λ dual low. le-leb dual greatest_dual low) duals
    are.within)

-- so are those of a leaf
pub own_within : (own : NodeOwn) → AreDuals own.duals → HaveDualsWithin (plain_tree (node.Leaf (Some (as_own own)) ∷ []))
own_within own are = rw (within_told own.duals are) refl

-- and what is right is right for less above it
pub right_below : (terms : Terms) (pairing : Pairing) (low high : ℕ) (own : Own) → low ≤ high → IsRightOwn terms pairing high own
    → IsRightOwn terms pairing low own
right_below terms pairing low high own less right = record {
  all = right.all;
  allowed = right.allowed;
  raised = omega (arith, less, right.raised);
  feasible = right.feasible;
  tight = right.tight;
  marked = right.marked;
  shown = right.shown;
}
