-- Reaches: the most in duals of each number of orders, and the reach of a place.
use Rattle.std.proofs.Common.{◌≡◌, ◌≢◌, ℕ, ◌+◌, ◌-◌, ◌*◌, ◌<◌, ◌≤◌, List, [], All, length, arith, refl, sym, subst, ⊎_elim, set, ◌∙◌}
use Rattle.std.specs.Prelude.{replicate, slice_index, slice_index_or}
use Rattle.std.proofs.lemmas.Bool.{cases_eq}
use Rattle.std.proofs.lemmas.Grind.{get_or-set_at}
use Rattle.std.proofs.lemmas.List.Elements.{All-contains}
use Rattle.std.proofs.lemmas.List.{get_or-set_other}
use Rattle.wp_pairs.specs.Permitted.{Pairing}
use Rattle.wp_lengths.specs.Duals.{duals_of}
use Rattle.wp_lengths.specs.Reaches.{HaveMost}
use Rattle.wp_lengths.specs.Visits.{IsReach}
use Rattle.wp_lengths.proofs.Further.{most_of_none, reach_from}
use Rattle.wp_lengths.proofs.DualBounds.{bounded_sum}
use Rattle.wp_visit.specs.declared.item.Item.{Item}
use Rattle.wp_visit.specs.declared.place.Place.{Place}
use Rattle.wp_visit.specs.Items.{AreBounded, AreReachesBelow, IsMost, most_dual}
use Rattle.wp_visit.specs.Places.{IsTask, Task}
use Rattle.wp_visit.proofs.Children.{item_read}

-- no order has the most of none: nothing
pub reaches_of_none : (pairing : Pairing) (duals : List ℕ) (from : ℕ) → AreReachesBelow pairing duals from 1 (replicate 9 0)
reaches_of_none pairing duals from = λ room low. let e : room ≡ 0 = omega (arith, low) in
    subst (λ (r : ℕ). IsMost pairing duals from r (slice_index (replicate 9 0) r)) (sym e) ([], most_of_none pairing duals from, refl)

-- what takes the best of those that are left takes it under equal duals
pub taken_more : (pairing : Pairing) (duals equal : List ℕ) (from room : ℕ) (taken more : List ℕ) → equal ≡ duals
    → ((count : ℕ) → HaveMost pairing equal from count taken → HaveMost pairing equal from (count + 1) more) → HaveMost pairing duals from room taken
    → HaveMost pairing duals from (room + 1) more
taken_more pairing duals equal from room taken more e takes have =
    subst (λ (d : List ℕ). HaveMost pairing d from room taken → HaveMost pairing d from (room + 1) more) e (takes room) have

-- one more number of orders, of which this is the most
pub more_most : (pairing : Pairing) (duals : List ℕ) (from room most : ℕ) (reaches : List ℕ) → room < length reaches
    → AreReachesBelow pairing duals from room reaches → IsMost pairing duals from room most
    → AreReachesBelow pairing duals from (room + 1) (set reaches room most)
more_most pairing duals from room most reaches within below is = λ other low.
    ⊎_elim (λ (e : other ≡ room). let here : slice_index (set reaches room most) other ≡ most = get_or-set_at reaches room other most 0 e within in
    subst (IsMost pairing duals from other) (sym here) (subst (λ (r : ℕ). IsMost pairing duals from r most) (sym e) is))
    (λ (ne : other ≢ room). let there : slice_index (set reaches room most) other ≡ slice_index reaches other = get_or-set_other reaches room other most 0 ne in
    subst (IsMost pairing duals from other) (sym there) (below other (omega (arith, low, ne)))) (cases_eq other room)

-- one more number of orders
pub more_reaches : (pairing : Pairing) (duals : List ℕ) (from room most : ℕ) (reaches taken : List ℕ) → room < length reaches
    → AreReachesBelow pairing duals from room reaches → HaveMost pairing duals from room taken → most ≡ duals_of duals taken
    → AreReachesBelow pairing duals from (room + 1) (set reaches room most)
more_reaches pairing duals from room most reaches taken within below have is =
    more_most pairing duals from room most reaches within below (taken, have, sym is)

-- the most of as many orders as a place has room for is its reach
pub reach_there : (pairing : Pairing) (duals place reaches : List ℕ) (from room reach : ℕ) → AreReachesBelow pairing duals from (pairing.capacity + 1) reaches
    → room + length place ≡ pairing.capacity → slice_index reaches room ≡ reach → IsReach pairing duals place from reach
reach_there pairing duals place reaches from room reach are fits is =
    let most = are room (omega (arith, fits)) in
    subst (IsReach pairing duals place from) (most.2 ∙ is) (reach_from pairing duals place most.0 from room most.1 fits)

-- what orders have in duals, each bounded
pub sum_bounded : (duals batch : List ℕ) → All (λ order. order < length duals) batch → AreBounded duals → duals_of duals batch ≤ most_dual * length batch
sum_bounded duals batch known low =
    bounded_sum (slice_index duals) most_dual batch (λ x has. low x 0 (All-contains (λ (o : ℕ). o < length duals) batch x known has))

-- the reach of a place whose later items are all items
pub whole_there : (now task : Task) (items : List Item) (reaches : List ℕ) (place : Place) (room reach : ℕ) → task ≡ now → IsTask task items reaches
    → place.from ≡ 0 → room + length place.batch ≡ now.pairing.capacity → slice_index reaches room ≡ reach
    → IsReach now.pairing now.duals place.batch place.from reach
whole_there now task items reaches place room reach view is first fits there =
    subst (λ (from : ℕ). IsReach now.pairing now.duals place.batch from reach) (sym first)
    (reach_there now.pairing now.duals place.batch reaches 0 room reach
    (subst (λ (t : Task). AreReachesBelow t.pairing t.duals 0 (t.pairing.capacity + 1) reaches) view is.whole) fits there)

-- the reach of a place whose later items begin after an order
pub later_there : (now task : Task) (items : List Item) (reaches : List ℕ) (place : Place) (item : Item) (room reach : ℕ) → task ≡ now
    → IsTask task items reaches → 0 < place.from → place.from ≤ now.pairing.orders → item ≡ slice_index_or items (place.from - 1) item
    → room + length place.batch ≡ now.pairing.capacity → slice_index item.reach room ≡ reach
    → IsReach now.pairing now.duals place.batch place.from reach
later_there now task items reaches place item room reach view is some low read fits there =
    let e : (place.from - 1) + 1 ≡ place.from = omega (arith, some) in
    let brings = item_read now task items reaches (place.from - 1) item view is (omega (arith, some, low)) read in
    subst (λ (from : ℕ). IsReach now.pairing now.duals place.batch from reach) e
    (reach_there now.pairing now.duals place.batch item.reach ((place.from - 1) + 1) room reach brings.reaches fits there)
