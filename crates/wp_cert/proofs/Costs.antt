-- No batching costs less than the bound of a right tree.
use Rattle.std.proofs.Common.{◌≡◌, ◌≢◌, ℕ, zero, suc, ◌*◌, ◌<◌, ◌≤◌, ◌↔◌, true, false, List, [], ◌∷◌, length, arith}
use Rattle.std.proofs.Common.{ap, sym, ◌∙◌, subst, ⊎_elim, All, Contains}
use Rattle.std.specs.Prelude.{sum, slice_index, Option, Some, None}
use Rattle.std.proofs.lemmas.Bool.{cases_eq, true≢false, false≢true}
use Rattle.std.proofs.lemmas.List.Sums.{sum_by-append}
use Rattle.std.proofs.lemmas.List.Elements.{Contains-push_cases}
use Rattle.wp_pairs.specs.declared.pair.OrderPair.{OrderPair}
use Rattle.wp_pairs.specs.Permitted.{IsPermitted, Pairing}
use Rattle.std.specs.Int.{◌∣◌}
use Rattle.wp_lengths.specs.Batchings.{IsBatching, IsCost, batch_at}
use Rattle.wp_cuts.specs.Cuts.{IsRankCut}
use Rattle.wp_cuts.specs.Steps.{IsRoundedUp}
use Rattle.wp_cuts.proofs.Nets.{net_within}
use Rattle.wp_lengths.specs.Waves.{WavePicks}
use Rattle.wp_cert.specs.declared.tree.Node.{Node}
use Rattle.wp_lengths.specs.Duals.{AreFeasible, duals_of}
use Rattle.wp_cert.specs.declared.tree.Own.{Own}
use Rattle.wp_cert.specs.Terms.{Terms, net_of, prices_of}
use Rattle.wp_cert.specs.Trees.{IsRight, IsRightOwn, dead, kept, leaf, lower_of, split, with_pair}
use Rattle.wp_lengths.proofs.OrderSums.{all_of, covering_sum, in_all, sum_of_places}

-- batches that are all permitted, such that each order is in one of them and in no other
pub record Respects (pairing : Pairing) (batches : List (List ℕ)) : Type 0 where
  pub each : (place : ℕ) → place < length batches → IsPermitted pairing (batch_at batches place)
  pub covered : (order : ℕ) → order < pairing.orders → (place : ℕ) × (place < length batches) × Contains (batch_at batches place) order
  pub once : (order left right : ℕ) → left < length batches → right < length batches → Contains (batch_at batches left) order
      → Contains (batch_at batches right) order → left ≡ right

-- with feasible duals, permitted batches have in duals no more than sixty times what they cost
pub batches_within : (wave : WavePicks) (pairing : Pairing) (duals : List ℕ) (batches : List (List ℕ)) (cost : ℕ) → AreFeasible wave pairing duals
    → ((place : ℕ) → place < length batches → IsPermitted pairing (batch_at batches place)) → IsCost wave batches cost
    → duals_of duals (all_of batches) ≤ 60 * cost
batches_within wave pairing duals [] cost feasible each is = omega arith
batches_within wave pairing duals (batch ∷ batches) cost feasible each is =
    let first = feasible batch is.0 (each zero (omega arith)) is.2 in
    let rest = batches_within wave pairing duals batches is.1 feasible (λ place within. each (suc place) (omega arith)) is.3 in
    omega (arith, sum_by-append (slice_index duals) batch (all_of batches), first, rest, is.4)

-- feasible duals come to no more than sixty times the cost of any batching of permitted batches
pub sum_within : (wave : WavePicks) (pairing : Pairing) (duals : List ℕ) (batches : List (List ℕ)) (cost : ℕ) → length duals ≡ pairing.orders
    → AreFeasible wave pairing duals → Respects pairing batches → IsCost wave batches cost → sum duals ≤ 60 * cost
sum_within wave pairing duals batches cost count feasible respects is =
    let covers = covering_sum (slice_index duals) (length duals) (all_of batches) (λ order low.
    let at = respects.covered order (subst (λ (n : ℕ). order < n) count low) in in_all batches at.0 order at.1 at.2) in
    omega (arith, sum_of_places duals, covers, batches_within wave pairing duals batches cost feasible respects.each is)

-- a permitted batch that has both or none of two more orders is permitted where they go together
pub permitted_together : (pairing : Pairing) (first second : ℕ) (batch : List ℕ) → IsPermitted pairing batch
    → (Contains batch first ↔ Contains batch second) → IsPermitted (with_pair pairing first second true) batch
permitted_together pairing first second batch permitted both =
    let new : OrderPair = record { first = first; second = second; together = true } in record {
      ascending = permitted.ascending;
      filled = permitted.filled;
      fits = permitted.fits;
      light = permitted.light;
      known = permitted.known;
      together = λ pair added kind. ⊎_elim (λ old. permitted.together pair old kind)
          (λ (e : new ≡ pair). subst (λ (p : OrderPair). Contains batch p.first ↔ Contains batch p.second) e both)
          (Contains-push_cases pairing.pairs new pair added);
      apart = λ pair added kind. ⊎_elim (λ old. permitted.apart pair old kind)
          (λ (e : new ≡ pair). absurd (true≢false (ap (λ (p : OrderPair). p.together) e ∙ kind))) (Contains-push_cases pairing.pairs new pair added);
    }

-- a permitted batch that doesn't have both of two more orders is permitted where they go apart
pub permitted_apart : (pairing : Pairing) (first second : ℕ) (batch : List ℕ) → IsPermitted pairing batch
    → ((Contains batch first × Contains batch second) → ⊥) → IsPermitted (with_pair pairing first second false) batch
permitted_apart pairing first second batch permitted never =
    let new : OrderPair = record { first = first; second = second; together = false } in record {
      ascending = permitted.ascending;
      filled = permitted.filled;
      fits = permitted.fits;
      light = permitted.light;
      known = permitted.known;
      together = λ pair added kind. ⊎_elim (λ old. permitted.together pair old kind)
          (λ (e : new ≡ pair). absurd (false≢true (ap (λ (p : OrderPair). p.together) e ∙ kind))) (Contains-push_cases pairing.pairs new pair added);
      apart = λ pair added kind. ⊎_elim (λ old. permitted.apart pair old kind)
          (λ (e : new ≡ pair). subst (λ (p : OrderPair). (Contains batch p.first × Contains batch p.second) → ⊥) e never)
          (Contains-push_cases pairing.pairs new pair added);
    }

-- a batching that has two orders in one batch respects that they go together
pub respects_together : (pairing : Pairing) (first second : ℕ) (batches : List (List ℕ)) (place : ℕ) → Respects pairing batches → place < length batches
    → Contains (batch_at batches place) first → Contains (batch_at batches place) second → Respects (with_pair pairing first second true) batches
respects_together pairing first second batches place respects within left right = record {
  each = λ k low. permitted_together pairing first second (batch_at batches k) (respects.each k low) (
    λ has. subst (λ (j : ℕ). Contains (batch_at batches j) second) (respects.once first place k within low left has) right,
    λ has. subst (λ (j : ℕ). Contains (batch_at batches j) first) (respects.once second place k within low right has) left,
  );
  covered = respects.covered;
  once = respects.once;
}

-- a batching that has two orders in different batches respects that they go apart
pub respects_apart : (pairing : Pairing) (first second : ℕ) (batches : List (List ℕ)) (left right : ℕ) → Respects pairing batches → left < length batches
    → right < length batches → Contains (batch_at batches left) first → Contains (batch_at batches right) second → left ≢ right
    → Respects (with_pair pairing first second false) batches
respects_apart pairing first second batches left right respects one other l r ne = record {
  each = λ k low. permitted_apart pairing first second (batch_at batches k) (respects.each k low)
      (λ both. ne (respects.once first left k one low l both.0 ∙ sym (respects.once second right k other low r both.1)));
  covered = respects.covered;
  once = respects.once;
}

-- a bound that is no more than a cost; a subtree whose leaves are all dead has no batching, and no bound
abbrev pub IsNoMore : Option ℕ → ℕ → Type 0
IsNoMore None cost = ⊥
IsNoMore (Some bound) cost = bound ≤ cost

lower_left : (left right : Option ℕ) (cost : ℕ) → IsNoMore left cost → IsNoMore (lower_of left right) cost
lower_left None right cost low = absurd low
lower_left (Some l) None cost low = low
lower_left (Some l) (Some r) cost low = omega (arith, low)

lower_right : (left right : Option ℕ) (cost : ℕ) → IsNoMore right cost → IsNoMore (lower_of left right) cost
lower_right None right cost low = low
lower_right (Some l) None cost low = absurd low
lower_right (Some l) (Some r) cost low = omega (arith, low)

-- On such terms bounds hold: the cuts are cuts of the wave's orders, each batching has as many batches as are counted, and what it costs is a multiple of
-- the step.
pub record AreSound (terms : Terms) (capacity : ℕ) : Type 0 where
  pub cuts : All (IsRankCut (length terms.wave.orders)) terms.cuts
  pub counted : (batches : List (List ℕ)) → IsBatching terms.wave capacity batches → terms.batches ≤ length batches
  pub multiple : (batches : List (List ℕ)) (cost : ℕ) → IsCost terms.wave batches cost → terms.step ∣ cost

module _ (terms : Terms) (capacity : ℕ) (sound : AreSound terms capacity) (batches : List (List ℕ)) (cost : ℕ)
    (is : IsBatching terms.wave capacity batches) (costs : IsCost terms.wave batches cost) where
  -- the net of a node's prices is no more than sixty times the cost of any batching of permitted batches
  own_net_within : (pairing : Pairing) (above : ℕ) (own : Own) → pairing.orders ≡ length terms.wave.orders → IsRightOwn terms pairing above own
      → Respects pairing batches → net_of terms own ≤ 60 * cost
  own_net_within pairing above own count right respects =
      net_within terms.wave capacity pairing terms.cuts (prices_of own) terms.batches batches cost is (sound.counted batches is) sound.cuts
      (right.all.duals ∙ count) right.feasible respects.each costs

  -- rounded up to a multiple of the step it is no more than that cost
  rounded_within : (sixtieths bound : ℕ) → IsRoundedUp terms.step sixtieths bound → sixtieths ≤ 60 * cost → bound ≤ cost
  rounded_within sixtieths bound rounded low = rounded.least cost (sound.multiple batches cost costs) low

  -- the bound of a right tree is no more than the cost of any batching of permitted batches
  pub tree_bounds : (pairing : Pairing) (above : ℕ) (nodes rest : List Node) (bound : Option ℕ) → pairing.orders ≡ length terms.wave.orders
      → IsRight terms pairing above nodes rest bound → Respects pairing batches → above ≤ 60 * cost → IsNoMore bound cost
  tree_bounds pairing above _ rest _ count (kept {bound} rounded) respects low = rounded_within above bound rounded low
  tree_bounds pairing above _ rest _ count (leaf {bound} {own} right rounded) respects low =
      rounded_within (net_of terms own) bound rounded (own_net_within pairing above own count right respects)
  tree_bounds pairing above _ rest _ count (dead {order} is_dead) respects low =
      let at = respects.covered order is_dead.known in is_dead.unheld (batch_at batches at.0) (respects.each at.0 at.1) at.2
  tree_bounds pairing above _ rest _ count (split {first} {second} {own} {nodes} {between} {left} {right} own_right parted l r) respects low =
      let raised = own_net_within pairing above own count own_right respects in
      let one = respects.covered first (omega (arith, parted.order, parted.known)) in
      let other = respects.covered second parted.known in
      ⊎_elim
      (λ (e : one.0 ≡ other.0). lower_left left right cost (tree_bounds (with_pair pairing first second true) (net_of terms own) nodes between left count l
      (respects_together pairing first second batches one.0 respects one.1 one.2 (subst (λ (k : ℕ). Contains (batch_at batches k) second) (sym e) other.2))
      raised))
      (λ (ne : one.0 ≢ other.0). lower_right left right cost (tree_bounds (with_pair pairing first second false) (net_of terms own) between rest right count r
      (respects_apart pairing first second batches one.0 other.0 respects one.1 other.1 one.2 other.2 ne) raised))
      (cases_eq one.0 other.0)
