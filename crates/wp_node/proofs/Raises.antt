-- Raising the dual of an order by what its batch of least slack has room for.
use Rattle.std.proofs.Common.{◌≡◌, ◌≢◌, ℕ, ◌+◌, ◌*◌, ◌-◌, ◌<◌, ◌≤◌, List, [], ◌∷◌, ◌++◌, length, length-append, get_or, set, arith, refl, ap, sym, ◌∙◌}
use Rattle.std.proofs.Common.{subst, ⊎_elim, Contains, pos, ℤ}
use Rattle.std.specs.Prelude.{Option, Some, None, IfNone, IsSome, slice_index, All, ◌↔◌, ◌⊎◌}
use Rattle.std.proofs.lemmas.Bool.{cases_eq}
use Rattle.std.proofs.lemmas.Int.{ints}
use Rattle.std.proofs.lemmas.List.{get_or_append_left, get_or_push}
use Rattle.std.proofs.lemmas.List.Elements.{All-contains}
use Rattle.wp_pairs.specs.Permitted.{AreHeldBelow, IsPermitted, Pairing}
use Rattle.wp_lengths.specs.Waves.{WavePicks}
use Rattle.wp_lengths.proofs.Unions.{all_from_contained}
use Rattle.wp_lengths.specs.Duals.{AreFeasible, IsTightFor, duals_of, greatest_dual}
use Rattle.wp_lengths.proofs.FewerOrders.{same_length}
use Rattle.wp_price.specs.Slacks.{HasNoCandidate, IsLeastSlack}
use Rattle.wp_node.specs.Raises.{AreListedTight, AreNoLower, IsListedWith, IsRoom}
use Rattle.wp_node.proofs.DualSums.{dual_in_batch, in_or_out, more_with, no_lower_batch, same_without}

-- where each order is in some permitted batch, there is a batch through each
pub some_candidate : (pairing : Pairing) (order : ℕ) → AreHeldBelow pairing pairing.orders → order < pairing.orders → HasNoCandidate pairing (Some order) → ⊥
some_candidate pairing order held known none = let batch = held order known in none batch.0 (batch.1, batch.2)

-- a dual that is raised by the room of a batch with its order is no more than sixty times its length, so it is within the range
pub raised_small : (wave : WavePicks) (duals batch : List ℕ) (order room : ℕ) → Contains batch order → IsRoom wave duals batch room
    → slice_index duals order + room ≤ greatest_dual
raised_small wave duals batch order room has is = let low = dual_in_batch duals batch order has in omega (arith, low, is.equal, is.small)

-- by the slack of the batch of least slack, feasible duals stay feasible
pub raised_feasible : (wave : WavePicks) (pairing : Pairing) (duals batch : List ℕ) (order room : ℕ) (slack : ℤ) → AreFeasible wave pairing duals
    → order < length duals → IsLeastSlack wave pairing duals (Some order) batch slack → IsRoom wave duals batch room
    → AreFeasible wave pairing (set duals order (slice_index duals order + room))
raised_feasible wave pairing duals batch order room slack feasible known least is = λ other total permitted long.
    let low = feasible other total permitted long in
    ⊎_elim
    (λ (has : Contains other order).
    let same : least.is.total ≡ is.total = same_length wave batch least.is.total is.total least.is.long is.long in
    let whole : (60 * total - duals_of duals other) + duals_of duals other ≡ 60 * total = omega (arith, low) in
    let more = least.least other (pos (60 * total - duals_of duals other)) (permitted, has)
    (record { total = total; long = long; is = ap (λ (n : ℕ). pos n) whole }) in
    omega (arith, ints, more, least.is.is, same, is.equal, low, more_with duals order room other known permitted.ascending has))
    (λ (none : Contains other order → ⊥). omega (arith, low, same_without duals order (slice_index duals order + room) other none))
    (in_or_out other order)

-- and that batch is tight for the order
pub raised_tight : (wave : WavePicks) (pairing : Pairing) (duals batch : List ℕ) (order room : ℕ) → order < length duals → IsPermitted pairing batch
    → Contains batch order → IsRoom wave duals batch room → IsTightFor wave pairing (set duals order (slice_index duals order + room)) order batch
raised_tight wave pairing duals batch order room known permitted has is = record {
  permitted = permitted;
  holds = has;
  total = is.total;
  long = is.long;
  equal = more_with duals order room batch known permitted.ascending has ∙ is.equal;
}

-- a batch that is tight for an order stays so where no dual is lower and the duals are feasible
pub still_tight : (wave : WavePicks) (pairing : Pairing) (before after batch : List ℕ) (order : ℕ) → AreNoLower before after → AreFeasible wave pairing after
    → IsTightFor wave pairing before order batch → IsTightFor wave pairing after order batch
still_tight wave pairing before after batch order no_lower feasible is = record {
  permitted = is.permitted;
  holds = is.holds;
  total = is.total;
  long = is.long;
  equal = omega (arith, no_lower_batch before after batch no_lower, feasible batch is.total is.permitted is.long, is.equal);
}

-- none is listed
pub none_tight : (wave : WavePicks) (pairing : Pairing) (duals : List ℕ) → AreListedTight wave pairing duals 0 []
none_tight wave pairing duals = record { count = refl; each = λ order low. absurd (omega arith) }

-- a batch that is tight for an order is tight for each that it has
pub tight_with : (wave : WavePicks) (pairing : Pairing) (duals batch : List ℕ) (order count : ℕ) (tight : List (List ℕ))
    → AreListedTight wave pairing duals count tight → IsListedWith tight order batch → IsTightFor wave pairing duals order batch
tight_with wave pairing duals batch order count tight listed with =
    let there = subst (λ (b : List ℕ). IsTightFor wave pairing duals with.place b) with.is
    (listed.each with.place (omega (arith, with.within, listed.count))) in record {
      permitted = there.permitted;
      holds = with.holds;
      total = there.total;
      long = there.long;
      equal = there.equal;
    }

-- one more is listed, after its order's dual was raised
pub one_more_tight : (wave : WavePicks) (pairing : Pairing) (before after batch : List ℕ) (order : ℕ) (tight : List (List ℕ)) → AreNoLower before after
    → AreFeasible wave pairing after → AreListedTight wave pairing before order tight → IsTightFor wave pairing after order batch
    → AreListedTight wave pairing after (order + 1) (tight ++ batch ∷ [])
one_more_tight wave pairing before after batch order tight no_lower feasible listed is = record {
  count = omega (arith, length-append tight (batch ∷ []), listed.count);
  each = λ k low. ⊎_elim
      (λ (e : k ≡ order). let here = get_or_push tight batch [] k (listed.count ∙ sym e) in
      subst (λ (b : List ℕ). IsTightFor wave pairing after k b) (sym here) (subst (λ (o : ℕ). IsTightFor wave pairing after o batch) (sym e) is))
      (λ (ne : k ≢ order). let there = get_or_append_left tight (batch ∷ []) [] k (omega (arith, listed.count, ne)) in
      subst (λ (b : List ℕ). IsTightFor wave pairing after k b) (sym there)
      (still_tight wave pairing before after (get_or tight k []) k no_lower feasible (listed.each k (omega (arith, ne)))))
      (cases_eq k order);
}

-- where nothing isn't found, something is
pub found_some : {X : Type 0} (Nothing : Type 0) (found : Option X) → IfNone found Nothing → (Nothing → ⊥) → IsSome found
found_some Nothing None none never = absurd (never none)
found_some Nothing (Some x) none never = refl

-- what two batches of orders of the wave have together are orders of the wave
pub union_known : (orders : ℕ) (left right both : List ℕ) → ((p : ℕ) → Contains both p ↔ (Contains left p ⊎ Contains right p))
    → All (λ o. o < orders) left → All (λ o. o < orders) right → All (λ o. o < orders) both
union_known orders left right both is first second =
    all_from_contained (λ (o : ℕ). o < orders) both
    (λ o has. ⊎_elim (λ one. All-contains (λ (k : ℕ). k < orders) left o first one)
    (λ other. All-contains (λ (k : ℕ). k < orders) right o second other) ((is o).0 has))
