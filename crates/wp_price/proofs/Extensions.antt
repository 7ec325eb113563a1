-- Batches that extend a place: they have a further item or begin later, and none is better than its reach allows.
use Rattle.std.proofs.Common.{◌≡◌, ℕ, ◌+◌, ◌<◌, ◌≤◌, List, [], length, arith, subst, ⊎_elim, Contains}
use Rattle.std.specs.Prelude.{Some, slice_index}
use Rattle.std.proofs.lemmas.List.Elements.{All-contains}
use Rattle.wp_pairs.specs.Permitted.{AreJoined, IsPermitted, Pairing}
use Rattle.wp_pairs.proofs.Classes.{joined_in}
use Rattle.wp_pairs.proofs.Members.{contains_none}
use Rattle.wp_lengths.proofs.Unions.{all_from_contained}
use Rattle.wp_lengths.specs.Visits.{AreFurther, IsLater, IsReach}
use Rattle.wp_lengths.proofs.Ascending.{IsSplit, split_off}
use Rattle.wp_lengths.proofs.FewerOrders.{more_orders_no_shorter, same_length}
use Rattle.wp_lengths.proofs.Visits.{Extends, IsPlace}
use Rattle.wp_price.specs.declared.best.LeastBatch.{LeastBatch}
use Rattle.wp_price.specs.Bests.{IsNoWorse}
use Rattle.wp_visit.specs.Places.{Task}
use Rattle.wp_visit.proofs.Lists.{one_list}
use Rattle.wp_price.specs.Searches.{IsBeaten, IsRaised}

-- each permitted batch extends the place of no order
pub extends_none : (pairing : Pairing) (place batch : List ℕ) → place ≡ [] → IsPermitted pairing batch → Extends pairing place 0 batch
extends_none pairing place batch e permitted = record {
  permitted = permitted;
  holds = λ x has. absurd (contains_none x (subst (λ (ys : List ℕ). Contains ys x) e has));
  later = λ x has out. record { known = All-contains (λ o. o < pairing.orders) batch x permitted.known has; later = λ other joined. omega arith };
}

-- each permitted batch that has an order extends the class of it
pub extends_class : (pairing : Pairing) (class batch : List ℕ) (order : ℕ) → ((other : ℕ) → Contains class other → AreJoined pairing.pairs order other)
    → IsPermitted pairing batch → Contains batch order → Extends pairing class 0 batch
extends_class pairing class batch order is permitted has = record {
  permitted = permitted;
  holds = λ x there. joined_in pairing batch order x permitted (is x there) has;
  later = λ x there out. record { known = All-contains (λ o. o < pairing.orders) batch x permitted.known there; later = λ other joined. omega arith };
}

-- a batch that extends a place, without its orders
further : (f : ℕ → ℕ) (pairing : Pairing) (place batch : List ℕ) (from : ℕ) → IsPlace pairing place → Extends pairing place from batch → IsSplit f place batch
further f pairing place batch from closed extends = split_off f place batch closed.ascending extends.permitted.ascending extends.holds

no_further : (f : ℕ → ℕ) (pairing : Pairing) (place batch : List ℕ) (from : ℕ) (closed : IsPlace pairing place) → (extends : Extends pairing place from batch)
    → (s : IsSplit f place batch) → ((x : ℕ) → Contains s.rest x → ⊥) → batch ≡ place
no_further f pairing place batch from closed extends s none = one_list batch place extends.permitted.ascending closed.ascending
    (λ x has. ⊎_elim (λ (old : Contains place x). old) (λ rest. absurd (none x rest)) (s.covers x has)) extends.holds

-- a batch that extends a full place is the place
pub full_same : (pairing : Pairing) (place batch : List ℕ) (from : ℕ) → IsPlace pairing place → pairing.capacity ≤ length place
    → Extends pairing place from batch → batch ≡ place
full_same pairing place batch from closed full extends =
    let s = further (λ (x : ℕ). x) pairing place batch from closed extends in
    no_further (λ (x : ℕ). x) pairing place batch from closed extends s (λ x has. omega (arith, has.1, s.counts, full, extends.permitted.fits))

-- a batch has one slack
same_raised : (task : Task) (batch : List ℕ) (one other : ℕ) → IsRaised task batch one → IsRaised task batch other → one ≡ other
same_raised task batch one other first second =
    let same = same_length task.wave batch first.total second.total first.long second.long in omega (arith, first.is, second.is, same)

-- a batch that is no better with its slack is no better
pub known_beaten : (task : Task) (best : LeastBatch) (batch : List ℕ) (raised : ℕ) → IsRaised task batch raised
    → IsNoWorse best (record { batch = batch; raised = raised }) → IsBeaten task (Some best) batch
known_beaten task best batch raised is no_worse = λ other also.
    subst (λ (r : ℕ). IsNoWorse best (record { batch = batch; raised = r })) (same_raised task batch raised other is also) no_worse

-- no batch that extends a place is better than the best, where the reach of the place doesn't bring it there
pub beaten_by_reach : (task : Task) (place batch : List ℕ) (from raised reach : ℕ) (best : LeastBatch) → IsPlace task.pairing place
    → IsRaised task place raised → IsReach task.pairing task.duals place from reach → best.raised + reach < raised → Extends task.pairing place from batch
    → IsBeaten task (Some best) batch
beaten_by_reach task place batch from raised reach best closed is reaches far extends = λ other also.
    let s = further (slice_index task.duals) task.pairing place batch from closed extends in
    let more : AreFurther task.pairing place from s.rest = record {
      ascending = s.ascending;
      fits = omega (arith, s.counts, extends.permitted.fits);
      later = all_from_contained (IsLater task.pairing from) s.rest (λ x has. extends.later x (s.of_whole x has) (s.not_of_part x has));
    } in
    let low : best.raised < other = omega (
      arith,
      s.sums,
      reaches.most s.rest more,
      is.is,
      also.is,
      far,
      more_orders_no_shorter task.wave place batch is.total also.total extends.holds is.long also.long,
    ) in
    record { low = omega (arith, low); first = λ e. absurd (omega (arith, low, e)) }
