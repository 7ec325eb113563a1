-- Batches that extend a place: they have a further item or begin later.
use Rattle.std.proofs.Common.{◌≡◌, ◌≢◌, ℕ, ◌+◌, ◌<◌, ◌≤◌, List, arith, subst, inl, inr, ◌⊎◌, ⊎_elim, Contains}
use Rattle.std.proofs.lemmas.Bool.{cases_eq}
use Rattle.std.proofs.lemmas.List.Elements.{All-contains}
use Rattle.wp_pairs.specs.Permitted.{AreJoined, IsPermitted, Pairing, itself}
use Rattle.wp_pairs.proofs.Chains.{joined_back, joined_on}
use Rattle.wp_pairs.proofs.Classes.{joined_in}
use Rattle.wp_pairs.proofs.KeptPairs.{in_or_not}
use Rattle.wp_lengths.specs.Visits.{AddsItem, IsItem}
use Rattle.wp_lengths.proofs.Ascending.{IsSplit, split_off}
use Rattle.wp_lengths.proofs.Visits.{Extends, IsPlace, union_permitted}
use Rattle.wp_visit.specs.Places.{IsNoChild}
use Rattle.wp_visit.proofs.Lists.{one_list}

-- where no further order is joined to an order, all of them are of items after it
after_item : (pairing : Pairing) (place batch : List ℕ) (order : ℕ) → Extends pairing place order batch
    → ((x : ℕ) → Contains batch x → (Contains place x → ⊥) → AreJoined pairing.pairs x order → ⊥) → Extends pairing place (order + 1) batch
after_item pairing place batch order extends none = record {
  permitted = extends.permitted;
  holds = extends.holds;
  later = λ x has out. let old = extends.later x has out in record {
    known = old.known;
    later = λ other joined. let low = old.later other joined in
        ⊎_elim (λ (e : other ≡ order). absurd (none x has out (subst (λ (o : ℕ). AreJoined pairing.pairs x o) e joined)))
        (λ (ne : other ≢ order). omega (arith, low, ne)) (cases_eq other order);
  };
}

-- a batch that extends a place to which an order adds nothing has only items after the order
pub past_no_child : (pairing : Pairing) (place batch : List ℕ) (order : ℕ) → IsPlace pairing place → IsNoChild pairing place order
    → Extends pairing place order batch → Extends pairing place (order + 1) batch
past_no_child pairing place batch order closed adds_none extends = after_item pairing place batch order extends (λ x has out joined. ⊎_elim
    (λ (there : Contains place order). out (closed.closed order x there (joined_back joined)))
    (λ more. ⊎_elim
    (λ (never : IsItem pairing order → ⊥). never (record {
      known = All-contains (λ o. o < pairing.orders) batch order extends.permitted.known (joined_in pairing batch x order extends.permitted joined has);
      least = λ other next. (extends.later x has out).later other (joined_on joined next);
    }))
    (λ (u : (union : List ℕ) × AddsItem pairing place order union × (IsPermitted pairing union → ⊥)). u.2
    (union_permitted pairing place batch u.0 order closed extends.permitted extends.holds (joined_in pairing batch x order extends.permitted joined has) u.1))
    more) adds_none)

-- a batch that extends a place has the item that an order names and extends the place with it, or has only items after the order
pub with_or_after : (pairing : Pairing) (place union batch : List ℕ) (order : ℕ) → AddsItem pairing place order union → Extends pairing place order batch
    → Extends pairing union (order + 1) batch ⊎ Extends pairing place (order + 1) batch
with_or_after pairing place union batch order adds extends = ⊎_elim
    (λ (has : Contains batch order). inl (record {
      permitted = extends.permitted;
      holds = λ x h. ⊎_elim (λ (old : Contains place x). extends.holds x old) (λ j. joined_in pairing batch order x extends.permitted j has)
          ((adds.orders x).0 h);
      later = λ x there out. let old = extends.later x there (λ h. out ((adds.orders x).1 (inl h))) in record {
        known = old.known;
        later = λ other joined. let low = old.later other joined in
            ⊎_elim (λ (e : other ≡ order).
            absurd (out ((adds.orders x).1 (inr (joined_back (subst (λ (o : ℕ). AreJoined pairing.pairs x o) e joined))))))
            (λ (ne : other ≢ order). omega (arith, low, ne)) (cases_eq other order);
      };
    }))
    (λ none. inr (after_item pairing place batch order extends (λ x has out joined. none (joined_in pairing batch x order extends.permitted joined has))))
    (in_or_not batch order)

-- a batch that extends a place, without its orders
further : (f : ℕ → ℕ) (pairing : Pairing) (place batch : List ℕ) (from : ℕ) → IsPlace pairing place → Extends pairing place from batch → IsSplit f place batch
further f pairing place batch from closed extends = split_off f place batch closed.ascending extends.permitted.ascending extends.holds

no_further : (f : ℕ → ℕ) (pairing : Pairing) (place batch : List ℕ) (from : ℕ) (closed : IsPlace pairing place) → (extends : Extends pairing place from batch)
    → (s : IsSplit f place batch) → ((x : ℕ) → Contains s.rest x → ⊥) → batch ≡ place
no_further f pairing place batch from closed extends s none = one_list batch place extends.permitted.ascending closed.ascending
    (λ x has. ⊎_elim (λ (old : Contains place x). old) (λ rest. absurd (none x rest)) (s.covers x has)) extends.holds

-- a batch that extends a place with items after all orders is the place
pub past_same : (pairing : Pairing) (place batch : List ℕ) (from : ℕ) → IsPlace pairing place → pairing.orders ≤ from → Extends pairing place from batch
    → batch ≡ place
past_same pairing place batch from closed past extends =
    let s = further (λ (x : ℕ). x) pairing place batch from closed extends in
    no_further (λ (x : ℕ). x) pairing place batch from closed extends s
    (λ x has. let l = extends.later x (s.of_whole x has) (s.not_of_part x has) in omega (arith, l.known, l.later x itself, past))
