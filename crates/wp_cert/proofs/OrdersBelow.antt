-- The orders of a batch that are below an order, in ascending order.
use Rattle.std.proofs.Common.{◌≡◌, ℕ, ◌+◌, ◌<◌, ◌↔◌, List, [], ◌∷◌, ◌++◌, Contains, arith, subst, sym, ⊎_elim}
use Rattle.std.specs.List.Sorted.{IsStrictlyIncreasing}
use Rattle.std.proofs.lemmas.Bool.{cases_eq}
use Rattle.std.proofs.lemmas.List.Elements.{Contains-append_left, Contains-push, Contains-push_cases}
use Rattle.wp_pairs.specs.Batches.{IsBatch}
use Rattle.wp_pairs.proofs.Members.{contains_none}
use Rattle.wp_cert.proofs.TextBatches.{more_ascends, same_ascending}

-- these are the orders of the batch below an order
pub record AreBelow (batch : List ℕ) (order : ℕ) (orders : List ℕ) : Type 0 where
  pub ascending : IsStrictlyIncreasing orders
  pub same : (p : ℕ) → Contains orders p ↔ (Contains batch p × (p < order))

-- none is below 0
pub none_below : (batch : List ℕ) → AreBelow batch 0 []
none_below batch = record {
  ascending = λ k within. absurd (omega arith);
  same = λ p. (λ has. absurd (contains_none p has), λ has. absurd (omega (arith, has.1)));
}

-- an order of the batch comes next
pub more_below : (batch : List ℕ) (order : ℕ) (orders : List ℕ) → Contains batch order → AreBelow batch order orders
    → AreBelow batch (order + 1) (orders ++ order ∷ [])
more_below batch order orders has below = record {
  ascending = more_ascends orders order below.ascending (λ y old. ((below.same y).0 old).1);
  same = λ p. (
    λ is. ⊎_elim (λ old. let was = (below.same p).0 old in (was.0, omega (arith, was.1)))
        (λ (e : order ≡ p). (subst (λ (q : ℕ). Contains batch q) e has, omega arith)) (Contains-push_cases orders order p is),
    λ is. ⊎_elim (λ (e : p ≡ order). subst (λ (q : ℕ). Contains (orders ++ order ∷ []) q) (sym e) (Contains-push orders order))
        (λ ne. Contains-append_left orders (order ∷ []) p ((below.same p).1 (is.0, omega (arith, is.1, ne)))) (cases_eq p order),
  );
}

-- an order that isn't in the batch doesn't
pub same_below : (batch : List ℕ) (order : ℕ) (orders : List ℕ) → (Contains batch order → ⊥) → AreBelow batch order orders
    → AreBelow batch (order + 1) orders
same_below batch order orders none below = record {
  ascending = below.ascending;
  same = λ p. (
    λ is. let was = (below.same p).0 is in (was.0, omega (arith, was.1)),
    λ is. ⊎_elim (λ (e : p ≡ order). absurd (none (subst (λ (q : ℕ). Contains batch q) e is.0)))
        (λ ne. (below.same p).1 (is.0, omega (arith, is.1, ne))) (cases_eq p order),
  );
}

-- all are below 64
pub all_below : (batch orders : List ℕ) → IsBatch batch → ((p : ℕ) → Contains batch p → p < 64) → AreBelow batch 64 orders → orders ≡ batch
all_below batch orders is low below =
    same_ascending orders batch below.ascending is.ascending (λ z has. ((below.same z).0 has).0) (λ z has. (below.same z).1 (has, low z has))
