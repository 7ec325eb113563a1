-- Orders that batches have.
use Rattle.std.proofs.Common.{◌≡◌, ◌≢◌, ◌⊎◌, ⊎_elim, inl, inr, ℕ, ◌<◌, Bool, true, false, eqb, List, [], ◌∷◌, ◌||◌, length, Contains}
use Rattle.std.proofs.Common.{arith, ap, sym, subst, refl, ◌∙◌}
use Rattle.std.proofs.lemmas.Bool.Decides.{eqb_tells}
use Rattle.std.specs.List.{list_any}
use Rattle.std.specs.List.Sorted.{IsStrictlyIncreasing}
use Rattle.wp_lengths.proofs.Unions.{all_from_contained, nothing_in}
use Rattle.wp_pairs.proofs.Classes.{no_longer, part_fits}
use Rattle.wp_pairs.proofs.Members.{contains_cases, contains_first, contains_later, contains_none}
use Rattle.wp_pairs.specs.Permitted.{IsPermitted, Pairing}
use Rattle.std.proofs.lemmas.List.Elements.{All-contains}
use Rattle.wp_lp.specs.Covers.{has}

-- the test whether a batch has an order tells
pub has_tells : (batch : List ℕ) (order : ℕ)
    → ((has batch order ≡ true) × Contains batch order) ⊎ ((has batch order ≡ false) × (Contains batch order → ⊥))
has_tells [] order = inr (refl, contains_none order)
has_tells (x ∷ xs) order = ⊎_elim
    (λ (same : (eqb x order ≡ true) × (x ≡ order)). inl (
      ap (λ (b : Bool). b || list_any (λ x. eqb x order) xs) same.0,
      subst (Contains (x ∷ xs)) same.1 (contains_first x xs),
    ))
    (λ (other : (eqb x order ≡ false) × (x ≢ order)). ⊎_elim
    (λ (later : (has xs order ≡ true) × Contains xs order). inl (
      ap (λ (b : Bool). b || list_any (λ x. eqb x order) xs) other.0 ∙ later.0,
      contains_later x order xs later.1,
    ))
    (λ (none : (has xs order ≡ false) × (Contains xs order → ⊥)). inr (
      ap (λ (b : Bool). b || list_any (λ x. eqb x order) xs) other.0 ∙ none.0,
      λ is. ⊎_elim other.1 none.1 (contains_cases x order xs is),
    )) (has_tells xs order)) (eqb_tells x order)

-- a batch has what it contains
pub has_true : (batch : List ℕ) (order : ℕ) → Contains batch order → has batch order ≡ true
has_true batch order is = ⊎_elim (λ (yes : (has batch order ≡ true) × Contains batch order). yes.0)
    (λ (no : (has batch order ≡ false) × (Contains batch order → ⊥)). absurd (no.1 is)) (has_tells batch order)

-- and not what it doesn't
pub has_false : (batch : List ℕ) (order : ℕ) → (Contains batch order → ⊥) → has batch order ≡ false
has_false batch order none = ⊎_elim (λ (yes : (has batch order ≡ true) × Contains batch order). absurd (none yes.1))
    (λ (no : (has batch order ≡ false) × (Contains batch order → ⊥)). no.0) (has_tells batch order)

-- what a batch has it contains
pub contains_has : (batch : List ℕ) (order : ℕ) → has batch order ≡ true → Contains batch order
contains_has batch order is = ⊎_elim (λ (yes : (has batch order ≡ true) × Contains batch order). yes.1)
    (λ (no : (has batch order ≡ false) × (Contains batch order → ⊥)). absurd (cc (is, no.0))) (has_tells batch order)

-- two batches that both contain an order, or neither, have it alike
pub has_alike : (left right : List ℕ) (order : ℕ) → (Contains left order → Contains right order) → (Contains right order → Contains left order)
    → has left order ≡ has right order
has_alike left right order there back = ⊎_elim
    (λ (yes : (has left order ≡ true) × Contains left order). yes.0 ∙ sym (has_true right order (there yes.1)))
    (λ (no : (has left order ≡ false) × (Contains left order → ⊥)). no.0 ∙ sym (has_false right order (λ is. no.1 (back is))))
    (has_tells left order)

-- where of no two orders it is decided whether they go together, some of the orders of a permitted batch are a permitted batch
pub some_permitted : (pairing : Pairing) (batch fewer : List ℕ) → pairing.pairs ≡ [] → IsPermitted pairing batch → IsStrictlyIncreasing fewer
    → 0 < length fewer → ((order : ℕ) → Contains fewer order → Contains batch order) → IsPermitted pairing fewer
some_permitted pairing batch fewer none permitted up some within = record {
  ascending = up;
  filled = some;
  fits = omega (arith, no_longer fewer batch up permitted.ascending within, permitted.fits);
  light = part_fits pairing.cart fewer batch up permitted.ascending within permitted.light;
  known = all_from_contained (λ (order : ℕ). order < pairing.orders) fewer
      (λ order is. All-contains (λ (order : ℕ). order < pairing.orders) batch order permitted.known (within order is));
  together = λ pair added kind. absurd (nothing_in pairing.pairs pair none added);
  apart = λ pair added kind both. nothing_in pairing.pairs pair none added;
}
