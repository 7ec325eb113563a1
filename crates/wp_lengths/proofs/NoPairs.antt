-- What batches are permitted where there is no pair, and that an order alone fits the cart of its wave.
use Rattle.std.proofs.Common.{◌≡◌, ℕ, ◌<◌, ◌≤◌, List, [], ◌∷◌, length, arith, sym, subst, Contains, Option, None, Some}
use Rattle.std.specs.Prelude.{slice_index}
use Rattle.std.specs.List.Sorted.{IsStrictlyIncreasing}
use Rattle.std.proofs.lemmas.List.Sums.{sum_by-cons}
use Rattle.wp_pairs.specs.Batches.{IsBatch}
use Rattle.wp_pairs.specs.Carts.{FitsAnyCart, IsCartFor, LoadedCart}
use Rattle.wp_pairs.specs.Permitted.{IsPermitted}
use Rattle.wp_pairs.proofs.Classes.{no_heavier}
use Rattle.wp_pairs.proofs.Members.{contains_first}
use Rattle.wp_lengths.specs.Batchings.{no_pairs}
use Rattle.wp_lengths.specs.Waves.{WavePicks}
use Rattle.wp_lengths.proofs.Ascending.{single_ascends}
use Rattle.wp_lengths.proofs.Unions.{all_from_contained}

-- a batch is permitted where there is no pair, if it is filled and fits
pub permitted_alone : (wave : WavePicks) (capacity : ℕ) (batch : List ℕ) → IsBatch batch → 0 < length batch → length batch ≤ capacity
    → FitsAnyCart wave.cart batch → ((order : ℕ) → Contains batch order → order < length wave.orders) → IsPermitted (no_pairs wave capacity) batch
permitted_alone wave capacity batch is filled fits light known = record {
  ascending = is.ascending;
  filled = filled;
  fits = fits;
  light = light;
  known = all_from_contained (λ (order : ℕ). order < length wave.orders) batch known;
  together = λ pair added kind. absurd (omega (arith, added.1));
  apart = λ pair added kind both. omega (arith, added.1);
}

-- a batch of one order fits the cart of a wave
pub alone_fits : (cart : Option LoadedCart) (orders : ℕ) (batch : List ℕ) (order : ℕ) → IsCartFor cart orders → order < orders → IsStrictlyIncreasing batch
    → ((p : ℕ) → Contains batch p → p ≡ order) → FitsAnyCart cart batch
alone_fits None orders batch order is low up own = tt
alone_fits (Some held) orders batch order is low up own =
    let loads = slice_index held.loads in
    let only = no_heavier loads batch (order ∷ []) up (single_ascends order)
    (λ p has. subst (λ (k : ℕ). Contains (order ∷ []) k) (sym (own p has)) (contains_first order [])) in
    let light = is.0.light order 0 (omega (arith, low, is.1)) in
    omega (arith, only, sum_by-cons loads order [], light)
