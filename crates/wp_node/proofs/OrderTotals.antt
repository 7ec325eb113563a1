-- Sums over the orders of all batches of a list: where each order is in one batch, they are those over all orders.
use Rattle.std.proofs.Common.{◌≡◌, ℕ, zero, suc, ◌+◌, ◌<◌, ◌≤◌, List, [], ◌∷◌, length, take, arith, refl, subst, Contains}
use Rattle.std.specs.Prelude.{slice_index, sum}
use Rattle.std.specs.List.Sorted.{IsStrictlyIncreasing}
use Rattle.std.proofs.lemmas.List.Sums.{sum_by_more}
use Rattle.wp_lengths.specs.Batchings.{IsBatching, batch_at}
use Rattle.wp_lengths.specs.Waves.{WavePicks}
use Rattle.wp_pairs.proofs.SumsUnder.{sum_under, under_none, under_with, under_without}

-- the sum over the orders of all batches that are below an end
abbrev pub total_under : (ℕ → ℕ) → ℕ → List (List ℕ) → ℕ
total_under f end [] = 0
total_under f end (batch ∷ batches) = sum_under f end batch + total_under f end batches

-- none is below 0
nothing_under : (f : ℕ → ℕ) (batches : List (List ℕ)) → total_under f 0 batches ≡ 0
nothing_under f [] = refl
nothing_under f (batch ∷ batches) = omega (arith, under_none f batch, nothing_under f batches)

-- an order that is in no batch adds nothing
under_nowhere : (f : ℕ → ℕ) (end : ℕ) (batches : List (List ℕ))
    → ((place : ℕ) → place < length batches → Contains (batch_at batches place) end → ⊥) → total_under f (end + 1) batches ≡ total_under f end batches
under_nowhere f end [] none = refl
under_nowhere f end (batch ∷ batches) none = omega (
  arith,
  under_without f end batch (none zero (omega arith)),
  under_nowhere f end batches (λ place within has. none (suc place) (omega arith) has),
)

-- an order that is in one batch alone adds its value
under_once : (f : ℕ → ℕ) (end place : ℕ) (batches : List (List ℕ))
    → ((k : ℕ) → k < length batches → IsStrictlyIncreasing (batch_at batches k)) → place < length batches → Contains (batch_at batches place) end
    → ((k : ℕ) → k < length batches → Contains (batch_at batches k) end → k ≡ place) → total_under f (end + 1) batches ≡ total_under f end batches + f end
under_once f end place [] up within has alone = absurd (omega arith)
under_once f end zero (batch ∷ batches) up within has alone = omega (
  arith,
  under_with f end batch (up zero (omega arith)) has,
  under_nowhere f end batches (λ k low other. let e = alone (suc k) (omega arith) other in omega (arith, e)),
)
under_once f end (suc place) (batch ∷ batches) up within has alone = omega (
  arith,
  under_without f end batch (λ first. let e = alone zero (omega arith) first in omega (arith, e)),
  under_once f end place batches (λ k low. up (suc k) (omega arith)) (omega arith) has
      (λ k low other. let e : suc k ≡ suc place = alone (suc k) (omega arith) other in omega (arith, e)),
)

-- of a batching it is the sum of the first values
pub first_values : (wave : WavePicks) (capacity : ℕ) (batches : List (List ℕ)) (values : List ℕ) → IsBatching wave capacity batches
    → length values ≡ length wave.orders → (end : ℕ) → end ≤ length wave.orders → total_under (slice_index values) end batches ≡ sum (take end values)
first_values wave capacity batches values is count zero within = nothing_under (slice_index values) batches
first_values wave capacity batches values is count (suc end) within =
    let at = is.covered end (omega arith) in
    let more = under_once (slice_index values) end at.0 batches (λ k low. (is.each k low).ascending) at.1 at.2
    (λ k low has. is.once end k at.0 low at.1 has at.2) in
    let taken = sum_by_more (λ (x : ℕ). x) values end 0 (omega (arith, within, count)) in
    let before = first_values wave capacity batches values is count end (omega (arith, within)) in
    let e : end + 1 ≡ suc end = omega arith in
    subst (λ (k : ℕ). total_under (slice_index values) k batches ≡ sum (take k values)) e (omega (arith, more, taken, before))
