-- What is taken off, cut after cut.
use Rattle.std.proofs.Common.{◌≡◌, ℕ, zero, suc, ◌+◌, ◌*◌, ◌<◌, ◌≤◌, List, [], ◌∷◌, length, drop, arith, refl, ap, ◌∙◌, inl, inr, ◌⊎◌, ⊎_elim}
use Rattle.std.specs.Prelude.{slice_index, slice_index_or}
use Rattle.std.proofs.lemmas.List.{drop_more}
use Rattle.wp_cuts.specs.Cuts.{CutParts, times_met, times_met_by_all}
use Rattle.wp_cuts.specs.Prices.{taken_off, taken_off_all}

-- one cut more
pub off_more : (cuts : List CutParts) (prices batch : List ℕ) (at : ℕ) (d : CutParts) → at < length cuts → at < length prices
    → taken_off (drop at cuts) (drop at prices) batch
    ≡ slice_index prices at * times_met (slice_index_or cuts at d) batch + taken_off (drop (at + 1) cuts) (drop (at + 1) prices) batch
off_more cuts prices batch at d low within =
    ap (λ (cs : List CutParts). taken_off cs (drop at prices) batch) (drop_more cuts at d low)
    ∙ ap (λ (ps : List ℕ). taken_off (slice_index_or cuts at d ∷ drop (at + 1) cuts) ps batch) (drop_more prices at 0 within)

pub off_all_more : (cuts : List CutParts) (prices : List ℕ) (at : ℕ) (d : CutParts) → at < length cuts → at < length prices
    → taken_off_all (drop at cuts) (drop at prices)
    ≡ slice_index prices at * times_met_by_all (slice_index_or cuts at d) + taken_off_all (drop (at + 1) cuts) (drop (at + 1) prices)
off_all_more cuts prices at d low within =
    ap (λ (cs : List CutParts). taken_off_all cs (drop at prices)) (drop_more cuts at d low)
    ∙ ap (λ (ps : List ℕ). taken_off_all (slice_index_or cuts at d ∷ drop (at + 1) cuts) ps) (drop_more prices at 0 within)

-- none are left where the cuts or the prices end
pub off_end : (cuts : List CutParts) (prices batch : List ℕ) (at : ℕ) → (length cuts ≤ at) ⊎ (length prices ≤ at)
    → taken_off (drop at cuts) (drop at prices) batch ≡ 0
off_end [] prices batch at ends = nothing_left at prices
  where
    nothing_left : (at : ℕ) (prices : List ℕ) → taken_off (drop at []) (drop at prices) batch ≡ 0
    nothing_left zero prices = refl
    nothing_left (suc at) prices = refl
off_end (cut ∷ cuts) [] batch zero ends = refl
off_end (cut ∷ cuts) [] batch (suc at) ends = off_nothing (drop at cuts)
  where
    off_nothing : (cs : List CutParts) → taken_off cs [] batch ≡ 0
    off_nothing [] = refl
    off_nothing (c ∷ cs) = refl
off_end (cut ∷ cuts) (price ∷ prices) batch zero ends = absurd (⊎_elim (λ l. omega (arith, l)) (λ r. omega (arith, r)) ends)
off_end (cut ∷ cuts) (price ∷ prices) batch (suc at) ends =
    off_end cuts prices batch at (⊎_elim (λ l. inl (omega (arith, l))) (λ r. inr (omega (arith, r))) ends)

pub off_all_end : (cuts : List CutParts) (prices : List ℕ) (at : ℕ) → (length cuts ≤ at) ⊎ (length prices ≤ at)
    → taken_off_all (drop at cuts) (drop at prices) ≡ 0
off_all_end [] prices at ends = nothing_left at prices
  where
    nothing_left : (at : ℕ) (prices : List ℕ) → taken_off_all (drop at []) (drop at prices) ≡ 0
    nothing_left zero prices = refl
    nothing_left (suc at) prices = refl
off_all_end (cut ∷ cuts) [] zero ends = refl
off_all_end (cut ∷ cuts) [] (suc at) ends = off_nothing (drop at cuts)
  where
    off_nothing : (cs : List CutParts) → taken_off_all cs [] ≡ 0
    off_nothing [] = refl
    off_nothing (c ∷ cs) = refl
off_all_end (cut ∷ cuts) (price ∷ prices) zero ends = absurd (⊎_elim (λ l. omega (arith, l)) (λ r. omega (arith, r)) ends)
off_all_end (cut ∷ cuts) (price ∷ prices) (suc at) ends =
    off_all_end cuts prices at (⊎_elim (λ l. inl (omega (arith, l))) (λ r. inr (omega (arith, r))) ends)
