-- The starts of waves so far, and of one more.
use Rattle.std.proofs.Common.{refl, suc, ◌≡◌, ◌∙◌, sym, ap, subst, ℕ, ◌+◌, ◌<◌, List, [], ◌∷◌, ◌++◌, take, length, get_or, add-one}
use Rattle.std.proofs.Math.Seq.{take-suc}
use Rattle.wp_machine.specs.declared.outcome.WaveHolds.{WaveHolds}
use Rattle.wp_model.specs.Opening.{Opening}
use Rattle.wp_model.specs.Warehouse.{Layout}
use Rattle.wp_waves_out.specs.Starts.{AreStarts, IsStart}

-- one wave more has its start
starts_and : (layout : Layout) (opening : Opening) (capacity : ℕ) (sent : List WaveHolds) (starts : List ℕ) (wave : WaveHolds) (start : ℕ)
    → AreStarts layout opening capacity sent starts → IsStart layout opening capacity wave start
    → AreStarts layout opening capacity (sent ++ wave ∷ []) (starts ++ start ∷ [])
starts_and layout opening capacity [] [] wave start are is = (is, tt)
starts_and layout opening capacity [] (s ∷ starts) wave start are is = absurd are
starts_and layout opening capacity (w ∷ sent) [] wave start are is = absurd are
starts_and layout opening capacity (w ∷ sent) (s ∷ starts) wave start are is =
    (are.0, starts_and layout opening capacity sent starts wave start are.1 is)

pub starts_more : (layout : Layout) (opening : Opening) (capacity : ℕ) (sent : List WaveHolds) (i : ℕ) (old new : List ℕ) (wave : WaveHolds) (start : ℕ)
    → i < length sent → wave ≡ get_or sent i wave → AreStarts layout opening capacity (take i sent) old → IsStart layout opening capacity wave start
    → new ≡ old ++ start ∷ [] → AreStarts layout opening capacity (take (i + 1) sent) new
starts_more layout opening capacity sent i old new wave start within at are is pushed =
    let grows : take (i + 1) sent ≡ take i sent ++ wave ∷ [] = rw add-one
    (take-suc sent i wave within ∙ ap (λ (w : WaveHolds). take i sent ++ w ∷ []) (sym at)) in
    subst (AreStarts layout opening capacity (take (i + 1) sent)) (sym pushed)
    (subst (λ (ws : List WaveHolds). AreStarts layout opening capacity ws (old ++ start ∷ [])) (sym grows)
    (starts_and layout opening capacity (take i sent) old wave start are is))

-- there are as many starts as waves
pub same_starts : (layout : Layout) (opening : Opening) (capacity : ℕ) (sent : List WaveHolds) (starts : List ℕ) → AreStarts layout opening capacity sent starts
    → length starts ≡ length sent
same_starts layout opening capacity [] [] are = refl
same_starts layout opening capacity [] (s ∷ starts) are = absurd are
same_starts layout opening capacity (w ∷ sent) [] are = absurd are
same_starts layout opening capacity (w ∷ sent) (s ∷ starts) are = ap suc (same_starts layout opening capacity sent starts are.1)
