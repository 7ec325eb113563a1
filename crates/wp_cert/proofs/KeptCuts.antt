-- The cuts of a tree, kept one after the other.
use Rattle.std.proofs.Common.{◌≡◌, ◌∙◌, ℕ, ◌+◌, ◌<◌, List, [], ◌∷◌, ◌++◌, All, length, take, get_or, ap, subst, sym}
use Rattle.std.proofs.lemmas.List.{take_more}
use Rattle.std.proofs.lemmas.List.Elements.{All-push}
use Rattle.wp_cuts.specs.Cuts.{CutParts, IsRankCut}

-- one more cut
pub more_cuts : (orders : ℕ) (written before after : List CutParts) (i : ℕ) (cut : CutParts) → i < length written → cut ≡ get_or written i cut
    → after ≡ before ++ cut ∷ [] → IsRankCut orders cut → before ≡ take i written → All (IsRankCut orders) (take i written)
    → (after ≡ take (i + 1) written) × All (IsRankCut orders) (take (i + 1) written)
more_cuts orders written before after i cut within is kept valid so_far all =
    let next : take (i + 1) written ≡ take i written ++ cut ∷ [] =
    take_more written i cut within ∙ ap (λ (c : CutParts). take i written ++ c ∷ []) (sym is) in (
      kept ∙ (ap (λ (cs : List CutParts). cs ++ cut ∷ []) so_far ∙ sym next),
      subst (λ (cs : List CutParts). All (IsRankCut orders) cs) (sym next) (All-push (IsRankCut orders) (take i written) cut all valid),
    )

-- a written cut that isn't one
pub not_all_cuts : (orders : ℕ) (written : List CutParts) (i : ℕ) (d cut : CutParts) → i < length written → cut ≡ get_or written i d
    → (IsRankCut orders cut → ⊥) → All (IsRankCut orders) written → ⊥
not_all_cuts orders written i d cut within is none all = none (subst (λ (c : CutParts). IsRankCut orders c) (sym is) (all i d within))
