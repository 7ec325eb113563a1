-- The names of waves so far, and of one more.
use Rattle.std.proofs.Common.{refl, suc, ◌≡◌, ◌∙◌, sym, ap, subst, ℕ, ◌+◌, ◌<◌, List, [], ◌∷◌, ◌++◌, append_assoc, take, length, get_or, add-one, Vec}
use Rattle.std.proofs.Math.Seq.{take-suc}
use Rattle.std.proofs.lemmas.List.{append-nil, map-append}
use Rattle.std.specs.declared.alloc.Global.{Global}
use Rattle.wp_outgoing.specs.Names.{AreNamesOf, IsNameOf, group_of}
use Rattle.wp_waves.specs.Filling.{waves_kept}
use Rattle.wp_waves.specs.declared.open_orders.OpenOrder.{OpenOrder}

-- one wave more is named
pub names_more : (taken : List (List ℕ)) (waves : List (List OpenOrder)) (names : List (List ℕ)) (wave : List OpenOrder) (name : List ℕ)
    → AreNamesOf taken waves names → IsNameOf (taken ++ names) (group_of wave) name → AreNamesOf taken (waves ++ wave ∷ []) (names ++ name ∷ [])
names_more taken [] [] wave name are is = (subst (λ (t : List (List ℕ)). IsNameOf t (group_of wave) name) (append-nil taken) is, tt)
names_more taken [] (n ∷ names) wave name are is = absurd are
names_more taken (w ∷ waves) [] wave name are is = absurd are
names_more taken (w ∷ waves) (n ∷ names) wave name are is = (
  are.0,
  names_more (taken ++ n ∷ []) waves names wave name are.1
      (subst (λ (t : List (List ℕ)). IsNameOf t (group_of wave) name) (sym (append_assoc taken (n ∷ []) names)) is),
)

-- one wave more is looked at
pub kept_more : (waves : List (Vec OpenOrder Global)) (i : ℕ) (wave : Vec OpenOrder Global) → i < length waves → wave ≡ get_or waves i wave
    → waves_kept (take (i + 1) waves) ≡ waves_kept (take i waves) ++ wave.items ∷ []
kept_more waves i wave within is =
    ap waves_kept (rw add-one (take-suc waves i wave within ∙ ap (λ (w : Vec OpenOrder Global). take i waves ++ w ∷ []) (sym is)))
    ∙ map-append (λ (w : Vec OpenOrder Global). w.items) (take i waves) (wave ∷ [])

-- there are as many names as waves
pub same_count : (taken : List (List ℕ)) (waves : List (List OpenOrder)) (names : List (List ℕ)) → AreNamesOf taken waves names
    → length names ≡ length waves
same_count taken [] [] are = refl
same_count taken [] (n ∷ names) are = absurd are
same_count taken (w ∷ waves) [] are = absurd are
same_count taken (w ∷ waves) (n ∷ names) are = ap suc (same_count (taken ++ n ∷ []) waves names are.1)
