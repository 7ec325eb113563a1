-- Passes between two calls: what a step asks of them, and what they are after it.
use Rattle.std.proofs.Common.{◌≡◌, ℕ, ◌+◌, List, [], ◌∷◌, ◌++◌, length, refl, ap, sym, ◌∙◌, subst, length-append, arith}
use mathlib.Core.Option.{none}
use Rattle.atomic_table.specs.Table.{Me, step, Allows, Joins}
use Rattle.wp_turn.specs.Rests.{Rests}
use Rattle.wp_turn.specs.Rule.{Kept}
use Rattle.wp_turn.specs.Told.{Looked}
use Rattle.wp_turn.specs.Views.{rested, joined, spent}
use Rattle.wp_turn.specs.declared.view.View.{View}
use Rattle.wp_turn.specs.Weights.{only}
use Rattle.wp_turn.proofs.Sums.{total-append}
use Rattle.wp_turn.proofs.Steps.{looks, meets}

module _ {T E S : Type 0} (entries : T → List E) (setting : T → S) where
  -- a pass at rest, as its parts
  pub at_rest : (start : T) (me : Me T (View T E)) (caller seen stands made : ℕ) → Rests entries me caller seen stands made → me.0.start ≡ start ∷ []
      → me ≡ (rested (start ∷ []) me.0.calls caller me.0.callers me.0.left, [])
  at_rest start me caller seen stands made rests begun = rests.still ∙ ap (λ (b : List T). (rested b me.0.calls caller me.0.callers me.0.left, [])) begun

  -- a pass at rest may look
  pub looks_at_rest : (start : T) (callers slots id : ℕ) (me : Me T (View T E)) (caller seen stands made : ℕ) → Rests entries me caller seen stands made
      → me.0.start ≡ start ∷ []
      → Allows (Kept entries setting start callers) slots id me 0 (λ n. n) (Looked entries setting (step slots 0 0 0 none) me)
  looks_at_rest start callers slots id me caller seen stands made rests begun =
      subst (λ (m : Me T (View T E)). Allows (Kept entries setting start callers) slots id m 0 (λ n. n) (Looked entries setting (step slots 0 0 0 none) m))
      (sym (at_rest start me caller seen stands made rests begun)) (looks entries setting start callers slots id me.0.calls caller me.0.callers [] [] me.0.left)

  -- two passes at rest may meet
  pub meets_at_rest : (start : T) (callers id other : ℕ) (me me' : Me T (View T E)) (caller seen stands made caller' seen' stands' made' : ℕ)
      → Rests entries me caller seen stands made → Rests entries me' caller' seen' stands' made'
      → Joins (Kept entries setting start callers) id me.0 other me'.0 (joined me.0.start me.0.calls me.0.caller me.0.callers me'.0.calls me'.0.callers
      (me.0.left + me'.0.left)) spent
  meets_at_rest start callers id other me me' caller seen stands made caller' seen' stands' made' rests rests' =
      let Meets : View T E → View T E → Type 0 = λ v w. Joins (Kept entries setting start callers) id v other w
      (joined v.start v.calls v.caller v.callers w.calls w.callers (v.left + w.left)) spent in
      subst (λ (m : Me T (View T E)). Meets m.0 me'.0) (sym rests.still)
      (subst (λ (m : Me T (View T E)). Meets (rested me.0.start me.0.calls caller me.0.callers me.0.left) m.0) (sym rests'.still)
      (meets entries setting start callers id other me.0.start me'.0.start me.0.calls me'.0.calls caller caller' me.0.callers me'.0.callers me.0.left
      me'.0.left))

  -- a pass that was joined by another
  abbrev pub with_other : Me T (View T E) → Me T (View T E) → Me T (View T E)
  with_other me me' = (joined me.0.start me.0.calls me.0.caller me.0.callers me'.0.calls me'.0.callers (me.0.left + me'.0.left), me.1)

  -- it may look
  pub looks_joined : (start : T) (callers slots id : ℕ) (me me' mid : Me T (View T E)) (caller seen stands made : ℕ)
      → Rests entries me caller seen stands made → me.0.start ≡ start ∷ []
      → mid ≡ with_other me me' → Allows (Kept entries setting start callers) slots id mid 0 (λ n. n) (Looked entries setting (step slots 0 0 0 none) mid)
  looks_joined start callers slots id me me' mid caller seen stands made rests begun is =
      subst (λ (m : Me T (View T E)). Allows (Kept entries setting start callers) slots id m 0 (λ n. n) (Looked entries setting (step slots 0 0 0 none) m))
      (sym (is ∙ (λ i. (joined (begun i) me.0.calls me.0.caller me.0.callers me'.0.calls me'.0.callers (me.0.left + me'.0.left), (rests.still i).1))))
      (looks entries setting start callers slots id me.0.calls me.0.caller me.0.callers me'.0.calls me'.0.callers (me.0.left + me'.0.left))

  -- and is then at rest, standing for the callers of both
  pub met_rests : (slots : ℕ) (me me' mid after : Me T (View T E)) (caller seen stands made caller' seen' stands' made' found : ℕ)
      → Rests entries me caller seen stands made → Rests entries me' caller' seen' stands' made' → mid ≡ with_other me me'
      → Looked entries setting (step slots 0 0 0 none) mid found after → Rests entries after caller found (stands + stands') made
  met_rests slots me me' mid after caller seen stands made caller' seen' stands' made' found rests rests' is told' =
      let told = subst (λ (m : Me T (View T E)). Looked entries setting (step slots 0 0 0 none) m found after) is told' in
      let form : after ≡ (rested me.0.start told.calls caller (me.0.callers ++ me'.0.callers) (me.0.left + me'.0.left), []) =
      told.view ∙ (λ i. (
        rested me.0.start told.calls ((rests.still i).0.caller) (me.0.callers ++ me'.0.callers) (me.0.left + me'.0.left),
        (rests.still i).1,
      )) in
      let both : stands + stands' ≡ length (me.0.callers ++ me'.0.callers) = omega
      (arith, rests.stands_for, rests'.stands_for, length-append me.0.callers me'.0.callers) in
      subst (λ (m : Me T (View T E)). Rests entries m caller found (stands + stands') made) (sym form)
      record {
        still = refl;
        own = omega (arith, rests.own, total-append (only caller) me.0.callers me'.0.callers);
        stands_for = both;
        few = omega (arith, both, told.few);
        count = told.counts;
        calls = rests.calls ∙ ap length (sym (told.extends.own caller rests.own));
        left = omega (arith, rests.left);
      }
