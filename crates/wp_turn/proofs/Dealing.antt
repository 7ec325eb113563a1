-- The seat that draws the caller numbers at the opening.
use Rattle.std.proofs.Common.{◌≡◌, ℕ, ◌+◌, ◌-◌, ◌*◌, ◌%◌, ◌^◌, ◌<◌, List, [], ◌∷◌, ap, sym, ◌∙◌, subst, arith}
use mathlib.Core.Option.{none}
use Rattle.atomic_table.specs.Table.{Me, step, Allows, Splits}
use Rattle.wp_turn.specs.Dealt.{Deals}
use Rattle.wp_turn.specs.Promises.{Opening}
use Rattle.wp_turn.specs.Rule.{Kept, most_calls}
use Rattle.wp_turn.specs.Told.{Numbered}
use Rattle.wp_turn.specs.Views.{rested, numbering, handed_on}
use Rattle.wp_turn.specs.declared.view.View.{View}
use Rattle.wp_turn.proofs.Steps.{draws_number, hands_on}

module _ {T E S : Type 0} (entries : T → List E) (setting : T → S) where
  -- it may draw the next number, while some are left
  pub deals_number : (start : T) (callers slots id : ℕ) (turn : Opening T) (pending : ℕ) (me : Me T (View T E)) → 0 < pending → Deals turn pending me
      → Allows (Kept entries setting start callers) slots id me 2 (λ n. (n + 1) % 2 ^ 64) (Numbered entries setting (step slots 2 1 0 none) me)
  deals_number start callers slots id turn pending me some_left deals =
      let one_less : pending ≡ (pending - 1) + 1 = omega (arith, some_left) in
      subst (λ (m : Me T (View T E)). Allows (Kept entries setting start callers) slots id m 2 (λ n. (n + 1) % 2 ^ 64)
      (Numbered entries setting (step slots 2 1 0 none) m))
      (sym (deals ∙ ap (λ (k : ℕ). (numbering (turn.start ∷ []) [] 0 [] (pending * most_calls) (turn.made - pending) k, [])) one_less))
      (draws_number entries setting start callers slots id (turn.start ∷ []) (pending * most_calls) (turn.made - pending) (pending - 1))

  -- and then hands the right on to a new seat
  pub deals_on : (start : T) (callers slots id found : ℕ) (turn : Opening T) (pending : ℕ) (me after : Me T (View T E)) → 0 < pending → Deals turn pending me
      → Numbered entries setting (step slots 2 1 0 none) me found after
      → Splits (Kept entries setting start callers) id after.0 (rested after.0.start after.0.calls after.0.caller after.0.callers most_calls)
      (handed_on after.0 (after.0.left - most_calls))
  deals_on start callers slots id found turn pending me after some_left deals told =
      let left : me.0.left ≡ pending * most_calls = ap (λ (m : Me T (View T E)). m.0.left) deals in
      subst (λ (m : Me T (View T E)). Splits (Kept entries setting start callers) id m.0 (rested m.0.start m.0.calls m.0.caller m.0.callers most_calls)
      (handed_on m.0 (m.0.left - most_calls))) (sym told.1)
      (hands_on entries setting start callers id me.0.start [] (found + 1) ((found + 1) ∷ []) me.0.left (found + 1) (me.0.pending - 1)
      (omega (arith, left, some_left)))
