-- A call, from the place that it draws to its entry in the history.
use Rattle.std.proofs.Common.{◌≡◌, ℕ, ◌+◌, ◌-◌, ◌%◌, ◌^◌, ◌<◌, ◌≤◌, List, [], ◌∷◌, ◌++◌, length, true, false, refl, ap, sym, ◌∙◌, subst, length-append, arith}
use mathlib.Core.Option.{none}
use Rattle.atomic_table.specs.Table.{Me, step, rest, Allows}
use Rattle.wp_turn.specs.Calls.{IsAmong, calls_of, listed}
use Rattle.wp_turn.specs.Rests.{Rests}
use Rattle.wp_turn.specs.Rule.{Kept, most_calls, most_steps, most_callers}
use Rattle.wp_turn.specs.Told.{Extends, Drew, Came, Committed}
use Rattle.wp_turn.specs.Views.{rested, waiting}
use Rattle.wp_turn.specs.declared.view.View.{View}
use Rattle.wp_turn.proofs.CallLists.{prefix_trans, snoc_same, calls_of-own}
use Rattle.wp_turn.proofs.Steps.{draws_place, comes, commits, grows}

module _ {E : Type 0} where
  -- what goes on from calls that go on
  pub extends_on : (a b c : List (ℕ × E)) (callers : List ℕ) → Extends a callers b → Extends b callers c → Extends a callers c
  extends_on a b c callers one two = record { begins = prefix_trans a b c one.begins two.begins; own = λ n among. two.own n among ∙ one.own n among }

module _ {T E S : Type 0} (entries : T → List E) (setting : T → S) (start : T) where
  -- during a call, before the place is due
  abbrev pub Waits : ℕ → List ℕ → ℕ → Me T (View T E) → Type 0
  Waits caller mine place me = me ≡ (waiting (start ∷ []) me.0.calls caller mine place false me.0.left, [])

  -- and from then on, with a value
  abbrev pub Holds : ℕ → List ℕ → ℕ → Me T (View T E) → T → Type 0
  Holds caller mine place me value = me ≡ (waiting (start ∷ []) me.0.calls caller mine place true me.0.left, (0, value) ∷ [])

  -- a pass at rest may draw a place, while its caller may still make calls
  pub draws_at_rest : (callers slots id : ℕ) (me : Me T (View T E)) (caller seen stands made : ℕ) → Rests entries me caller seen stands made → made < most_calls
      → Allows (Kept entries setting start callers) slots id me 1 (λ n. (n + 1) % 2 ^ 64) (Drew entries setting (step slots 1 1 0 none) me)
  draws_at_rest callers slots id me caller seen stands made rests some_left =
      let one_less : me.0.left ≡ (me.0.left - 1) + 1 = omega (arith, rests.left, some_left) in
      subst (λ (m : Me T (View T E)). Allows (Kept entries setting start callers) slots id m 1 (λ n. (n + 1) % 2 ^ 64)
      (Drew entries setting (step slots 1 1 0 none) m))
      (sym (rests.still ∙ ap (λ (k : ℕ). (rested me.0.start me.0.calls caller me.0.callers k, [])) one_less))
      (draws_place entries setting start callers slots id me.0.start me.0.calls caller me.0.callers (me.0.left - 1) rests.own)

  -- who waits may look whether its place is due
  pub comes_to : (key : T) → key ≡ start → (callers slots id : ℕ) (me : Me T (View T E)) (caller place : ℕ) (mine : List ℕ) → Waits caller mine place me
      → Allows (Kept entries setting key callers) slots id me 0 (λ n. n) (Came entries setting (step slots 0 0 0 none) me)
  comes_to key key_is callers slots id me caller place mine waits =
      let Goal : T → Me T (View T E) → Type 0 = λ k m. Allows (Kept entries setting k callers) slots id m 0 (λ n. n)
      (Came entries setting (step slots 0 0 0 none) m) in
      subst (λ (k : T). Goal k me) (sym key_is) (subst (λ (m : Me T (View T E)). Goal start m) (sym waits)
      (comes entries setting start callers slots id me.0.calls caller mine place me.0.left))

  -- the place was due, and the slot was taken
  pub record Due (me now : Me T (View T E)) (caller place found : ℕ) (mine : List ℕ) : Type 0 where
    pub value : T
    pub holds : Holds caller mine place now value
    pub extends : Extends me.0.calls mine now.0.calls
    pub left : now.0.left ≡ me.0.left
    pub list : entries value ≡ listed entries start now.0.calls
    pub same_setting : setting value ≡ setting start
    pub counts : found ≡ length (listed entries start now.0.calls)
    pub short : length (entries value) < most_steps

  -- and has the slot where it is
  pub due : (slots : ℕ) (me now : Me T (View T E)) (caller place found : ℕ) (mine : List ℕ) → Waits caller mine place me
      → Came entries setting (step slots 0 0 0 none) me found now → found ≡ place → Due me now caller place found mine
  due slots me now caller place found mine waits told' e =
      let told = subst (λ (m : Me T (View T E)). Came entries setting (step slots 0 0 0 none) m found now) waits told' in
      let taken_out = told.due place refl (sym e) in
      subst (λ (m : Me T (View T E)). Due me m caller place found mine) (sym taken_out.1)
      record {
        value = taken_out.0;
        holds = refl;
        extends = told.extends;
        left = refl;
        list = taken_out.2;
        same_setting = taken_out.3 start refl;
        counts = taken_out.4;
        short = omega (arith, ap length taken_out.2, taken_out.4, taken_out.5);
      }

  -- the slot's value, as it is stepped
  abbrev pub with_value : Me T (View T E) → T → Me T (View T E)
  with_value now x = (now.0, (0, x) ∷ rest now.1)

  value_form : (now : Me T (View T E)) (caller place : ℕ) (mine : List ℕ) (value x : T) → Holds caller mine place now value
      → with_value now x ≡ (waiting (start ∷ []) now.0.calls caller mine place true now.0.left, (0, x) ∷ [])
  value_form now caller place mine value x holds = λ i. ((holds i).0, (0, x) ∷ rest ((holds i).1))

  -- by the step the list grows by the call's entry
  pub stepped : {R : Type 0} (entry : S → List E → ℕ → R → E) (calls : List (ℕ × E)) (value value' x : T) (caller caller' : ℕ) (ready : R) → value' ≡ value
      → caller' ≡ caller
      → entries value ≡ listed entries start calls → setting value ≡ setting start
      → entries x ≡ entries value' ++ entry (setting value') (entries value') caller' ready ∷ []
      → entries x ≡ listed entries start calls ++ entry (setting start) (listed entries start calls) caller ready ∷ []
  stepped entry calls value value' x caller caller' ready same callers list same_setting appends =
      let lists = ap entries same ∙ list in
      let settings = ap setting same ∙ same_setting in
      appends ∙ (λ i. lists i ++ entry (settings i) (lists i) (callers i) ready ∷ [])

  -- who has the slot commits, once the value was stepped
  pub commits_at : (key : T) → key ≡ start → (callers slots id : ℕ) (now : Me T (View T E)) (caller place : ℕ) (mine : List ℕ) (value x : T) (e : E)
      → Holds caller mine place now value → 0 < slots → IsAmong caller mine
      → length (calls_of caller now.0.calls) < most_calls → entries x ≡ listed entries start now.0.calls ++ e ∷ [] → setting x ≡ setting start
      → Allows (Kept entries setting key callers) slots id (with_value now x) 0 (λ n. (n + 1) % 2 ^ 64)
      (Committed entries setting (step slots 0 1 0 none) (with_value now x))
  commits_at key key_is callers slots id now caller place mine value x e holds some_slot among few grown same_setting =
      let Goal : T → Me T (View T E) → Type 0 = λ k m. Allows (Kept entries setting k callers) slots id m 0 (λ n. (n + 1) % 2 ^ 64)
      (Committed entries setting (step slots 0 1 0 none) m) in
      subst (λ (k : T). Goal k (with_value now x)) (sym key_is) (subst (λ (m : Me T (View T E)). Goal start m)
      (sym (value_form now caller place mine value x holds))
      (commits entries setting start callers slots id now.0.calls caller mine place now.0.left x e some_slot among few grown same_setting))

  -- the call stands at the end of what was seen
  pub record Stands (now after : Me T (View T E)) (caller number : ℕ) (mine : List ℕ) (e : E) : Type 0 where
    pub form : after ≡ (rested (start ∷ []) (now.0.calls ++ (caller, e) ∷ []) caller mine now.0.left, [])
    pub numbered : number ≡ length (listed entries start now.0.calls)

  -- and its call then stands in the history
  pub stands : (slots : ℕ) (now after : Me T (View T E)) (caller place number : ℕ) (mine : List ℕ) (value x : T) (e : E) → Holds caller mine place now value
      → entries x ≡ listed entries start now.0.calls ++ e ∷ []
      → Committed entries setting (step slots 0 1 0 none) (with_value now x) number after → Stands now after caller number mine e
  stands slots now after caller place number mine value x e holds grown told' =
      let told = subst (λ (m : Me T (View T E)). Committed entries setting (step slots 0 1 0 none) m number after)
      (value_form now caller place mine value x holds) told' in
      let is = told x refl in
      let same : is.0 ≡ e = snoc_same (listed entries start now.0.calls) is.0 e (sym is.1 ∙ grown) in
      record { form = is.2 ∙ ap (λ (d : E). (rested (start ∷ []) (now.0.calls ++ (caller, d) ∷ []) caller mine now.0.left, [])) same; numbered = is.3 }

  -- and the pass is at rest again
  pub stands_at_rest : (now after : Me T (View T E)) (before : List (ℕ × E)) (caller number stands made : ℕ) (mine : List ℕ) (e : E)
      → Stands now after caller number mine e → Extends before mine now.0.calls → IsAmong caller mine
      → stands ≡ length mine → stands ≤ most_callers → made ≡ length (calls_of caller before) → most_calls ≤ now.0.left + (made + 1)
      → Rests entries after caller (number + 1) stands (made + 1)
  stands_at_rest now after before caller number stands made mine e is extends among all few made_is left =
      subst (λ (m : Me T (View T E)). Rests entries m caller (number + 1) stands (made + 1)) (sym is.form)
      record {
        still = refl;
        own = among;
        stands_for = all;
        few = few;
        count = ap (λ k. k + 1) is.numbered ∙ sym (ap length (grows entries setting start 0 now.0.calls caller e) ∙
            length-append (listed entries start now.0.calls) (e ∷ []));
        calls = ap (λ k. k + 1) (made_is ∙ ap length (sym (extends.own caller among))) ∙
            sym (ap length (calls_of-own now.0.calls caller e) ∙ length-append (calls_of caller now.0.calls) (e ∷ []));
        left = left;
      }
