-- What each step of the turn keeps, and what it tells.
use Rattle.std.proofs.Common.{◌≡◌, ◌≢◌, ℕ, zero, suc, ◌+◌, ◌*◌, ◌-◌, ◌%◌, ◌^◌, ◌<◌, ◌≤◌, true, false, List, [], ◌∷◌, ◌++◌, length, map, get_or, set, refl}
use Rattle.std.proofs.Common.{ap, sym, ◌∙◌, subst, ⊎_elim, arith, append-nil, append_assoc, length-append}
use mathlib.Core.Option.{none, some, some-injective, some-ne-none}
use mathlib.Core.List.{IsPrefix}
use Rattle.std.proofs.Math.Nat.{mod-eq_of_lt}
use Rattle.std.proofs.lemmas.Bool.{false_from_ne_true}
use mathlib.Core.Logic.{dite}
use native.Mathlib.Decide.{ℕ_discrete}
use lib.ListN.{get_elem?}
use Rattle.atomic_table.specs.Table.{State, step, keeps, takes, gives, Allows, Splits, Joins, Final, Seen, opening}
use Rattle.atomic_table.proofs.Lists.{at_set, set_here, set_else, at_snoc, at_longer}
use Rattle.wp_turn.specs.Calls.{IsAmong, calls_of, entries_of, listed}
use Rattle.wp_turn.specs.Weights.{total, below, up_to, only}
use Rattle.wp_turn.specs.Views.{rested, joined, waiting, numbering, handed_on, spent, weight_of_place, weight_of_callers, left_of, rights_of}
use Rattle.wp_turn.specs.Rule.{most_calls, most_callers, most_opened, most_places, Fits, Kept}
use Rattle.wp_turn.specs.Told.{Extends, Numbered, Looked, Drew, Came, Committed}
use Rattle.wp_turn.specs.declared.view.View.{View}
use Rattle.wp_turn.proofs.CallLists.{first_or, prefix_self, prefix_none, prefix_more, entries_of-snoc, calls_of-own, calls_of-other}
use Rattle.wp_turn.proofs.Sums.{total-append, total-set, total-one, term_le, terms_le, below-one, below_more, below-once, up_to-more, up_to-one}
use Rattle.wp_turn.proofs.Sums.{up_to-once, up_to-beyond, only-same, only-other, only-most, total-less}

module _ {A : Type 0} where
  -- what holds of each place's value, and of w, holds once w stands at a place
  all_at : (P : A → Type 0) (l : List A) (i : ℕ) (w : A) → P w → ((k : ℕ) (v : A) → get_elem? l k ≡ some v → P v) → (k : ℕ) (v : A)
      → get_elem? (set l i w) k ≡ some v → P v
  all_at P l i w mine others k v at =
      ⊎_elim (λ (t : (k ≡ i) × (w ≡ v)). subst P t.1 mine) (λ (t : (k ≢ i) × (get_elem? l k ≡ some v)). others k v t.1) (at_set l i k w v at)

  -- the same, where the others need not be at the place
  all_but : (P : A → Type 0) (l : List A) (i : ℕ) (w : A) → P w → ((k : ℕ) (v : A) → k ≢ i → get_elem? l k ≡ some v → P v) → (k : ℕ) (v : A)
      → get_elem? (set l i w) k ≡ some v → P v
  all_but P l i w mine others k v at =
      ⊎_elim (λ (t : (k ≡ i) × (w ≡ v)). subst P t.1 mine) (λ (t : (k ≢ i) × (get_elem? l k ≡ some v)). others k v t.0 t.1) (at_set l i k w v at)

  here : (l : List A) (i : ℕ) (v w : A) → get_elem? l i ≡ some v → get_elem? (set l i w) i ≡ some w
  here [] i v w e = absurd (some-ne-none v (sym e))
  here (x ∷ xs) zero v w e = refl
  here (x ∷ xs) (suc i) v w e = here xs i v w e

  -- nothing is the same as one item
  nil_cons : {C : Type 0} (x : A) → [] ≡ x ∷ [] → C
  nil_cons x e = absurd (cc e)

-- a list of one number has no other number
head_same : (n m : ℕ) → n ∷ [] ≡ m ∷ [] → n ≡ m
head_same n m e = omega (arith, ap (total (λ k. k)) e)

among_none : {C : Type 0} (c : ℕ) → IsAmong c [] → C
among_none c h = absurd (omega (arith, h))

-- a number stands no more often in a list than there are numbers in it
counts_no_more : (c : ℕ) (xs : List ℕ) → total (only c) xs ≤ length xs
counts_no_more c [] = omega arith
counts_no_more c (x ∷ xs) = omega (arith, counts_no_more c xs, only-most c x)

not_more : {n : ℕ} → ¬ (0 < n) → n ≡ 0
not_more {n} away = dite (ℕ_discrete n 0) (λ e. e) (λ ne. absurd (away (omega (arith, ne))))

-- the value of the slot that was taken last
abbrev pub taken : {T : Type 0} → T → List (ℕ × T) → T
taken x [] = x
taken x (slot ∷ slots) = slot.1

fewer : {T E : Type 0} (c : ℕ) (u : View T E) → weight_of_callers (only c) u ≤ weight_of_callers (λ _. 1) u
fewer c u = omega (arith, counts_no_more c u.callers, counts_no_more c u.other_callers, total-one u.callers, total-one u.other_callers)

module _ {T E S : Type 0} (entries : T → List E) (setting : T → S) (start : T) (callers : ℕ) where
  abbrev St : Type 0
  St = State T (View T E)

  abbrev Rule : St → Type 0
  Rule = Kept entries setting start callers

  abbrev Fit : List (ℕ × E) → ℕ → View T E → Type 0
  Fit = Fits entries setting start callers

  low : (s : St) (kept : Rule s) → length (listed entries start kept.calls) ≤ kept.places
  low s kept = omega (arith, kept.queue (λ _. 1), below-one (length (listed entries start kept.calls)), below-one kept.places)

  -- if no view but one may hold the slot, and that one does not
  calm : (views : List (View T E)) (id : ℕ) (m w : View T E) → get_elem? views id ≡ some m → m.holds ≡ false
      → ((k : ℕ) (v : View T E) → get_elem? (set views id w) k ≡ some v → v.holds ≡ false) → (k : ℕ) (v : View T E) → get_elem? views k ≡ some v
      → v.holds ≡ false
  calm views id m w me free all k v at =
      dite (ℕ_discrete k id)
      (λ e. subst (λ (x : View T E). x.holds ≡ false) (some-injective m v (sym me ∙ (ap (get_elem? views) (sym e) ∙ at))) free)
      (λ ne. all k v (set_else views id k w ne ∙ at))

  -- a word below the most goes up by one
  counted : (n k : ℕ) → n ≡ k → k ≤ most_places → (n + 1) % 2 ^ 64 ≡ k + 1
  counted n k is small = mod-eq_of_lt (omega arith) ∙ ap (λ (x : ℕ). x + 1) is

  -- a view that does not draw numbers fits, whatever was drawn
  renumbered : (calls : List (ℕ × E)) (drawn drawn' : ℕ) (v : View T E) → Fit calls drawn v → ((next : ℕ) → v.next ≡ next ∷ [] → ⊥) → Fit calls drawn' v
  renumbered calls drawn drawn' v fit never = record {
    seen = fit.seen;
    other_seen = fit.other_seen;
    own = fit.own;
    other_own = fit.other_own;
    idle = fit.idle;
    holder = fit.holder;
    numbers = λ next is. absurd (never next is);
  }

  -- a view between two calls fits if it has seen all calls of its callers
  rests : (calls seen : List (ℕ × E)) (drawn : ℕ) (begun : List T) (caller : ℕ) (mine : List ℕ) (left : ℕ) → IsPrefix seen calls
      → ((c : ℕ) → IsAmong c mine → calls_of c seen ≡ calls_of c calls) → Fit calls drawn (rested begun seen caller mine left)
  rests calls seen drawn begun caller mine left begins own = record {
    seen = begins;
    other_seen = prefix_none calls;
    own = own;
    other_own = λ c h. among_none c h;
    idle = λ _. refl;
    holder = λ e. absurd (cc e);
    numbers = λ next is. nil_cons next is;
  }

  -- a caller number may be drawn by who has the right to, and comes out as the next one
  pub draws_number : (slots id : ℕ) (begun : List T) (left next pending : ℕ)
      → Allows Rule slots id (numbering begun [] 0 [] left next (pending + 1), []) 2 (λ n. (n + 1) % 2 ^ 64)
      (Numbered entries setting (step slots 2 1 0 none) (numbering begun [] 0 [] left next (pending + 1), []))
  draws_number slots id begun left next pending s kept wide me small =
      let h = kept.calls in
      let n = get_or s.words 2 0 in
      let m : View T E = numbering begun [] 0 [] left next (pending + 1) in
      let w : View T E = numbering begun [] (n + 1) ((n + 1) ∷ []) left (n + 1) ((pending + 1) - 1) in
      let found : n ≡ kept.drawn = ap (λ (ws : List ℕ). get_or ws 2 0) kept.words in
      let knows = (kept.views id m me).numbers next refl in
      let one_more : (n + 1) % 2 ^ 64 ≡ kept.drawn + 1 = counted n kept.drawn found (omega (arith, kept.enough, kept.few_callers)) in
      let mine : Fit h (kept.drawn + 1) w = record {
        seen = prefix_none h;
        other_seen = prefix_none h;
        own = λ c among. dite (ℕ_discrete (n + 1) c)
            (λ e. sym (kept.unnamed c (up_to-beyond c kept.drawn (omega (arith, found, e)))))
            (λ ne. absurd (omega (arith, only-other c (n + 1) ne, among)));
        other_own = λ c among. among_none c among;
        idle = λ _. refl;
        holder = λ e. absurd (cc e);
        numbers = λ k is. let e = head_same (n + 1) k is in (omega (arith, e, found), omega (arith, e, found, knows.0, knows.1));
      } in
      let others : (k : ℕ) (v : View T E) → k ≢ id → get_elem? s.views k ≡ some v → Fit h (kept.drawn + 1) v = λ k v apart at. renumbered h kept.drawn
      (kept.drawn + 1) v (kept.views k v at) (λ x is. omega (arith, terms_le rights_of s.views id k m v apart me at, kept.one_numbers, ap length is)) in (
        w,
        keeps,
        tt,
        record {
          calls = h;
          places = kept.places;
          drawn = kept.drawn + 1;
          words = ap (λ (ws : List ℕ). set ws 2 ((n + 1) % 2 ^ 64)) kept.words ∙ ap (λ (k : ℕ). length (listed entries start h) ∷ kept.places ∷ k ∷ [])
              one_more;
          views = all_but (Fit h (kept.drawn + 1)) s.views id w mine others;
          queue = λ f. omega (arith, total-set (weight_of_place f) s.views id m w me, kept.queue f);
          standing = λ f. omega (
            arith,
            total-set (weight_of_callers f) s.views id m w me,
            kept.standing f,
            up_to-more f kept.drawn,
            ap (λ (k : ℕ). f (k + 1)) found,
          );
          unnamed = λ c none_yet. kept.unnamed c (omega (arith, up_to-more (only c) kept.drawn, none_yet));
          few = kept.few;
          room = omega (arith, total-set left_of s.views id m w me, kept.room);
          one_numbers = omega (arith, total-set rights_of s.views id m w me, kept.one_numbers);
          enough = omega (arith, knows.0, knows.1);
          few_callers = kept.few_callers;
          home = kept.home;
          at_home = λ all. kept.at_home (calm s.views id m w me refl all);
        },
        (ap (λ (k : ℕ). k ∷ []) (knows.0 ∙ sym found), refl),
      )

  -- the right to draw goes on to a new seat
  pub hands_on : (id : ℕ) (begun : List T) (calls : List (ℕ × E)) (caller : ℕ) (mine : List ℕ) (left next pending : ℕ) → most_calls ≤ left
      → Splits Rule id (numbering begun calls caller mine left next pending) (rested begun calls caller mine most_calls)
      (handed_on (numbering begun calls caller mine left next pending) (left - most_calls))
  hands_on id begun calls caller mine left next pending enough s kept me =
      let h = kept.calls in
      let m : View T E = numbering begun calls caller mine left next pending in
      let w : View T E = rested begun calls caller mine most_calls in
      let new : View T E = handed_on m (left - most_calls) in
      let fit = kept.views id m me in
      let stays : Fit h kept.drawn w = rests h calls kept.drawn begun caller mine most_calls fit.seen fit.own in
      let goes : Fit h kept.drawn new = record {
        seen = prefix_none h;
        other_seen = prefix_none h;
        own = λ c among. among_none c among;
        other_own = λ c among. among_none c among;
        idle = λ _. refl;
        holder = λ e. absurd (cc e);
        numbers = fit.numbers;
      } in
      let all : (k : ℕ) (v : View T E) → get_elem? (set s.views id w ++ new ∷ []) k ≡ some v → Fit h kept.drawn v = λ k v at.
      ⊎_elim (λ (t : get_elem? (set s.views id w) k ≡ some v). all_at (Fit h kept.drawn) s.views id w stays kept.views k v t)
      (λ (t : new ≡ v). subst (Fit h kept.drawn) t goes) (at_snoc (set s.views id w) new v k at) in
      let sum : (g : View T E → ℕ) → total g (set s.views id w ++ new ∷ []) + g m ≡ total g s.views + (g w + g new) = λ g. omega
      (arith, total-append g (set s.views id w) (new ∷ []), total-set g s.views id m w me) in
      record {
        calls = h;
        places = kept.places;
        drawn = kept.drawn;
        words = kept.words;
        views = all;
        queue = λ f. omega (arith, sum (weight_of_place f), kept.queue f);
        standing = λ f. omega (arith, sum (weight_of_callers f), kept.standing f);
        unnamed = kept.unnamed;
        few = kept.few;
        room = omega (arith, sum left_of, kept.room);
        one_numbers = omega (arith, sum rights_of, kept.one_numbers);
        enough = kept.enough;
        few_callers = kept.few_callers;
        home = kept.home;
        at_home = λ free. kept.at_home (calm s.views id m w me refl (λ k v at. free k v (at_longer (set s.views id w) (new ∷ []) k v at)));
      }

  -- the rule holds at the opening
  pub opens : (n : ℕ) (xs : List T) → n ≡ length (entries start) → n < most_opened → xs ≡ start ∷ [] → callers ≤ most_callers
      → Rule (opening (n ∷ n ∷ 0 ∷ []) xs (numbering (start ∷ []) [] 0 [] (callers * most_calls) 0 callers))
  opens n xs length_is few slot not_many =
      let v : View T E = numbering (start ∷ []) [] 0 [] (callers * most_calls) 0 callers in
      let all_entries : listed entries start [] ≡ entries start = append-nil (entries start) in
      let long : n ≡ length (listed entries start []) = length_is ∙ ap length (sym all_entries) in
      let fit : Fit [] 0 v = record {
        seen = prefix_none [];
        other_seen = prefix_none [];
        own = λ c among. refl;
        other_own = λ c among. refl;
        idle = λ _. refl;
        holder = λ e. absurd (cc e);
        numbers = λ next is. let e = head_same 0 next is in (sym e, omega (arith, e));
      } in
      record {
        calls = [];
        places = n;
        drawn = 0;
        words = ap (λ (k : ℕ). k ∷ n ∷ 0 ∷ []) long;
        views = λ k u at. ⊎_elim (λ (none_there : get_elem? {A = View T E} [] k ≡ some u). absurd (some-ne-none u (sym none_there)))
            (λ (same : v ≡ u). subst (Fit [] 0) same fit) (at_snoc [] v u k at);
        queue = λ f. omega (arith, ap (below f) long);
        standing = λ f. omega arith;
        unnamed = λ c _. refl;
        few = λ c. omega arith;
        room = omega (arith, few, not_many);
        one_numbers = omega arith;
        enough = omega arith;
        few_callers = not_many;
        home = λ x at. let e : start ≡ x = some-injective start x (some-injective (some start) (some x)
            (subst (λ (l : List T). get_elem? (map some l) 0 ≡ some (some x)) slot at)) in (ap entries (sym e) ∙ sym all_entries, ap setting (sym e));
        at_home = λ _. (start, subst (λ (l : List T). get_elem? (map some l) 0 ≡ some (some start)) (sym slot) refl);
      }

  -- a load sees the whole history
  pub looks : (slots id : ℕ) (calls : List (ℕ × E)) (caller : ℕ) (mine : List ℕ) (other_calls : List (ℕ × E)) (others : List ℕ) (left : ℕ)
      → Allows Rule slots id (joined (start ∷ []) calls caller mine other_calls others left, []) 0 (λ n. n)
      (Looked entries setting (step slots 0 0 0 none) (joined (start ∷ []) calls caller mine other_calls others left, []))
  looks slots id calls caller mine other_calls others left s kept wide me small =
      let h = kept.calls in
      let m : View T E = joined (start ∷ []) calls caller mine other_calls others left in
      let w : View T E = rested (start ∷ []) h caller (mine ++ others) left in
      let fit = kept.views id m me in
      let weight : (f : ℕ → ℕ) → weight_of_callers f w ≡ weight_of_callers f m = λ f. omega (arith, total-append f mine others) in (
        w,
        keeps,
        tt,
        record {
          calls = h;
          places = kept.places;
          drawn = kept.drawn;
          words = ap (λ (ws : List ℕ). set ws 0 (get_or ws 0 0)) kept.words;
          views = all_at (Fit h kept.drawn) s.views id w (rests h h kept.drawn (start ∷ []) caller (mine ++ others) left (prefix_self h) (λ c among. refl))
              kept.views;
          queue = λ f. omega (arith, total-set (weight_of_place f) s.views id m w me, kept.queue f);
          standing = λ f. omega (arith, total-set (weight_of_callers f) s.views id m w me, kept.standing f, weight f);
          unnamed = kept.unnamed;
          few = kept.few;
          room = omega (arith, total-set left_of s.views id m w me, kept.room);
          one_numbers = omega (arith, total-set rights_of s.views id m w me, kept.one_numbers);
          enough = kept.enough;
          few_callers = kept.few_callers;
          home = kept.home;
          at_home = λ all. kept.at_home (calm s.views id m w me refl all);
        },
        record {
          calls = h;
          view = refl;
          extends = record { begins = fit.seen; own = λ c among. sym (fit.own c among) };
          other_extends = record { begins = fit.other_seen; own = λ c among. sym (fit.other_own c among) };
          counts = ap (λ (ws : List ℕ). get_or ws 0 0) kept.words;
          few = omega (
            arith,
            total-one (mine ++ others),
            weight (λ _. 1),
            term_le (weight_of_callers (λ _. 1)) s.views id m me,
            kept.standing (λ _. 1),
            up_to-one kept.drawn,
            kept.enough,
            kept.few_callers,
          );
        },
      )

  -- two views may be joined
  pub meets : (id other : ℕ) (begun begun' : List T) (calls calls' : List (ℕ × E)) (caller caller' : ℕ) (mine mine' : List ℕ) (left left' : ℕ)
      → Joins Rule id (rested begun calls caller mine left) other (rested begun' calls' caller' mine' left')
      (joined begun calls caller mine calls' mine' (left + left')) spent
  meets id other begun begun' calls calls' caller caller' mine mine' left left' s kept me apart there =
      let h = kept.calls in
      let v : View T E = rested begun calls caller mine left in
      let u : View T E = rested begun' calls' caller' mine' left' in
      let both : View T E = joined begun calls caller mine calls' mine' (left + left') in
      let vs : List (View T E) = set s.views id both in
      let before : get_elem? s.views other ≡ some u = sym (set_else s.views id other both apart) ∙ there in
      let fit = kept.views id v me in
      let fit' = kept.views other u before in
      let fits : Fit h kept.drawn both = record {
        seen = fit.seen;
        other_seen = fit'.seen;
        own = fit.own;
        other_own = fit'.own;
        idle = λ _. refl;
        holder = λ e. absurd (cc e);
        numbers = λ next is. nil_cons next is;
      } in
      let over : Fit h kept.drawn spent = rests h [] kept.drawn [] 0 [] 0 (prefix_none h) (λ c among. among_none c among) in
      let sum : (g : View T E → ℕ) → total g (set vs other spent) + (g v + g u) ≡ total g s.views + (g both + g spent) = λ g. omega
      (arith, total-set g s.views id v both me, total-set g vs other u spent there) in
      record {
        calls = h;
        places = kept.places;
        drawn = kept.drawn;
        words = kept.words;
        views = all_at (Fit h kept.drawn) vs other spent over (all_at (Fit h kept.drawn) s.views id both fits kept.views);
        queue = λ f. omega (arith, sum (weight_of_place f), kept.queue f);
        standing = λ f. omega (arith, sum (weight_of_callers f), kept.standing f);
        unnamed = kept.unnamed;
        few = kept.few;
        room = omega (arith, sum left_of, kept.room);
        one_numbers = omega (arith, sum rights_of, kept.one_numbers);
        enough = kept.enough;
        few_callers = kept.few_callers;
        home = kept.home;
        at_home = λ all. kept.at_home (calm s.views id v both me refl (calm vs other u spent there refl all));
      }

  -- a place may be drawn for a caller that the view stands for
  pub draws_place : (slots id : ℕ) (begun : List T) (calls : List (ℕ × E)) (caller : ℕ) (mine : List ℕ) (left : ℕ) → IsAmong caller mine
      → Allows Rule slots id (rested begun calls caller mine (left + 1), []) 1 (λ n. (n + 1) % 2 ^ 64)
      (Drew entries setting (step slots 1 1 0 none) (rested begun calls caller mine (left + 1), []))
  draws_place slots id begun calls caller mine left among s kept wide me small =
      let h = kept.calls in
      let n = get_or s.words 1 0 in
      let m : View T E = rested begun calls caller mine (left + 1) in
      let w : View T E = waiting begun calls caller mine n false ((left + 1) - 1) in
      let fit = kept.views id m me in
      let found : n ≡ kept.places = ap (λ (ws : List ℕ). get_or ws 1 0) kept.words in
      let one_more : (n + 1) % 2 ^ 64 ≡ kept.places + 1 = counted n kept.places found (omega (arith, kept.room)) in
      let fits : Fit h kept.drawn w = record {
        seen = fit.seen;
        other_seen = fit.other_seen;
        own = fit.own;
        other_own = fit.other_own;
        idle = λ none. absurd (omega (arith, none, among, counts_no_more caller mine));
        holder = λ e. absurd (cc e);
        numbers = fit.numbers;
      } in (
        w,
        keeps,
        tt,
        record {
          calls = h;
          places = kept.places + 1;
          drawn = kept.drawn;
          words = ap (λ (ws : List ℕ). set ws 1 ((n + 1) % 2 ^ 64)) kept.words ∙ ap (λ (k : ℕ). length (listed entries start h) ∷ k ∷ kept.drawn ∷ []) one_more;
          views = all_at (Fit h kept.drawn) s.views id w fits kept.views;
          queue = λ f. omega (arith, total-set (weight_of_place f) s.views id m w me, kept.queue f, below_more f kept.places, ap f found);
          standing = λ f. omega (arith, total-set (weight_of_callers f) s.views id m w me, kept.standing f);
          unnamed = kept.unnamed;
          few = kept.few;
          room = omega (arith, total-set left_of s.views id m w me, kept.room);
          one_numbers = omega (arith, total-set rights_of s.views id m w me, kept.one_numbers);
          enough = kept.enough;
          few_callers = kept.few_callers;
          home = kept.home;
          at_home = λ all. kept.at_home (calm s.views id m w me refl all);
        },
        refl,
      )

  -- no two views have the place that is due
  alone : (s : St) (kept : Rule s) (id k : ℕ) (m v : View T E) → k ≢ id → get_elem? s.views id ≡ some m → get_elem? s.views k ≡ some v
      → m.place ≡ length (listed entries start kept.calls) ∷ [] → v.place ≡ length (listed entries start kept.calls) ∷ [] → ⊥
  alone s kept id k m v apart me at mine theirs =
      let n = length (listed entries start kept.calls) in let f = only n in
      omega (
        arith,
        terms_le (weight_of_place f) s.views id k m v apart me at,
        ap (total f) mine,
        ap (total f) theirs,
        only-same n,
        kept.queue f,
        below-once n kept.places,
      )

  -- while the one whose place is due has not come, nobody holds the slot
  nobody : (s : St) (kept : Rule s) (id : ℕ) (m : View T E) → get_elem? s.views id ≡ some m → m.holds ≡ false
      → m.place ≡ length (listed entries start kept.calls) ∷ []
      → (k : ℕ) (v : View T E) → get_elem? s.views k ≡ some v → v.holds ≡ false
  nobody s kept id m me free mine k v at =
      dite (ℕ_discrete k id)
      (λ e. subst (λ (x : View T E). x.holds ≡ false) (some-injective m v (sym me ∙ (ap (get_elem? s.views) (sym e) ∙ at))) free)
      (λ ne. false_from_ne_true v.holds (λ holds. alone s kept id k m v ne me at mine ((kept.views k v at).holder holds).0))

  -- no two views stand for one caller
  apart_callers : (s : St) (kept : Rule s) (id k : ℕ) (m v : View T E) (caller : ℕ) → k ≢ id → get_elem? s.views id ≡ some m → get_elem? s.views k ≡ some v
      → IsAmong caller m.callers → 0 < weight_of_callers (only caller) v → ⊥
  apart_callers s kept id k m v caller apart me at mine theirs =
      omega (
        arith,
        terms_le (weight_of_callers (only caller)) s.views id k m v apart me at,
        mine,
        theirs,
        kept.standing (only caller),
        up_to-once caller kept.drawn,
      )

  -- a load at a place sees the whole history, and takes the slot if the place is due
  pub comes : (slots id : ℕ) (calls : List (ℕ × E)) (caller : ℕ) (mine : List ℕ) (p left : ℕ)
      → Allows Rule slots id (waiting (start ∷ []) calls caller mine p false left, []) 0 (λ n. n)
      (Came entries setting (step slots 0 0 0 none) (waiting (start ∷ []) calls caller mine p false left, []))
  comes slots id calls caller mine p left s kept wide me small =
      let h = kept.calls in
      let n = get_or s.words 0 0 in
      let m : View T E = waiting (start ∷ []) calls caller mine p false left in
      let fit = kept.views id m me in
      let found : n ≡ length (listed entries start h) = ap (λ (ws : List ℕ). get_or ws 0 0) kept.words in
      let same = ap (λ (ws : List ℕ). set ws 0 (get_or ws 0 0)) kept.words in
      let idle : length mine ≡ 0 → p ∷ [] ≡ [] = fit.idle in
      let told : Extends calls mine h = record { begins = fit.seen; own = λ c among. sym (fit.own c among) } in
      dite (ℕ_discrete n p)
      (λ due.
      let place_is : p ∷ [] ≡ length (listed entries start h) ∷ [] = ap (λ (k : ℕ). k ∷ []) (sym due ∙ found) in
      let w : View T E = waiting (start ∷ []) h caller mine p true left in
      let free : (k : ℕ) (v : View T E) → get_elem? s.views k ≡ some v → v.holds ≡ false = λ k v at. nobody s kept id m me refl place_is k v at in
      let x = kept.at_home free in
      let fits : Fit h kept.drawn w = record {
        seen = prefix_self h;
        other_seen = prefix_none h;
        own = λ c among. refl;
        other_own = λ c among. among_none c among;
        idle = idle;
        holder = λ _. (place_is, refl);
        numbers = λ next is. nil_cons next is;
      } in
      let is_home = kept.home x.0 x.1 in (
        w,
        takes 0 x.0,
        x.1,
        record {
          calls = h;
          places = kept.places;
          drawn = kept.drawn;
          words = same;
          views = all_at (Fit h kept.drawn) s.views id w fits kept.views;
          queue = λ f. omega (arith, total-set (weight_of_place f) s.views id m w me, kept.queue f);
          standing = λ f. omega (arith, total-set (weight_of_callers f) s.views id m w me, kept.standing f);
          unnamed = kept.unnamed;
          few = kept.few;
          room = omega (arith, total-set left_of s.views id m w me, kept.room);
          one_numbers = omega (arith, total-set rights_of s.views id m w me, kept.one_numbers);
          enough = kept.enough;
          few_callers = kept.few_callers;
          home = λ value at. ⊎_elim (λ (t : (0 ≡ 0) × (none ≡ some value)). absurd (some-ne-none value (sym t.1)))
              (λ (t : (0 ≢ 0) × (get_elem? s.homes 0 ≡ some (some value))). absurd (t.0 refl)) (at_set s.homes 0 0 none (some value) at);
          at_home = λ all. absurd (let bad : true ≡ false = all id w (here s.views id m w me) in cc bad);
        },
        record {
          calls = h;
          extends = told;
          due = λ place place_of e. (
            x.0,
            ap (λ (k : ℕ). (waiting (start ∷ []) h caller mine k true left, (0, x.0) ∷ [])) (head_same p place place_of),
            is_home.0,
            λ x is. is_home.1 ∙ ap setting (ap (first_or start) is),
            found,
            omega (arith, found, low s kept, kept.room),
          );
          early = λ place place_of ne. absurd (ne (sym (head_same p place place_of) ∙ sym due));
        },
      ))
      (λ early.
      let w : View T E = waiting (start ∷ []) h caller mine p false left in
      let fits : Fit h kept.drawn w = record {
        seen = prefix_self h;
        other_seen = prefix_none h;
        own = λ c among. refl;
        other_own = λ c among. among_none c among;
        idle = idle;
        holder = λ e. absurd (cc e);
        numbers = λ next is. nil_cons next is;
      } in (
        w,
        keeps,
        tt,
        record {
          calls = h;
          places = kept.places;
          drawn = kept.drawn;
          words = same;
          views = all_at (Fit h kept.drawn) s.views id w fits kept.views;
          queue = λ f. omega (arith, total-set (weight_of_place f) s.views id m w me, kept.queue f);
          standing = λ f. omega (arith, total-set (weight_of_callers f) s.views id m w me, kept.standing f);
          unnamed = kept.unnamed;
          few = kept.few;
          room = omega (arith, total-set left_of s.views id m w me, kept.room);
          one_numbers = omega (arith, total-set rights_of s.views id m w me, kept.one_numbers);
          enough = kept.enough;
          few_callers = kept.few_callers;
          home = kept.home;
          at_home = λ all. kept.at_home (calm s.views id m w me refl all);
        },
        record {
          calls = h;
          extends = told;
          due = λ place place_of e. absurd (early (sym (head_same p place place_of ∙ e)));
          early = λ place place_of ne. ap (λ (k : ℕ). (waiting (start ∷ []) h caller mine k false left, [])) (head_same p place place_of);
        },
      ))

  -- the list grows by the entry of the call
  pub grows : (seen : List (ℕ × E)) (caller : ℕ) (e : E) → listed entries start (seen ++ (caller, e) ∷ []) ≡ listed entries start seen ++ e ∷ []
  grows seen caller e = ap (λ l. entries start ++ l) (entries_of-snoc seen caller e) ∙ sym (append_assoc (entries start) (entries_of seen) (e ∷ []))

  -- who has the slot may append its call and give the slot back
  pub commits : (slots id : ℕ) (seen : List (ℕ × E)) (caller : ℕ) (mine : List ℕ) (p left : ℕ) (x : T) (e : E) → 0 < slots → IsAmong caller mine
      → length (calls_of caller seen) < most_calls
      → entries x ≡ listed entries start seen ++ e ∷ [] → setting x ≡ setting start
      → Allows Rule slots id (waiting (start ∷ []) seen caller mine p true left, (0, x) ∷ []) 0 (λ n. (n + 1) % 2 ^ 64)
      (Committed entries setting (step slots 0 1 0 none) (waiting (start ∷ []) seen caller mine p true left, (0, x) ∷ []))
  commits slots id seen caller mine p left x e some_slot among not_all stepped same_setting s kept wide me small =
      let h = kept.calls in
      let n = get_or s.words 0 0 in
      let m : View T E = waiting (start ∷ []) seen caller mine p true left in
      let fit = kept.views id m me in
      let held = fit.holder refl in
      let all_seen : seen ≡ h = held.1 in
      let new = seen ++ (caller, e) ∷ [] in
      let w : View T E = rested (start ∷ []) new caller mine left in
      let old_length : length (listed entries start seen) ≡ length (listed entries start h) = ap (λ l. length (listed entries start l)) all_seen in
      let found : n ≡ length (listed entries start h) = ap (λ (ws : List ℕ). get_or ws 0 0) kept.words in
      let longer : length (listed entries start new) ≡ length (listed entries start h) + 1 = ap length (grows seen caller e) ∙
      (length-append (listed entries start seen) (e ∷ []) ∙ ap (λ k. k + 1) old_length) in
      let one_more : (n + 1) % 2 ^ 64 ≡ length (listed entries start new) = counted n (length (listed entries start h)) found
      (omega (arith, low s kept, kept.room)) ∙ sym longer in
      let mine_fits : Fit new kept.drawn w = rests new new kept.drawn (start ∷ []) caller mine left (prefix_self new) (λ c _. refl) in
      let begins : (l : List (ℕ × E)) → IsPrefix l h → IsPrefix l new = λ l b. prefix_more l seen ((caller, e) ∷ [])
      (subst (λ (k : List (ℕ × E)). IsPrefix l k) (sym all_seen) b) in
      let others : (k : ℕ) (v : View T E) → k ≢ id → get_elem? s.views k ≡ some v → Fit new kept.drawn v = λ k v apart at.
      let old = kept.views k v at in
      let keeps_own : (c : ℕ) → 0 < weight_of_callers (only c) v → calls_of c h ≡ calls_of c new = λ c theirs.
      ap (calls_of c) (sym all_seen) ∙ sym (calls_of-other seen c caller e
      (λ (is : caller ≡ c). apart_callers s kept id k m v c apart me at (subst (λ (b : ℕ). IsAmong b mine) is among) theirs)) in
      record {
        seen = begins v.calls old.seen;
        other_seen = begins v.other_calls old.other_seen;
        own = λ c theirs. old.own c theirs ∙ keeps_own c (omega (arith, theirs));
        other_own = λ c theirs. old.other_own c theirs ∙ keeps_own c (omega (arith, theirs));
        idle = old.idle;
        holder = λ holds. absurd (alone s kept id k m v apart me at held.0 (old.holder holds).0);
        numbers = old.numbers;
      } in
      let own_grows : length (calls_of caller new) ≡ length (calls_of caller seen) + 1 = ap length (calls_of-own seen caller e) ∙
      length-append (calls_of caller seen) (e ∷ []) in (
        w,
        gives,
        tt,
        record {
          calls = new;
          places = kept.places;
          drawn = kept.drawn;
          words = ap (λ (ws : List ℕ). set ws 0 ((n + 1) % 2 ^ 64)) kept.words ∙ ap (λ (k : ℕ). k ∷ kept.places ∷ kept.drawn ∷ []) one_more;
          views = all_but (Fit new kept.drawn) s.views id w mine_fits others;
          queue = λ f. omega (
            arith,
            total-set (weight_of_place f) s.views id m w me,
            kept.queue f,
            ap (below f) longer,
            below_more f (length (listed entries start h)),
            ap (total f) held.0,
          );
          standing = λ f. omega (arith, total-set (weight_of_callers f) s.views id m w me, kept.standing f);
          unnamed = λ c none_drawn. calls_of-other seen c caller e (λ (is : caller ≡ c). let in_mine = subst (λ (b : ℕ). IsAmong b mine) is among in omega
              (arith, term_le (weight_of_callers (only c)) s.views id m me, in_mine, kept.standing (only c), none_drawn)) ∙
              (ap (calls_of c) all_seen ∙ kept.unnamed c none_drawn);
          few = λ c. dite (ℕ_discrete caller c)
              (λ is. subst (λ (b : ℕ). length (calls_of b new) ≤ most_calls) is (omega (arith, own_grows, not_all)))
              (λ ne. omega (arith, ap length (calls_of-other seen c caller e ne), ap (λ l. length (calls_of c l)) all_seen, kept.few c));
          room = omega (arith, total-set left_of s.views id m w me, kept.room);
          one_numbers = omega (arith, total-set rights_of s.views id m w me, kept.one_numbers);
          enough = kept.enough;
          few_callers = kept.few_callers;
          home = λ value at. ⊎_elim
              (λ (t : (0 ≡ 0) × (some x ≡ some value)). let e' = some-injective x value t.1 in
              (ap entries (sym e') ∙ (stepped ∙ sym (grows seen caller e)), ap setting (sym e') ∙ same_setting))
              (λ (t : (0 ≢ 0) × (get_elem? s.homes 0 ≡ some (some value))). absurd (t.0 refl)) (at_set s.homes 0 0 (some x) (some value) at);
          at_home = λ _. (x, set_here s.homes 0 (some x) (omega arith));
        },
        λ value is. (e, ap entries (sym (ap (taken x) is)) ∙ stepped, refl, found ∙ sym old_length),
      )

  -- who stands for as many callers as there are finds the value at home, and has seen every call
  pub closes : (ws : List ℕ) (xs : List T) (id : ℕ) (begun : List T) (calls : List (ℕ × E)) (caller : ℕ) (mine : List ℕ) (left : ℕ) (value : T)
      → Final (Seen Rule id (rested begun calls caller mine left)) ws xs → get_elem? xs 0 ≡ some value → callers ≤ length mine
      → (all : List (ℕ × E)) × (entries value ≡ listed entries start all) × (setting value ≡ setting start) × Extends calls mine all
      × ((c : ℕ) → ¬ IsAmong c mine → calls_of c all ≡ [])
  closes ws xs id begun calls caller mine left value last taken_out all_of =
      let s = last.0 in
      let kept = last.1.0 in
      let me = last.1.1 in
      let v : View T E = rested begun calls caller mine left in
      let one : View T E → ℕ = weight_of_callers (λ _. 1) in
      let stand = kept.standing (λ _. 1) in
      let none_hold : (k : ℕ) (u : View T E) → get_elem? s.views k ≡ some u → u.holds ≡ false = λ k u at.
      dite (ℕ_discrete k id)
      (λ e. subst (λ (x : View T E). x.holds ≡ false) (some-injective v u (sym me ∙ (ap (get_elem? s.views) (sym e) ∙ at))) refl)
      (λ ne. false_from_ne_true u.holds (λ holds.
      let none_left : length u.callers ≡ 0 = omega (
        arith,
        terms_le one s.views id k v u ne me at,
        stand,
        up_to-one kept.drawn,
        kept.enough,
        all_of,
        total-one mine,
        total-one u.callers,
      ) in
      let waits_not : length (listed entries start kept.calls) ∷ [] ≡ [] = sym ((kept.views k u at).holder holds).0 ∙ (kept.views k u at).idle none_left in
      absurd (cc waits_not))) in
      let home = kept.at_home none_hold in
      let is_home = kept.home home.0 home.1 in
      let same : home.0 ≡ value = some-injective home.0 value (sym (last.4 0 home.0 home.1) ∙ taken_out) in
      let fit = kept.views id v me in
      let rest = set s.views id spent in
      let nobody_else : (c : ℕ) → ¬ IsAmong c mine → up_to (only c) kept.drawn ≡ 0 = λ c away.
      let g : View T E → ℕ = weight_of_callers (only c) in
      omega (
        arith,
        kept.standing (only c),
        total-set g s.views id v spent me,
        total-set one s.views id v spent me,
        total-less g one rest (λ u. fewer c u),
        stand,
        up_to-one kept.drawn,
        kept.enough,
        all_of,
        total-one mine,
        not_more away,
      ) in (
        kept.calls,
        ap entries (sym same) ∙ is_home.0,
        ap setting (sym same) ∙ is_home.1,
        record { begins = fit.seen; own = λ c among. sym (fit.own c among) },
        λ c away. kept.unnamed c (nobody_else c away),
      )
