-- Closing: passes that meet one after the other, and the value that is at home.
use Rattle.std.proofs.Common.{◌≡◌, ℕ, zero, suc, ◌<◌, ◌≤◌, List, [], ◌∷◌, ◌++◌, length, All, slice_index_or, refl, ap, sym, ◌∙◌, subst, append-nil}
use Rattle.std.proofs.Common.{append_assoc, length-append, arith}
use Rattle.std.proofs.lemmas.List.Sums.{sum_by-cons}
use mathlib.Core.Option.{some}
use lib.ListN.{get_elem?}
use Rattle.atomic_table.specs.Table.{Me, Final, Seen}
use Rattle.wp_turn.specs.Calls.{IsAmong}
use Rattle.wp_turn.specs.Promises.{Known, Follow, Ended, Closed, callers_of, given_by}
use Rattle.wp_turn.specs.Rests.{Rests}
use Rattle.wp_turn.specs.Rule.{Kept}
use Rattle.wp_turn.specs.Told.{Extends}
use Rattle.wp_turn.specs.Views.{rested}
use Rattle.wp_turn.specs.Weights.{only}
use Rattle.wp_turn.specs.declared.view.View.{View}
use Rattle.wp_turn.proofs.CallLists.{prefix_self, prefix_trans}
use Rattle.wp_turn.proofs.Steps.{closes}
use Rattle.wp_turn.proofs.Sums.{total-append}

-- what holds of the first and of the others holds of all
pub all_more : {X : Type 0} (P : X → Type 0) (x : X) (xs : List X) → P x → All P xs → All P (x ∷ xs)
all_more P x xs first others zero d inside = first
all_more P x xs first others (suc k) d inside = others k d (omega (arith, inside))

-- what holds of all, and of one more, holds of the longer list
pub all_snoc : {X : Type 0} (P : X → Type 0) (xs : List X) (x : X) → All P xs → P x → All P (xs ++ x ∷ [])
all_snoc P [] x others last zero d inside = last
all_snoc P [] x others last (suc k) d inside = absurd (omega (arith, inside))
all_snoc P (y ∷ xs) x others last zero d inside = others 0 d (omega arith)
all_snoc P (y ∷ xs) x others last (suc k) d inside = all_snoc P xs x (λ j e in_it. others (suc j) e (omega (arith, in_it))) last k d (omega (arith, inside))

-- what holds of all holds of the later ones
pub all_right : {X : Type 0} (P : X → Type 0) (ys xs : List X) → All P (ys ++ xs) → All P xs
all_right P [] xs all = all
all_right P (y ∷ ys) xs all = all_right P ys xs (λ k d inside. all (suc k) d (omega (arith, inside)))

-- what holds of all holds of the first and of the others
pub all_rest : {X : Type 0} (P : X → Type 0) (x : X) (xs : List X) → All P (x ∷ xs) → P x × All P xs
all_rest P x xs all = (all 0 x (omega arith), λ k d inside. all (suc k) d (omega (arith, inside)))

module _ {E : Type 0} where
  -- calls that go on for more callers go on for fewer
  pub extends_part : (a b c : List (ℕ × E)) (few more : List ℕ) → ((n : ℕ) → IsAmong n few → IsAmong n more) → Extends a few b → Extends b more c
      → Extends a few c
  extends_part a b c few more part one two = record {
    begins = prefix_trans a b c one.begins two.begins;
    own = λ n among. two.own n (part n among) ∙
        one.own n among;
  }

-- who is in the first part of a list is in the list
pub among_left : (n : ℕ) (xs ys : List ℕ) → IsAmong n xs → IsAmong n (xs ++ ys)
among_left n xs ys among = omega (arith, among, total-append (only n) xs ys)

-- who is in the second part is
pub among_right : (n : ℕ) (xs ys : List ℕ) → IsAmong n ys → IsAmong n (xs ++ ys)
among_right n xs ys among = omega (arith, among, total-append (only n) xs ys)

module _ {T E : Type 0} where
  -- who stands for a caller of one of the passes stands for a caller of all
  among_all : (passes : List (Known T E)) (k : ℕ) (d : Known T E) (n : ℕ) → k < length passes → IsAmong n (slice_index_or passes k d).callers
      → IsAmong n (callers_of passes)
  among_all [] k d n inside among = absurd (omega (arith, inside))
  among_all (p ∷ ps) zero d n inside among = among_left n p.callers (callers_of ps) among
  among_all (p ∷ ps) (suc k) d n inside among = among_right n p.callers (callers_of ps) (among_all ps k d n (omega (arith, inside)) among)

  -- the passes stand together for as many callers as they stand for one by one
  pub given-length : (ps : List (Known T E)) → length (callers_of ps) ≡ given_by ps
  given-length [] = refl
  given-length (p ∷ ps) = omega (arith, length-append p.callers (callers_of ps), given-length ps, sum_by-cons (λ (q : Known T E). length q.callers) p ps)

  -- the callers of a list of passes that grows by one
  callers_of-snoc : (ps : List (Known T E)) (p : Known T E) → callers_of (ps ++ p ∷ []) ≡ callers_of ps ++ p.callers
  callers_of-snoc [] p = append-nil p.callers
  callers_of-snoc (q ∷ ps) p = ap (λ l. q.callers ++ l) (callers_of-snoc ps p) ∙ sym (append_assoc q.callers (callers_of ps) p.callers)

  -- the passes that one pass has met, of those that it is to meet
  pub record Met (first whole : Known T E) (all rest : List (Known T E)) : Type 0 where
    pub met : List (Known T E)
    pub parts : all ≡ met ++ rest
    pub callers : whole.callers ≡ first.callers ++ callers_of met
    pub begins : Follow first whole.calls
    pub follow : All (λ pass. Follow pass whole.calls) met

  -- at first it has met nobody
  pub met_none : (first : Known T E) (all : List (Known T E)) → Met first first all all
  met_none first all = record {
    met = [];
    parts = refl;
    callers = sym (append-nil first.callers);
    begins = record { begins = prefix_self first.calls; own = λ n among. refl };
    follow = λ k d inside. absurd (omega (arith, inside));
  }

  -- it meets one more
  pub met_more : (first whole whole' pass : Known T E) (all rest rest' : List (Known T E)) → Met first whole all rest → rest ≡ pass ∷ rest'
      → whole'.callers ≡ whole.callers ++ pass.callers → Follow whole whole'.calls → Follow pass whole'.calls
      → Met first whole' all rest'
  met_more first whole whole' pass all rest rest' so_far taken callers goes_on goes_on' =
      let mine : (n : ℕ) → IsAmong n first.callers → IsAmong n whole.callers = λ n among. subst (λ (l : List ℕ). IsAmong n l) (sym so_far.callers)
      (among_left n first.callers (callers_of so_far.met) among) in
      let theirs : (k : ℕ) (d : Known T E) → k < length so_far.met → (n : ℕ) → IsAmong n (slice_index_or so_far.met k d).callers
      → IsAmong n whole.callers = λ k d inside n among.
      subst (λ (l : List ℕ). IsAmong n l) (sym so_far.callers) (among_right n first.callers (callers_of so_far.met)
      (among_all so_far.met k d n inside among)) in
      record {
        met = so_far.met ++ pass ∷ [];
        parts = so_far.parts ∙ (ap (λ l. so_far.met ++ l) taken ∙ sym (append_assoc so_far.met (pass ∷ []) rest'));
        callers = callers ∙ (ap (λ l. l ++ pass.callers) so_far.callers ∙
            (append_assoc first.callers (callers_of so_far.met) pass.callers ∙ ap (λ l. first.callers ++ l) (sym (callers_of-snoc so_far.met pass))));
        begins = extends_part first.calls whole.calls whole'.calls first.callers whole.callers mine so_far.begins goes_on;
        follow = all_snoc (λ p. Follow p whole'.calls) so_far.met pass (λ k d inside. extends_part _ whole.calls whole'.calls
            (slice_index_or so_far.met k d).callers whole.callers (theirs k d inside) (so_far.follow k d inside) goes_on) goes_on';
      }

  -- it has met all
  pub met_all : (first whole : Known T E) (all rest : List (Known T E)) → rest ≡ [] → Met first whole all rest
      → (whole.callers ≡ first.callers ++ callers_of all) × All (λ pass. Follow pass whole.calls) all
  met_all first whole all rest none_left so_far =
      let all_met : so_far.met ≡ all = sym (so_far.parts ∙ (ap (λ l. so_far.met ++ l) none_left ∙ append-nil so_far.met)) in (
        so_far.callers ∙ ap (λ l. first.callers ++ callers_of l) all_met,
        subst (λ (l : List (Known T E)). All (λ pass. Follow pass whole.calls) l)
            all_met so_far.follow,
      )

module _ {T E S : Type 0} (entries : T → List E) (setting : T → S) where
  -- one pass that stands for all callers takes the value home
  pub ends : (key start : T) (callers id : ℕ) (ws : List ℕ) (xs : List T) (me : Me T (View T E)) (caller seen stands made : ℕ) (pass : Known T E) (value : T)
      → key ≡ start → Rests entries me caller seen stands made
      → me.0.calls ≡ pass.calls → me.0.callers ≡ pass.callers → callers ≤ length pass.callers → Final (Seen (Kept entries setting key callers) id me.0) ws xs
      → get_elem? xs 0 ≡ some value
      → Ended entries setting start pass value
  ends key start callers id ws xs me caller seen stands made pass value key_is rests calls mine all last at =
      let Goal : T → View T E → Type 0 = λ k v. Final (Seen (Kept entries setting k callers) id v) ws xs in
      let view : me.0 ≡ rested me.0.start pass.calls caller pass.callers me.0.left = ap (λ (m : Me T (View T E)). m.0) rests.still ∙
      (λ i. rested me.0.start (calls i) caller (mine i) me.0.left) in
      let final = subst (λ (k : T). Goal k (rested me.0.start pass.calls caller pass.callers me.0.left)) key_is
      (subst (λ (v : View T E). Goal key v) view last) in
      let found = closes entries setting start callers ws xs id me.0.start pass.calls caller pass.callers me.0.left value final at all in
      record { calls = found.0; list = found.1; follow = found.3; no_others = found.4; same_setting = found.2 }

  -- one pass for all callers, which goes on from each of the passes
  pub closes_all : (start : T) (passes : List (Known T E)) (whole : Known T E) (value : T) → whole.callers ≡ callers_of passes
      → All (λ pass. Follow pass whole.calls) passes → Ended entries setting start whole value → Closed entries setting start passes value
  closes_all start passes whole value callers follow ended = record {
    calls = ended.calls;
    list = ended.list;
    follow = λ k d inside. extends_part _ whole.calls ended.calls (slice_index_or passes k d).callers whole.callers
        (λ n among. subst (λ (l : List ℕ). IsAmong n l) (sym callers) (among_all passes k d n inside among)) (follow k d inside) ended.follow;
    no_others = λ n away. ended.no_others n (λ among. away (subst (λ (l : List ℕ). IsAmong n l) callers among));
    same_setting = ended.same_setting;
  }
