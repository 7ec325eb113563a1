-- A whole day: what the desks have done is added up, one desk after the other.
use Rattle.std.proofs.Common.{◌≡◌, ◌∙◌, refl, sym, ap, subst, ℕ, zero, suc, ◌<◌, ◌≤◌, ◌⊎◌, inl, inr, List, [], ◌∷◌, ◌++◌, length, length-append, map, arith}
use Rattle.std.specs.Prelude.{reverse, slice_index_or}
use Rattle.std.specs.List.{All, flat_map}
use Rattle.std.specs.List.Sorted.{IsPermutation}
use Rattle.std.proofs.lemmas.Bool.{cases_eq, cases_lt}
use Rattle.std.proofs.lemmas.List.{flat_map_more, length-map, length-reverse, map-append, map_push, reverse-append}
use Rattle.std.proofs.lemmas.List.Elements.{All-append, All-head, All-map, All-tail}
use Rattle.std.proofs.lemmas.List.Folds.{flat_map-map}
use Rattle.std.proofs.lemmas.List.Sorted.{IsPermutation-sym}
use Rattle.std.proofs.lemmas.List.Sums.{sum_by-cons}
use Rattle.wp_desk.proofs.Asking.{among_own}
use Rattle.wp_desk.proofs.GoingOn.{new_called}
use Rattle.wp_desk.proofs.Parts.{asked_later, refills_later, waves_later}
use Rattle.wp_desk.proofs.Whole.{all_refills, all_waves, count_up, none_else, once_each, parts_are, scripts_of_others, tagged_once}
use Rattle.wp_desk.specs.GoingOn.{new_entries, refills_after, released_after}
use Rattle.wp_desk.specs.Parts.{HasAsked, refills_by, waves_by}
use Rattle.wp_desk.specs.Work.{AreOfDesks, ArePlanned, EndsWith, HasDone, HaveDone, IsOfDesk, Seen, desks_of, planned_waves}
use Rattle.wp_desk.specs.declared.day_run.Planned.{Planned}
use Rattle.wp_desk.specs.declared.shared.Shared.{Shared}
use Rattle.wp_desk.specs.declared.told.Told.{Told}
use Rattle.wp_machine.specs.declared.outcome.Refill.{Refill}
use Rattle.wp_machine.specs.declared.outcome.WaveHolds.{WaveHolds}
use Rattle.wp_model.specs.History.{History, Script, part_of, script_of}
use Rattle.wp_model.specs.Tables.{AreReadScripts}
use Rattle.wp_model.specs.declared.entry.Entry.{Entry}
use Rattle.wp_turn.proofs.Closing.{all_snoc}
use Rattle.wp_turn.proofs.Sums.{only-other}
use Rattle.wp_turn.specs.Calls.{IsAmong, calls_of, entries_of}
use Rattle.wp_turn.specs.Promises.{Follow, callers_of, given_by, new_pass, new_passes}
use Rattle.wp_turn.specs.Promises.{Opening as Begun}
use Rattle.wp_turn.specs.Told.{Extends}
use Rattle.wp_turn.specs.Weights.{only, total}

-- desks in the opposite order: what comes before them comes last
pub reversed_more : (desk : ℕ) (desks : List ℕ) → reverse (desk ∷ desks) ≡ reverse desks ++ desk ∷ []
reversed_more desk desks = reverse-append (desk ∷ []) desks

-- passes of desks, with the pass of one more desk after them
pub desks_with_one : (turn : Begun Shared) (passes : List Seen) (pass : Seen) → AreOfDesks turn (map (λ pass. pass.caller) passes) passes
    → IsOfDesk turn pass.caller pass → AreOfDesks turn (map (λ pass. pass.caller) passes ++ pass.caller ∷ []) (passes ++ pass ∷ [])
desks_with_one turn passes pass of_desks of_desk = (
  map_push (λ (pass : Seen). pass.caller) passes pass,
  all_snoc (λ (pass : Seen). IsOfDesk turn pass.caller pass) passes pass of_desks.1 of_desk,
)

module _ {T : Type 0} where
  -- where each of some plans and each of more is related to its wave, each of both is
  pub planned_both : (Plans : WaveHolds → T → Type 0) (some more : List (Planned T)) → ArePlanned Plans some → ArePlanned Plans more
      → ArePlanned Plans (some ++ more)
  planned_both Plans some more one two = All-append (λ (planned : Planned T). Plans planned.wave planned.plan) some more one two

  -- desks that have done their scripts, and one more that has done its own, have together done all of them
  pub done_with_one : (start : History) (scripts : List Script) (passes : List Seen) (pass : Seen) (some more both : Told T)
      → HaveDone start scripts passes some → HasDone start (script_of scripts pass.caller) pass more
      → both.plans.items ≡ some.plans.items ++ more.plans.items → both.refills.items ≡ some.refills.items ++ more.refills.items
      → HaveDone start scripts (passes ++ pass ∷ []) both
  done_with_one start scripts passes pass some more both done one plans refills =
      let waves_of_pass : Seen → List WaveHolds = λ pass. waves_by start pass.calls pass.caller in
      let refills_of_pass : Seen → List Refill = λ pass. refills_by start pass.calls pass.caller in
      record {
        asked = all_snoc (λ (pass : Seen). HasAsked pass.calls pass.caller (script_of scripts pass.caller)) passes pass done.asked one.asked;
        waves = ap planned_waves plans
            ∙ (map-append (λ (planned : Planned T). planned.wave) some.plans.items more.plans.items
            ∙ (ap (λ waves. waves ++ planned_waves more.plans.items) done.waves
            ∙ (ap (λ waves. flat_map waves_of_pass passes ++ waves) one.waves ∙ flat_map_more waves_of_pass [] passes pass)));
        refills = refills
            ∙ (ap (λ refills. refills ++ more.refills.items) done.refills
            ∙ (ap (λ refills. flat_map refills_of_pass passes ++ refills) one.refills ∙ flat_map_more refills_of_pass [] passes pass));
      }

-- the passes at the opening have their desks' numbers, counted from 1 on
new_counted : (turn : Begun Shared) (n : ℕ) → map (λ (pass : Seen). pass.caller) (new_passes turn n) ≡ count_up n
new_counted turn zero = refl
new_counted turn (suc n) = map_push (λ (pass : Seen). pass.caller) (new_passes turn n) (new_pass turn (suc n))
    ∙ ap (λ desks. desks ++ suc n ∷ []) (new_counted turn n)

-- the desks of a turn are the numbers from 1 on, in the opposite order
pub desks_counted : (turn : Begun Shared) → desks_of turn ≡ reverse (count_up turn.made)
desks_counted turn = ap reverse (new_counted turn turn.made)

-- there are as many numbers from 1 to the last as the last one says
length-count_up : (n : ℕ) → length (count_up n) ≡ n
length-count_up zero = refl
length-count_up (suc n) = omega (arith, length-append (count_up n) (suc n ∷ []), length-count_up n)

-- passes that each stand for one desk alone stand for as many desks as they are
given_each : (turn : Begun Shared) (passes : List Seen) → All (λ pass. IsOfDesk turn pass.caller pass) passes → given_by passes ≡ length passes
given_each turn [] own = refl
given_each turn (pass ∷ passes) own =
    let one : length pass.callers ≡ 1 = ap length (All-head (λ (pass : Seen). IsOfDesk turn pass.caller pass) pass passes own).alone in
    let others = given_each turn passes (All-tail (λ (pass : Seen). IsOfDesk turn pass.caller pass) pass passes own) in
    omega (arith, sum_by-cons (λ (pass : Seen). length pass.callers) pass passes, one, others)

-- the passes of all desks of a turn stand for as many desks as passes were made
pub given_all : (turn : Begun Shared) (passes : List Seen) → AreOfDesks turn (desks_of turn) passes → given_by passes ≡ turn.made
given_all turn passes of_desks =
    given_each turn passes of_desks.1
    ∙ (sym (length-map passes (λ (pass : Seen). pass.caller))
    ∙ (ap length (of_desks.0 ∙ desks_counted turn) ∙ (length-reverse (count_up turn.made) ∙ length-count_up turn.made)))

-- what holds of each number of a list holds of a number that stands there
holds_among : (P : ℕ → Type 0) (ns : List ℕ) → All P ns → (n : ℕ) → IsAmong n ns → P n
holds_among P [] all n among = absurd (omega (arith, among))
holds_among P (m ∷ ns) all n among = elim (cases_eq m n) [
  | inl same ↦ subst P same (All-head P m ns all)
  | inr other ↦ holds_among P ns (All-tail P m ns all) n (omega (arith, among, only-other n m other))
]

-- a number that isn't among those from 1 to the last is none, or is beyond the last
beyond_counted : (n k : ℕ) → ¬ IsAmong k (reverse (count_up n)) → (k ≡ 0) ⊎ (n < k)
beyond_counted n k away = elim (cases_lt n k) [
  | inl after ↦ inr after
  | inr within ↦ elim (cases_lt 0 k) [
    | inl first ↦ absurd (away (omega (arith, once_each n k (omega (arith, first)) within)))
    | inr none ↦ inl (omega (arith, none))
  ]
]

-- passes that each stand for one desk alone stand for their own desks
callers_alone : (turn : Begun Shared) (passes : List Seen) → All (λ pass. IsOfDesk turn pass.caller pass) passes
    → callers_of passes ≡ map (λ pass. pass.caller) passes
callers_alone turn [] own = refl
callers_alone turn (pass ∷ passes) own =
    ap (λ callers. callers ++ callers_of passes) (All-head (λ (pass : Seen). IsOfDesk turn pass.caller pass) pass passes own).alone
    ∙ ap (λ callers. pass.caller ∷ callers) (callers_alone turn passes (All-tail (λ (pass : Seen). IsOfDesk turn pass.caller pass) pass passes own))

-- a desk is among those that its pass stands for
own_among : (turn : Begun Shared) (pass : Seen) → IsOfDesk turn pass.caller pass → IsAmong pass.caller pass.callers
own_among turn pass own = subst (λ (callers : List ℕ). IsAmong pass.caller callers) (sym own.alone) (among_own pass.caller)

-- each desk that has asked for its script has asked for it in all calls
asked_in_all : (turn : Begun Shared) (scripts : List Script) (passes : List Seen) (calls : List (ℕ × Entry))
    → All (λ pass. IsOfDesk turn pass.caller pass) passes → All (λ pass. HasAsked pass.calls pass.caller (script_of scripts pass.caller)) passes
    → All (λ pass. Follow pass calls) passes → All (λ pass. HasAsked calls pass.caller (script_of scripts pass.caller)) passes
asked_in_all turn scripts passes calls own asked follow k d inside =
    let pass : Seen = slice_index_or passes k d in
    asked_later pass.caller pass.calls calls pass.callers (script_of scripts pass.caller) (follow k d inside) (own_among turn pass (own k d inside))
    (asked k d inside)

-- where the desks of a turn have asked for their scripts and the turn has ended, the part of each desk in what is new is its script
pub parts_whole : (turn : Begun Shared) (start : History) (scripts : List Script) (passes : List Seen) (history : History) → AreReadScripts scripts
    → turn.made ≡ length scripts → AreOfDesks turn (desks_of turn) passes
    → All (λ pass. HasAsked pass.calls pass.caller (script_of scripts pass.caller)) passes → EndsWith start passes history
    → (desk : ℕ) → part_of desk (new_entries start history) ≡ script_of scripts desk
parts_whole turn start scripts passes history read counted of_desks asked ends =
    let desks : List ℕ = map (λ (pass : Seen). pass.caller) passes in
    let are : desks ≡ reverse (count_up turn.made) = of_desks.0 ∙ desks_counted turn in
    let all : All (λ desk. HasAsked ends.calls desk (script_of scripts desk)) desks =
    All-map (λ desk. HasAsked ends.calls desk (script_of scripts desk)) (λ (pass : Seen). pass.caller) passes
    (asked_in_all turn scripts passes ends.calls of_desks.1 asked ends.follow) in
    let silent : (desk : ℕ) → ¬ IsAmong desk desks → calls_of desk ends.calls ≡ [] = λ desk away. ends.no_others desk
    (λ among. away (subst (λ (callers : List ℕ). IsAmong desk callers) (callers_alone turn passes of_desks.1) among)) in
    let unasked : (desk : ℕ) → ¬ IsAmong desk desks → script_of scripts desk ≡ [] = λ desk away. scripts_of_others scripts read desk
    (subst (λ (last : ℕ). (desk ≡ 0) ⊎ (last < desk)) counted
    (beyond_counted turn.made desk (λ among. away (subst (λ (desks : List ℕ). IsAmong desk desks) (sym are) among)))) in
    λ desk. ap (part_of desk) (new_called start passes history ends)
    ∙ parts_are scripts desks ends.calls (holds_among (λ desk. HasAsked ends.calls desk (script_of scripts desk)) desks all) silent unasked desk

-- no number stands more than once among those from 1 to the last
once_counted : (n k : ℕ) → total (only k) (reverse (count_up n)) ≤ 1
once_counted n k = elim (cases_lt n k) [
  | inl after ↦ omega (arith, none_else n k (inr after))
  | inr within ↦ elim (cases_lt 0 k) [
    | inl first ↦ omega (arith, once_each n k (omega (arith, first)) within)
    | inr none ↦ omega (arith, none_else n k (inl (omega (arith, none))))
  ]
]

-- where a turn has ended, the desk of each call stands once among the desks of the passes
called_once : (turn : Begun Shared) (passes : List Seen) (calls : List (ℕ × Entry)) → AreOfDesks turn (desks_of turn) passes
    → ((desk : ℕ) → ¬ IsAmong desk (callers_of passes) → calls_of desk calls ≡ [])
    → All (λ call. total (only call.0) (map (λ (pass : Seen). pass.caller) passes) ≡ 1) calls
called_once turn passes calls of_desks no_others =
    let desks : List ℕ = map (λ (pass : Seen). pass.caller) passes in
    let are : desks ≡ reverse (count_up turn.made) = of_desks.0 ∙ desks_counted turn in
    tagged_once desks calls (λ k. subst (λ (desks : List ℕ). total (only k) desks ≤ 1) (sym are) (once_counted turn.made k))
    (λ k away. no_others k (λ among. away (subst (λ (callers : List ℕ). IsAmong k callers) (callers_alone turn passes of_desks.1) among)))

module _ {A : Type 0} where
  -- what is the same for each of some passes is the same when gathered
  same_gathered : (first second : Seen → List A) (passes : List Seen) → All (λ pass. first pass ≡ second pass) passes
      → flat_map first passes ≡ flat_map second passes
  same_gathered first second [] same = refl
  same_gathered first second (pass ∷ passes) same =
      ap (λ l. l ++ flat_map first passes) (All-head (λ pass. first pass ≡ second pass) pass passes same)
      ∙ ap (λ l. second pass ++ l) (same_gathered first second passes (All-tail (λ pass. first pass ≡ second pass) pass passes same))

  -- what desks have by the calls that they have seen is what they have by all calls, where it stays while others call
  gathered_later : (had : List (ℕ × Entry) → ℕ → List A)
      → ((desk : ℕ) (before calls : List (ℕ × Entry)) (callers : List ℕ) → Extends before callers calls → IsAmong desk callers
      → had calls desk ≡ had before desk) → (turn : Begun Shared) (passes : List Seen) (calls : List (ℕ × Entry))
      → All (λ pass. IsOfDesk turn pass.caller pass) passes → All (λ pass. Follow pass calls) passes
      → flat_map (λ pass. had pass.calls pass.caller) passes ≡ flat_map (had calls) (map (λ pass. pass.caller) passes)
  gathered_later had later turn passes calls own follow =
      same_gathered (λ pass. had pass.calls pass.caller) (λ pass. had calls pass.caller) passes
      (λ k d inside. let pass : Seen = slice_index_or passes k d in
      sym (later pass.caller pass.calls calls pass.callers (follow k d inside) (own_among turn pass (own k d inside))))
      ∙ sym (flat_map-map (had calls) (λ (pass : Seen). pass.caller) passes)

module _ {T : Type 0} where
  -- where the desks of a turn have done their scripts and the turn has ended, the waves that they kept are those that new entries sent out
  pub waves_whole : (turn : Begun Shared) (start : History) (scripts : List Script) (passes : List Seen) (history : History) (told : Told T)
      → AreReadScripts scripts → turn.made ≡ length scripts → AreOfDesks turn (desks_of turn) passes → HaveDone start scripts passes told
      → EndsWith start passes history → IsPermutation (released_after start (new_entries start history)) (planned_waves told.plans.items)
  waves_whole turn start scripts passes history told read counted of_desks done ends =
      let desks : List ℕ = map (λ (pass : Seen). pass.caller) passes in
      let kept : planned_waves told.plans.items ≡ flat_map (waves_by start ends.calls) desks =
      done.waves ∙ gathered_later (waves_by start) (waves_later start) turn passes ends.calls of_desks.1 ends.follow in
      let all : IsPermutation (flat_map (waves_by start ends.calls) desks) (released_after start (entries_of ends.calls)) =
      all_waves start ends.calls desks (called_once turn passes ends.calls of_desks ends.no_others) in
      IsPermutation-sym (planned_waves told.plans.items) (released_after start (new_entries start history))
      (subst (λ (waves : List WaveHolds). IsPermutation waves (released_after start (new_entries start history))) (sym kept)
      (subst (λ (entries : List Entry). IsPermutation (flat_map (waves_by start ends.calls) desks) (released_after start entries))
      (sym (new_called start passes history ends)) all))

  -- and the refills that they kept are those of all losses in new entries
  pub refills_whole : (turn : Begun Shared) (start : History) (scripts : List Script) (passes : List Seen) (history : History) (told : Told T)
      → AreReadScripts scripts → turn.made ≡ length scripts → AreOfDesks turn (desks_of turn) passes → HaveDone start scripts passes told
      → EndsWith start passes history → IsPermutation (refills_after start (new_entries start history)) told.refills.items
  refills_whole turn start scripts passes history told read counted of_desks done ends =
      let desks : List ℕ = map (λ (pass : Seen). pass.caller) passes in
      let kept : told.refills.items ≡ flat_map (refills_by start ends.calls) desks =
      done.refills ∙ gathered_later (refills_by start) (refills_later start) turn passes ends.calls of_desks.1 ends.follow in
      let all : IsPermutation (flat_map (refills_by start ends.calls) desks) (refills_after start (entries_of ends.calls)) =
      all_refills start ends.calls desks (called_once turn passes ends.calls of_desks ends.no_others) in
      IsPermutation-sym told.refills.items (refills_after start (new_entries start history))
      (subst (λ (refills : List Refill). IsPermutation refills (refills_after start (new_entries start history))) (sym kept)
      (subst (λ (entries : List Entry). IsPermutation (flat_map (refills_by start ends.calls) desks) (refills_after start entries))
      (sym (new_called start passes history ends)) all))
