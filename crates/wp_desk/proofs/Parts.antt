-- The part of a desk grows by its own calls, and stays where others call.
use Rattle.std.proofs.Common.{◌≡◌, ◌∙◌, refl, sym, ap, subst, ℕ, suc, ◌+◌, Bool, true, false, List, [], ◌∷◌, ◌++◌, length, length-append, map, arith, cond}
use Rattle.std.proofs.Common.{eq-eqb}
use Rattle.std.proofs.Common.{append-nil}
use Rattle.std.specs.Prelude.{◌==◌, if◌then◌else◌}
use Rattle.std.specs.List.{All, flat_map}
use Rattle.std.proofs.lemmas.Bool.{cond-true}
use Rattle.std.proofs.lemmas.Grind.{flat_map-append}
use Rattle.std.proofs.lemmas.List.{append_cancel_left, map_push}
use Rattle.wp_desk.proofs.GoingOn.{state_goes_on}
use Rattle.wp_desk.specs.Parts.{HasAsked, history_of, refills_by, told_from, told_to, waves_by}
use Rattle.wp_machine.specs.Outcome.{outcome_of, refill_in, released_in}
use Rattle.wp_machine.specs.declared.outcome.Outcome.{Outcome}
use Rattle.wp_model.specs.History.{History, next_entry, state_after, state_from}
use Rattle.wp_model.specs.Opening.{Opening}
use Rattle.wp_model.specs.State.{State}
use Rattle.wp_model.specs.Step.{step}
use Rattle.wp_model.specs.declared.command.Command.{Command}
use Rattle.wp_model.specs.declared.entry.Entry.{Entry}
use Rattle.wp_turn.proofs.CallLists.{calls_of-own}
use Rattle.wp_turn.proofs.Closing.{all_snoc}
use Rattle.wp_turn.specs.Calls.{IsAmong, calls_of, entries_of}
use Rattle.wp_turn.specs.Told.{Extends}

-- what the step of one more command tells, after calls
abbrev pub next_told : History → List (ℕ × Entry) → Command → Outcome
next_told start calls command =
    outcome_of (length (history_of start calls).entries) (state_after (history_of start calls)) command
    (step start.opening (state_after (history_of start calls)) command)

-- a call goes before what is told, or doesn't
onto_told : (mine : Bool) (told : Outcome) (xs ys zs : List Outcome) → xs ≡ ys ++ zs
    → (if mine then told ∷ xs else xs) ≡ (if mine then told ∷ ys else ys) ++ zs
onto_told true told xs ys zs same = ap (λ os. told ∷ os) same
onto_told false told xs ys zs same = same

-- what is told to a desk by calls in two parts
told_from-append : (desk : ℕ) (opening : Opening) (number : ℕ) (state : State) (calls more : List (ℕ × Entry))
    → told_from desk opening number state (calls ++ more) ≡ told_from desk opening number state calls
    ++ told_from desk opening (number + length (entries_of calls)) (state_from opening state (entries_of calls)) more
told_from-append desk opening number state [] more = ap (λ n. told_from desk opening n state more) (none number)
  where
    none : (n : ℕ) → n ≡ n + 0
    none n = omega arith
told_from-append desk opening number state (call ∷ calls) more =
    let after = (step opening state call.1.command).state in
    let shifted : (number + 1) + length (entries_of calls) ≡ number + suc (length (entries_of calls)) = omega arith in
    onto_told (call.0 == desk) (outcome_of number state call.1.command (step opening state call.1.command)) _ _ _
    (told_from-append desk opening (number + 1) after calls more
    ∙ ap (λ n. told_from desk opening (number + 1) after calls ++ told_from desk opening n (state_from opening after (entries_of calls)) more) shifted)

-- what is told to a desk by calls in two parts, from the history to begin with on
told_to-append : (desk : ℕ) (start : History) (calls more : List (ℕ × Entry))
    → told_to desk start (calls ++ more) ≡ told_to desk start calls
    ++ told_from desk start.opening (length (history_of start calls).entries) (state_after (history_of start calls)) more
told_to-append desk start calls more =
    let told = told_to desk start calls in
    let counted : length start.entries + length (entries_of calls) ≡ length (history_of start calls).entries =
    sym (length-append start.entries (entries_of calls)) in
    let after : state_from start.opening (state_after start) (entries_of calls) ≡ state_after (history_of start calls) =
    sym (state_goes_on start (entries_of calls)) in
    told_from-append desk start.opening (length start.entries) (state_after start) calls more
    ∙ (ap (λ n. told ++ told_from desk start.opening n (state_from start.opening (state_after start) (entries_of calls)) more) counted
    ∙ ap (λ state. told ++ told_from desk start.opening (length (history_of start calls).entries) state more) after)

-- where a desk calls, it is told what the step tells
pub told_more : (start : History) (desk : ℕ) (calls : List (ℕ × Entry)) (command : Command)
    → told_to desk start (calls ++ (desk, next_entry (history_of start calls) desk command) ∷ [])
    ≡ told_to desk start calls ++ outcome_of (length (history_of start calls).entries) (state_after (history_of start calls)) command
    (step start.opening (state_after (history_of start calls)) command) ∷ []
told_more start desk calls command =
    told_to-append desk start calls ((desk, next_entry (history_of start calls) desk command) ∷ [])
    ∙ ap (λ os. told_to desk start calls ++ os) (cond-true (desk == desk) (next_told start calls command ∷ []) [] (eq-eqb desk desk refl))

flat_map_more : {X : Type 0} (told_in : Outcome → List X) (all told : List Outcome) (next : Outcome) → all ≡ told ++ next ∷ []
    → flat_map told_in all ≡ flat_map told_in told ++ told_in next
flat_map_more told_in all told next more = ap (flat_map told_in) more
    ∙ (flat_map-append told_in told (next ∷ []) ∙ ap (λ xs. flat_map told_in told ++ xs) (append-nil (told_in next)))

-- and it sends out the wave that the step sends out
pub waves_more : (start : History) (desk : ℕ) (calls : List (ℕ × Entry)) (command : Command)
    → waves_by start (calls ++ (desk, next_entry (history_of start calls) desk command) ∷ []) desk
    ≡ waves_by start calls desk ++ released_in (outcome_of (length (history_of start calls).entries) (state_after (history_of start calls)) command
    (step start.opening (state_after (history_of start calls)) command))
waves_more start desk calls command = flat_map_more released_in _ (told_to desk start calls) (next_told start calls command)
    (told_more start desk calls command)

-- and it has the refill that the step tells
pub refills_more : (start : History) (desk : ℕ) (calls : List (ℕ × Entry)) (command : Command)
    → refills_by start (calls ++ (desk, next_entry (history_of start calls) desk command) ∷ []) desk
    ≡ refills_by start calls desk ++ refill_in (outcome_of (length (history_of start calls).entries) (state_after (history_of start calls)) command
    (step start.opening (state_after (history_of start calls)) command))
refills_more start desk calls command = flat_map_more refill_in _ (told_to desk start calls) (next_told start calls command)
    (told_more start desk calls command)

-- an entry goes before a desk's calls, or doesn't
onto_calls : (mine : Bool) (entry : Entry) (xs ys zs : List Entry) → xs ≡ ys ++ zs → cond mine (entry ∷ xs) xs ≡ cond mine (entry ∷ ys) ys ++ zs
onto_calls true entry xs ys zs same = ap (λ es. entry ∷ es) same
onto_calls false entry xs ys zs same = same

-- the calls of a desk, in two parts
calls_of-append : (desk : ℕ) (calls more : List (ℕ × Entry)) → calls_of desk (calls ++ more) ≡ calls_of desk calls ++ calls_of desk more
calls_of-append desk [] more = refl
calls_of-append desk (call ∷ calls) more = onto_calls (call.0 == desk) call.1 _ _ _ (calls_of-append desk calls more)

-- a test that keeps nothing of the one list keeps nothing of the other
none_of_both : (mine : Bool) (entry : Entry) (entries : List Entry) (told : Outcome) (others : List Outcome) → (entries ≡ [] → others ≡ [])
    → cond mine (entry ∷ entries) entries ≡ [] → (if mine then told ∷ others else others) ≡ []
none_of_both true entry entries told others none is = absurd (cc is)
none_of_both false entry entries told others none is = none is

-- a desk that doesn't call is told nothing
told_nothing : (desk : ℕ) (opening : Opening) (number : ℕ) (state : State) (calls : List (ℕ × Entry)) → calls_of desk calls ≡ []
    → told_from desk opening number state calls ≡ []
told_nothing desk opening number state [] none = refl
told_nothing desk opening number state (call ∷ calls) none =
    none_of_both (call.0 == desk) call.1 (calls_of desk calls) (outcome_of number state call.1.command (step opening state call.1.command)) _
    (told_nothing desk opening (number + 1) (step opening state call.1.command).state calls) none

-- where others call, a desk is told no more
pub told_later : (start : History) (desk : ℕ) (before calls : List (ℕ × Entry)) (callers : List ℕ) → Extends before callers calls → IsAmong desk callers
    → told_to desk start calls ≡ told_to desk start before
told_later start desk before calls callers extends among =
    let more = extends.begins.0 in
    let own : calls_of desk before ++ calls_of desk more ≡ calls_of desk before ++ [] =
    sym (calls_of-append desk before more) ∙ (ap (calls_of desk) extends.begins.1 ∙ (extends.own desk among ∙ sym (append-nil (calls_of desk before)))) in
    let none : calls_of desk more ≡ [] = append_cancel_left (calls_of desk before) (calls_of desk more) [] own in
    ap (told_to desk start) (sym extends.begins.1)
    ∙ (told_to-append desk start before more
    ∙ (ap (λ os. told_to desk start before ++ os)
    (told_nothing desk start.opening (length (history_of start before).entries) (state_after (history_of start before)) more none)
    ∙ append-nil (told_to desk start before)))

-- and it sends out no more waves
pub waves_later : (start : History) (desk : ℕ) (before calls : List (ℕ × Entry)) (callers : List ℕ) → Extends before callers calls → IsAmong desk callers
    → waves_by start calls desk ≡ waves_by start before desk
waves_later start desk before calls callers extends among = ap (flat_map released_in) (told_later start desk before calls callers extends among)

-- and it has no more refills
pub refills_later : (start : History) (desk : ℕ) (before calls : List (ℕ × Entry)) (callers : List ℕ) → Extends before callers calls
    → IsAmong desk callers → refills_by start calls desk ≡ refills_by start before desk
refills_later start desk before calls callers extends among = ap (flat_map refill_in) (told_later start desk before calls callers extends among)

-- a desk that asks one more command has asked it
pub asked_more : (history : History) (desk : ℕ) (calls : List (ℕ × Entry)) (commands : List Command) (command : Command) → HasAsked calls desk commands
    → HasAsked (calls ++ (desk, next_entry history desk command) ∷ []) desk (commands ++ command ∷ [])
asked_more history desk calls commands command asked =
    let entry = next_entry history desk command in
    let own = calls_of-own calls desk entry in
    record {
      commands_are = ap (map (λ entry. entry.command)) own
          ∙ (map_push (λ (entry : Entry). entry.command) (calls_of desk calls) entry ∙ ap (λ asked. asked ++ command ∷ []) asked.commands_are);
      named = subst (λ (entries : List Entry). All (λ entry. entry.desk ≡ desk) entries) (sym own)
          (all_snoc (λ entry. entry.desk ≡ desk) (calls_of desk calls) entry asked.named refl);
    }

-- where others ask, it has asked what it had
pub asked_later : (desk : ℕ) (before calls : List (ℕ × Entry)) (callers : List ℕ) (commands : List Command) → Extends before callers calls
    → IsAmong desk callers → HasAsked before desk commands → HasAsked calls desk commands
asked_later desk before calls callers commands extends among asked = record {
  commands_are = ap (map (λ entry. entry.command)) (extends.own desk among) ∙ asked.commands_are;
  named = subst (λ (entries : List Entry). All (λ entry. entry.desk ≡ desk) entries) (sym (extends.own desk among)) asked.named;
}

-- where nobody called, a desk has asked nothing
pub asked_nothing : (desk : ℕ) → HasAsked [] desk []
asked_nothing desk = record { commands_are = refl; named = λ k d inside. absurd (omega (arith, inside)) }
