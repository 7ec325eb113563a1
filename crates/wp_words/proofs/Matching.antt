-- What clap matches of words, and what becomes of it.
use Rattle.std.proofs.Common.{◌≡◌, ◌∙◌, ◌&&◌, refl, sym, ap, subst, Bool, true, false, List, [], ◌∷◌, ℕ, Option, Some, None, option_map, Result, Ok, Err}
use Rattle.std.proofs.Common.{⊎_elim}
use Rattle.clap.specs.Words.{App, HasKind, Kinds, ReadsOne, Row, Text, TriesOne, is_simple, is_simple_and_free, kind_of}
use Rattle.clap.specs.declared.error.Error.{Error}
use Rattle.clap.specs.declared.error.kind.ErrorKind.TheVariants as kind
use Rattle.clap.proofs.OnLiterals.{clap_on_literals}
use Rattle.wp_model.specs.Outcomes.{and_then}
use Rattle.wp_words.specs.Options.{audit_command, check_command, make_command, plan_command}
use Rattle.wp_words.specs.Reading.{IsFaultOf}
use Rattle.wp_words.specs.Words.{made_into, number_said, unless_faulty}
use Rattle.wp_words.specs.declared.fault.WordsFault.{WordsFault}
use Rattle.wp_words.specs.declared.fault.WordsFault.TheVariants as fault

-- clap states what the command of `plan` matches, and when it fails
pub plan_is_simple : is_simple_and_free plan_command ≡ true
unfolding plan_command clap_on_literals
plan_is_simple = refl

-- and so it does for the command of `check`
pub check_is_simple : is_simple_and_free check_command ≡ true
unfolding check_command clap_on_literals
check_is_simple = refl

-- and for that of `audit`
pub audit_is_simple : is_simple_and_free audit_command ≡ true
unfolding audit_command clap_on_literals
audit_is_simple = refl

-- and for that of `make`
pub make_is_simple : is_simple_and_free make_command ≡ true
unfolding make_command clap_on_literals
make_is_simple = refl

left : (x y : Bool) → (x && y) ≡ true → x ≡ true
left true y is = refl
left false y is = is

-- a simple command whose options have no rule on one another is a simple one
pub simple : (command : App) → is_simple_and_free command ≡ true → is_simple command ≡ true
simple command is = left _ _ is

-- an error that isn't want of memory comes only of words that aren't accepted
pub faulty : (kinds : Kinds) (rows : List Row) (error : Error) → HasKind kinds error → (kind_of error ≡ kind.OutOfMemory → ⊥)
    → unless_faulty kinds rows ≡ Err fault.BadWords
faulty [] rows error has other = absurd (⊎_elim other (λ among. among) has)
faulty (k ∷ kinds) rows error has other = refl

-- what was matched of words that are accepted
pub rows_matched : (kinds : Kinds) (rows got : List Row) → unless_faulty kinds rows ≡ Ok got → rows ≡ got
rows_matched [] rows got is = cc
rows_matched (k ∷ kinds) rows got is = cc

-- the fault of what was found is that of what is made of it
pub fault_after : {A B : Type 0} (make : A → B) (said : Result A WordsFault) (why : WordsFault) → IsFaultOf said why → IsFaultOf (made_into make said) why
fault_after make said why is told = ap (made_into make) (is told)

-- and so it is the fault of a test of what was found
pub fault_before : {A B : Type 0} (test : A → Result B WordsFault) (said : Result A WordsFault) (why : WordsFault) → IsFaultOf said why
    → IsFaultOf (and_then said test) why
fault_before test said why told is = ap (λ r. and_then r test) (told is)

-- whose own fault is that of both
pub fault_of_test : {A B : Type 0} (test : A → Result B WordsFault) (said : Result A WordsFault) (found : A) (why : WordsFault) → said ≡ Ok found
    → IsFaultOf (test found) why → IsFaultOf (and_then said test) why
fault_of_test test said found why is told memory = ap (λ r. and_then r test) is ∙ told memory

-- a number that was got of an option was read of a text that the option has
pub text_got : {T E : Type 0} (gives : Text → Result T E → Type 0) (text : Option Text) (number : T) (got : Option T) → got ≡ Some number
    → (text ≡ None → got ≡ None) → ((t : Text) → text ≡ Some t → ReadsOne gives t got) → (t : Text) × (text ≡ Some t) × gives t (Ok number)
text_got gives None number got is none some =
    let bad : Some number ≡ None = sym is ∙ none refl in
    cc
text_got {T} gives (Some t) number got is none some = (t, refl, subst (λ (o : Option T). ReadsOne gives t o) is (some t refl))

-- a number is the one that the text of an option says, or there is neither
pub number_if_got : {E : Type 0} (gives : Text → Result ℕ E → Type 0) → ((t : Text) (n : ℕ) → gives t (Ok n) → number_said t ≡ n)
    → (text : Option Text) (number : Option ℕ) (tried : Result (Option ℕ) E) → tried ≡ Ok number → (text ≡ None → tried ≡ Ok None)
    → ((t : Text) → text ≡ Some t → TriesOne gives t tried) → option_map number_said text ≡ number
number_if_got gives said None number tried is none some =
    let same : Ok number ≡ Ok None = sym is ∙ none refl in
    cc
number_if_got gives said (Some t) None tried is none some = absurd (subst (TriesOne gives t) is (some t refl))
number_if_got gives said (Some t) (Some n) tried is none some = ap Some (said t n (subst (TriesOne gives t) is (some t refl)))
