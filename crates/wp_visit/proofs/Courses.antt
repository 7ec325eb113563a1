-- A place that was entered, and what came of it.
use Rattle.std.proofs.Common.{◌≡◌, ℕ, List, refl, rules, subst}
use Rattle.std.specs.Prelude.{Result, Ok, Err, OnOk, ⊤}
use Rattle.wp_pairs.specs.Permitted.{Pairing}
use Rattle.wp_lengths.specs.Visits.{Children, Place}
use Rattle.wp_lengths.proofs.Visits.{Extends, IsPlace}
use Rattle.wp_visit.specs.declared.step.Step.{Step}
use Rattle.wp_visit.specs.declared.step.Step.TheVariants as step
use Rattle.wp_visit.specs.Courses.{Entering, HasVisited, IsMet, deeper, past}
use Rattle.wp_visit.proofs.Meeting.{course_says}

-- the visitor answered to go deeper, and what extends the place was visited
pub deeper_on : {S E : Type 0} {pairing : Pairing} {enters : Entering S E} {place : List ℕ} {old between new : S} {end : Result ⊤ E} (from at : ℕ)
    {answer : Step} → at ≡ from → answer ≡ step.Deeper → enters old place at (Ok answer) between
    → HasVisited pairing enters (Children place at) between end new → HasVisited pairing enters (Place place from) old end new
deeper_on {pairing} {enters} {place} {old} {between} {new} {end} from at {answer} e is entered below =
    subst (λ (n : ℕ). HasVisited pairing enters (Place place n) old end new) e
    (deeper (subst (λ (a : Step). enters old place at (Ok a) between) is entered) below)

-- the visitor answered to go past what extends the place
pub past_on : {S E : Type 0} {pairing : Pairing} {enters : Entering S E} {place : List ℕ} {old new : S} (from at : ℕ) {answer : Step} → at ≡ from
    → answer ≡ step.Past → enters old place at (Ok answer) new → HasVisited pairing enters (Place place from) old (Ok tt) new
past_on {pairing} {enters} {place} {old} {new} from at {answer} e is entered =
    subst (λ (n : ℕ). HasVisited pairing enters (Place place n) old (Ok tt) new) e
    (past (subst (λ (a : Step). enters old place at (Ok a) new) is entered))

-- where the visit of a place came to its end, each batch that extends the place was met
pub all_met : {S E : Type 0} (pairing : Pairing) (enters : Entering S E) (place : List ℕ) (from : ℕ) (old new : S) (end : Result ⊤ E) → IsPlace pairing place
    → HasVisited pairing enters (Place place from) old end new
    → OnOk end ((batch : List ℕ) → Extends pairing place from batch → IsMet pairing enters batch)
all_met pairing enters place from old new (Ok done) closed course =
    λ batch extends. course_says pairing enters (Place place from) old new (Ok done) course refl batch closed extends
all_met pairing enters place from old new (Err fault) closed course = search rules
