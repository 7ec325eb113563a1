-- Each batch that extends a place is met where what is due there was visited to its end.
use Rattle.std.proofs.Common.{◌≡◌, ℕ, ◌+◌, List, sym, refl, inl, inr, ◌⊎◌, ⊎_elim}
use Rattle.std.specs.Prelude.{Result, Ok, ⊤}
use Rattle.wp_pairs.specs.Permitted.{Pairing}
use Rattle.wp_lengths.specs.Visits.{Children, Due, Place}
use Rattle.wp_lengths.proofs.Visits.{Extends, IsPlace, permitted_place}
use Rattle.wp_visit.specs.declared.step.Step.TheVariants as step
use Rattle.wp_visit.specs.Courses.{Entering, HasVisited, IsMet, all_added, broken_off, deeper, failed, no_child, onward, past}
use Rattle.wp_visit.proofs.Extensions.{past_no_child, past_same, with_or_after}

-- what was visited to its end says of each batch that extends the place that it was met, but for the place itself where its children were visited
abbrev pub Says : {S E : Type 0} → Pairing → Entering S E → Due → Type 0
Says pairing enters (Place place from) = (batch : List ℕ) → IsPlace pairing place → Extends pairing place from batch → IsMet pairing enters batch
Says pairing enters (Children place from) = (batch : List ℕ) → IsPlace pairing place → Extends pairing place from batch
    → (batch ≡ place) ⊎ IsMet pairing enters batch

pub course_says : {S E : Type 0} (pairing : Pairing) (enters : Entering S E) (due : Due) (old new : S) (end : Result ⊤ E)
    → HasVisited pairing enters due old end new → end ≡ Ok tt → Says pairing enters due
course_says pairing enters _ old new _ (failed entered) e = absurd (cc e)
course_says pairing enters _ old new _ (past {place} {from} entered) e = λ batch closed extends. record {
  place = place;
  from = from;
  answer = step.Past;
  before = old;
  after = new;
  entered = entered;
  met = inr (refl, extends);
}
course_says pairing enters _ old new end (deeper {place} {from} {between} entered below) e = λ batch closed extends. ⊎_elim
    (λ (same : batch ≡ place). record {
      place = place;
      from = from;
      answer = step.Deeper;
      before = old;
      after = between;
      entered = entered;
      met = inl (sym same);
    })
    (λ met. met)
    (course_says pairing enters (Children place from) between new end below e batch closed extends)
course_says pairing enters _ old _ _ (all_added {place} {from} over) e = λ batch closed extends. inl (past_same pairing place batch from closed over extends)
course_says pairing enters _ old new end (no_child {place} {from} none rest) e = λ batch closed extends.
    course_says pairing enters (Children place (from + 1)) old new end rest e batch closed (past_no_child pairing place batch from closed none extends)
course_says pairing enters _ old new _ (broken_off item adds permitted first) e = absurd (cc e)
course_says pairing enters _ old new end (onward {place} {batch = union} {from} {between} item adds permitted first rest) e = λ batch closed extends. ⊎_elim
    (λ (with_item : Extends pairing union (from + 1) batch).
    inr (course_says pairing enters (Place union (from + 1)) old between (Ok tt) first refl batch (permitted_place pairing union permitted) with_item))
    (λ (after : Extends pairing place (from + 1) batch).
    course_says pairing enters (Children place (from + 1)) between new end rest e batch closed after)
    (with_or_after pairing place union batch from adds extends)
