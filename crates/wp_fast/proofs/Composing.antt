-- Summaries of two passages compose to one of both, and composing is associative.
use Rattle.std.proofs.Common.{ℕ, ◌+◌, Option, arith, refl}
use Rattle.wp_classes.specs.declared.class.Class.{Class}
use Rattle.wp_classes.specs.Onward.{IsLeastOf}
use Rattle.wp_classes.proofs.Leasts.{least_like, least_same}
use Rattle.wp_fast.specs.declared.summary.Summary.{Summary}
use Rattle.wp_fast.specs.Laws.{ComposingIsAssociative}
use Rattle.wp_fast.specs.Passages.{AreLeast, EndsFrom, IsComposed, Passage, Tells, Then}
use Rattle.wp_fast.specs.Summaries.{length_between}
use Rattle.wp_fast.proofs.NoMore.{NoMore, itself, least_between, least_found, least_has}
use Rattle.wp_fast.proofs.ToTheEnd.{least_told}

-- what two summaries tell one after the other, and the passages of which they tell the least lengths
lengths_down : (First Next : Passage) (first next : Summary) (before after : Class) → AreLeast First first → AreLeast Next next → (t : ℕ)
    → Then First Next before after t
    → NoMore (Then (Tells first) (Tells next) before after) t
lengths_down First Next first next before after near far t (between, (one, other, goes, goes_on, total)) =
    let to = least_found (First before between) (length_between first before between) one (near.least before between) goes in
    let on = least_found (Next between after) (length_between next between after) other (far.least between after) goes_on in
    record { total = to.total + on.total; is = (between, (to.total, on.total, to.is, on.is, refl)); least = omega (arith, to.least, on.least, total) }

passages_up : (First Next : Passage) (first next : Summary) (before after : Class) → AreLeast First first → AreLeast Next next → (t : ℕ)
    → Then (Tells first) (Tells next) before after t → NoMore (Then First Next before after) t
passages_up First Next first next before after near far t (between, (one, other, told, told_on, total)) =
    itself (Then First Next before after) t (
      between,
      (
        one,
        other,
        least_has (First before between) (length_between first before between) one (near.least before between) told,
        least_has (Next between after) (length_between next between after) other (far.least between after) told_on,
        total,
      ),
    )

-- a summary that is composed of two tells the least lengths of both passages together
pub composed_least : (First Next : Passage) (first next both : Summary) → AreLeast First first → AreLeast Next next → IsComposed first next both
    → AreLeast (Then First Next) both
composed_least First Next first next both near far composed = record {
  least = λ before after. least_between (Then (Tells first) (Tells next) before after) (Then First Next before after) (length_between both before after)
      (passages_up First Next first next before after near far) (lengths_down First Next first next before after near far) (composed.least before after);
}

-- one that tells the least lengths of both passages together is composed of the two
pub least_composed : (First Next : Passage) (first next both : Summary) → AreLeast First first → AreLeast Next next → AreLeast (Then First Next) both
    → IsComposed first next both
least_composed First Next first next both near far together = record {
  least = λ before after. least_between (Then First Next before after) (Then (Tells first) (Tells next) before after) (length_between both before after)
      (lengths_down First Next first next before after near far) (passages_up First Next first next before after near far) (together.least before after);
}

-- the least lengths of a passage to the end are those that its summary tells to the end
told_ends : (Passes : Passage) (summary : Summary) (before : Class) → AreLeast Passes summary → (t : ℕ) → EndsFrom (Tells summary) before t
    → NoMore (EndsFrom Passes before) t
told_ends Passes summary before are t (after, whole, told) =
    itself (EndsFrom Passes before) t
    (after, whole, least_has (Passes before after) (length_between summary before after) t (are.least before after) told)

ends_told : (Passes : Passage) (summary : Summary) (before : Class) → AreLeast Passes summary → (t : ℕ) → EndsFrom Passes before t
    → NoMore (EndsFrom (Tells summary) before) t
ends_told Passes summary before are t (after, whole, passes) =
    let found = least_found (Passes before after) (length_between summary before after) t (are.least before after) passes in
    record { total = found.total; is = (after, whole, found.is); least = found.least }

pub least_past : (Passes : Passage) (summary : Summary) (before : Class) (least : Option ℕ) → AreLeast Passes summary
    → IsLeastOf (EndsFrom (Tells summary) before) least → IsLeastOf (EndsFrom Passes before) least
least_past Passes summary before least are is = least_between (EndsFrom (Tells summary) before) (EndsFrom Passes before) least
    (told_ends Passes summary before are) (ends_told Passes summary before are) is

pub told_past : (Passes : Passage) (summary : Summary) (before : Class) (least : Option ℕ) → AreLeast Passes summary
    → IsLeastOf (EndsFrom Passes before) least → IsLeastOf (EndsFrom (Tells summary) before) least
told_past Passes summary before least are is = least_between (EndsFrom Passes before) (EndsFrom (Tells summary) before) least
    (ends_told Passes summary before are) (told_ends Passes summary before are) is

-- two passages of the same lengths have the same least ones
pub least_alike : (One Other : Passage) (summary : Summary) → ((before after : Class) (t : ℕ) → One before after t → Other before after t) →
    ((before after : Class) (t : ℕ) → Other before after t → One before after t) → AreLeast One summary → AreLeast Other summary
least_alike One Other summary there back are = record {
  least = λ before after. least_like (One before after) (Other before after) (length_between summary before after) (there before after) (back before after)
      (are.least before after);
}

-- three passages, one after another
from_the_left : (One Two Three : Passage) (before after : Class) (t : ℕ) → Then (Then One Two) Three before after t → Then One (Then Two Three) before after t
from_the_left One Two Three before after t (later, (near, far, (earlier, (one, two, first, second, some)), third, total)) =
    (earlier, (one, two + far, first, (later, (two, far, second, third, refl)), omega (arith, some, total)))

from_the_right : (One Two Three : Passage) (before after : Class) (t : ℕ) → Then One (Then Two Three) before after t → Then (Then One Two) Three before after t
from_the_right One Two Three before after t (earlier, (near, far, first, (later, (two, three, second, third, some)), total)) =
    (later, (near + two, three, (earlier, (near, two, first, second, refl)), third, omega (arith, some, total)))

tells_least : (summary : Summary) → AreLeast (Tells summary) summary
tells_least summary = record { least = λ before after. least_told (length_between summary before after) }

-- composing is associative
pub composed_alike : ComposingIsAssociative
composed_alike one two three one_two two_three left right composed composed' on_left on_right before after =
    let by_left : AreLeast (Then (Then (Tells one) (Tells two)) (Tells three)) left =
    composed_least (Then (Tells one) (Tells two)) (Tells three) one_two three left composed (tells_least three) on_left in
    let by_right : AreLeast (Then (Tells one) (Then (Tells two) (Tells three))) right =
    composed_least (Tells one) (Then (Tells two) (Tells three)) one two_three right (tells_least one) composed' on_right in
    least_same (Then (Tells one) (Then (Tells two) (Tells three)) before after) (length_between left before after) (length_between right before after)
    (least_like (Then (Then (Tells one) (Tells two)) (Tells three) before after) (Then (Tells one) (Then (Tells two) (Tells three)) before after)
    (length_between left before after)
    (from_the_left (Tells one) (Tells two) (Tells three) before after) (from_the_right (Tells one) (Tells two) (Tells three) before after)
    (by_left.least before after)) (by_right.least before after)
