-- Short marks of feasible duals pass the visit.
use Rattle.std.proofs.Common.{◌≡◌, ℕ, ◌+◌, ◌*◌, ◌≤◌, Bool, true, false, List, [], ◌∷◌, ◌++◌, arith, refl, ap, sym, ◌∙◌, subst, inl, inr, ⊎_elim, Contains}
use Rattle.std.proofs.Common.{append_assoc, append-nil}
use Rattle.std.specs.Prelude.{Result, Ok, ⊤}
use Rattle.wp_pairs.specs.Permitted.{IsPermitted, Pairing}
use Rattle.wp_lengths.specs.Lengths.{IsLengthOf}
use Rattle.wp_lengths.specs.Waves.{WavePicks}
use Rattle.wp_lengths.specs.Duals.{AreFeasible, duals_of}
use Rattle.wp_lengths.specs.Visits.{AddsItem, Children, Due, IsItem, IsReach, IsVisit, IsVisitOfAll, IsWithin, Passed, Place}
use Rattle.wp_lengths.specs.Visits as visit
use Rattle.wp_visit.specs.Courses.{Entering, HasVisited}
use Rattle.wp_visit.specs.Courses as course
use Rattle.wp_visit.specs.Places.{IsNoChild, IsReached, Task}
use Rattle.wp_price.specs.declared.short.MarksSoFar.{MarksSoFar}
use Rattle.wp_price.specs.Searches.{NamesBelow}
use Rattle.wp_price.proofs.Children.{names_more}
use Rattle.wp_price.specs.ShortMarks.{AddsShort, AreShort, AreShortMarks, EntersMarks, IsMarked}
use Rattle.wp_price.specs.ShortMarks as short

-- where a place is due, it is one that a search comes to
abbrev IsDueAt : Pairing → Due → Type 0
IsDueAt pairing (Place place from) = IsReached pairing place
IsDueAt pairing (Children place from) = ⊤

-- what a search comes to has no more in duals than sixty times its length
within : (wave : WavePicks) (pairing : Pairing) (duals place : List ℕ) (total : ℕ) → AreFeasible wave pairing duals → IsReached pairing place
    → IsLengthOf wave place total → IsWithin wave duals place
within wave pairing duals place total feasible reached is = (
  total,
  is,
  ⊎_elim (λ (none : place ≡ []). subst (λ (xs : List ℕ). duals_of duals xs ≤ 60 * total) (sym none) (omega arith))
      (λ permitted. feasible place total permitted is) reached,
)

-- short marks of feasible duals pass, and leave the marks that follow them
short_pass : (wave : WavePicks) (pairing : Pairing) (duals : List ℕ) (due : Due) (marks more : List Bool) → AreFeasible wave pairing duals
    → IsDueAt pairing due → AreShort wave pairing duals due marks → IsVisit wave pairing duals due (marks ++ more) (Passed more)
short_pass wave pairing duals _ _ more feasible at (short.closed long reaches low) = visit.pruned long reaches low
short_pass wave pairing duals _ _ more feasible at (short.entered {place} {from} {total} {marks} long reaches high rest) =
    visit.entered (within wave pairing duals place total feasible at long) (short_pass wave pairing duals (Children place from) marks more feasible _ rest)
short_pass wave pairing duals _ _ more feasible at (short.all_added past) = visit.all_added past
short_pass wave pairing duals _ marks more feasible at (short.no_item {place} {from} none rest) =
    visit.no_item none (short_pass wave pairing duals (Children place (from + 1)) marks more feasible _ rest)
short_pass wave pairing duals _ marks more feasible at (short.not_permitted {place} {from} adds never rest) =
    visit.not_permitted adds never (short_pass wave pairing duals (Children place (from + 1)) marks more feasible _ rest)
short_pass wave pairing duals _ _ more feasible at (short.onward {place} {batch} {from} {marks} {more = others} item adds permitted first rest) =
    subst (λ (ms : List Bool). IsVisit wave pairing duals (Children place from) ms (Passed more)) (sym (append_assoc marks others more))
    (visit.onward item adds permitted (short_pass wave pairing duals (Place batch (from + 1)) marks (others ++ more) feasible (inr permitted) first)
    (short_pass wave pairing duals (Children place (from + 1)) others more feasible _ rest))

-- short marks of feasible duals pass the visit of all
pub short_marks_pass : (wave : WavePicks) (pairing : Pairing) (duals : List ℕ) (marks : List Bool) → AreFeasible wave pairing duals
    → AreShortMarks wave pairing duals marks → IsVisitOfAll wave pairing duals marks (Passed [])
short_marks_pass wave pairing duals marks feasible short =
    subst (λ (ms : List Bool). IsVisitOfAll wave pairing duals ms (Passed [])) (append-nil marks)
    (short_pass wave pairing duals (Place [] 0) marks [] feasible (inl refl) short)

-- an order that adds nothing has no mark
pub short_past : (wave : WavePicks) (pairing : Pairing) (duals place : List ℕ) (from order : ℕ) (rest : List Bool) → from ≤ order
    → NamesBelow pairing place from → IsNoChild pairing place order → AreShort wave pairing duals (Children place (order + 1)) rest
    → AreShort wave pairing duals (Children place order) rest
short_past wave pairing duals place from order rest low below none more = ⊎_elim
    (λ (has : Contains place order). short.no_item (λ item. let l = below order has item in omega (arith, low, l)) more)
    (λ adds_none. ⊎_elim (λ never. short.no_item never more)
    (λ (u : (union : List ℕ) × AddsItem pairing place order union × (IsPermitted pairing union → ⊥)). short.not_permitted {batch = u.0} u.1 u.2 more)
    adds_none) none

-- where the place of no order isn't entered its mark is all
pub all_closed : (wave : WavePicks) (pairing : Pairing) (duals : List ℕ) (reach : ℕ) (none marks : List Bool) → none ≡ []
    → IsReach pairing duals [] 0 reach → IsMarked wave duals [] reach true → marks ≡ none ++ false ∷ [] → AreShortMarks wave pairing duals marks
all_closed wave pairing duals reach none marks nothing reaches at is =
    subst (AreShortMarks wave pairing duals) (sym (is ∙ ap (λ (ms : List Bool). ms ++ false ∷ []) nothing)) (short.closed at.long reaches (at.within refl))

-- where it is entered the marks of the subtrees of all first items follow
pub all_entered : (wave : WavePicks) (pairing : Pairing) (duals : List ℕ) (reach : ℕ) (none entered marks more : List Bool) → none ≡ []
    → IsReach pairing duals [] 0 reach → IsMarked wave duals [] reach false → entered ≡ none ++ true ∷ []
    → AreShort wave pairing duals (Children [] 0) more → marks ≡ entered ++ more → AreShortMarks wave pairing duals marks
all_entered wave pairing duals reach none entered marks more nothing reaches at begun rest is =
    subst (AreShortMarks wave pairing duals)
    (sym (is ∙ ap (λ (ms : List Bool). ms ++ more) (begun ∙ ap (λ (ms : List Bool). ms ++ true ∷ []) nothing)))
    (short.entered at.long reaches (at.above refl) rest)

-- how the marks so far enter a place
abbrev pub entering_marks : {E : Type 0} → Task → Entering MarksSoFar E
entering_marks task old place from answer new = EntersMarks task old.marks place from answer new.marks

-- of what is due, all orders of its place that name items are below its later items
abbrev pub DueNamesBelow : Pairing → Due → Type 0
DueNamesBelow pairing (Place place from) = NamesBelow pairing place from
DueNamesBelow pairing (Children place from) = NamesBelow pairing place from

-- the course of the marks so far puts the short marks of what is due behind others
pub marks_say : {E : Type 0} (task : Task) (due : Due) (old new : MarksSoFar) (end : Result ⊤ E)
    → HasVisited task.pairing (entering_marks {E = E} task) due old end new → end ≡ Ok tt → DueNamesBelow task.pairing due
    → AddsShort task.wave task.pairing task.duals due old.marks new.marks
marks_say task _ old new _ (course.failed entered) e below = absurd (cc e)
marks_say task _ old new _ (course.past {place} {from} entered) e below = record {
  marks = false ∷ [];
  short = short.closed entered.marked.long entered.reaches (entered.marked.within refl);
  is = entered.is;
}
marks_say task _ old new end (course.deeper {place} {from} {between} entered rest) e below =
    let more = marks_say task (Children place from) between new end rest e below in record {
      marks = true ∷ more.marks;
      short = short.entered entered.marked.long entered.reaches (entered.marked.above refl) more.short;
      is = more.is ∙ (ap (λ (ms : List Bool). ms ++ more.marks) entered.is ∙ append_assoc old.marks (true ∷ []) more.marks);
    }
marks_say task _ old _ _ (course.all_added {place} {from} over) e below = record {
  marks = [];
  short = short.all_added over;
  is = sym (append-nil old.marks);
}
marks_say task _ old new end (course.no_child {place} {from} none rest) e below =
    let more = marks_say task (Children place (from + 1)) old new end rest e (λ order has item. let low = below order has item in omega (arith, low)) in
    record {
      marks = more.marks;
      short = short_past task.wave task.pairing task.duals place from from more.marks (omega arith) below none more.short;
      is = more.is;
    }
marks_say task _ old new _ (course.broken_off item adds permitted first) e below = absurd (cc e)
marks_say task _ old new end (course.onward {place} {batch = union} {from} {between} item adds permitted first rest) e below =
    let begun = marks_say task (Place union (from + 1)) old between (Ok tt) first refl
    (names_more task.pairing place union from from (omega arith) adds below) in
    let more = marks_say task (Children place (from + 1)) between new end rest e (λ order has item. let low = below order has item in omega (arith, low)) in
    record {
      marks = begun.marks ++ more.marks;
      short = short.onward item adds permitted begun.short more.short;
      is = more.is ∙ (ap (λ (ms : List Bool). ms ++ more.marks) begun.is ∙ append_assoc old.marks begun.marks more.marks);
    }
