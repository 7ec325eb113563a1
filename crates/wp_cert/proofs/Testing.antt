-- The course of a test of marks is the visit that the marks tell.
use Rattle.std.proofs.Common.{◌≡◌, ℕ, ◌+◌, ◌<◌, Bool, List, [], drop, arith, sym, ◌∙◌, subst, inl, ◌⊎◌, ⊎_elim, Contains}
use Rattle.std.specs.Prelude.{Result, Ok, Err, ⊤}
use Rattle.wp_pairs.specs.Permitted.{AreJoined, IsPermitted, Pairing}
use Rattle.wp_pairs.proofs.Chains.{joined_back}
use Rattle.wp_pairs.proofs.Members.{contains_none}
use Rattle.wp_lengths.specs.Visits.{AddsItem, Children, Due, IsItem, Passed, Place, Visit}
use Rattle.wp_cuts.specs.PricedVisits as visit
use Rattle.wp_cert.specs.Trees.{IsMarkedVisit}
use Rattle.wp_visit.specs.Courses.{Entering, HasVisited}
use Rattle.wp_visit.specs.Courses as course
use Rattle.wp_visit.specs.Places.{IsNoChild, Task}
use Rattle.wp_cert.specs.declared.tested.TestedOwn.{TestedOwn}
use Rattle.wp_cert.specs.declared.tree.CertWhy.{CertWhy}
use Rattle.wp_cert.specs.declared.visit.MarkTest.{MarkTest}
use Rattle.wp_cert.specs.MarkTests.{EntersTest, IsEntered, IsTestOf, SaysOf}
use Rattle.wp_cert.proofs.MarkSteps.{passed_over, refused_child, refused_so}

-- all orders of a place that name items are before its later items
abbrev pub ItemsBefore : Pairing → List ℕ → ℕ → Type 0
ItemsBefore pairing place from = (order : ℕ) → Contains place order → IsItem pairing order → order < from

-- so are those of what is due
abbrev pub DueItemsBefore : Pairing → Due → Type 0
DueItemsBefore pairing (Place place from) = ItemsBefore pairing place from
DueItemsBefore pairing (Children place from) = ItemsBefore pairing place from

-- those of a place with one more item are before the next order
items_more : (pairing : Pairing) (place union : List ℕ) (from : ℕ) → AddsItem pairing place from union → ItemsBefore pairing place from
    → ItemsBefore pairing union (from + 1)
items_more pairing place union from adds before = λ x has item. ⊎_elim (λ (old : Contains place x). let low = before x old item in omega (arith, low))
    (λ (joined : AreJoined pairing.pairs from x). let low = item.least from (joined_back joined) in omega (arith, low)) ((adds.orders x).0 has)

-- and with a later beginning
items_on : (pairing : Pairing) (place : List ℕ) (from : ℕ) → ItemsBefore pairing place from → ItemsBefore pairing place (from + 1)
items_on pairing place from before = λ order has item. let low = before order has item in omega (arith, low)

-- an order that adds nothing names no item, or makes no permitted batch
names_none : (pairing : Pairing) (place : List ℕ) (from : ℕ) → ItemsBefore pairing place from → IsNoChild pairing place from
    → (IsItem pairing from → ⊥) ⊎ ((batch : List ℕ) × AddsItem pairing place from batch × (IsPermitted pairing batch → ⊥))
names_none pairing place from before none = ⊎_elim
    (λ (has : Contains place from). inl (λ item. let low = before from has item in omega (arith, low))) (λ adds_none. adds_none) none

-- what follows for each visit follows for what is said
says_so : (pairing : Pairing) (tested : TestedOwn) (due then : Due) (next from_there : ℕ) (end : Result ⊤ CertWhy) (last : ℕ)
    → ((seen : Visit) → IsMarkedVisit tested.terms.now pairing tested.own.now due (drop next tested.own.now.marks) seen
    → IsMarkedVisit tested.terms.now pairing tested.own.now then (drop from_there tested.own.now.marks) seen)
    → SaysOf pairing tested due next end last → SaysOf pairing tested then from_there end last
says_so pairing tested due then next from_there (Ok done) last so says = so (Passed (drop last tested.own.now.marks)) says
says_so pairing tested due then next from_there (Err fault) last so says = refused_so tested.terms.now pairing tested.own.now due then
    (drop next tested.own.now.marks) (drop from_there tested.own.now.marks) fault so says

-- a place that is entered is visited with those that extend it
entered_so : (pairing : Pairing) (tested : TestedOwn) (place : List ℕ) (from next between : ℕ) → IsEntered tested place next between → (seen : Visit)
    → IsMarkedVisit tested.terms.now pairing tested.own.now (Children place from) (drop between tested.own.now.marks) seen
    → IsMarkedVisit tested.terms.now pairing tested.own.now (Place place from) (drop next tested.own.now.marks) seen
entered_so pairing tested place from next between entered seen rest =
    subst (λ (ms : List Bool). IsMarkedVisit tested.terms.now pairing tested.own.now (Place place from) ms seen) (sym entered.mark)
    (visit.entered entered.within rest)

-- how the test of marks enters a place
abbrev pub entering_test : Task → Entering MarkTest CertWhy
entering_test task old place from answer new = EntersTest task old place from answer new

-- what the course says of what is due
pub test_says : (task : Task) (tested : TestedOwn) (due : Due) (old new : MarkTest) (end : Result ⊤ CertWhy)
    → HasVisited task.pairing (entering_test task) due old end new → old.tested ≡ tested → DueItemsBefore task.pairing due
    → (new.tested ≡ tested) × SaysOf task.pairing tested due old.next end new.next
test_says task tested _ old new _ (course.failed {place} {from} {fault} enters) is before =
    (enters.same ∙ is, subst (λ (t : TestedOwn). SaysOf task.pairing t (Place place from) old.next (Err fault) new.next) is enters.says)
test_says task tested _ old new _ (course.past {place} {from} enters) is before =
    (enters.same ∙ is, subst (λ (t : TestedOwn). SaysOf task.pairing t (Place place from) old.next (Ok tt) new.next) is enters.says)
test_says task tested _ old new end (course.deeper {place} {from} {between} enters below) is before =
    let entered = subst (λ (t : TestedOwn). IsEntered t place old.next between.next) is enters.says in
    let rest = test_says task tested (Children place from) between new end below (enters.same ∙ is) before in (
      rest.0,
      says_so task.pairing tested (Children place from) (Place place from) between.next old.next end new.next
          (entered_so task.pairing tested place from old.next between.next entered) rest.1,
    )
test_says task tested _ old _ _ (course.all_added {place} {from} over) is before = (is, visit.all_added over)
test_says task tested _ old new end (course.no_child {place} {from} none rest) is before =
    let more = test_says task tested (Children place (from + 1)) old new end rest is (items_on task.pairing place from before) in (
      more.0,
      says_so task.pairing tested (Children place (from + 1)) (Children place from) old.next old.next end new.next
          (λ seen goes. passed_over tested.terms.now task.pairing tested.own.now place from (drop old.next tested.own.now.marks) seen
          (names_none task.pairing place from before none) goes) more.1,
    )
test_says task tested _ old new _ (course.broken_off {place} {batch} {from} {fault} item adds permitted first) is before =
    let begun = test_says task tested (Place batch (from + 1)) old new (Err fault) first is (items_more task.pairing place batch from adds before) in (
      begun.0,
      refused_child tested.terms.now task.pairing tested.own.now place batch from (drop old.next tested.own.now.marks) fault item adds permitted begun.1,
    )
test_says task tested _ old new end (course.onward {place} {batch} {from} {between} item adds permitted first rest) is before =
    let begun = test_says task tested (Place batch (from + 1)) old between (Ok tt) first is (items_more task.pairing place batch from adds before) in
    let more = test_says task tested (Children place (from + 1)) between new end rest begun.0 (items_on task.pairing place from before) in (
      more.0,
      says_so task.pairing tested (Children place (from + 1)) (Children place from) between.next old.next end new.next
          (λ seen goes. visit.onward item adds permitted begun.1 goes) more.1,
    )

-- no order is before all items
pub none_before : (pairing : Pairing) → ItemsBefore pairing [] 0
none_before pairing = λ order has item. absurd (contains_none order has)

-- a visit of all that comes to its end
pub visited_all : (task : Task) (tested : TestedOwn) (old new : MarkTest) (end : Result ⊤ CertWhy) → IsTestOf task tested
    → HasVisited task.pairing (entering_test task) (Place [] 0) old end new → old.tested ≡ tested → old.next ≡ 0
    → SaysOf tested.pairs.now tested (Place [] 0) 0 end new.next
visited_all task tested old new end is course same first =
    subst (λ (p : Pairing). SaysOf p tested (Place [] 0) 0 end new.next) is.pairing
    (subst (λ (n : ℕ). SaysOf task.pairing tested (Place [] 0) n end new.next) first
    (test_says task tested (Place [] 0) old new end course same (none_before task.pairing)).1)
