-- The search, step by step: what the best is known to be better than, after each place.
use Rattle.std.proofs.Common.{◌≡◌, ℕ, zero, suc, ◌+◌, ◌-◌, ◌<◌, ◌≤◌, false, List, arith, rules, refl, ap, ◌↔◌, sym, ◌∙◌, subst, inl, inr, ◌⊎◌, ⊎_elim}
use Rattle.std.proofs.Common.{Contains, length}
use Rattle.std.specs.Prelude.{Option, Some, None, Result, Ok, IfSome, slice_index_or, ⊤}
use Rattle.wp_pairs.specs.Permitted.{AreJoined, IsPermitted, itself}
use Rattle.wp_lengths.specs.Visits.{AddsItem, Children, Due, Place}
use Rattle.wp_lengths.proofs.Visits.{Extends, IsPlace, permitted_place}
use Rattle.wp_visit.specs.declared.step.Step.{Step}
use Rattle.wp_visit.specs.declared.step.Step.TheVariants as step
use Rattle.wp_visit.specs.Courses.{Entering, HasVisited}
use Rattle.wp_visit.specs.Courses as course
use Rattle.wp_visit.specs.Places.{IsNoChild, Task}
use Rattle.wp_visit.proofs.Extensions.{past_no_child, past_same, with_or_after}
use Rattle.wp_price.specs.declared.best.LeastBatch.{LeastBatch}
use Rattle.wp_price.specs.declared.least.BestSoFar.{BestSoFar}
use Rattle.wp_price.specs.Bests.{IsBestAmong, IsBetterOf, IsNoBetter, IsNoWorse}
use Rattle.wp_price.specs.Searches.{AreItemsSearched, AreSharesOf, AreSharesSearched, EntersBest, IsBeaten, IsLeastFound, IsItemPast, IsRaised, IsSearched}
use Rattle.wp_price.specs.Shares.{IsDealt}
use Rattle.wp_price.specs.Slacks.{comes_before}
use Rattle.wp_price.proofs.Bests.{no_worse_on}
use Rattle.wp_price.proofs.Extensions.{known_beaten}
use Rattle.wp_price.proofs.Lists.{never_before_itself}

-- what is no better than the old best is no better than one that is no worse
pub beaten_on : (task : Task) (old : Option LeastBatch) (best : LeastBatch) (batch : List ℕ) → IfSome old (IsNoWorse best) → IsBeaten task old batch
    → IsBeaten task (Some best) batch
beaten_on task None best batch no_worse beaten = absurd beaten
beaten_on task (Some old) best batch no_worse beaten = λ raised is. no_worse_on best old _ no_worse (beaten raised is)

-- the old best is itself
found_self : (task : Task) (place : List ℕ) (old : Option LeastBatch) → IfSome old (λ (b : LeastBatch). (old ≡ Some b) ⊎ IsLeastFound task place b)
found_self task place None = search rules
found_self task place (Some best) = inl refl

-- an order that adds nothing has no item to search
pub pass_item : (task : Task) (place : List ℕ) (order : ℕ) (best : Option LeastBatch) → IsPlace task.pairing place → IsNoChild task.pairing place order
    → AreItemsSearched task place (λ (item : ℕ). item ≡ order) best best
pass_item task place order best closed adds_none = record {
  found = found_self task place best;
  kept = λ batch beaten. beaten;
  past = λ item e. subst (IsItemPast task place best) (sym e) (λ batch extends. inl (past_no_child task.pairing place batch order closed adds_none extends));
}

same_best : (one other : LeastBatch) → Some one ≡ Some other → one ≡ other
same_best one other e = cc e

-- what was found after more items is the old best, or has all orders of the place
found_on : (task : Task) (place : List ℕ) (old best next : Option LeastBatch) → IfSome best (λ (b : LeastBatch). (old ≡ Some b) ⊎ IsLeastFound task place b)
    → IfSome next (λ (b : LeastBatch). (best ≡ Some b) ⊎ IsLeastFound task place b)
    → IfSome next (λ (b : LeastBatch). (old ≡ Some b) ⊎ IsLeastFound task place b)
found_on task place old best None before after = search rules
found_on task place old best (Some next) before after = ⊎_elim
    (λ (e : best ≡ Some next). subst (λ (o : Option LeastBatch). IfSome o (λ (b : LeastBatch). (old ≡ Some b) ⊎ IsLeastFound task place b)) e before)
    (λ (f : IsLeastFound task place next). inr f) after

-- after some items one more was searched
pub then_item : (task : Task) (place : List ℕ) (before after : ℕ → Type 0) (order : ℕ) (old best next : Option LeastBatch)
    → ((item : ℕ) → after item → before item ⊎ (item ≡ order)) → AreItemsSearched task place before old best
    → AreItemsSearched task place (λ (item : ℕ). item ≡ order) best next → AreItemsSearched task place after old next
then_item task place before after order old best next split first last = record {
  found = found_on task place old best next first.found last.found;
  kept = λ batch beaten. last.kept batch (first.kept batch beaten);
  past = λ item among batch extends. ⊎_elim
      (λ (earlier : before item). ⊎_elim (λ (e : Extends task.pairing place (item + 1) batch). inl e)
      (λ (beaten : IsBeaten task best batch). inr (last.kept batch beaten)) (first.past item earlier batch extends))
      (λ (e : item ≡ order). last.past item e batch extends) (split item among);
}

-- what is known of items is known of some of them
pub fewer_items : (task : Task) (place : List ℕ) (more fewer : ℕ → Type 0) (old best : Option LeastBatch) → ((item : ℕ) → fewer item → more item)
    → AreItemsSearched task place more old best → AreItemsSearched task place fewer old best
fewer_items task place more fewer old best within searched =
    record { found = searched.found; kept = searched.kept; past = λ item among. searched.past item (within item among) }

-- what extends a place is no better than the best, or has only items after so many
past_items : (task : Task) (place : List ℕ) (from count : ℕ) (best : Option LeastBatch)
    → ((item : ℕ) → from ≤ item → item < from + count → IsItemPast task place best item) → (batch : List ℕ) → Extends task.pairing place from batch
    → Extends task.pairing place (from + count) batch ⊎ IsBeaten task best batch
past_items task place from zero best past batch extends = inl (subst (λ (n : ℕ). Extends task.pairing place n batch) (omega arith) extends)
past_items task place from (suc count) best past batch extends = ⊎_elim
    (λ (e : Extends task.pairing place (from + count) batch).
    subst (λ (n : ℕ). Extends task.pairing place n batch ⊎ IsBeaten task best batch) (omega arith)
    (past (from + count) (omega arith) (omega arith) batch e))
    (λ beaten. inr beaten) (past_items task place from count best (λ item low high. past item low (omega (arith, high))) batch extends)

-- nothing that extends a place is better than the best: it was searched
pub closed_search : (task : Task) (place : List ℕ) (from : ℕ) (best : LeastBatch)
    → ((batch : List ℕ) → Extends task.pairing place from batch → IsBeaten task (Some best) batch) → IsSearched task place from (Some best) (Some best)
closed_search task place from best none = record { found = inl refl; kept = λ batch beaten. beaten; covered = none }

-- past all orders only the place itself is left
covered_all : (task : Task) (place : List ℕ) (from order : ℕ) (old best : Option LeastBatch) → IsPlace task.pairing place → from ≤ order
    → task.pairing.orders ≤ order → (IsPermitted task.pairing place → IsBeaten task old place)
    → ((batch : List ℕ) → IsBeaten task old batch → IsBeaten task best batch)
    → ((item : ℕ) → from ≤ item → item < order → IsItemPast task place best item) → (batch : List ℕ) → Extends task.pairing place from batch
    → IsBeaten task best batch
covered_all task place from order old best closed begun past known kept items batch extends = ⊎_elim
    (λ (e : Extends task.pairing place (from + (order - from)) batch).
    let same = past_same task.pairing place batch (from + (order - from)) closed (omega (arith, past, begun)) e in
    subst (IsBeaten task best) (sym same) (kept place (known (subst (IsPermitted task.pairing) same e.permitted))))
    (λ beaten. beaten)
    (past_items task place from (order - from) best (λ item low high. items item low (omega (arith, high, begun))) batch extends)

-- what has all orders of a place with one more item has all of the place
found_under : (task : Task) (place union : List ℕ) (order : ℕ) (old best : Option LeastBatch) → AddsItem task.pairing place order union
    → IfSome best (λ (b : LeastBatch). (old ≡ Some b) ⊎ IsLeastFound task union b)
    → IfSome best (λ (b : LeastBatch). (old ≡ Some b) ⊎ IsLeastFound task place b)
found_under task place union order old None adds found = search rules
found_under task place union order old (Some b) adds found = ⊎_elim (λ (e : old ≡ Some b). inl e)
    (λ (f : IsLeastFound task union b). inr (record { permitted = f.permitted; holds = λ x has. f.holds x ((adds.orders x).1 (inl has)); is = f.is })) found

-- what extends a child was searched, and the child itself
pub child_item : (task : Task) (place union : List ℕ) (order : ℕ) (old best : Option LeastBatch) → AddsItem task.pairing place order union
    → IsSearched task union (order + 1) old best → AreItemsSearched task place (λ (item : ℕ). item ≡ order) old best
child_item task place union order old best adds searched = record {
  found = found_under task place union order old best adds searched.found;
  kept = searched.kept;
  past = λ item e. subst (IsItemPast task place best) (sym e) (λ batch extends.
      ⊎_elim (λ (u : Extends task.pairing union (order + 1) batch). inr (searched.covered batch u)) (λ past. inl past)
      (with_or_after task.pairing place union batch order adds extends));
}

-- the better of the old best and a place is the old best, or the place
found_entered : (task : Task) (place : List ℕ) (raised : ℕ) (old : Option LeastBatch) (next : LeastBatch) → IsPermitted task.pairing place
    → IsRaised task place raised → IsBetterOf old (record { batch = place; raised = raised }) next → (old ≡ Some next) ⊎ IsLeastFound task place next
found_entered task place raised old next permitted is better = ⊎_elim
    (λ e. inr (subst (IsLeastFound task place) (sym e) (record { permitted = permitted; holds = λ x has. has; is = is })))
    (λ (e : old ≡ Some next). inl e) better.either

found_then : (task : Task) (place : List ℕ) (old : Option LeastBatch) (next : LeastBatch) (best : Option LeastBatch)
    → (old ≡ Some next) ⊎ IsLeastFound task place next → IfSome best (λ (b : LeastBatch). (Some next ≡ Some b) ⊎ IsLeastFound task place b)
    → IfSome best (λ (b : LeastBatch). (old ≡ Some b) ⊎ IsLeastFound task place b)
found_then task place old next None before after = search rules
found_then task place old next (Some b) before after = ⊎_elim
    (λ (e : Some next ≡ Some b). subst (λ (b : LeastBatch). (old ≡ Some b) ⊎ IsLeastFound task place b) (same_best next b e) before)
    (λ (f : IsLeastFound task place b). inr f) after

-- a place was entered, and what extends it was searched from there
after_entering : {E : Type 0} (task : Task) (place : List ℕ) (from : ℕ) (answer : Result Step E) (old new best : Option LeastBatch)
    → IsPermitted task.pairing place → EntersBest task old place from answer new → IsSearched task place from new best → IsSearched task place from old best
after_entering task place from answer old new best permitted entered below =
    let then = subst (λ (o : Option LeastBatch). IsSearched task place from o best) entered.is below in record {
      found = found_then task place old entered.next best
          (found_entered task place entered.raised old entered.next permitted entered.slack entered.better) then.found;
      kept = λ batch beaten. then.kept batch (beaten_on task old entered.next batch entered.better.best_no_better beaten);
      covered = then.covered;
    }

-- a place that was entered is no better than the best
entered_beaten : {E : Type 0} (task : Task) (place : List ℕ) (from : ℕ) (answer : Result Step E) (old new : Option LeastBatch)
    → EntersBest task old place from answer new → IsBeaten task new place
entered_beaten task place from answer old new entered = subst (λ (o : Option LeastBatch). IsBeaten task o place) (sym entered.is)
    (known_beaten task entered.next place entered.raised entered.slack entered.better.next_no_better)

-- how the best so far enters a place
abbrev pub entering_best : {E : Type 0} → Task → Entering BestSoFar E
entering_best task old place from answer new = EntersBest task old.best place from answer new.best

-- what the course of the best so far says of a place, or of its children where the place is no better than the best already
abbrev pub SaysBest : Task → Due → Option LeastBatch → Option LeastBatch → Type 0
SaysBest task (Place place from) old best = IsPlace task.pairing place → IsPermitted task.pairing place → IsSearched task place from old best
SaysBest task (Children place from) old best = IsPlace task.pairing place → (IsPermitted task.pairing place → IsBeaten task old place)
    → IsSearched task place from old best

pub best_says : {E : Type 0} (task : Task) (due : Due) (old new : BestSoFar) (end : Result ⊤ E)
    → HasVisited task.pairing (entering_best {E = E} task) due old end new → end ≡ Ok tt → SaysBest task due old.best new.best
best_says task _ old new _ (course.failed entered) e = absurd (cc e)
best_says {E = E} task _ old new _ (course.past {place} {from} entered) e = λ closed permitted.
    after_entering {E = E} task place from (Ok step.Past) old.best new.best new.best permitted entered
    (subst (λ (o : Option LeastBatch). IsSearched task place from o o) (sym entered.is) (closed_search task place from entered.next (entered.past refl)))
best_says {E = E} task _ old new end (course.deeper {place} {from} {between} entered below) e = λ closed permitted.
    after_entering {E = E} task place from (Ok step.Deeper) old.best between.best new.best permitted entered
    (best_says task (Children place from) between new end below e closed
    (λ _. entered_beaten {E = E} task place from (Ok step.Deeper) old.best between.best entered))
best_says task _ old _ _ (course.all_added {place} {from} over) e = λ closed known. record {
  found = found_self task place old.best;
  kept = λ batch beaten. beaten;
  covered = λ batch extends. let same = past_same task.pairing place batch from closed over extends in
      subst (IsBeaten task old.best) (sym same) (known (subst (IsPermitted task.pairing) same extends.permitted));
}
best_says task _ old new end (course.no_child {place} {from} none rest) e = λ closed known.
    let after = best_says task (Children place (from + 1)) old new end rest e closed known in record {
      found = after.found;
      kept = after.kept;
      covered = λ batch extends. after.covered batch (past_no_child task.pairing place batch from closed none extends);
    }
best_says task _ old new _ (course.broken_off item adds permitted first) e = absurd (cc e)
best_says task _ old new end (course.onward {place} {batch = union} {from} {between} item adds permitted first rest) e = λ closed known.
    let begun = best_says task (Place union (from + 1)) old between (Ok tt) first refl (permitted_place task.pairing union permitted) permitted in
    let after = best_says task (Children place (from + 1)) between new end rest e closed (λ p. begun.kept place (known p)) in record {
      found = found_on task place old.best between.best new.best (found_under task place union from old.best between.best adds begun.found) after.found;
      kept = λ batch beaten. after.kept batch (begun.kept batch beaten);
      covered = λ batch extends. ⊎_elim (λ (u : Extends task.pairing union (from + 1) batch). after.kept batch (begun.covered batch u))
          (λ (past : Extends task.pairing place (from + 1) batch). after.covered batch past)
          (with_or_after task.pairing place union batch from adds extends);
    }

-- what is no better than the old best is no better than one that the old best isn't better than
beaten_by : (task : Task) (old best : Option LeastBatch) (batch : List ℕ) → IfSome old (λ (one : LeastBatch). IsNoBetter one best) → IsBeaten task old batch
    → IsBeaten task best batch
beaten_by task None best batch no_better beaten = absurd beaten
beaten_by task (Some old) None batch no_better beaten = absurd no_better
beaten_by task (Some old) (Some best) batch no_better beaten = beaten_on task (Some old) best batch no_better beaten

-- the best of what workers found is the old one or one of theirs
found_among : (task : Task) (place : List ℕ) (shares : List (List ℕ)) (old : Option LeastBatch) (found : List (Option LeastBatch)) (best : Option LeastBatch)
    → length found ≡ length shares → AreSharesSearched task place shares old found → IsBestAmong old found (length found) best
    → IfSome best (λ (b : LeastBatch). (old ≡ Some b) ⊎ IsLeastFound task place b)
found_among task place shares old found best count searched is = ⊎_elim
    (λ (e : best ≡ old). subst (λ (o : Option LeastBatch). IfSome o (λ (b : LeastBatch). (old ≡ Some b) ⊎ IsLeastFound task place b)) (sym e)
    (found_self task place old))
    (λ (one : (at : ℕ) × (at < length found) × (slice_index_or found at best ≡ best)).
    subst (λ (o : Option LeastBatch). IfSome o (λ (b : LeastBatch). (old ≡ Some b) ⊎ IsLeastFound task place b)) one.2
    (searched one.0 best (omega (arith, one.1, count))).found) is.either

-- an item that a worker searched is past, and so is an order that names no first item
past_shares : (task : Task) (place : List ℕ) (shares : List (List ℕ)) (old : Option LeastBatch) (found : List (Option LeastBatch)) (best : Option LeastBatch)
    → IsPlace task.pairing place → AreSharesOf task place shares → length found ≡ length shares → AreSharesSearched task place shares old found
    → IsBestAmong old found (length found) best → (item : ℕ) → item < task.pairing.orders → IsItemPast task place best item
past_shares task place shares old found best closed all count searched is item known batch extends = ⊎_elim
    (λ (there : IsDealt shares item). ⊎_elim (λ (e : Extends task.pairing place (item + 1) batch). inl e)
    (λ beaten. inr (beaten_by task (slice_index_or found there.0 best) best batch (is.no_better there.0 best (omega (arith, there.1, count))) beaten))
    ((searched there.0 best there.1).past item (known, there.2) batch extends))
    (λ none. inl (past_no_child task.pairing place batch item closed none extends)) (all item known)

-- where workers searched all first items, the best of what they found is that of all that extends the place
pub put_together : (task : Task) (place : List ℕ) (shares : List (List ℕ)) (old : Option LeastBatch) (found : List (Option LeastBatch))
    (best : Option LeastBatch)
    → IsPlace task.pairing place → (IsPermitted task.pairing place → IsBeaten task old place) → AreSharesOf task place shares
    → length found ≡ length shares → AreSharesSearched task place shares old found → IsBestAmong old found (length found) best
    → IsSearched task place 0 old best
put_together task place shares old found best closed known all count searched is =
    let kept = λ (batch : List ℕ) (beaten : IsBeaten task old batch). beaten_by task old best batch is.first_no_better beaten in record {
      found = found_among task place shares old found best count searched is;
      kept = kept;
      covered = covered_all task place 0 task.pairing.orders old best closed (omega arith) (omega arith) known kept
          (λ item low high. past_shares task place shares old found best closed all count searched is item high);
    }

-- a place that is the best is no better than itself
pub alone_beaten : (task : Task) (best : LeastBatch) (place : List ℕ) → best.batch ≡ place → IsRaised task place best.raised → IsBeaten task (Some best) place
alone_beaten task best place e is = known_beaten task best place best.raised is (record {
  low = omega arith;
  first = λ same. subst (λ (xs : List ℕ). comes_before xs best.batch ≡ false) e (never_before_itself best.batch);
})

-- what the search of a class found has the order of the class
pub found_candidate : (task : Task) (place : List ℕ) (order : ℕ) (alone best : LeastBatch) → alone.batch ≡ place
    → ((other : ℕ) → Contains place other ↔ AreJoined task.pairing.pairs order other) → IsPermitted task.pairing place
    → (Some alone ≡ Some best) ⊎ IsLeastFound task place best → IsPermitted task.pairing best.batch × Contains best.batch order
found_candidate task place order alone best e is permitted found = ⊎_elim
    (λ (same : Some alone ≡ Some best).
    let there : place ≡ best.batch = sym e ∙ ap (λ (b : LeastBatch). b.batch) (same_best alone best same) in
    subst (λ (xs : List ℕ). IsPermitted task.pairing xs × Contains xs order) there (permitted, (is order).1 itself))
    (λ (f : IsLeastFound task place best). (f.permitted, f.holds order ((is order).1 itself))) found
