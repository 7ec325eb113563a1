-- Marks of the subtrees of first items, put together in the order of the items.
use Rattle.std.proofs.Common.{◌≡◌, ℕ, ◌+◌, ◌<◌, ap, ◌∙◌, Bool, List, [], ◌++◌, arith, refl, sym, subst, ⊎_elim, Contains, length, append-nil}
use Rattle.std.specs.Prelude.{Option, None, Result, Ok, Err, IfNone, IfOk, IsOkAnd, slice_index_or}
use Rattle.wp_pairs.specs.Permitted.{IsPermitted}
use Rattle.wp_lengths.specs.Visits.{AddsItem, IsItem, Place as PlaceDue}
use Rattle.wp_visit.specs.declared.place.Place.{Place}
use Rattle.wp_price.specs.ShortMarks.{AddsShort, AreShort}
use Rattle.wp_price.specs.ItemMarks.{AddsItemMarks, AreItemMarks, AreMarksFound, AreNoMarksFound, AreShareMarks}
use Rattle.wp_visit.specs.Places.{IsNoChild, Task}
use Rattle.wp_price.specs.Searches.{AreSharesOf}
use Rattle.wp_price.specs.Shares.{IsDealt}
use Rattle.wp_price.specs.ShortMarks as short
use Rattle.wp_price.proofs.Children.{names_none}
use Rattle.wp_price.proofs.Passing.{short_past}

-- the marks of the first item that an order names, put behind others
pub adds_item : (task : Task) (order : ℕ) (more old new : List Bool) → AreItemMarks task order more → new ≡ old ++ more → AddsItemMarks task order old new
adds_item task order more old new is e = record {
  marks = more;
  is = e;
  chain = λ rest follow. short.onward is.item is.adds is.permitted is.short follow;
}

-- an order that names none has no marks
pub adds_no_item : (task : Task) (order : ℕ) (marks : List Bool) → IsNoChild task.pairing [] order → AddsItemMarks task order marks marks
adds_no_item task order marks none = record {
  marks = [];
  is = sym (append-nil marks);
  chain = λ rest follow. short_past task.wave task.pairing task.duals [] 0 order rest (omega arith) (names_none task.pairing [] refl) none follow;
}

-- an order of a share for which its worker found no marks names no first item
one_none : {E : Type 0} (task : Task) (share : List ℕ) (order : ℕ) (found : Result (List (Option (List Bool))) E)
    → IfOk found (AreShareMarks task share task.pairing.orders)
    → IsOkAnd found (λ (all : List (Option (List Bool))). (e : Option (List Bool)) → slice_index_or all order e ≡ None)
    → order < task.pairing.orders → Contains share order → IsNoChild task.pairing [] order
one_none task share order (Ok all) marks none known has =
    subst (λ (o : Option (List Bool)). IfNone o (IsNoChild task.pairing [] order)) (none None) (marks.others order None known has)
one_none task share order (Err e) marks none known has = absurd none

-- an order for which no worker found marks names no first item
pub all_none : {E : Type 0} (task : Task) (shares : List (List ℕ)) (found : List (Result (List (Option (List Bool))) E)) (order : ℕ)
    → AreSharesOf task [] shares → length found ≡ length shares → AreMarksFound task shares found → order < task.pairing.orders
    → AreNoMarksFound found (length found) order → IsNoChild task.pairing [] order
all_none task shares found order all count marks known none = ⊎_elim
    (λ (dealt : IsDealt shares order). one_none task (slice_index_or shares dealt.0 []) order (slice_index_or found dealt.0 (Ok []))
    (marks dealt.0 (Ok []) dealt.1) (none dealt.0 (Ok []) (omega (arith, dealt.1, count))) known dealt.2)
    (λ no_child. no_child) (all order known)

-- the short marks of the first item that an order names are those of its place
pub marks_of_item : (task : Task) (order : ℕ) (root : List ℕ) (child : Place) (none marks : List Bool) → root ≡ [] → IsItem task.pairing order
    → AddsItem task.pairing root order child.batch → IsPermitted task.pairing child.batch → child.from ≡ order + 1 → none ≡ []
    → AddsShort task.wave task.pairing task.duals (PlaceDue child.batch child.from) none marks → AreItemMarks task order marks
marks_of_item task order root child none marks empty item adds permitted from nothing added =
    let same = added.is ∙ ap (λ (ms : List Bool). ms ++ added.marks) nothing in record {
      batch = child.batch;
      item = item;
      adds = subst (λ (place : List ℕ). AddsItem task.pairing place order child.batch) empty adds;
      permitted = permitted;
      short = subst (λ (n : ℕ). AreShort task.wave task.pairing task.duals (PlaceDue child.batch n) marks) from
          (subst (λ (ms : List Bool). AreShort task.wave task.pairing task.duals (PlaceDue child.batch child.from) ms) (sym same) added.short);
    }
