-- Short marks of the subtrees of first items, which workers find.
use Rattle.std.specs.Prelude.{◌≡◌, ℕ, ◌+◌, ◌<◌, Bool, List, [], ◌++◌, Contains, Option, None, Result, IfNone, IfOk}
use Rattle.std.specs.Prelude.{IfSome, IsOkAnd, length, slice_index_or}
use Rattle.wp_pairs.specs.Permitted.{IsPermitted}
use Rattle.wp_lengths.specs.Visits.{AddsItem, Children, IsItem, Place}
use Rattle.wp_visit.specs.Places.{IsNoChild, Task}
use Rattle.wp_price.specs.ShortMarks.{AreShort}

-- the short marks of the subtree of the first item that an order names
pub record AreItemMarks (task : Task) (order : ℕ) (marks : List Bool) : Type 0 where
  pub batch : List ℕ
  pub item : IsItem task.pairing order
  pub adds : AddsItem task.pairing [] order batch
  pub permitted : IsPermitted task.pairing batch
  pub short : AreShort task.wave task.pairing task.duals (Place batch (order + 1)) marks

-- for each order below an end the short marks of the subtree of the first item that it names, or none; an order of the
-- share that names one has its marks
pub record AreShareMarks (task : Task) (share : List ℕ) (end : ℕ) (all : List (Option (List Bool))) : Type 0 where
  pub count : length all ≡ end
  pub marks : (order : ℕ) (d : Option (List Bool)) → order < end
      → IfSome (slice_index_or all order d) (AreItemMarks task order)
  pub others : (order : ℕ) (d : Option (List Bool)) → order < end → Contains share order
      → IfNone (slice_index_or all order d) (IsNoChild task.pairing [] order)

-- the short marks of the subtree of the first item that an order names, put behind others; no marks where it names none
pub record AddsItemMarks (task : Task) (order : ℕ) (old new : List Bool) : Type 0 where
  pub marks : List Bool
  pub is : new ≡ old ++ marks
  pub chain : (rest : List Bool) → AreShort task.wave task.pairing task.duals (Children [] (order + 1)) rest
      → AreShort task.wave task.pairing task.duals (Children [] order) (marks ++ rest)

-- what each worker found for its share, where memory sufficed
abbrev pub AreMarksFound : {E : Type 0} → Task → List (List ℕ) → List (Result (List (Option (List Bool))) E) → Type 0
AreMarksFound {E} task shares found = (worker : ℕ) (d : Result (List (Option (List Bool))) E) → worker < length shares
    → IfOk (slice_index_or found worker d) (AreShareMarks task (slice_index_or shares worker []) task.pairing.orders)

-- none of the workers below an end found marks for an order
abbrev pub AreNoMarksFound : {E : Type 0} → List (Result (List (Option (List Bool))) E) → ℕ → ℕ → Type 0
AreNoMarksFound {E} found end order = (worker : ℕ) (d : Result (List (Option (List Bool))) E) → worker < end
    → IsOkAnd (slice_index_or found worker d)
    (λ (all : List (Option (List Bool))). (e : Option (List Bool)) → slice_index_or all order e ≡ None)

-- what was found for an order are the short marks of the subtree of the first item that it names
abbrev pub AreMarksAt : {E : Type 0} → Task → ℕ → Result (List (Option (List Bool))) E → Type 0
AreMarksAt task order found = IfOk found (λ (all : List (Option (List Bool))).
    (order < length all) × ((d : Option (List Bool)) → IfSome (slice_index_or all order d) (AreItemMarks task order)))

-- the short marks of all first items, put behind others
pub record AddsAllItems (task : Task) (old new : List Bool) : Type 0 where
  pub marks : List Bool
  pub is : new ≡ old ++ marks
  pub short : AreShort task.wave task.pairing task.duals (Children [] 0) marks
