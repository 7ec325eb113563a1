-- The course of a visit: at which places a visitor was, in which order, and how it was changed there.
use Rattle.std.specs.Prelude.{◌≡◌, ℕ, ◌+◌, ◌≤◌, ◌⊎◌, List, Result, Ok, Err, ⊤}
use Rattle.wp_pairs.specs.Permitted.{IsPermitted, Pairing}
use Rattle.wp_lengths.specs.Visits.{AddsItem, Children, Due, IsItem, Place}
use Rattle.wp_lengths.proofs.Visits.{Extends}
use Rattle.wp_visit.specs.declared.step.Step.{Step}
use Rattle.wp_visit.specs.declared.step.Step.TheVariants as step
use Rattle.wp_visit.specs.Places.{IsNoChild}

-- How a visitor enters a place whose later items begin from an order on: from the visitor before, what it answers and
-- the visitor after.
abbrev pub Entering : Type 0 → Type 0 → Type 1
Entering S E = S → List ℕ → ℕ → Result Step E → S → Type 0

-- The course of a visit of what is due: the visitor before it, how it ended, and the visitor after it. A place is
-- entered first. Where the visitor answers to go deeper, the places with one more item follow in the order of the
-- items; where it answers to go past, none of them does; and where it fails, the visit ends with that. An item that
-- with the place makes no permitted batch is passed over.
pub data HasVisited {S E : Type 0} (pairing : Pairing) (enters : Entering S E) : Due → S → Result ⊤ E → S → Type 0 where
  failed : {place : List ℕ} {from : ℕ} {old new : S} {fault : E} → enters old place from (Err fault) new
      → HasVisited pairing enters (Place place from) old (Err fault) new
  past : {place : List ℕ} {from : ℕ} {old new : S} → enters old place from (Ok step.Past) new
      → HasVisited pairing enters (Place place from) old (Ok tt) new
  deeper : {place : List ℕ} {from : ℕ} {old between new : S} {end : Result ⊤ E}
      → enters old place from (Ok step.Deeper) between
      → HasVisited pairing enters (Children place from) between end new
      → HasVisited pairing enters (Place place from) old end new
  all_added : {place : List ℕ} {from : ℕ} {now : S} → pairing.orders ≤ from
      → HasVisited pairing enters (Children place from) now (Ok tt) now
  no_child : {place : List ℕ} {from : ℕ} {old new : S} {end : Result ⊤ E} → IsNoChild pairing place from
      → HasVisited pairing enters (Children place (from + 1)) old end new
      → HasVisited pairing enters (Children place from) old end new
  broken_off : {place batch : List ℕ} {from : ℕ} {old new : S} {fault : E} → IsItem pairing from
      → AddsItem pairing place from batch
      → IsPermitted pairing batch → HasVisited pairing enters (Place batch (from + 1)) old (Err fault) new
      → HasVisited pairing enters (Children place from) old (Err fault) new
  onward : {place batch : List ℕ} {from : ℕ} {old between new : S} {end : Result ⊤ E} → IsItem pairing from
      → AddsItem pairing place from batch
      → IsPermitted pairing batch → HasVisited pairing enters (Place batch (from + 1)) old (Ok tt) between
      → HasVisited pairing enters (Children place (from + 1)) between end new
      → HasVisited pairing enters (Children place from) old end new

-- A batch was met: it was entered itself, or it extends a place that was entered and whose further items the visitor
-- went past.
pub record IsMet {S E : Type 0} (pairing : Pairing) (enters : Entering S E) (batch : List ℕ) : Type 0 where
  pub place : List ℕ
  pub from : ℕ
  pub answer : Step
  pub before : S
  pub after : S
  pub entered : enters before place from (Ok answer) after
  pub met : (place ≡ batch) ⊎ ((answer ≡ step.Past) × Extends pairing place from batch)
