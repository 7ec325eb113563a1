-- Short marks: those of the visit that enters a place only where its reach is too much.
use Rattle.std.specs.Prelude.{◌≡◌, ℕ, ◌+◌, ◌<◌, ◌≤◌, Bool, true, false, List, [], ◌∷◌, ◌++◌, Result, Ok, Err, not, ⊤}
use Rattle.wp_pairs.specs.Permitted.{IsPermitted, Pairing}
use Rattle.wp_lengths.specs.Lengths.{IsLengthOf}
use Rattle.wp_lengths.specs.Waves.{WavePicks}
use Rattle.wp_lengths.specs.Duals.{duals_of, sixtieths_of}
use Rattle.wp_lengths.specs.Visits.{AddsItem, Children, Due, IsItem, IsReach, Place}
use Rattle.wp_visit.specs.declared.step.Step.{Step}
use Rattle.wp_visit.specs.declared.step.Step.TheVariants as step
use Rattle.wp_visit.specs.Places.{Task}

-- The short marks of what is due. A place is marked as not to be entered exactly where its reach doesn't make it too
-- much; else it is entered, and the places with one more item follow in the order of the items. An item that with the
-- place makes no permitted batch is passed over.
pub data AreShort (wave : WavePicks) (pairing : Pairing) (duals : List ℕ) : Due → List Bool → Type 0 where
  closed : {place : List ℕ} {from total reach : ℕ} → IsLengthOf wave place total
      → IsReach pairing duals place from reach
      → duals_of duals place + reach ≤ sixtieths_of total → AreShort wave pairing duals (Place place from) (false ∷ [])
  entered : {place : List ℕ} {from total reach : ℕ} {marks : List Bool} → IsLengthOf wave place total
      → IsReach pairing duals place from reach
      → sixtieths_of total < duals_of duals place + reach → AreShort wave pairing duals (Children place from) marks
      → AreShort wave pairing duals (Place place from) (true ∷ marks)
  all_added : {place : List ℕ} {from : ℕ} → pairing.orders ≤ from → AreShort wave pairing duals (Children place from) []
  no_item : {place : List ℕ} {from : ℕ} {marks : List Bool} → (IsItem pairing from → ⊥)
      → AreShort wave pairing duals (Children place (from + 1)) marks
      → AreShort wave pairing duals (Children place from) marks
  not_permitted : {place batch : List ℕ} {from : ℕ} {marks : List Bool} → AddsItem pairing place from batch
      → (IsPermitted pairing batch → ⊥)
      → AreShort wave pairing duals (Children place (from + 1)) marks
      → AreShort wave pairing duals (Children place from) marks
  onward : {place batch : List ℕ} {from : ℕ} {marks more : List Bool} → IsItem pairing from
      → AddsItem pairing place from batch
      → IsPermitted pairing batch → AreShort wave pairing duals (Place batch (from + 1)) marks
      → AreShort wave pairing duals (Children place (from + 1)) more
      → AreShort wave pairing duals (Children place from) (marks ++ more)

-- the short marks of a node: from the empty place on
abbrev pub AreShortMarks : WavePicks → Pairing → List ℕ → List Bool → Type 0
AreShortMarks wave pairing duals marks = AreShort wave pairing duals (Place [] 0) marks

-- the short marks of what is due, put behind others
pub record AddsShort (wave : WavePicks) (pairing : Pairing) (duals : List ℕ) (due : Due)
    (old new : List Bool) : Type 0 where
  pub marks : List Bool
  pub short : AreShort wave pairing duals due marks
  pub is : new ≡ old ++ marks

-- whether a place is marked as not to be entered: its reach doesn't make it too much
pub record IsMarked (wave : WavePicks) (duals place : List ℕ) (reach : ℕ) (closed : Bool) : Type 0 where
  pub total : ℕ
  pub long : IsLengthOf wave place total
  pub within : closed ≡ true → duals_of duals place + reach ≤ sixtieths_of total
  pub above : closed ≡ false → sixtieths_of total < duals_of duals place + reach

-- the mark of a place, put behind others: false where the visit goes past what extends it, and true where it goes
-- deeper
pub record AddsMark (task : Task) (old : List Bool) (place : List ℕ) (from : ℕ) (closed : Bool)
    (new : List Bool) : Type 0 where
  pub reach : ℕ
  pub reaches : IsReach task.pairing task.duals place from reach
  pub marked : IsMarked task.wave task.duals place reach closed
  pub is : new ≡ old ++ not closed ∷ []

-- what is done where a place is entered
abbrev pub EntersMarks : {E : Type 0} → Task → List Bool → List ℕ → ℕ → Result Step E → List Bool → Type 0
EntersMarks task old place from (Ok step.Past) new = AddsMark task old place from true new
EntersMarks task old place from (Ok step.Deeper) new = AddsMark task old place from false new
EntersMarks task old place from (Err fault) new = ⊤
