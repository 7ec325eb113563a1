-- Marks over prices: which permitted batches are visited to see that prices are feasible. It is the visit that is made
-- over duals, with what a batch pays in place of what it has in duals. The reach of a place looks at duals alone, since
-- further orders only meet cuts more often.
use Rattle.std.specs.Prelude.{◌≡◌, ℕ, ◌+◌, ◌<◌, ◌≤◌, Bool, true, false, List, [], ◌∷◌, length}
use Rattle.wp_pairs.specs.Permitted.{IsPermitted, Pairing}
use Rattle.wp_lengths.specs.Duals.{sixtieths_of}
use Rattle.wp_lengths.specs.Lengths.{IsLengthOf}
use Rattle.wp_lengths.specs.Visits.{AddsItem, Children, Due, IsItem, IsReach, IsVisit, Passed, Place, TooMuch, Visit}
use Rattle.wp_lengths.specs.Visits.{Wrong}
use Rattle.wp_lengths.specs.Waves.{WavePicks}
use Rattle.wp_cuts.specs.Cuts.{CutParts}
use Rattle.wp_cuts.specs.Prices.{ArePlain, ArePricesFeasible, NodePrices, PaysAtMost, charged, taken_off}

-- a batch pays more than so much
abbrev pub PaysMore : List CutParts → NodePrices → List ℕ → ℕ → Type 0
PaysMore cuts prices batch most = most + taken_off cuts prices.cuts batch < charged prices batch

-- what a place pays and its reach come to at most so much
abbrev pub ReachesAtMost : List CutParts → NodePrices → List ℕ → ℕ → ℕ → Type 0
ReachesAtMost cuts prices place reach most = charged prices place + reach ≤ most + taken_off cuts prices.cuts place

-- they come to more
abbrev pub ReachesMore : List CutParts → NodePrices → List ℕ → ℕ → ℕ → Type 0
ReachesMore cuts prices place reach most = most + taken_off cuts prices.cuts place < charged prices place + reach

-- a place pays no more than sixty times its length; the empty place is no batch, and isn't tested itself
abbrev pub IsPaid : WavePicks → List CutParts → NodePrices → List ℕ → Type 0
IsPaid wave cuts prices place = 0 < length place → (total : ℕ) × IsLengthOf wave place total
    × PaysAtMost cuts prices place (sixtieths_of total)

-- The visit of what is due, with the marks from there on, in preorder. A place is first tested itself, unless it is the
-- empty one. Then its mark says whether it is entered: if not, what it pays and its reach must not be too much; if so,
-- the places with one more item follow in the order of the items. An item that with the place makes no permitted batch
-- is passed over.
pub data IsPricedVisit (wave : WavePicks) (pairing : Pairing) (cuts : List CutParts) (prices : NodePrices) : Due
    → List Bool → Visit → Type 0 where
  too_much : {place : List ℕ} {from total : ℕ} {marks : List Bool} → 0 < length place → IsLengthOf wave place total
      → PaysMore cuts prices place (sixtieths_of total)
      → IsPricedVisit wave pairing cuts prices (Place place from) marks (TooMuch place)
  missing : {place : List ℕ} {from : ℕ} → IsPaid wave cuts prices place
      → IsPricedVisit wave pairing cuts prices (Place place from) [] Wrong
  pruned : {place : List ℕ} {from total reach : ℕ} {marks : List Bool} → IsLengthOf wave place total
      → IsReach pairing prices.duals place from reach
      → ReachesAtMost cuts prices place reach (sixtieths_of total)
      → IsPricedVisit wave pairing cuts prices (Place place from) (false ∷ marks) (Passed marks)
  unsound : {place : List ℕ} {from total reach : ℕ} {marks : List Bool} → IsPaid wave cuts prices place
      → IsLengthOf wave place total
      → IsReach pairing prices.duals place from reach → ReachesMore cuts prices place reach (sixtieths_of total)
      → IsPricedVisit wave pairing cuts prices (Place place from) (false ∷ marks) Wrong
  entered : {place : List ℕ} {from : ℕ} {marks : List Bool} {visit : Visit} → IsPaid wave cuts prices place
      → IsPricedVisit wave pairing cuts prices (Children place from) marks visit
      → IsPricedVisit wave pairing cuts prices (Place place from) (true ∷ marks) visit
  all_added : {place : List ℕ} {from : ℕ} {marks : List Bool} → pairing.orders ≤ from
      → IsPricedVisit wave pairing cuts prices (Children place from) marks (Passed marks)
  no_item : {place : List ℕ} {from : ℕ} {marks : List Bool} {visit : Visit} → (IsItem pairing from → ⊥)
      → IsPricedVisit wave pairing cuts prices (Children place (from + 1)) marks visit
      → IsPricedVisit wave pairing cuts prices (Children place from) marks visit
  not_permitted : {place batch : List ℕ} {from : ℕ} {marks : List Bool} {visit : Visit}
      → AddsItem pairing place from batch
      → (IsPermitted pairing batch → ⊥)
      → IsPricedVisit wave pairing cuts prices (Children place (from + 1)) marks visit
      → IsPricedVisit wave pairing cuts prices (Children place from) marks visit
  refused_batch : {place batch most : List ℕ} {from : ℕ} {marks : List Bool} → IsItem pairing from
      → AddsItem pairing place from batch
      → IsPermitted pairing batch
      → IsPricedVisit wave pairing cuts prices (Place batch (from + 1)) marks (TooMuch most)
      → IsPricedVisit wave pairing cuts prices (Children place from) marks (TooMuch most)
  refused_mark : {place batch : List ℕ} {from : ℕ} {marks : List Bool} → IsItem pairing from
      → AddsItem pairing place from batch
      → IsPermitted pairing batch → IsPricedVisit wave pairing cuts prices (Place batch (from + 1)) marks Wrong
      → IsPricedVisit wave pairing cuts prices (Children place from) marks Wrong
  onward : {place batch : List ℕ} {from : ℕ} {marks left : List Bool} {visit : Visit} → IsItem pairing from
      → AddsItem pairing place from batch
      → IsPermitted pairing batch → IsPricedVisit wave pairing cuts prices (Place batch (from + 1)) marks (Passed left)
      → IsPricedVisit wave pairing cuts prices (Children place (from + 1)) left visit
      → IsPricedVisit wave pairing cuts prices (Children place from) marks visit

-- the visit of all that is due at a node: from the empty place on
abbrev pub IsPricedVisitOfAll : WavePicks → Pairing → List CutParts → NodePrices → List Bool → Visit → Type 0
IsPricedVisitOfAll wave pairing cuts prices marks visit
    = IsPricedVisit wave pairing cuts prices (Place [] 0) marks visit

-- prices whose marks pass are feasible
abbrev pub MarksShowPricesFeasible : Type 0
MarksShowPricesFeasible = (wave : WavePicks) (pairing : Pairing) (cuts : List CutParts) (prices : NodePrices)
    (marks left : List Bool) → IsPricedVisitOfAll wave pairing cuts prices marks (Passed left)
    → ArePricesFeasible wave pairing cuts prices

-- for plain prices the visit is that of their duals; the empty place, which is tested over duals, has a length
abbrev pub PlainVisitsAreVisits : Type 0
PlainVisitsAreVisits = (wave : WavePicks) (pairing : Pairing) (cuts : List CutParts) (prices : NodePrices) (due : Due)
    (marks : List Bool) (visit : Visit) → ArePlain prices
    → (IsVisit wave pairing prices.duals due marks visit → IsPricedVisit wave pairing cuts prices due marks visit)
    × ((total : ℕ) → IsLengthOf wave [] total → IsPricedVisit wave pairing cuts prices due marks visit
    → IsVisit wave pairing prices.duals due marks visit)

-- a batch has in the other wave the length that it has in the one
abbrev pub HaveSameLengths : WavePicks → WavePicks → Type 0
HaveSameLengths wave other = (batch : List ℕ) (total : ℕ) → IsLengthOf wave batch total → IsLengthOf other batch total

-- a visit comes to one end, also in another wave whose batches have the same lengths
abbrev pub VisitsHaveOneEnd : Type 0
VisitsHaveOneEnd = (wave other : WavePicks) (pairing : Pairing) (cuts : List CutParts) (prices : NodePrices) (due : Due)
    (marks : List Bool) (one two : Visit) → HaveSameLengths wave other
    → IsPricedVisit wave pairing cuts prices due marks one
    → IsPricedVisit other pairing cuts prices due marks two → one ≡ two
