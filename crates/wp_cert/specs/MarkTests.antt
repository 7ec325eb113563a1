-- How the marks of a node are tested while its permitted batches are visited.
use Rattle.std.specs.Prelude.{◌≡◌, ℕ, ◌<◌, ◌≤◌, ◌⊎◌, true, List, [], ◌∷◌, Result, Ok, Err, IsTrue, drop, length, slice_index, ⊤}
use Rattle.wp_pairs.specs.Permitted.{Pairing}
use Rattle.wp_lengths.specs.Duals.{sixtieths_of}
use Rattle.wp_lengths.specs.Lengths.{IsLengthOf}
use Rattle.wp_lengths.specs.Visits.{Due, Passed, Place}
use Rattle.wp_visit.specs.declared.step.Step.{Step}
use Rattle.wp_visit.specs.declared.step.Step.TheVariants as step
use Rattle.wp_visit.specs.Items.{most_dual}
use Rattle.wp_visit.specs.Places.{Task}
use Rattle.wp_cuts.specs.PricedVisits.{IsPaid, PaysMore}
use Rattle.wp_cuts.specs.Prices.{Pays}
use Rattle.wp_cert.specs.declared.tested.TestedOwn.{TestedOwn}
use Rattle.wp_cert.specs.declared.tree.CertWhy.{CertWhy}
use Rattle.wp_cert.specs.declared.tree.CertWhy.TheVariants as why
use Rattle.wp_cert.specs.declared.tree.Own.{Own}
use Rattle.wp_cert.specs.declared.visit.MarkTest.{MarkTest}
use Rattle.wp_cert.specs.Known.{AreKnown}
use Rattle.wp_cert.specs.Levels.{AreLevels}
use Rattle.wp_cert.specs.Refusals.{AreRefused, IsFirstSlack, IsRefusedVisit}
use Rattle.wp_cert.specs.Terms.{Terms, prices_of}
use Rattle.wp_cert.specs.Trees.{IsMarkedVisit, IsVisitOfAll}
use Rattle.wp_cert.specs.Visited.{HasEachLength}

-- a dual as a visit has it: as it is, or the greatest of a visit where it is no less than that
pub record IsLimited (own limited : ℕ) : Type 0 where
  pub low : own < most_dual → limited ≡ own
  pub high : most_dual ≤ own → limited ≡ most_dual

-- duals as a visit has them
pub record AreLimited (own limited : List ℕ) : Type 0 where
  pub count : length limited ≡ length own
  pub each : (order : ℕ) → order < length own → IsLimited (slice_index own order) (slice_index limited order)

-- a visit has the pairs and the duals of a node, and each batch of the wave has a length
pub record IsTestOf (task : Task) (tested : TestedOwn) : Type 0 where
  pub pairing : task.pairing ≡ tested.pairs.now
  pub duals : AreLimited tested.own.now.duals task.duals
  pub lengths : HasEachLength tested.terms.now.wave

-- a node has plain prices: its tree has no cuts, and its batches have no price
pub record IsPlainOwn (tested : TestedOwn) : Type 0 where
  pub cuts : tested.terms.now.cuts ≡ []
  pub count : tested.own.now.count ≡ 0

-- a test of marks goes along such a visit, and what it keeps and knows is right
pub record FitsTest (task : Task) (test : MarkTest) : Type 0 where
  pub is : IsTestOf task test.tested
  pub levels : AreLevels test.tested.terms.now.wave test.levels
  pub known : AreKnown test.tested.terms.now.wave test.known
  pub within : test.next ≤ length test.tested.own.now.marks
  pub plain : IsTrue test.is_plain → IsPlainOwn test.tested

-- what is due is visited with the marks from one place on, and passes or is refused
abbrev pub SaysOf : Pairing → TestedOwn → Due → ℕ → Result ⊤ CertWhy → ℕ → Type 0
SaysOf pairing tested due next (Ok done) end = IsMarkedVisit tested.terms.now pairing tested.own.now due
    (drop next tested.own.now.marks) (Passed (drop end tested.own.now.marks))
SaysOf pairing tested due next (Err fault) end = IsRefusedVisit tested.terms.now pairing tested.own.now due
    (drop next tested.own.now.marks) fault

-- a place, unless it is the empty one, pays no more than its length in sixtieths
abbrev pub IsPaidPlace : Terms → Own → List ℕ → Type 0
IsPaidPlace terms own place = IsPaid terms.wave terms.cuts (prices_of own) place

-- a place that isn't empty pays more
pub record IsTooMuch (terms : Terms) (own : Own) (place : List ℕ) : Type 0 where
  pub filled : 0 < length place
  pub total : ℕ
  pub long : IsLengthOf terms.wave place total
  pub above : PaysMore terms.cuts (prices_of own) place (sixtieths_of total)

-- a place pays no more than its length in sixtieths, and its mark says that it is entered
pub record IsEntered (tested : TestedOwn) (place : List ℕ) (next end : ℕ) : Type 0 where
  pub within : IsPaidPlace tested.terms.now tested.own.now place
  pub mark : drop next tested.own.now.marks ≡ true ∷ drop end tested.own.now.marks

-- how a place is tested: it is entered, or its own visit ends with it
abbrev pub SaysAt : Pairing → TestedOwn → List ℕ → ℕ → ℕ → Result Step CertWhy → ℕ → Type 0
SaysAt pairing tested place from next (Ok step.Deeper) end = IsEntered tested place next end
SaysAt pairing tested place from next (Ok step.Past) end = SaysOf pairing tested (Place place from) next (Ok tt) end
SaysAt pairing tested place from next (Err fault) end
    = SaysOf pairing tested (Place place from) next (Err fault) end

-- the test of marks enters a place
pub record EntersTest (task : Task) (old : MarkTest) (place : List ℕ) (from : ℕ) (answer : Result Step CertWhy)
    (new : MarkTest) : Type 0 where
  pub same : new.tested ≡ old.tested
  pub says : SaysAt task.pairing old.tested place from old.next answer new.next

-- a batch pays just its length in sixtieths
abbrev pub PaysItsLength : Terms → Own → List ℕ → Type 0
PaysItsLength terms own batch = (total : ℕ) × IsLengthOf terms.wave batch total
    × Pays terms.cuts (prices_of own) batch (sixtieths_of total)

-- the marks of a node are refused, or they pass and a batch that is given isn't tight
abbrev pub IsBrokenTest : Terms → Pairing → Own → CertWhy → Type 0
IsBrokenTest terms pairing own fault = AreRefused terms pairing own fault
    ⊎ (IsVisitOfAll terms pairing own (Passed [])
    × ((order : ℕ) × IsFirstSlack terms pairing own order × (fault ≡ why.NotTight order)))
