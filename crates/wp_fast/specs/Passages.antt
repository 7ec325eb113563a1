-- How a tour comes from a class to a class, and with which length.
use Rattle.std.specs.Prelude.{◌≡◌, ℕ, ◌+◌, IsTrue, Some}
use Rattle.wp_graph.specs.declared.ways.AisleWays.{AisleWays}
use Rattle.wp_classes.specs.declared.class.Class.{Class}
use Rattle.wp_classes.specs.declared.class.Class.TheVariants.{Z00}
use Rattle.wp_classes.specs.declared.class.Way.{Way}
use Rattle.wp_classes.specs.declared.class.Cross.{Cross}
use Rattle.wp_classes.specs.Choices.{TakesCross, TakesWay}
use Rattle.wp_classes.specs.Onward.{IsLeastOf}
use Rattle.wp_classes.specs.Tables.{is_whole}
use Rattle.wp_fast.specs.declared.summary.Summary.{Summary}
use Rattle.wp_fast.specs.Summaries.{length_between}

-- from a class to a class, with a length
abbrev pub Passage : Type 1
Passage = Class → Class → ℕ → Type 0

-- by some way through an aisle
abbrev pub ByWays : AisleWays → Passage
ByWays ways before after total = (way : Way) × TakesWay ways way before after total

-- by some crossing to the next aisle
abbrev pub ByCrossings : ℕ → Passage
ByCrossings spacing before after total = (cross : Cross) × TakesCross spacing cross before after total

-- past no aisle: the class stays as it is
abbrev pub Stays : Passage
Stays before after total = (before ≡ after) × (total ≡ 0)

-- by one passage to a class between, and by another on from it
abbrev pub Over : Passage → Passage → Class → Passage
Over First Next between before after total =
    (near : ℕ) × (far : ℕ) × First before between near × Next between after far × (total ≡ near + far)

-- by one passage and then by another, with some class between
abbrev pub Then : Passage → Passage → Passage
Then First Next before after total = (between : Class) × Over First Next between before after total

-- as a summary tells it
abbrev pub Tells : Summary → Passage
Tells summary before after total = length_between summary before after ≡ Some total

-- a summary tells the least length of a passage from each class to each class, and none exactly where there is none
pub record AreLeast (Passes : Class → Class → ℕ → Type 0) (summary : Summary) : Type 0 where
  pub least : (before after : Class) → IsLeastOf (λ t. Passes before after t) (length_between summary before after)

-- a summary has the least sums of two others, over the class between
abbrev pub IsComposed : Summary → Summary → Summary → Type 0
IsComposed first next both = AreLeast (Then (Tells first) (Tells next)) both

-- from a class by a passage to a class in which a tour may end
abbrev pub EndsFrom : Passage → Class → ℕ → Type 0
EndsFrom Passes before total = (after : Class) × IsTrue (is_whole after) × Passes before after total

-- from class 000 to the end, as a summary tells it
abbrev pub ToTheEnd : Summary → ℕ → Type 0
ToTheEnd summary total = EndsFrom (Tells summary) Z00 total
