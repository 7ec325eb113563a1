-- How a tour may go on from a class to its end, and the least length from each class.
use Rattle.std.specs.Prelude.{◌≡◌, ℕ, zero, suc, ◌+◌, ◌≤◌, IsTrue, Option, MatchOption}
use Rattle.wp_graph.specs.declared.ways.AisleWays.{AisleWays}
use Rattle.wp_classes.specs.declared.class.Class.{Class}
use Rattle.wp_classes.specs.declared.class.Way.{Way}
use Rattle.wp_classes.specs.declared.class.Cross.{Cross}
use Rattle.wp_classes.specs.declared.lengths.OnwardLengths.{OnwardLengths}
use Rattle.wp_classes.specs.Choices.{Block, TakesCross, TakesWay}
use Rattle.wp_classes.specs.Least.{length_at}
use Rattle.wp_classes.specs.Tables.{is_whole}

-- by this way, and then on
abbrev pub ByWay : (Class → ℕ → Type 0) → AisleWays → Class → Way → ℕ → Type 0
ByWay onward ways class way total = (next : Class) × (through : ℕ) × (rest : ℕ) × TakesWay ways way class next through
    × onward next rest
    × (total ≡ through + rest)

-- by some way, and then on
abbrev pub Through : (Class → ℕ → Type 0) → AisleWays → Class → ℕ → Type 0
Through onward ways class total = (way : Way) × ByWay onward ways class way total

-- by this crossing, and then on
abbrev pub ByCross : (Class → ℕ → Type 0) → ℕ → Class → Cross → ℕ → Type 0
ByCross onward spacing class cross total
    = (next : Class) × (across : ℕ) × (rest : ℕ) × TakesCross spacing cross class next across × onward next rest
    × (total ≡ across + rest)

-- by some crossing, and then on
abbrev pub Across : (Class → ℕ → Type 0) → ℕ → Class → ℕ → Type 0
Across onward spacing class total = (cross : Cross) × ByCross onward spacing class cross total

-- from the class after the way through an aisle, with so many more aisles, a tour may go on to its end with this
-- length
abbrev pub Onward : Block → ℕ → ℕ → Class → ℕ → Type 0
Onward block zero aisle class total = IsTrue (is_whole class) × (total ≡ 0)
Onward block (suc left) aisle class total =
    Across (λ between rest. Through (λ next more. Onward block left (suc aisle) next more)
    (block.ways (suc aisle)) between rest)
    (block.spacing aisle) class total

-- a number is the least with a property, or there is none
abbrev pub IsLeastOf : (ℕ → Type 0) → Option ℕ → Type 0
IsLeastOf Holds least = MatchOption least ((t : ℕ) → Holds t → ⊥) (λ m. Holds m × ((t : ℕ) → Holds t → m ≤ t))

-- the least lengths on from each class after the way through an aisle, with so many more aisles
pub record AreOnward (block : Block) (left aisle : ℕ) (lengths : OnwardLengths) : Type 0 where
  pub least : (class : Class) → IsLeastOf (λ t. Onward block left aisle class t) (length_at lengths class)
