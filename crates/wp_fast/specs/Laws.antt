-- What holds of summaries, whatever they tell, and of the lengths that are carried from one needed aisle to the next.
use Rattle.std.specs.Prelude.{◌≡◌, ℕ, ◌+◌, ◌-◌, ◌≤◌, ◌↔◌, List, None}
use Rattle.wp_model.specs.declared.point.Point.{Point}
use Rattle.wp_model.specs.Warehouse.{Layout}
use Rattle.wp_graph.specs.AisleLengths.{ways_of}
use Rattle.wp_graph.specs.Offsets.{aisle_offset}
use Rattle.wp_classes.specs.declared.class.Class.{Class}
use Rattle.wp_classes.specs.Choices.{block_of}
use Rattle.wp_fast.specs.declared.lengths.NeededLengths.{NeededLengths}
use Rattle.wp_fast.specs.declared.summary.Summary.{Summary}
use Rattle.wp_fast.specs.Lengths.{AreCarried, HaveLeast, PastTheRest, along_run, ends, on_from}
use Rattle.wp_fast.specs.Passages.{AreLeast, EndsFrom, IsComposed, Tells}
use Rattle.wp_fast.specs.Runs.{PastRun}
use Rattle.wp_fast.specs.SpareRuns.{AreNeighbours, NoneBetween}
use Rattle.wp_fast.specs.Summaries.{length_between}

-- two summaries tell the same lengths
abbrev pub TellTheSame : Summary → Summary → Type 0
TellTheSame one other = (before after : Class) → length_between one before after ≡ length_between other before after

-- three summaries compose to the same, whichever two are composed first
abbrev pub ComposingIsAssociative : Type 0
ComposingIsAssociative = (one two three one_and_two two_and_three from_the_left from_the_right : Summary)
    → IsComposed one two one_and_two
    → IsComposed two three two_and_three → IsComposed one_and_two three from_the_left
    → IsComposed one two_and_three from_the_right
    → TellTheSame from_the_left from_the_right

-- the lengths that are carried to an aisle are those that a summary of this aisle and all behind it tells to the
-- classes in which a tour may end
abbrev pub CarriedLengthsAreTold : Type 0
CarriedLengthsAreTold = (layout : Layout) (picks : List Point) (aisle : ℕ) (behind : Summary) (carried : NeededLengths)
    → AreLeast (PastRun layout picks (layout.aisles + 1 - aisle) aisle) behind
    → AreCarried (PastTheRest layout picks aisle) carried ↔ AreCarried (EndsFrom (Tells behind)) carried

-- before the last needed aisle they come from the ways through it, behind which the tour is closed
abbrev pub LastLengthsAreTold : Type 0
LastLengthsAreTold = (layout : Layout) (picks : List Point) (last : ℕ) (behind : Summary) (carried : NeededLengths)
    → last ≤ layout.aisles → (ways_of layout picks last).skip ≡ None
    → NoneBetween (block_of layout picks) last (layout.aisles + 1)
    → AreLeast (PastRun layout picks (layout.aisles + 1 - last) last) behind
    → HaveLeast (ways_of layout picks last) ends carried
    → AreCarried (EndsFrom (Tells behind)) carried

-- The step over a run of aisles that aren't needed, and through the needed aisle before it, is composing with their
-- summary: it makes of what the summary behind tells what the composed one tells.
abbrev pub SteppingIsComposing : Type 0
SteppingIsComposing = (layout : Layout) (picks : List Point) (aisle later : ℕ) (run behind both : Summary)
    (carried stepped : NeededLengths)
    → AreNeighbours (block_of layout picks) aisle later → later ≤ layout.aisles
    → AreLeast (PastRun layout picks (later - aisle) aisle) run
    → AreLeast (PastRun layout picks (layout.aisles + 1 - later) later) behind
    → IsComposed run behind both → AreCarried (EndsFrom (Tells behind)) carried
    → HaveLeast (ways_of layout picks aisle)
    (on_from (along_run (aisle_offset layout later - aisle_offset layout aisle) carried)) stepped
    → AreCarried (EndsFrom (Tells both)) stepped
