-- The least length from each class on, one way and one crossing at a time.
use Rattle.std.specs.Prelude.{ℕ, ◌+◌, ◌*◌, min, Option, Some, None, option_and_then, option_map}
use Rattle.wp_graph.specs.declared.ways.AisleWays.{AisleWays}
use Rattle.wp_classes.specs.declared.class.Class.{Class}
use Rattle.wp_classes.specs.declared.class.Class.TheVariants.{UU1, E01, ZE1, EE1, EE2, Z00, Z01}
use Rattle.wp_classes.specs.declared.class.Way.{Way}
use Rattle.wp_classes.specs.declared.class.Way.TheVariants.{Pass, Back, Front, Gap, Double, Skip}
use Rattle.wp_classes.specs.declared.class.Cross.{Cross}
use Rattle.wp_classes.specs.declared.class.Cross.TheVariants.{C00, C11, C20, C02, C22}
use Rattle.wp_classes.specs.declared.lengths.OnwardLengths.{OnwardLengths}
use Rattle.wp_classes.specs.Tables.{class_after_cross, class_after_way, copies, way_length}

-- the length from a class
abbrev pub length_at : OnwardLengths → Class → Option ℕ
length_at lengths UU1 = lengths.uu1
length_at lengths E01 = lengths.e01
length_at lengths ZE1 = lengths.ze1
length_at lengths EE1 = lengths.ee1
length_at lengths EE2 = lengths.ee2
length_at lengths Z00 = lengths.z00
length_at lengths Z01 = lengths.z01

-- the sum of two lengths, where there are both
abbrev pub sum_of : Option ℕ → Option ℕ → Option ℕ
sum_of None right = None
sum_of (Some left) None = None
sum_of (Some left) (Some right) = Some (left + right)

-- the lesser of two lengths, where there is one
abbrev pub lesser : Option ℕ → Option ℕ → Option ℕ
lesser None right = right
lesser (Some left) None = Some left
lesser (Some left) (Some right) = Some (min left right)

-- the length by a way, and on from the class to which it leads
abbrev pub by_way : AisleWays → OnwardLengths → Class → Way → Option ℕ
by_way ways after class way = option_and_then (λ next. sum_of (way_length ways way) (length_at after next))
    (class_after_way class way)

-- the least length by some way
abbrev pub least_by_way : AisleWays → OnwardLengths → Class → Option ℕ
least_by_way ways after class =
    lesser (by_way ways after class Pass) (lesser (by_way ways after class Back) (lesser (by_way ways after class Front)
    (lesser (by_way ways after class Gap) (lesser (by_way ways after class Double) (by_way ways after class Skip)))))

-- the length by a crossing, and on from the class to which it leads
abbrev pub by_cross : ℕ → OnwardLengths → Class → Cross → Option ℕ
by_cross spacing after class cross = option_and_then
    (λ next. option_map (λ rest. copies cross * spacing + rest) (length_at after next))
    (class_after_cross class cross)

-- the least length by some crossing
abbrev pub least_by_cross : ℕ → OnwardLengths → Class → Option ℕ
least_by_cross spacing after class =
    lesser (by_cross spacing after class C00)
    (lesser (by_cross spacing after class C11) (lesser (by_cross spacing after class C20)
    (lesser (by_cross spacing after class C02) (by_cross spacing after class C22))))
