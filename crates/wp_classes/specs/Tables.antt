-- The tables of the classes (after Ratliff and Rosenthal, 1983): which class a way leads to and which a crossing, and
-- how long both are. None is a way or a crossing that is not allowed.
use Rattle.std.specs.Prelude.{ℕ, Bool, true, false, Option, Some, None}
use Rattle.wp_graph.specs.declared.ways.AisleWays.{AisleWays}
use Rattle.wp_classes.specs.declared.class.Class.{Class}
use Rattle.wp_classes.specs.declared.class.Class.TheVariants.{UU1, E01, ZE1, EE1, EE2, Z00, Z01}
use Rattle.wp_classes.specs.declared.class.Way.{Way}
use Rattle.wp_classes.specs.declared.class.Way.TheVariants.{Pass, Back, Front, Gap, Double, Skip}
use Rattle.wp_classes.specs.declared.class.Cross.{Cross}
use Rattle.wp_classes.specs.declared.class.Cross.TheVariants.{C00, C11, C20, C02, C22}

-- the class after a way
abbrev pub class_after_way : Class → Way → Option Class
class_after_way UU1 Pass = Some EE1
class_after_way UU1 Back = Some UU1
class_after_way UU1 Front = Some UU1
class_after_way UU1 Gap = Some UU1
class_after_way UU1 Double = Some UU1
class_after_way UU1 Skip = Some UU1
class_after_way E01 Pass = Some UU1
class_after_way E01 Back = Some E01
class_after_way E01 Front = Some EE2
class_after_way E01 Gap = Some EE2
class_after_way E01 Double = Some EE1
class_after_way E01 Skip = Some E01
class_after_way ZE1 Pass = Some UU1
class_after_way ZE1 Back = Some EE2
class_after_way ZE1 Front = Some ZE1
class_after_way ZE1 Gap = Some EE2
class_after_way ZE1 Double = Some EE1
class_after_way ZE1 Skip = Some ZE1
class_after_way EE1 Pass = Some UU1
class_after_way EE1 Back = Some EE1
class_after_way EE1 Front = Some EE1
class_after_way EE1 Gap = Some EE1
class_after_way EE1 Double = Some EE1
class_after_way EE1 Skip = Some EE1
class_after_way EE2 Pass = Some UU1
class_after_way EE2 Back = Some EE2
class_after_way EE2 Front = Some EE2
class_after_way EE2 Gap = Some EE2
class_after_way EE2 Double = Some EE1
class_after_way EE2 Skip = Some EE2
class_after_way Z00 Pass = Some UU1
class_after_way Z00 Back = Some E01
class_after_way Z00 Front = Some ZE1
class_after_way Z00 Gap = Some EE2
class_after_way Z00 Double = Some EE1
class_after_way Z00 Skip = Some Z00
class_after_way Z01 Pass = None
class_after_way Z01 Back = None
class_after_way Z01 Front = None
class_after_way Z01 Gap = None
class_after_way Z01 Double = None
class_after_way Z01 Skip = Some Z01

-- the class after a crossing
abbrev pub class_after_cross : Class → Cross → Option Class
class_after_cross UU1 C00 = None
class_after_cross UU1 C11 = Some UU1
class_after_cross UU1 C20 = None
class_after_cross UU1 C02 = None
class_after_cross UU1 C22 = None
class_after_cross E01 C00 = Some Z01
class_after_cross E01 C11 = None
class_after_cross E01 C20 = Some E01
class_after_cross E01 C02 = None
class_after_cross E01 C22 = Some EE2
class_after_cross ZE1 C00 = Some Z01
class_after_cross ZE1 C11 = None
class_after_cross ZE1 C20 = None
class_after_cross ZE1 C02 = Some ZE1
class_after_cross ZE1 C22 = Some EE2
class_after_cross EE1 C00 = Some Z01
class_after_cross EE1 C11 = None
class_after_cross EE1 C20 = Some E01
class_after_cross EE1 C02 = Some ZE1
class_after_cross EE1 C22 = Some EE1
class_after_cross EE2 C00 = None
class_after_cross EE2 C11 = None
class_after_cross EE2 C20 = None
class_after_cross EE2 C02 = None
class_after_cross EE2 C22 = Some EE2
class_after_cross Z00 C00 = Some Z00
class_after_cross Z00 C11 = None
class_after_cross Z00 C20 = Some E01
class_after_cross Z00 C02 = Some ZE1
class_after_cross Z00 C22 = Some EE2
class_after_cross Z01 C00 = Some Z01
class_after_cross Z01 C11 = None
class_after_cross Z01 C20 = None
class_after_cross Z01 C02 = None
class_after_cross Z01 C22 = None

-- whether a tour may end in a class after the last aisle
abbrev pub is_whole : Class → Bool
is_whole UU1 = false
is_whole E01 = true
is_whole ZE1 = true
is_whole EE1 = true
is_whole EE2 = false
is_whole Z00 = false
is_whole Z01 = true

-- the length of a way through an aisle, None where it doesn't apply
abbrev pub way_length : AisleWays → Way → Option ℕ
way_length ways Pass = Some ways.pass
way_length ways Back = ways.back
way_length ways Front = ways.front
way_length ways Gap = ways.gap
way_length ways Double = Some ways.double
way_length ways Skip = ways.skip

-- how many copies of a cross aisle a crossing has, behind and in front together
abbrev pub copies : Cross → ℕ
copies C00 = 0
copies C11 = 2
copies C20 = 2
copies C02 = 2
copies C22 = 4
