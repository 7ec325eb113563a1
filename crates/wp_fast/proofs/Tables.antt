-- What the tables say of a pass or two in an aisle, before another way or after it. Each is tried for all classes and ways.
use Rattle.std.proofs.Common.{◌≡◌, Option, option_and_then, refl}
use Rattle.wp_classes.specs.declared.class.Class.{Class}
use Rattle.wp_classes.specs.declared.class.Class.TheVariants.{UU1, E01, ZE1, EE1, EE2, Z00, Z01}
use Rattle.wp_classes.specs.declared.class.Way.{Way}
use Rattle.wp_classes.specs.declared.class.Way.TheVariants.{Pass, Back, Front, Gap, Double, Skip}
use Rattle.wp_classes.specs.Tables.{class_after_way}

-- a way with a pass more
abbrev pub with_pass : Way → Way
with_pass Pass = Double
with_pass Back = Pass
with_pass Front = Pass
with_pass Gap = Pass
with_pass Double = Pass
with_pass Skip = Pass

-- a way with two passes more
abbrev pub with_double : Way → Way
with_double Pass = Pass
with_double Back = Double
with_double Front = Double
with_double Gap = Double
with_double Double = Double
with_double Skip = Double

-- the class after two ways
abbrev pub after_both : Class → Way → Way → Option Class
after_both class first second = option_and_then (λ between. class_after_way between second) (class_after_way class first)

-- a property of each way, and of each class
abbrev pub EachWay : (Way → Type 0) → Type 0
EachWay P = P Pass × P Back × P Front × P Gap × P Double × P Skip

abbrev pub EachClass : (Class → Type 0) → Type 0
EachClass P = P UU1 × P E01 × P ZE1 × P EE1 × P EE2 × P Z00 × P Z01

pub at_way : (P : Way → Type 0) → EachWay P → (way : Way) → P way
at_way P all Pass = all.0
at_way P all Back = all.1
at_way P all Front = all.2
at_way P all Gap = all.3
at_way P all Double = all.4
at_way P all Skip = all.5

at_class : (P : Class → Type 0) → EachClass P → (class : Class) → P class
at_class P all UU1 = all.0
at_class P all E01 = all.1
at_class P all ZE1 = all.2
at_class P all EE1 = all.3
at_class P all EE2 = all.4
at_class P all Z00 = all.5
at_class P all Z01 = all.6

-- two tables are the same where they are at each class and way
pub same_tables : (left right : Class → Way → Option Class) → EachClass (λ class. EachWay (λ way. left class way ≡ right class way)) → (class : Class)
    (way : Way) → left class way ≡ right class way
same_tables left right all class way = at_way (λ way. left class way ≡ right class way)
    (at_class (λ class. EachWay (λ way. left class way ≡ right class way)) all class) way

-- a pass and then a way lead where the way with a pass more leads
pub pass_then : (class : Class) (way : Way) → after_both class Pass way ≡ class_after_way class (with_pass way)
pass_then = same_tables (λ class way. after_both class Pass way) (λ class way. class_after_way class (with_pass way)) (
  (refl, refl, refl, refl, refl, refl),
  (refl, refl, refl, refl, refl, refl),
  (refl, refl, refl, refl, refl, refl),
  (refl, refl, refl, refl, refl, refl),
  (refl, refl, refl, refl, refl, refl),
  (refl, refl, refl, refl, refl, refl),
  (refl, refl, refl, refl, refl, refl),
)

-- so do two passes and then a way
pub double_then : (class : Class) (way : Way) → after_both class Double way ≡ class_after_way class (with_double way)
double_then = same_tables (λ class way. after_both class Double way) (λ class way. class_after_way class (with_double way)) (
  (refl, refl, refl, refl, refl, refl),
  (refl, refl, refl, refl, refl, refl),
  (refl, refl, refl, refl, refl, refl),
  (refl, refl, refl, refl, refl, refl),
  (refl, refl, refl, refl, refl, refl),
  (refl, refl, refl, refl, refl, refl),
  (refl, refl, refl, refl, refl, refl),
)

-- a way and then a pass
pub then_pass : (class : Class) (way : Way) → after_both class way Pass ≡ class_after_way class (with_pass way)
then_pass = same_tables (λ class way. after_both class way Pass) (λ class way. class_after_way class (with_pass way)) (
  (refl, refl, refl, refl, refl, refl),
  (refl, refl, refl, refl, refl, refl),
  (refl, refl, refl, refl, refl, refl),
  (refl, refl, refl, refl, refl, refl),
  (refl, refl, refl, refl, refl, refl),
  (refl, refl, refl, refl, refl, refl),
  (refl, refl, refl, refl, refl, refl),
)

-- a way and then two passes
pub then_double : (class : Class) (way : Way) → after_both class way Double ≡ class_after_way class (with_double way)
then_double = same_tables (λ class way. after_both class way Double) (λ class way. class_after_way class (with_double way)) (
  (refl, refl, refl, refl, refl, refl),
  (refl, refl, refl, refl, refl, refl),
  (refl, refl, refl, refl, refl, refl),
  (refl, refl, refl, refl, refl, refl),
  (refl, refl, refl, refl, refl, refl),
  (refl, refl, refl, refl, refl, refl),
  (refl, refl, refl, refl, refl, refl),
)
