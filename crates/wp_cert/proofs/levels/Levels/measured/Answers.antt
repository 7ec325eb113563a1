use Rattle.std.proofs.Common.{◌<◌, ◌↔◌, ◌⊎◌, Contains, List, ℕ, arith, inr, length, subst, sym}
use Rattle.std.proofs.lemmas.List.Elements.{All-contains}
use Rattle.wp_lengths.proofs.Unions.{all_from_contained}
use Rattle.wp_cert.proofs.LevelPicks.{length_of_both}
use Rattle.wp_cert.proofs.levels.Levels.measured.Goals as goal

pub length_with-requires-clause-level : goal.length_with-requires-clause-level
length_with-requires-clause-level c = c.requires.levels c.level_of.result c.index-self-level_of.result
    (omega (arith, c.level_of.ensures)) c.in-Some.level c.in-Some.is

pub length_with-requires-clause-orders : goal.length_with-requires-clause-orders
length_with-requires-clause-orders c =
    all_from_contained (λ order. order < length c.args.wave.now.orders) c.args.place.now.added
    (λ order of. All-contains (λ order. order < length c.args.wave.now.orders) c.args.place.now.batch order c.requires.orders
    ((c.requires.both order).1 (inr of)))

pub returns-in-Some-clause-is : goal.returns-in-Some-clause-is
returns-in-Some-clause-is c =
    length_of_both c.args.wave.now c.in-Some.level.batch c.args.place.now.added c.args.place.now.batch _
    (subst (λ (before : List ℕ). (order : ℕ) → Contains c.args.place.now.batch order ↔ (Contains before order ⊎ Contains c.args.place.now.added order))
    (sym (c.is.ensures.0 c.if-is.true)) c.requires.both)
    c.length_with.ensures.is
