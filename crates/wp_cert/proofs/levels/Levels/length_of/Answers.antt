use Rattle.std.proofs.Common.{◌<◌, inl, length}
use Rattle.std.proofs.lemmas.List.Elements.{All-contains}
use Rattle.wp_lengths.proofs.Unions.{all_from_contained}
use Rattle.wp_cert.proofs.levels.Levels.length_of.Goals as goal
use Rattle.wp_cert.proofs.levels.Levels.length_of.Goals.{then-not-has, else-not-has}

pub keep-requires-clause-orders : goal.keep-requires-clause-orders
keep-requires-clause-orders c =
    all_from_contained (λ order. order < length c.args.wave.now.orders) c.args.place.now.before
    (λ order of. All-contains (λ order. order < length c.args.wave.now.orders) c.args.place.now.batch order c.requires.orders
    ((c.requires.both order).1 (inl of)))

pub measured-requires-clause-levels : goal.measured-requires-clause-levels
measured-requires-clause-levels c = elim c.if-not-has.branch [
  | then-not-has w ↦ rw w.self-is w.keep.ensures
  | else-not-has w ↦ rw w.self-is c.requires.levels
]

pub returns-clause-levels : goal.returns-clause-levels
returns-clause-levels c = elim c.if-not-has.branch [
  | then-not-has w ↦ rw w.self-is w.keep.ensures
  | else-not-has w ↦ rw w.self-is c.requires.levels
]
