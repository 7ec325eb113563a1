use Rattle.std.proofs.Common.{◌<◌, inl, inr, length, sym, ◌∙◌, ⊎_elim}
use Rattle.std.proofs.lemmas.List.Elements.{All-contains}
use Rattle.wp_lengths.proofs.Unions.{all_from_contained}
use Rattle.wp_cert.proofs.LevelPicks.{both_picked}
use Rattle.wp_cert.proofs.levels.raised.Goals as goal

pub union_of-missing-requires : goal.union_of-missing-requires
union_of-missing-requires c =
    all_from_contained (λ order. order < length c.args.wave.now.orders) c.missing_in.result
    (λ order of. All-contains (λ order. order < length c.args.wave.now.orders) c.args.batch order c.requires.orders (c.missing_in.ensures.within order of))

pub with-requires : goal.with-requires
with-requires c = c.union_of-missing.ensures.layout ∙ sym c.requires.level.layout

pub returns-clause-level : goal.returns-clause-level
returns-clause-level c =
    let both = both_picked c.args.wave.now c.args.level.now.batch c.missing_in.result c.args.batch
    (λ order. (
      λ of. c.missing_in.ensures.all order of,
      λ one. ⊎_elim (c.requires.some order) (c.missing_in.ensures.within order) one,
    )) in
    record {
      layout = c.with.ensures.layout ∙ c.requires.level.layout;
      points = λ p. (
        λ has. (both p).1 (⊎_elim (λ h. inl ((c.requires.level.points p).0 h)) (λ h. inr ((c.union_of-missing.ensures.points p).0 h))
            ((c.with.ensures.points p).0 has)),
        λ has. (c.with.ensures.points p).1 (⊎_elim (λ h. inl ((c.requires.level.points p).1 h)) (λ h. inr ((c.union_of-missing.ensures.points p).1 h))
            ((both p).0 has)),
      );
    }
