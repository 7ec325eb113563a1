use Rattle.std.proofs.Common.{◌<◌, inl, length, refl}
use Rattle.std.proofs.lemmas.List.Elements.{All-contains}
use Rattle.wp_lengths.proofs.Unions.{all_from_contained}
use Rattle.wp_cert.proofs.HaveLengths.{no_less_with_more}
use Rattle.wp_cert.proofs.visit.known_of.Goals as goal

pub returns : goal.returns
returns c =
    let before = c.of.ensures c.args.wave.now c.requires.known in record {
      least = no_less_with_more c.args.wave.now c.args.place.now.before c.args.place.now.batch (length c.args.wave.now.orders) c.of.result c.requires.lengths
          refl
          (all_from_contained (λ order. order < length c.args.wave.now.orders) c.args.place.now.before
          (λ order has. All-contains (λ order. order < length c.args.wave.now.orders) c.args.place.now.batch order c.requires.orders
          ((c.requires.both order).1 (inl has)))) (λ order has. (c.requires.both order).1 (inl has)) before.least;
      small = before.small;
    }
