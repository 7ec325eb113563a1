use Rattle.std.proofs.lemmas.List.Elements.{All-replicate}
use Rattle.wp_lengths.specs.KeptLengths.{IsKeptLength}
use Rattle.wp_lengths.proofs.wave.Wave.blank_lengths.Goals as goal

pub returns : goal.returns
returns c = rw (c.in_ok-lengths.ensures.items_if_clones_equal (λ y same. same)) (All-replicate (IsKeptLength c.args.self.now) _ _
    (record { is = c.batch_length-length.ensures.is; small = c.batch_length-length.ensures.small }))
