use Rattle.std.proofs.Common.{◌∷◌, arith, slice_index}
use Rattle.wp_model.proofs.Sums.{sum-grows}
use Rattle.wp_graph.proofs.layout.Layout.length_between.Goals as goal

pub overflow_sub-result : goal.overflow_sub-result
overflow_sub-result c =
    let up = sum-grows c.args.aisle c.args.later (slice_index (0 ∷ c.self.inside.offsets)) c.requires.order in
    omega (arith, up, c.at.ensures.value, c.at-2.ensures.value)
