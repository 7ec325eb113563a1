use Rattle.std.proofs.Common.{◌∙◌, ◌+◌, arith, length-set, refl}
use Rattle.wp_graph.proofs.AisleOffsets.{all_taken, entry_small, keeps_offsets, one_more_taken, word_so_far}
use Rattle.wp_graph.proofs.offsets.Offsets.of.Goals as goal

pub overflow_add-words : goal.overflow_add-words
overflow_add-words c =
    let so_far = word_so_far c.args.spacings.now c.loop-index.words c.loop-index.index c.loop-index.invariant.words
    (omega arith) c.requires.few c.requires.ranges in
    let here = entry_small 10000 c.args.spacings.now c.requires.ranges c.loop-index.index in
    record { fits = omega (arith, so_far, here) }

pub loop-index-preserved : goal.loop-index-preserved
loop-index-preserved c = record {
  whole = length-set c.loop-index.words (c.loop-index.index + 1) _ ∙ c.loop-index.invariant.whole;
  words = one_more_taken c.args.spacings.now c.loop-index.words c.loop-index.index c.loop-index.invariant.words (omega arith) c.requires.few;
}

pub invariant_of-result : goal.invariant_of-result
invariant_of-result c =
    (keeps_offsets c.args.spacings.now c.loop-index.words _ c.requires.few c.requires.ranges
    (all_taken c.args.spacings.now c.loop-index.words c.loop-index.index c.loop-index.invariant.words (omega arith)) refl).0

pub returns : goal.returns
returns c =
    (keeps_offsets c.args.spacings.now c.loop-index.words _ c.requires.few c.requires.ranges
    (all_taken c.args.spacings.now c.loop-index.words c.loop-index.index c.loop-index.invariant.words (omega arith)) refl).1
