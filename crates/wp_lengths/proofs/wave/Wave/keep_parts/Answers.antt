use Rattle.std.proofs.Common.{arith}
use Rattle.wp_lengths.proofs.KeptLengths.{kept_in_part}
use Rattle.wp_lengths.proofs.wave.Wave.keep_parts.Goals as goal

pub returns : goal.returns
returns g c = λ place d within.
    let part = (c.for_each_chunk_mut.ensures.by_index place d (omega (arith, within, c.for_each_chunk_mut.auto.s))).1 in
    kept_in_part c.args.self.now part.after_call.now _ part.offset _ d part.call.0 part.call.1 part.offset_in_chunk part.new_element
