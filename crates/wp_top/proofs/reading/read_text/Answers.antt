use Rattle.std.proofs.Common.{◌∙◌, ap, refl, Err}
use Rattle.wp_top.proofs.LongTexts.{long_not_memory, long_text}
use Rattle.wp_top.proofs.reading.read_text.Goals as goal

pub returns-in-Err-TooLong-clause-stops : goal.returns-in-Err-TooLong-clause-stops
returns-in-Err-TooLong-clause-stops g c =
    let was = c.in-Err-TooLong.is ∙ ap Err c.in-Err-TooLong.field-0-is in
    let long = long_text (g.F.Files.told c.args.files.now).holds c.args.name.now _ (c.read.ensures.too_long was) in
    rw c.too_long-in-Err-TooLong.ensures (refl, c.read.ensures.once (long_not_memory c.read.result was), long.0, long.1, long.2)
