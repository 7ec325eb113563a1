use Rattle.std.proofs.Common.{◌+◌, ◌++◌, ◌<◌, arith}
use Rattle.wp_outside.proofs.Steps.{Fails-before, Fails-then, Writes-then, passed_on}
use Rattle.wp_outside.proofs.SectionTexts.{others_after, part_more}
use Rattle.wp_outside.proofs.section.write_parts.Goals as goal

pub returns-in_err-write_part-clause-fails : goal.returns-in_err-write_part-clause-fails
returns-in_err-write_part-clause-fails g c =
    let told = g.K.Sink.told in
    let Says = g.P.Parts.says c.args.parts.now in
    let count = g.P.Parts.count c.args.parts.now in
    let number = c.loop-number.number in
    let waited = c.args.waiting.now.items in
    let before = c.loop-number.invariant in
    let fault = c.in_err-write_part.field-0.0 in
    let here = c.in_err-write_part.ensures.fails in
    let below : number < count = omega (arith, c.loop-number-test.true, c.count-number-end.ensures) in
    let others = others_after Says (number + 1) count (before.0 ++ here.0) c.requires.any (omega arith)
    (part_more Says number before.0 here.0 before.1 here.1) in
    let failed = Fails-then fault (told c.args.out.now) (told c.loop-number.out) (told c.write_part.new.out) waited c.loop-number.waiting.items before.0
    here.0 before.2 here.2 in
    passed_on c.from_residual.result fault _ c.from_residual.ensures.1 (
      before.0 ++ here.0 ++ others.0,
      others.1,
      Fails-before fault (told c.args.out.now) (told c.write_part.new.out) waited (before.0 ++ here.0) others.0 failed,
    )

pub loop-number-preserved : goal.loop-number-preserved
loop-number-preserved g c =
    let told = g.K.Sink.told in
    let before = c.loop-number.invariant in
    let here = c.in_ok-write_part.ensures.writes in (
      before.0 ++ here.0,
      part_more (g.P.Parts.says c.args.parts.now) c.loop-number.number before.0 here.0 before.1 here.1,
      Writes-then (told c.args.out.now) (told c.loop-number.out) (told c.write_part.new.out) c.args.waiting.now.items c.loop-number.waiting.items
          c.write_part.new.waiting.items before.0 here.0 before.2 here.2,
    )
