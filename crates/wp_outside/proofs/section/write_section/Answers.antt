use Rattle.std.proofs.Common.{refl, ◌++◌}
use Rattle.std.proofs.lemmas.Result.{IfErr-weaker, on_ok_weaker}
use Rattle.wp_outside.proofs.Steps.{Fails-before, Fails-then, Writes-then, passed_on}
use Rattle.wp_outside.proofs.SectionTexts.{parts_text}
use Rattle.wp_outside.proofs.section.write_section.Goals as goal

pub returns-in_err-write_behind-clause-fails : goal.returns-in_err-write_behind-clause-fails
returns-in_err-write_behind-clause-fails g c =
    let told = g.K.Sink.told in
    let section = c.args.section.now in
    let waited = c.args.waiting.now.items in
    let fault = c.in_err-write_behind.field-0.0 in
    let middle = parts_text (g.P.Parts.says section.parts.now) (g.P.Parts.count section.parts.now) c.requires.any in
    passed_on c.from_residual.result fault _ c.from_residual.ensures.1 (
      section.heading.now ++ middle.0 ++ section.ending.now,
      (middle.0, middle.1, refl),
      Fails-before fault (told c.args.out.now) (told c.write_behind.new.out) waited (section.heading.now ++ middle.0) section.ending.now
          (Fails-before fault (told c.args.out.now) (told c.write_behind.new.out) waited section.heading.now middle.0 c.in_err-write_behind.ensures.fails),
    )

pub returns-in_err-write_parts-clause-fails : goal.returns-in_err-write_parts-clause-fails
returns-in_err-write_parts-clause-fails g c =
    let told = g.K.Sink.told in
    let section = c.args.section.now in
    let waited = c.args.waiting.now.items in
    let fault = c.in_err-write_parts.field-0.0 in
    let middle = c.in_err-write_parts.ensures.fails in
    passed_on c.from_residual-in_err-write_parts.result fault _ c.from_residual-in_err-write_parts.ensures.1 (
      section.heading.now ++ middle.0 ++ section.ending.now,
      (middle.0, middle.1, refl),
      Fails-before fault (told c.args.out.now) (told c.write_parts.new.out) waited (section.heading.now ++ middle.0) section.ending.now
          (Fails-then fault (told c.args.out.now) (told c.write_behind.new.out) (told c.write_parts.new.out) waited c.write_behind.new.waiting.items
          section.heading.now middle.0 c.in_ok-write_behind.ensures.writes middle.2),
    )

pub returns-clause-writes : goal.returns-clause-writes
returns-clause-writes g c =
    let told = g.K.Sink.told in
    let section = c.args.section.now in
    let waited = c.args.waiting.now.items in
    let middle = c.in_ok-write_parts.ensures.writes in
    let so_far = Writes-then (told c.args.out.now) (told c.write_behind.new.out) (told c.write_parts.new.out) waited c.write_behind.new.waiting.items
    c.write_parts.new.waiting.items section.heading.now middle.0 c.in_ok-write_behind.ensures.writes middle.2 in
    on_ok_weaker c.write_behind-2.result (λ last. (
      section.heading.now ++ middle.0 ++ section.ending.now,
      (middle.0, middle.1, refl),
      Writes-then (told c.args.out.now) (told c.write_parts.new.out) (told c.write_behind-2.new.out) waited c.write_parts.new.waiting.items
          c.write_behind-2.new.waiting.items (section.heading.now ++ middle.0) section.ending.now so_far last,
    )) c.write_behind-2.ensures.writes

pub returns-clause-fails : goal.returns-clause-fails
returns-clause-fails g c =
    let told = g.K.Sink.told in
    let section = c.args.section.now in
    let waited = c.args.waiting.now.items in
    let middle = c.in_ok-write_parts.ensures.writes in
    let so_far = Writes-then (told c.args.out.now) (told c.write_behind.new.out) (told c.write_parts.new.out) waited c.write_behind.new.waiting.items
    c.write_parts.new.waiting.items section.heading.now middle.0 c.in_ok-write_behind.ensures.writes middle.2 in
    IfErr-weaker c.write_behind-2.result _ _ (λ fault last. (
      section.heading.now ++ middle.0 ++ section.ending.now,
      (middle.0, middle.1, refl),
      Fails-then fault (told c.args.out.now) (told c.write_parts.new.out) (told c.write_behind-2.new.out) waited c.write_parts.new.waiting.items
          (section.heading.now ++ middle.0) section.ending.now so_far last,
    )) c.write_behind-2.ensures.fails
