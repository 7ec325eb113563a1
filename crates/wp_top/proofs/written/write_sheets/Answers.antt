use Rattle.std.proofs.Common.{refl, subst, sym}
use Rattle.wp_top.proofs.SectionTexts.{sheets_there}
use Rattle.wp_planner.specs.Crews.{crew_text}
use Rattle.wp_planner.specs.Sent.{ArePlanned}
use Rattle.std.proofs.lemmas.Result.{IfErr-weaker, IfOk-weaker, err_from_is_err_and}
use Rattle.wp_top.proofs.DayWriting.{sheets_fail, sheets_then, sheets_then_fail}
use Rattle.wp_top.specs.Sections.{refills_and_end}
use Rattle.wp_top.proofs.written.write_sheets.Goals as goal

pub returns-in_err-write_section-clause-fails : goal.returns-in_err-write_section-clause-fails
returns-in_err-write_section-clause-fails g c =
    let p = err_from_is_err_and c.from_residual.result c.from_residual.ensures.1 in
    let run = c.args.day.now.run.now in
    rw (p.1, p.2)
    (sheets_fail run.machine c.args.day.now.terms.now c.as_slice.result.now run.plans.items _
    (refills_and_end run.machine run.refills.items (crew_text c.args.day.now.crew.now)) c.args.waiting.now.items _ _ _
    refl c.as_slice.ensures.value c.in_err-write_section.ensures.fails)

pub returns-clause-writes : goal.returns-clause-writes
returns-clause-writes g c =
    let run = c.args.day.now.run.now in
    IfOk-weaker c.write_refills.result _ _
    (λ done rest. sheets_then run.machine c.args.day.now.terms.now c.as_slice.result.now run.plans.items _
    (refills_and_end run.machine run.refills.items (crew_text c.args.day.now.crew.now))
    c.args.waiting.now.items _ _ _ _ _ refl c.as_slice.ensures.value c.in_ok-write_section.ensures.writes rest)
    c.write_refills.ensures.writes

pub returns-clause-fails : goal.returns-clause-fails
returns-clause-fails g c =
    let run = c.args.day.now.run.now in
    IfErr-weaker c.write_refills.result _ _
    (λ fault rest. sheets_then_fail run.machine c.args.day.now.terms.now c.as_slice.result.now run.plans.items _
    (refills_and_end run.machine run.refills.items (crew_text c.args.day.now.crew.now))
    c.args.waiting.now.items _ _ _ _ _ refl c.as_slice.ensures.value c.in_ok-write_section.ensures.writes rest)
    c.write_refills.ensures.fails

pub write_section-requires-clause-any : goal.write_section-requires-clause-any
write_section-requires-clause-any g c =
    let told = c.requires.told in
    let run = c.args.day.now.run.now in
    sheets_there told.0 run.machine c.args.day.now.terms.now c.as_slice.result.now _ refl
    (subst (ArePlanned told.0 run.machine.opening c.args.day.now.terms.now) (sym c.as_slice.ensures.value) told.2.planned)
