use Rattle.std.proofs.Common.{[], ◌∷◌, refl}
use Rattle.std.proofs.lemmas.Result.{IfErr-weaker, IfOk-weaker, err_from_is_err_and}
use Rattle.wp_planner.specs.Crews.{crew_text}
use Rattle.wp_top.proofs.SectionTexts.{lines_fail, lines_then, lines_then_fail, one_text}
use Rattle.wp_top.specs.Sections.{stock_and_end}
use Rattle.wp_top.proofs.written.write_crew.Goals as goal

pub returns-in_err-write_section-clause-fails : goal.returns-in_err-write_section-clause-fails
returns-in_err-write_section-clause-fails g c =
    let p = err_from_is_err_and c.from_residual.result c.from_residual.ensures.1 in
    let crew = c.args.day.now.crew.now in
    rw (p.1, p.2)
    (lines_fail crew_text (crew ∷ []) _ [] [] (crew_text crew) (stock_and_end c.args.day.now.run.now.machine) c.args.waiting.now.items _ _ _ refl
    (one_text crew_text crew) c.in_err-write_section.ensures.fails)

pub returns-clause-writes : goal.returns-clause-writes
returns-clause-writes g c =
    let crew = c.args.day.now.crew.now in
    IfOk-weaker c.write_stock.result _ _
    (λ done rest. lines_then crew_text (crew ∷ []) _ [] [] (crew_text crew) (stock_and_end c.args.day.now.run.now.machine) c.args.waiting.now.items _ _ _ _ _
    refl (one_text crew_text crew) c.in_ok-write_section.ensures.writes rest)
    c.write_stock.ensures.writes

pub returns-clause-fails : goal.returns-clause-fails
returns-clause-fails g c =
    let crew = c.args.day.now.crew.now in
    IfErr-weaker c.write_stock.result _ _
    (λ fault rest. lines_then_fail crew_text (crew ∷ []) _ [] [] (crew_text crew) (stock_and_end c.args.day.now.run.now.machine) c.args.waiting.now.items _ _ _
    _ _ refl (one_text crew_text crew) c.in_ok-write_section.ensures.writes rest)
    c.write_stock.ensures.fails
