use Rattle.std.proofs.Common.{◌≡◌, ◌∙◌, All, ap, codes, length, refl, subst, sym}
use Rattle.wp_model.specs.Tables.{IsReadOpening}
use Rattle.wp_top.proofs.Output.{refills_after}
use Rattle.wp_top.proofs.Taken.{IsWithin}
use Rattle.std.proofs.lemmas.Result.{IfErr-weaker, IfOk-weaker, err_from_is_err_and}
use Rattle.wp_model.specs.Journal.{line}
use Rattle.wp_model.specs.Opening.{Opening, Stock}
use Rattle.wp_planner.specs.Crews.{crew_text}
use Rattle.wp_sheets.specs.StockLines.{refill_lines}
use Rattle.wp_top.proofs.SectionTexts.{lines_fail, lines_then, lines_then_fail, told_section}
use Rattle.wp_top.specs.Sections.{crew_and_end, refills_section}
use Rattle.wp_top.proofs.written.write_refills.Goals as goal

pub returns-in_err-write_section-clause-fails : goal.returns-in_err-write_section-clause-fails
returns-in_err-write_section-clause-fails g c =
    let p = err_from_is_err_and c.from_residual.result c.from_residual.ensures.1 in
    let day = c.args.day.now in
    let history = day.run.now.machine in
    let stock : history.opening.stock ≡ c.stock.result.now = ap (λ (o : Opening). o.stock) day.own ∙ sym c.stock.ensures.stock in
    let told : day.run.now.refills.items ≡ c.as_slice.result.now = sym c.as_slice.ensures.value in
    rw (p.1, p.2)
    (lines_fail (refill_lines c.stock.result.now) c.as_slice.result.now _ (line (codes "refills")) (line (codes "end refills"))
    (refills_section history.opening.stock day.run.now.refills.items) (crew_and_end history (crew_text day.crew.now)) c.args.waiting.now.items _ _ _ refl
    (told_section _ _ _ _ stock told) c.in_err-write_section.ensures.fails)

pub returns-clause-writes : goal.returns-clause-writes
returns-clause-writes g c =
    let day = c.args.day.now in
    let history = day.run.now.machine in
    let stock : history.opening.stock ≡ c.stock.result.now = ap (λ (o : Opening). o.stock) day.own ∙ sym c.stock.ensures.stock in
    let told : day.run.now.refills.items ≡ c.as_slice.result.now = sym c.as_slice.ensures.value in
    IfOk-weaker c.write_crew.result _ _
    (λ done rest. lines_then (refill_lines c.stock.result.now) c.as_slice.result.now _ (line (codes "refills")) (line (codes "end refills"))
    (refills_section history.opening.stock day.run.now.refills.items) (crew_and_end history (crew_text day.crew.now)) c.args.waiting.now.items _ _ _ _ _ refl
    (told_section _ _ _ _ stock told) c.in_ok-write_section.ensures.writes rest)
    c.write_crew.ensures.writes

pub returns-clause-fails : goal.returns-clause-fails
returns-clause-fails g c =
    let day = c.args.day.now in
    let history = day.run.now.machine in
    let stock : history.opening.stock ≡ c.stock.result.now = ap (λ (o : Opening). o.stock) day.own ∙ sym c.stock.ensures.stock in
    let told : day.run.now.refills.items ≡ c.as_slice.result.now = sym c.as_slice.ensures.value in
    IfErr-weaker c.write_crew.result _ _
    (λ fault rest. lines_then_fail (refill_lines c.stock.result.now) c.as_slice.result.now _ (line (codes "refills")) (line (codes "end refills"))
    (refills_section history.opening.stock day.run.now.refills.items) (crew_and_end history (crew_text day.crew.now)) c.args.waiting.now.items _ _ _ _ _ refl
    (told_section _ _ _ _ stock told) c.in_ok-write_section.ensures.writes rest)
    c.write_crew.ensures.fails

pub write_section-requires-clause-ready : goal.write_section-requires-clause-ready
write_section-requires-clause-ready g c =
    let day = c.args.day.now in
    let history = day.run.now.machine in
    let stock : history.opening.stock ≡ c.stock.result.now = ap (λ (o : Opening). o.stock) day.own ∙ sym c.stock.ensures.stock in
    let told : day.run.now.refills.items ≡ c.as_slice.result.now = sym c.as_slice.ensures.value in
    subst (λ (s : Stock). All (IsWithin (length s.rows)) c.as_slice.result.now) stock
    (subst (All (IsWithin (length history.opening.stock.rows))) (sym c.requires.told.2.refills ∙ told)
    (refills_after c.requires.told.1 history (subst IsReadOpening (sym day.own) c.stock.ensures.read) c.requires.told.2.goes_on))
