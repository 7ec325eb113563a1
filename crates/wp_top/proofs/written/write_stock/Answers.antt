use Rattle.std.proofs.Common.{◌≡◌, ◌∙◌, ◌<◌, All, ap, codes, length, refl, subst, sym}
use Rattle.wp_model.specs.Tables.{IsReadOpening}
use Rattle.std.proofs.lemmas.Result.{IfErr-weaker, IfOk-weaker, err_from_is_err_and}
use Rattle.wp_model.specs.History.{state_after}
use Rattle.wp_model.specs.Journal.{line}
use Rattle.wp_model.specs.Opening.{Opening, Stock}
use Rattle.wp_sheets.specs.StockLines.{row_line}
use Rattle.wp_top.proofs.Output.{rows_after}
use Rattle.wp_top.proofs.SectionTexts.{lines_fail, lines_then, lines_then_fail}
use Rattle.wp_top.specs.Sections.{stock_section}
use Rattle.wp_top.proofs.written.write_stock.Goals as goal

pub returns-in_err-write_section-clause-fails : goal.returns-in_err-write_section-clause-fails
returns-in_err-write_section-clause-fails g c =
    let p = err_from_is_err_and c.from_residual.result c.from_residual.ensures.1 in
    let day = c.args.day.now in
    let rows = (state_after day.run.now.machine).rows in
    let stock : day.run.now.machine.opening.stock ≡ c.stock.result.now = ap (λ (o : Opening). o.stock) day.own ∙ sym c.stock.ensures.stock in
    rw (p.1, p.2)
    (lines_fail (row_line c.stock.result.now) rows _ (line (codes "stock")) (line (codes "end stock")) (stock_section day.run.now.machine.opening.stock rows)
    (line (codes "end")) c.args.waiting.now.items _ _ _ refl (ap (λ (s : Stock). stock_section s rows) stock) c.in_err-write_section.ensures.fails)

pub returns-clause-writes : goal.returns-clause-writes
returns-clause-writes g c =
    let day = c.args.day.now in
    let rows = (state_after day.run.now.machine).rows in
    let stock : day.run.now.machine.opening.stock ≡ c.stock.result.now = ap (λ (o : Opening). o.stock) day.own ∙ sym c.stock.ensures.stock in
    IfOk-weaker c.write_rest.result _ _
    (λ done rest. lines_then (row_line c.stock.result.now) rows _ (line (codes "stock")) (line (codes "end stock"))
    (stock_section day.run.now.machine.opening.stock rows) (line (codes "end")) c.args.waiting.now.items _ _ _ _ _ refl
    (ap (λ (s : Stock). stock_section s rows) stock) c.in_ok-write_section.ensures.writes rest)
    c.write_rest.ensures.writes

pub returns-clause-fails : goal.returns-clause-fails
returns-clause-fails g c =
    let day = c.args.day.now in
    let rows = (state_after day.run.now.machine).rows in
    let stock : day.run.now.machine.opening.stock ≡ c.stock.result.now = ap (λ (o : Opening). o.stock) day.own ∙ sym c.stock.ensures.stock in
    IfErr-weaker c.write_rest.result _ _
    (λ fault rest. lines_then_fail (row_line c.stock.result.now) rows _ (line (codes "stock")) (line (codes "end stock"))
    (stock_section day.run.now.machine.opening.stock rows) (line (codes "end")) c.args.waiting.now.items _ _ _ _ _ refl
    (ap (λ (s : Stock). stock_section s rows) stock) c.in_ok-write_section.ensures.writes rest)
    c.write_rest.ensures.fails

pub write_section-requires-clause-ready : goal.write_section-requires-clause-ready
write_section-requires-clause-ready g c =
    let day = c.args.day.now in
    let history = day.run.now.machine in
    let stock : history.opening.stock ≡ c.stock.result.now = ap (λ (o : Opening). o.stock) day.own ∙ sym c.stock.ensures.stock in
    subst (λ (s : Stock). All (λ row. row.article < length s.articles) (state_after history).rows) stock
    (rows_after history (subst IsReadOpening (sym day.own) c.stock.ensures.read))
