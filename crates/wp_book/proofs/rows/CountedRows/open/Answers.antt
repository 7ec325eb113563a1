use Rattle.std.proofs.Common.{◌∙◌, sym, ap, subst, List, All, map}
use Rattle.wp_model.specs.Sound.{IsBalanced}
use Rattle.wp_model.specs.State.{opening_row}
use Rattle.wp_model.specs.declared.row.Row.{Row}
use Rattle.wp_book.proofs.FreeBook.{balanced, known_articles}
use Rattle.wp_book.proofs.rows.CountedRows.open.Goals as goal

pub count_free-requires-clause-rows : goal.count_free-requires-clause-rows
count_free-requires-clause-rows c =
    let rows_are = c.deref.ensures.value ∙ (c.in_ok-rows.ensures ∙ ap (map opening_row) c.as_rows.ensures.rows) in
    subst (λ (rows : List Row). All IsBalanced rows) (sym rows_are) (balanced c.args.stock.now c.as_rows.ensures.read.rows)

pub count_free-requires-clause-known : goal.count_free-requires-clause-known
count_free-requires-clause-known c =
    let rows_are = c.deref.ensures.value ∙ (c.in_ok-rows.ensures ∙ ap (map opening_row) c.as_rows.ensures.rows) in
    known_articles c.args.stock.now c.deref.result.now c.articles.result c.as_rows.ensures.read.rows rows_are c.articles.ensures

pub index_rows-requires-clause-known : goal.index_rows-requires-clause-known
index_rows-requires-clause-known c =
    let rows_are = c.deref-2.ensures.value ∙ (c.in_ok-rows.ensures ∙ ap (map opening_row) c.as_rows.ensures.rows) in
    known_articles c.args.stock.now c.deref-2.result.now c.articles-2.result c.as_rows.ensures.read.rows rows_are c.articles-2.ensures
