use Rattle.std.proofs.Common.{◌<◌, ap, List, length, arith}
use Rattle.wp_model.specs.declared.row.Row.{Row}
use Rattle.wp_book.specs.ArticleRows.{rows_before, rows_of}
use Rattle.wp_book.proofs.RowIndex.{place_found, row_there}
use Rattle.wp_book.proofs.rows.CountedRows.place.Goals as goal

pub overflow_add-start : goal.overflow_add-start
overflow_add-start c =
    let rows = c.self.inside.rows.items in
    let below : c.args.k < length (rows_of c.args.article rows) =
    omega (arith, c.requires, ap (λ (rows : List Row). length (rows_of c.args.article rows)) c.self.view_is) in
    let there = row_there rows c.self.inside.index.ends.items c.self.inside.index.numbers.items c.args.article c.args.k c.self.invariant.indexed below in
    omega (arith, c.start.ensures, ap (λ (rows : List Row). rows_before rows c.args.article) c.self.view_is, there.1.fits, c.self.invariant.counted.few)

pub index-requires : goal.index-requires
index-requires c =
    let rows = c.self.inside.rows.items in
    let below : c.args.k < length (rows_of c.args.article rows) =
    omega (arith, c.requires, ap (λ (rows : List Row). length (rows_of c.args.article rows)) c.self.view_is) in
    let there = row_there rows c.self.inside.index.ends.items c.self.inside.index.numbers.items c.args.article c.args.k c.self.invariant.indexed below in
    omega (arith, c.start.ensures, ap (λ (rows : List Row). rows_before rows c.args.article) c.self.view_is, there.1.within)

pub returns : goal.returns
returns c =
    place_found c.self.inside.rows.items c.args.self.now c.self.inside.index.ends.items c.self.inside.index.numbers.items c.args.article c.args.k c.start.result
    c.index.result.now c.index.result.now c.self.invariant.indexed c.self.view_is c.requires c.start.ensures c.index.ensures
