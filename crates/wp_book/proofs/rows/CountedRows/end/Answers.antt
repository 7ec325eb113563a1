use Rattle.std.proofs.Common.{sym, ap, suc, ◌≤◌, List, length, arith}
use Rattle.std.proofs.lemmas.Bool.{ltb-false}
use Rattle.wp_model.specs.declared.row.Row.{Row}
use Rattle.wp_book.specs.ArticleRows.{rows_before}
use Rattle.wp_book.proofs.rows.CountedRows.end.Goals as goal

pub returns-in-None : goal.returns-in-None
returns-in-None c =
    let ends = c.self.inside.index.ends.items in
    let past : length ends ≤ c.args.article = omega (
      arith,
      ltb-false c.args.article (length c.deref.result.now) (sym c.in-None.ensures.lookup.0),
      ap length c.deref.ensures.value,
    ) in
    omega (
      arith,
      c.len.ensures,
      ap length c.self.view_is,
      ap (λ (rows : List Row). rows_before rows (suc c.args.article)) c.self.view_is,
      c.self.invariant.indexed.all (suc c.args.article) (omega (arith, past)),
    )
