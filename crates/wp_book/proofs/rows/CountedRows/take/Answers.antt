use Rattle.std.proofs.Common.{refl, ap, length, arith}
use Rattle.wp_model.specs.Change.{take_units}
use Rattle.wp_book.proofs.FreeCounts.{count_kept, row_read}
use Rattle.wp_book.proofs.RowChanges.{write_is_change}
use Rattle.wp_book.proofs.RowIndex.{index_kept}
use Rattle.wp_book.proofs.rows.CountedRows.take.Goals as goal

pub invariant_of-self : goal.invariant_of-self
invariant_of-self c =
    let rows = c.self.inside.rows.items in
    let r = c.index_mut-row.result.now in
    let there = row_read rows c.args.row r (omega (arith, ap length c.self.view_is, c.requires.row)) c.index_mut-row.ensures.value in
    record {
      counted = count_kept rows c.self.inside.free.items c.args.row r (take_units c.args.units r) c.self.invariant.counted there refl refl;
      indexed = index_kept rows c.self.inside.index.ends.items c.self.inside.index.numbers.items c.args.row r (take_units c.args.units r)
          c.self.invariant.indexed there refl;
    }

pub returns : goal.returns
returns c = write_is_change (take_units c.args.units) c.self.inside.rows.items c.args.self.now c.args.row c.index_mut-row.result.now c.requires.row
    c.index_mut-row.ensures.value c.self.view_is
