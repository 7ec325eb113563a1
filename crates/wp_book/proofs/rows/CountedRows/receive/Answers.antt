use Rattle.std.proofs.Common.{refl, ap, sym, subst, ◌+◌, ◌<◌, ◌^◌, List, length, IfSome, slice_get, arith}
use Rattle.wp_model.proofs.Elements.{at_some}
use Rattle.wp_model.specs.Change.{receive_units}
use Rattle.wp_model.specs.declared.row.Row.{Row}
use Rattle.wp_book.proofs.FreeCounts.{read_bounded, recounted, was_read}
use Rattle.wp_book.proofs.RowChanges.{write_is_change}
use Rattle.wp_book.proofs.RowIndex.{index_kept}
use Rattle.wp_book.proofs.rows.CountedRows.receive.Goals as goal

pub overflow_add-index_mut : goal.overflow_add-index_mut
overflow_add-index_mut c =
    let rows = c.self.inside.rows.items in
    let free = c.self.inside.free.items in
    let r = c.index_mut-row.result.now in
    let read = was_read rows free c.args.row r c.index_mut.result.now c.self.invariant.counted
    (omega (arith, ap length c.self.view_is, c.requires.row)) c.index_mut-row.ensures.value c.index_mut.ensures.value in
    let bounded = read_bounded rows free c.args.row r c.index_mut.result.now read in
    omega (arith, c.from.ensures, bounded.most, c.ranges.units.fits)

pub invariant_of-self : goal.invariant_of-self
invariant_of-self c =
    let rows = c.self.inside.rows.items in
    let free = c.self.inside.free.items in
    let r = c.index_mut-row.result.now in
    let read = was_read rows free c.args.row r c.index_mut.result.now c.self.invariant.counted
    (omega (arith, ap length c.self.view_is, c.requires.row)) c.index_mut-row.ensures.value c.index_mut.ensures.value in
    let bounded = read_bounded rows free c.args.row r c.index_mut.result.now read in
    let allowed = at_some (slice_get rows c.args.row) _ r read.there
    (subst (λ (rows : List Row). IfSome (slice_get rows c.args.row) (λ r. (r.on_hand + c.args.units < 2 ^ 32) × (r.free + c.args.units < 2 ^ 32)))
    (sym c.self.view_is) c.requires.room) in
    record {
      counted = recounted rows free c.args.row r (receive_units c.args.units r) c.index_mut.result.now _ read refl
          (omega (arith, read.known.fits, allowed.0, allowed.1)) (omega (arith, c.from.ensures, bounded.least, allowed.0, allowed.1));
      indexed = index_kept rows c.self.inside.index.ends.items c.self.inside.index.numbers.items c.args.row r (receive_units c.args.units r)
          c.self.invariant.indexed read.there refl;
    }

pub returns : goal.returns
returns c = write_is_change (receive_units c.args.units) c.self.inside.rows.items c.args.self.now c.args.row c.index_mut-row.result.now c.requires.row
    c.index_mut-row.ensures.value c.self.view_is
