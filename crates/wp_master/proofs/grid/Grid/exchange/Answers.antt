use Rattle.std.proofs.Common.{rules, ◌<◌, ◌+◌, sym, subst}
use Rattle.std.proofs.lemmas.Result.{err_from_is_err_and}
use Rattle.wp_master.specs.Exchanges.{AreExchanged}
use Rattle.wp_master.specs.Pivots.{Table}
use Rattle.wp_master.proofs.Exchanges.{row_is_whole, row_is_wide, row_left_out, rows_more}
use Rattle.wp_master.proofs.grid.Grid.exchange.Goals as goal
use Rattle.wp_master.proofs.grid.Grid.exchange.Goals.{then-i-row+in_ok-exchange_row, else-i-row}

pub exchange_row-requires-clause-whole : goal.exchange_row-requires-clause-whole
exchange_row-requires-clause-whole c =
    let low : c.loop-i.i < c.args.self.now.rows = search rules in
    row_is_whole c.args.self.now c.loop-i.self c.args.row c.args.place c.loop-i.i c.loop-i.invariant c.requires.whole low c.requires.place c.if-i-row.true

pub returns-in_err-exchange_row-clause-wide : goal.returns-in_err-exchange_row-clause-wide
returns-in_err-exchange_row-clause-wide c =
    let low : c.loop-i.i < c.args.self.now.rows = search rules in
    let p = err_from_is_err_and c.from_residual.result c.from_residual.ensures.1 in
    rw (p.1, p.2) (row_is_wide c.args.self.now c.loop-i.self c.args.row c.args.place c.loop-i.i _ _ c.loop-i.invariant low c.requires.row c.requires.place
    c.in_err-exchange_row.ensures.wide)

pub loop-i-preserved : goal.loop-i-preserved
loop-i-preserved c =
    let low : c.loop-i.i < c.args.self.now.rows = search rules in
    elim c.if-i-row.branch [
      | then-i-row+in_ok-exchange_row w ↦ subst (λ (t : Table). AreExchanged c.args.self.now t c.args.row c.args.place (c.loop-i.i + 1)) (sym w.self-is)
          (rows_more c.args.self.now c.loop-i.self _ c.args.row c.args.place c.loop-i.i low c.requires.place w.if-i-row.true c.loop-i.invariant
          w.in_ok-exchange_row.ensures.exchanged)
      | else-i-row w ↦ subst (λ (t : Table). AreExchanged c.args.self.now t c.args.row c.args.place (c.loop-i.i + 1)) (sym w.self-is)
          (row_left_out c.args.self.now c.loop-i.self c.args.row c.args.place c.loop-i.i w.if-i-row.false c.loop-i.invariant)
    ]
