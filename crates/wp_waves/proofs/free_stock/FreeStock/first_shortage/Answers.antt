use Rattle.std.proofs.Common.{◌∙◌, sym, arith, subst, length}
use Rattle.std.proofs.lemmas.Option.{slice_get-get_or}
use Rattle.wp_model.specs.declared.row.Line.{Line}
use Rattle.wp_waves.specs.Shortages.{IsFirstAmong}
use Rattle.wp_waves.specs.Turns.{lines_demand, units_free}
use Rattle.wp_waves.proofs.Shortages.{short_from_all, shortage_is}
use Rattle.wp_waves.proofs.free_stock.FreeStock.first_shortage.Goals as goal

abbrev none : Line
none = record { article = 0; quantity = 0 }

pub loop-line-preserved : goal.loop-line-preserved
loop-line-preserved c =
    let there = slice_get-get_or c.args.lines.now c.loop-line.line-index none c.loop-line-test.true in
    c.earlier-first.ensures c.args.lines.now (units_free c.args.self.now) c.loop-line.line-index _ there c.loop-line.invariant c.shortage_at.ensures

pub returns : goal.returns
returns c =
    let articles = length c.args.self.now.units.items in
    let lines = c.args.lines.now in
    let free = units_free c.args.self.now in
    shortage_is articles (lines_demand lines) free c.loop-line.first
    (short_from_all articles lines free c.loop-line.first c.requires.within
    (subst (λ n. IsFirstAmong lines free n c.loop-line.first) (omega arith) c.loop-line.invariant))
