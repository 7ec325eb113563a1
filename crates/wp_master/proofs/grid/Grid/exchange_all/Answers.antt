use Rattle.std.proofs.Common.{rules, ◌<◌}
use Rattle.std.proofs.lemmas.Result.{err_from_is_err_and}
use Rattle.wp_master.proofs.Exchanges.{factors_more, factors_whole, factors_wide}
use Rattle.wp_master.proofs.grid.Grid.exchange_all.Goals as goal

pub exchange_entry-requires-clause-whole : goal.exchange_entry-requires-clause-whole
exchange_entry-requires-clause-whole c =
    let known : c.loop-j.j < c.args.self.now.width = search rules in
    factors_whole c.args.self.now c.loop-j.self c.args.row c.args.i c.loop-j.j c.args.by.now c.loop-j.invariant known c.requires.other c.requires.by
    c.requires.whole

pub returns-in_err-exchange_entry-clause-wide : goal.returns-in_err-exchange_entry-clause-wide
returns-in_err-exchange_entry-clause-wide c =
    let known : c.loop-j.j < c.args.self.now.width = search rules in
    let p = err_from_is_err_and c.from_residual.result c.from_residual.ensures.1 in
    rw (p.1, p.2) (factors_wide c.args.self.now c.loop-j.self c.args.row c.args.i c.loop-j.j c.args.by.now _ _ c.loop-j.invariant known c.requires.other
    c.requires.by c.in_err-exchange_entry.ensures.wide)

pub loop-j-preserved : goal.loop-j-preserved
loop-j-preserved c =
    let known : c.loop-j.j < c.args.self.now.width = search rules in
    factors_more c.args.self.now c.loop-j.self c.exchange_entry.new.self c.args.row c.args.i c.loop-j.j c.args.by.now c.loop-j.invariant known c.requires.other
    c.requires.by c.in_ok-exchange_entry.ensures.exchanged
