use Rattle.wp_master.proofs.Runs.{found_row_leaves, next_is_reached, reached_is_whole, row_is_found}
use Rattle.wp_master.proofs.run.Run.turned.Goals as goal

pub unwrap-row-requires : goal.unwrap-row-requires
unwrap-row-requires c = row_is_found c.args.pool.now c.args.self.table c.args.self.basis.items c.args.place c.len.result c.in_ok-leaving_row.field-0
    c.requires.reached c.requires.covered c.requires.rising c.len.ensures.value c.in_ok-leaving_row.ensures.is

pub pivot-requires-clause-whole : goal.pivot-requires-clause-whole
pivot-requires-clause-whole c = reached_is_whole c.args.pool.now c.args.self.table c.args.self.basis.items c.unwrap-row.result c.args.place c.requires.reached
    c.requires.rising (found_row_leaves c.args.pool.now c.args.self.table c.args.place c.len.result c.unwrap-row.result c.in_ok-leaving_row.field-0
    c.len.ensures.value c.unwrap-row.ensures c.in_ok-leaving_row.ensures.is)

pub returns-clause-next : goal.returns-clause-next
returns-clause-next c = λ made is. next_is_reached c.args.pool.now made c.args.self.table c.in_ok-table.table c.args.self.basis.items c.unwrap-row.result
    c.args.place is c.requires.rising (found_row_leaves c.args.pool.now c.args.self.table c.args.place c.len.result c.unwrap-row.result
    c.in_ok-leaving_row.field-0 c.len.ensures.value c.unwrap-row.ensures c.in_ok-leaving_row.ensures.is) c.in_ok-table.ensures.made
