use Rattle.std.proofs.Common.{◌∙◌, ap}
use Rattle.wp_store.specs.Records.{records_of}
use Rattle.wp_store.proofs.Told.{told_after}
use Rattle.wp_store.proofs.opened.Store.append.Goals as goal

pub append_at-requires-clause-settled : goal.append_at-requires-clause-settled
append_at-requires-clause-settled g c bytes told = c.args.self.now.settled c.if-self.false bytes told

pub returns-clause-acknowledged : goal.returns-clause-acknowledged
returns-clause-acknowledged g c bytes told image now =
    let after = told_after _ _ bytes c.append_at.ensures.course.told told in
    ap records_of ((c.in_ok-append_at.ensures.settled after.bytes after.told).durable image now) ∙ c.in_ok-append_at.ensures.stored bytes told after.bytes
    after.told
