use Rattle.std.proofs.Common.{◌+◌, refl, arith}
use Rattle.csv.specs.Records.{fields_of}
use Rattle.wp_tables.proofs.RecordsLeft.{nothing_left, took}
use Rattle.wp_tables.proofs.records.Records.read.Goals as goal

pub returns-then-not-found-clause-end : goal.returns-then-not-found-clause-end
returns-then-not-found-clause-end c _ =
    let read = rw c.if-not-found.true at (c.in-Ok.ensures.reads c.requires.trim c.requires.ready) in
    nothing_left c.args.self.now (record { reader = c.read_byte_record.new.self; number = c.args.self.now.number })
    (fields_of c.read_byte_record.new.row) c.requires read

pub returns-clause-taken : goal.returns-clause-taken
returns-clause-taken c _ =
    let read = rw c.if-not-found.false at (c.in-Ok.ensures.reads c.requires.trim c.requires.ready) in
    took c.args.self.now (record { reader = c.read_byte_record.new.self; number = c.args.self.now.number + 1 })
    (fields_of c.read_byte_record.new.row) c.requires read c.in-Ok.ensures.flexible (c.in-Ok.ensures.ready c.requires.trim) refl

pub overflow_add-self : goal.overflow_add-self
overflow_add-self c =
    let read = rw c.if-not-found.false at (c.in-Ok.ensures.reads c.requires.trim c.requires.ready) in
    let taken = took c.args.self.now (record { reader = c.read_byte_record.new.self; number = c.args.self.now.number + 1 })
    (fields_of c.read_byte_record.new.row) c.requires read c.in-Ok.ensures.flexible (c.in-Ok.ensures.ready c.requires.trim) refl in
    omega (arith, taken.shorter, c.requires.few)
