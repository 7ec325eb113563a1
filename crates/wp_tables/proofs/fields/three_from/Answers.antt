use Rattle.std.proofs.Common.{sym, ap, arith}
use Rattle.csv.specs.Records.{fields_of}
use Rattle.wp_tables.specs.Fields.{three_of}
use Rattle.wp_tables.proofs.ByPlace.{not_three_left, three_left}
use Rattle.wp_tables.proofs.fields.three_from.Goals as goal

pub returns-then-len-at-ne3 : goal.returns-then-len-at-ne3
returns-then-len-at-ne3 c = sym (not_three_left (fields_of c.args.fields.now) c.args.at (λ e. omega (arith, c.if-len-at-ne3.true, c.len.ensures)))

pub returns : goal.returns
returns c =
    ap three_of (sym (three_left (fields_of c.args.fields.now) c.args.at c.field_of.result.now c.field_of-2.result.now c.field_of-3.result.now
    (omega arith) c.requires
    c.field_of.ensures c.field_of-2.ensures c.field_of-3.ensures))
