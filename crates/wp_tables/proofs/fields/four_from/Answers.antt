use Rattle.std.proofs.Common.{sym, ap, arith}
use Rattle.csv.specs.Records.{fields_of}
use Rattle.wp_tables.specs.Fields.{four_of}
use Rattle.wp_tables.proofs.ByPlace.{not_four_left, four_left}
use Rattle.wp_tables.proofs.fields.four_from.Goals as goal

pub returns-then-len-at-ne4 : goal.returns-then-len-at-ne4
returns-then-len-at-ne4 c = sym (not_four_left (fields_of c.args.fields.now) c.args.at (λ e. omega (arith, c.if-len-at-ne4.true, c.len.ensures)))

pub returns : goal.returns
returns c =
    ap four_of (sym (four_left (fields_of c.args.fields.now) c.args.at c.field_of.result.now c.field_of-2.result.now c.field_of-3.result.now
    c.field_of-4.result.now (omega arith) c.requires
    c.field_of.ensures c.field_of-2.ensures c.field_of-3.ensures c.field_of-4.ensures))
