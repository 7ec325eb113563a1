use Rattle.std.proofs.Common.{sym, ap, arith}
use Rattle.csv.specs.Records.{fields_of}
use Rattle.wp_tables.specs.Fields.{one_of}
use Rattle.wp_tables.proofs.ByPlace.{not_one_left, one_left}
use Rattle.wp_tables.proofs.fields.one_from.Goals as goal

pub returns-then-len-at-ne1 : goal.returns-then-len-at-ne1
returns-then-len-at-ne1 c = sym (not_one_left (fields_of c.args.fields.now) c.args.at (λ e. omega (arith, c.if-len-at-ne1.true, c.len.ensures)))

pub returns : goal.returns
returns c = ap one_of (sym (one_left (fields_of c.args.fields.now) c.args.at c.field_of.result.now (omega arith) c.requires c.field_of.ensures))
