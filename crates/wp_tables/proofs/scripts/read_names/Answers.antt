use Rattle.std.proofs.Common.{◌∙◌, ◌+◌, ap, sym, drop, arith}
use Rattle.std.proofs.lemmas.Result.{err_from_is_err_and}
use Rattle.csv.specs.Records.{fields_of}
use Rattle.wp_tables.specs.DeskFile.{names_read}
use Rattle.wp_tables.proofs.ByPlace.{drop_got}
use Rattle.wp_tables.proofs.Arguments.{names_fault, names_more, names_then}
use Rattle.wp_tables.proofs.scripts.read_names.Goals as goal

pub returns-in_err-name-clause-names : goal.returns-in_err-name-clause-names
returns-in_err-name-clause-names c =
    let p = err_from_is_err_and c.from_residual.result c.from_residual.ensures.1 in
    let fields = fields_of c.args.fields.now in
    let cons = drop_got fields c.loop-i.i c.field_of.result.now c.field_of.ensures in
    let fault = names_fault c.loop-i.names.items (drop (c.loop-i.i + 1) fields) c.field_of.result.now c.in_err-name.field-0.0 (sym c.in_err-name.ensures) in
    rw (p.1, p.2) (λ defined. c.loop-i.invariant.0 ∙ ap (λ xs. names_then c.loop-i.names.items (names_read xs)) cons ∙ fault)

pub loop-i-preserved : goal.loop-i-preserved
loop-i-preserved c =
    let fields = fields_of c.args.fields.now in
    let cons = drop_got fields c.loop-i.i c.field_of.result.now c.field_of.ensures in
    let more = names_more c.loop-i.names.items (drop (c.loop-i.i + 1) fields) c.field_of.result.now c.in_ok-name.name (sym c.in_ok-name.ensures) in (
      c.loop-i.invariant.0 ∙ ap (λ xs. names_then c.loop-i.names.items (names_read xs)) cons ∙ more
          ∙ ap (λ names. names_then names (names_read (drop (c.loop-i.i + 1) fields))) (sym c.in_ok-push.ensures.items),
      omega (arith, c.in_ok-push.ensures.len, c.loop-i.invariant.1),
    )
