use Rattle.std.proofs.Common.{◌∙◌, sym, ap}
use Rattle.std.specs.Option.{option_map}
use Rattle.csv.specs.Records.{fields_of}
use Rattle.wp_tables.proofs.ByPlace.{field_at_is, got_there}
use Rattle.wp_tables.proofs.fields.field_of.Goals as goal

pub unwrap-requires : goal.unwrap-requires
unwrap-requires c =
    got_there _ c.get.result (fields_of c.args.fields.now) c.args.i (c.get.ensures.value ∙ field_at_is (fields_of c.args.fields.now) c.args.i) c.requires

pub returns : goal.returns
returns c = sym (field_at_is (fields_of c.args.fields.now) c.args.i) ∙ (sym c.get.ensures.value ∙ ap (option_map (λ s. s.now)) c.unwrap.ensures)
