use Rattle.std.proofs.Common.{refl}
use Rattle.std.proofs.lemmas.Result.{IfErr-weaker, IfOk-weaker}
use Rattle.wp_waves_top.proofs.Outputs.{output_is, stops_after}
use Rattle.wp_waves_top.proofs.output.waves_output.Goals as goal
use Rattle.wp_waves_words.specs.Reading.{waves_names}

pub returns-clause-output : goal.returns-clause-output
returns-clause-output g c =
    let told = g.F.Files.told in
    let names = waves_names c.args.words.now in
    let read = c.in_ok-warehouse.ensures in
    let said = rw (c.as_str.ensures.value, c.as_str-2.ensures.value, c.as_str-3.ensures.value) at read.said in
    IfOk-weaker c.output_of.result _ _
    (λ text is. (
      names,
      refl,
      output_is names c.in_ok-warehouse.warehouse.layout c.in_ok-warehouse.warehouse.opening (told c.args.files.now)
          (told c.read_warehouse.new.files) (told c.output_of.new.files) text.items
          (record { tables = record { said = said; units = read.units }; same = read.same; counts = read.counts; reads = read.all }) is,
    ))
    c.output_of.ensures.output

pub returns-clause-stops : goal.returns-clause-stops
returns-clause-stops g c =
    let told = g.F.Files.told in
    let names = waves_names c.args.words.now in
    let read = c.in_ok-warehouse.ensures in
    let said = rw (c.as_str.ensures.value, c.as_str-2.ensures.value, c.as_str-3.ensures.value) at read.said in
    IfErr-weaker c.output_of.result _ _
    (λ why is. stops_after names c.in_ok-warehouse.warehouse.layout c.in_ok-warehouse.warehouse.opening (told c.args.files.now)
    (told c.read_warehouse.new.files) (told c.output_of.new.files) why
    (record { tables = record { said = said; units = read.units }; same = read.same; counts = read.counts; reads = read.all }) is)
    c.output_of.ensures.stops
