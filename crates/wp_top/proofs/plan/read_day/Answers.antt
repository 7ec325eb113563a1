use Rattle.std.proofs.Common.{[], ◌∷◌, refl}
use Rattle.std.proofs.lemmas.Result.{err_from_is_err_and}
use Rattle.wp_top.proofs.FilesRead.{stops_among_more, stops_there}
use Rattle.wp_top.proofs.Jobs.{plan_files}
use Rattle.wp_top.proofs.plan.read_day.Goals as goal
use Rattle.wp_top.specs.Stops.{opening_files, tables_said}
use Rattle.wp_top.specs.Texts.{file_of, scripts_in}
use Rattle.wp_top.specs.declared.input.Input.TheVariants as input
use Rattle.wp_words.specs.Reading.{plan_names}

pub returns-in_err-warehouse-clause-stops : goal.returns-in_err-warehouse-clause-stops
returns-in_err-warehouse-clause-stops g c =
    let told = g.F.Files.told in
    let names = plan_names c.args.words.now in
    let p = err_from_is_err_and c.from_residual.result c.from_residual.ensures.1 in
    rw (p.1, p.2)
    (stops_among_more (told c.args.files.now) (told c.read_warehouse.new.files) (opening_files names.layout names.stock names.orders)
    (file_of input.Desks names.desks ∷ [])
    c.in_err-warehouse.field-0.0 (rw (c.as_str.ensures.value, c.as_str-2.ensures.value, c.as_str-3.ensures.value) at c.in_err-warehouse.ensures.stops))

pub returns-in_err-scripts-clause-stops : goal.returns-in_err-scripts-clause-stops
returns-in_err-scripts-clause-stops g c =
    let told = g.F.Files.told in
    let names = plan_names c.args.words.now in
    let found = c.in_ok-warehouse.warehouse in
    let read = c.in_ok-warehouse.ensures in
    let said = rw (c.as_str.ensures.value, c.as_str-2.ensures.value, c.as_str-3.ensures.value) at read.said in
    let p = err_from_is_err_and c.from_residual-in_err-scripts.result c.from_residual-in_err-scripts.ensures.1 in
    rw (p.1, p.2)
    (stops_there scripts_in (told c.args.files.now) (told c.read_warehouse.new.files) (told c.scripts_from.new.files)
    (opening_files names.layout names.stock names.orders) [] (tables_said found.layout found.opening) input.Desks names.desks c.in_err-scripts.field-0.0
    (λ text why none. rw none refl) (record { accepted = said; same = read.same; counts = read.counts; reads = read.all })
    (rw c.as_str-4.ensures.value at c.in_err-scripts.ensures.stops))

pub returns-clause-said : goal.returns-clause-said
returns-clause-said g c =
    let told = g.F.Files.told in
    let names = plan_names c.args.words.now in
    let found = c.in_ok-warehouse.warehouse in
    let read = c.in_ok-warehouse.ensures in
    let went = c.in_ok-scripts.ensures in
    let said = rw (c.as_str.ensures.value, c.as_str-2.ensures.value, c.as_str-3.ensures.value) at read.said in
    let desks = rw c.as_str-4.ensures.value at went.said in
    (plan_files (told c.args.files.now) (told c.read_warehouse.new.files) (told c.scripts_from.new.files) names found.layout found.opening
    c.in_ok-scripts.scripts (record { accepted = said; same = read.same; counts = read.counts; reads = read.all })
    (record { same = went.same; counts = went.counts; reads = went.once }) desks).accepted
