use Rattle.std.proofs.Common.{refl, subst, [], ◌∷◌, None, codes}
use Rattle.wp_model.specs.Opening.{Opening}
use Rattle.wp_top.proofs.Jobs.{with_units}
use Rattle.std.proofs.lemmas.Result.{err_from_is_err_and}
use Rattle.wp_top.proofs.FilesRead.{stops_among_more, stops_there}
use Rattle.wp_top.proofs.MadeFiles.{made_day_read}
use Rattle.wp_top.proofs.make.summary_of_files.Goals as goal
use Rattle.wp_top.specs.Stops.{IsMadeDay, day_said, opening_files, tables_said}
use Rattle.wp_top.specs.Texts.{file_of, opening_with, scripts_in}
use Rattle.wp_top.specs.declared.input.Input.TheVariants as input
use Rattle.wp_words.specs.Reading.{make_numbers}

pub returns-in_err-warehouse-clause-stops : goal.returns-in_err-warehouse-clause-stops
returns-in_err-warehouse-clause-stops g c =
    let told = g.F.Files.told in
    let p = err_from_is_err_and c.from_residual.result c.from_residual.ensures.1 in
    rw (p.1, p.2)
    (stops_among_more (told c.args.files.now) (told c.read_warehouse.new.files) (opening_files (codes "layout") (codes "stock") (codes "orders"))
    (file_of input.Desks (codes "desks") ∷ []) c.in_err-warehouse.field-0.0 c.in_err-warehouse.ensures.stops)

pub returns-in_err-scripts-clause-stops : goal.returns-in_err-scripts-clause-stops
returns-in_err-scripts-clause-stops g c =
    let told = g.F.Files.told in
    let found = c.in_ok-warehouse.warehouse in
    let read = c.in_ok-warehouse.ensures in
    let p = err_from_is_err_and c.from_residual-in_err-scripts.result c.from_residual-in_err-scripts.ensures.1 in
    rw (p.1, p.2)
    (stops_there scripts_in (told c.args.files.now) (told c.read_warehouse.new.files) (told c.scripts_from.new.files)
    (opening_files (codes "layout") (codes "stock") (codes "orders")) [] (tables_said found.layout found.opening) input.Desks (codes "desks")
    c.in_err-scripts.field-0.0 (λ text why none. rw none refl)
    (record { accepted = read.said; same = read.same; counts = read.counts; reads = read.all }) c.in_err-scripts.ensures.stops)

pub returns-in_err-text-clause-stops : goal.returns-in_err-text-clause-stops
returns-in_err-text-clause-stops g c =
    let p = err_from_is_err_and c.from_residual-in_err-text.result c.from_residual-in_err-text.ensures.1 in rw (p.1, p.2) tt

pub summary_of_day-requires-clause-made : goal.summary_of_day-requires-clause-made
summary_of_day-requires-clause-made g c κs met =
    let told = g.F.Files.told in
    let found = c.in_ok-warehouse.warehouse in
    let was = c.in_ok-warehouse.ensures in
    let scripts = c.in_ok-scripts.ensures in
    subst (λ (o : Opening). IsMadeDay (make_numbers c.args.words.now) (day_said found.layout o c.in_ok-scripts.scripts))
    (with_units found.opening None was.units)
    (made_day_read (told c.args.files.now) (told c.read_warehouse.new.files) (told c.scripts_from.new.files) (make_numbers c.args.words.now)
    found.layout (opening_with found.opening None) c.in_ok-scripts.scripts c.requires.held
    (record { accepted = was.said; same = was.same; counts = was.counts; reads = was.all })
    (record { same = scripts.same; counts = scripts.counts; reads = scripts.once }) scripts.said)
