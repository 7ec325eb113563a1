use Rattle.std.proofs.Common.{◌∙◌, ap, refl}
use Rattle.std.proofs.lemmas.Result.{err_from_is_err_and}
use Rattle.wp_top.proofs.Jobs.{audit_is, stop_at_finding, stop_at_opening}
use Rattle.wp_top.proofs.audit.audit_output.Goals as goal
use Rattle.wp_top.specs.Stops.{opening_files}
use Rattle.wp_top.specs.Stores.{no_disk}
use Rattle.wp_top.specs.Texts.{file_of}
use Rattle.wp_top.specs.declared.input.Input.TheVariants as input
use Rattle.wp_words.specs.Reading.{audit_names}
use Rattle.wp_words.specs.Words.{audit}

pub returns-in_err-warehouse-clause-stops : goal.returns-in_err-warehouse-clause-stops
returns-in_err-warehouse-clause-stops g c =
    let told = g.F.Files.told in
    let names = audit_names c.args.words.now in
    let p = err_from_is_err_and c.from_residual.result c.from_residual.ensures.1 in
    rw (p.1, p.2)
    (stop_at_opening no_disk (told c.args.files.now) (told c.read_warehouse.new.files) (audit names) (opening_files names.layout names.stock names.orders)
    (file_of input.Journal names.journal)
    c.in_err-warehouse.field-0.0 refl (rw (c.as_str.ensures.value, c.as_str-2.ensures.value, c.as_str-3.ensures.value) at c.in_err-warehouse.ensures.stops))

pub returns-in_err-found-clause-stops : goal.returns-in_err-found-clause-stops
returns-in_err-found-clause-stops g c =
    let told = g.F.Files.told in
    let p = err_from_is_err_and c.from_residual-in_err-found.result c.from_residual-in_err-found.ensures.1 in
    let read = c.in_ok-warehouse.ensures in
    let said = rw (c.as_str.ensures.value, c.as_str-2.ensures.value, c.as_str-3.ensures.value) at read.said in
    rw (p.1, p.2)
    (stop_at_finding no_disk (told c.args.files.now) (told c.read_warehouse.new.files) (told c.found_in.new.files) (audit_names c.args.words.now)
    c.in_ok-warehouse.warehouse.layout c.in_ok-warehouse.warehouse.opening c.in_err-found.field-0.0 read.units
    (record { accepted = said; same = read.same; counts = read.counts; reads = read.all }) c.found_in.ensures.same c.found_in.ensures.counts
    (rw c.as_str-4.ensures.value at c.in_err-found.ensures.stops))

pub returns-clause-output : goal.returns-clause-output
returns-clause-output g c =
    let told = g.F.Files.told in
    let read = c.in_ok-warehouse.ensures in
    let found = c.in_ok-found.ensures in
    let said = rw (c.as_str.ensures.value, c.as_str-2.ensures.value, c.as_str-3.ensures.value) at read.said in
    audit_is no_disk (told c.args.files.now) (told c.read_warehouse.new.files) (told c.found_in.new.files)
    (audit_names c.args.words.now) c.in_ok-warehouse.warehouse.layout c.in_ok-warehouse.warehouse.opening c.in_ok-found.found.entries
    c.into_bytes.result.items read.units
    (record { accepted = said; same = read.same; counts = read.counts; reads = read.all })
    (record { same = found.same; counts = found.counts; reads = found.once }) (rw c.as_str-4.ensures.value at found.found)
    (ap (λ v. v.items) c.into_bytes.ensures.value ∙ c.in_ok-line.ensures)
