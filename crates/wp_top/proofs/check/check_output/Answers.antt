use Rattle.std.proofs.Common.{◌∙◌, ap}
use Rattle.std.proofs.lemmas.Result.{err_from_is_err_and}
use Rattle.wp_top.proofs.Checks.{check_is, stop_at_layout, stop_at_showing}
use Rattle.wp_top.proofs.check.check_output.Goals as goal
use Rattle.wp_top.specs.Stores.{no_disk}
use Rattle.wp_words.specs.Reading.{check_names}

pub returns-in_err-layout-clause-stops : goal.returns-in_err-layout-clause-stops
returns-in_err-layout-clause-stops g c =
    let told = g.F.Files.told in
    let p = err_from_is_err_and c.from_residual.result c.from_residual.ensures.1 in
    rw (p.1, p.2)
    (stop_at_layout no_disk (told c.args.files.now) (told c.layout_from.new.files) (check_names c.args.words.now)
    c.in_err-layout.field-0.0 (rw c.as_str.ensures.value at c.in_err-layout.ensures.stops))

pub returns-in_err-bound-clause-stops : goal.returns-in_err-bound-clause-stops
returns-in_err-bound-clause-stops g c =
    let told = g.F.Files.told in
    let p = err_from_is_err_and c.from_residual-in_err-bound.result c.from_residual-in_err-bound.ensures.1 in
    let layout = c.in_ok-layout.ensures in
    let said = rw c.as_str.ensures.value at layout.said in
    rw (p.1, p.2)
    (stop_at_showing no_disk (told c.args.files.now) (told c.layout_from.new.files) (told c.shown_in.new.files) (check_names c.args.words.now)
    c.in_ok-layout.layout c.in_err-bound.field-0.0 (record { same = layout.same; counts = layout.counts; reads = layout.once }) said
    c.shown_in.ensures.same c.shown_in.ensures.counts (rw c.as_str-2.ensures.value at c.in_err-bound.ensures.stops))

pub returns-clause-output : goal.returns-clause-output
returns-clause-output g c =
    let told = g.F.Files.told in
    let layout = c.in_ok-layout.ensures in
    let shown = c.in_ok-bound.ensures in
    let said = rw c.as_str.ensures.value at layout.said in
    check_is no_disk (told c.args.files.now) (told c.layout_from.new.files) (told c.shown_in.new.files) (check_names c.args.words.now) c.in_ok-layout.layout
    c.in_ok-bound.bound c.into_bytes.result.items
    (record { same = layout.same; counts = layout.counts; reads = layout.once }) said
    (record { same = shown.same; counts = shown.counts; reads = shown.once }) (rw c.as_str-2.ensures.value at shown.shown)
    (ap (λ v. v.items) c.into_bytes.ensures.value ∙ c.in_ok-line.ensures)
