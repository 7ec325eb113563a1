use Rattle.std.proofs.Common.{refl, [], ◌∷◌}
use Rattle.std.proofs.lemmas.Result.{err_from_is_err_and}
use Rattle.wp_floor.specs.Opening.{opening_of}
use Rattle.wp_top.proofs.FilesRead.{after_layout, after_orders, after_stock, layout_file, nothing_read, stock_files, stops_there}
use Rattle.wp_top.proofs.reading.read_warehouse.Goals as goal
use Rattle.wp_top.specs.Stops.{opening_said}
use Rattle.wp_top.specs.Texts.{file_of, layout_in, nothing_said, orders_in, stock_in}
use Rattle.wp_top.specs.declared.input.Input.TheVariants as input

pub returns-in_err-layout-clause-stops : goal.returns-in_err-layout-clause-stops
returns-in_err-layout-clause-stops g c =
    let told = g.F.Files.told in
    let p = err_from_is_err_and c.from_residual.result c.from_residual.ensures.1 in
    rw (p.1, p.2)
    (stops_there layout_in (told c.args.files.now) (told c.args.files.now) (told c.layout_from.new.files) []
    (file_of input.Stock c.args.names.now.stock.now ∷ file_of input.Orders c.args.names.now.orders.now ∷ []) nothing_said input.Layout
    c.args.names.now.layout.now
    c.in_err-layout.field-0.0 (λ text why none. rw none refl) (nothing_read (told c.args.files.now)) c.in_err-layout.ensures.stops)

pub returns-in_err-stock-clause-stops : goal.returns-in_err-stock-clause-stops
returns-in_err-stock-clause-stops g c =
    let told = g.F.Files.told in
    let p = err_from_is_err_and c.from_residual-in_err-stock.result c.from_residual-in_err-stock.ensures.1 in
    let layout = c.in_ok-layout.ensures in
    rw (p.1, p.2)
    (stops_there (stock_in c.in_ok-layout.layout) (told c.args.files.now) (told c.layout_from.new.files) (told c.stock_from.new.files)
    (layout_file c.args.names.now.layout.now) (file_of input.Orders c.args.names.now.orders.now ∷ [])
    (record nothing_said { layout = c.in_ok-layout.layout }) input.Stock c.args.names.now.stock.now c.in_err-stock.field-0.0
    (λ text why none. rw none refl)
    (after_layout (told c.args.files.now) (told c.layout_from.new.files) c.args.names.now.layout.now c.in_ok-layout.layout
    (record { same = layout.same; counts = layout.counts; reads = layout.once }) layout.said) c.in_err-stock.ensures.stops)

pub returns-in_err-orders-clause-stops : goal.returns-in_err-orders-clause-stops
returns-in_err-orders-clause-stops g c =
    let told = g.F.Files.told in
    let p = err_from_is_err_and c.from_residual-in_err-orders.result c.from_residual-in_err-orders.ensures.1 in
    let layout = c.in_ok-layout.ensures in
    let stock = c.in_ok-stock.ensures in
    rw (p.1, p.2)
    (stops_there (orders_in c.in_ok-stock.stock) (told c.args.files.now) (told c.stock_from.new.files) (told c.orders_from.new.files)
    (stock_files c.args.names.now.layout.now c.args.names.now.stock.now) []
    (opening_said c.in_ok-layout.layout (opening_of c.in_ok-stock.stock [])) input.Orders c.args.names.now.orders.now
    c.in_err-orders.field-0.0 (λ text why none. rw none refl)
    (after_stock (told c.args.files.now) (told c.layout_from.new.files) (told c.stock_from.new.files) c.args.names.now.layout.now c.args.names.now.stock.now
    c.in_ok-layout.layout c.in_ok-stock.stock
    (after_layout (told c.args.files.now) (told c.layout_from.new.files) c.args.names.now.layout.now c.in_ok-layout.layout
    (record { same = layout.same; counts = layout.counts; reads = layout.once }) layout.said)
    (record { same = stock.same; counts = stock.counts; reads = stock.once }) stock.said) c.in_err-orders.ensures.stops)

pub returns-clause-said : goal.returns-clause-said
returns-clause-said g c =
    let told = g.F.Files.told in
    let layout = c.in_ok-layout.ensures in
    let stock = c.in_ok-stock.ensures in
    let orders = c.in_ok-orders.ensures in
    let read = after_orders (told c.args.files.now) (told c.stock_from.new.files) (told c.orders_from.new.files) c.args.names.now.layout.now
    c.args.names.now.stock.now c.args.names.now.orders.now
    c.in_ok-layout.layout c.in_ok-stock.stock c.in_ok-orders.orders
    (after_stock (told c.args.files.now) (told c.layout_from.new.files) (told c.stock_from.new.files) c.args.names.now.layout.now c.args.names.now.stock.now
    c.in_ok-layout.layout c.in_ok-stock.stock
    (after_layout (told c.args.files.now) (told c.layout_from.new.files) c.args.names.now.layout.now c.in_ok-layout.layout
    (record { same = layout.same; counts = layout.counts; reads = layout.once }) layout.said)
    (record { same = stock.same; counts = stock.counts; reads = stock.once }) stock.said)
    (record { same = orders.same; counts = orders.counts; reads = orders.once }) orders.said in
    rw c.opening_for-opening.ensures read.accepted
