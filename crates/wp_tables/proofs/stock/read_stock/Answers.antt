use Rattle.std.proofs.Common.{◌∙◌, ap}
use Rattle.sha2.specs.Sha512.{sha512}
use Rattle.wp_tables.proofs.stock.read_stock.Goals as goal

pub finish-requires : goal.finish-requires
finish-requires c =
    let under = rw c.deref.ensures.value at c.in_ok-records.ensures.under in
    let digest = c.in_ok-stock.ensures.key ∙ c.of.ensures ∙ ap sha512 c.deref-2.ensures.value in
    (c.args.layout.now, record { text = c.args.text.now.items; says_it = rw under c.in_ok-stock.ensures.made; digest = digest })
