use Rattle.std.proofs.Common.{◌∙◌, ap, refl}
use Rattle.std.proofs.lemmas.Result.{err_from_is_err_and}
use Rattle.sha2.specs.Sha512.{sha512}
use Rattle.wp_tables.proofs.orders.read_orders.Goals as goal

pub finish-requires : goal.finish-requires
finish-requires c =
    let under = rw c.deref.ensures.value at c.in_ok-records.ensures.under in
    let digest = c.in_ok-orders.ensures.key ∙ c.of.ensures ∙ ap sha512 c.deref-2.ensures.value in
    (c.args.stock.now, record { text = c.args.text.now.items; says_it = rw under c.in_ok-orders.ensures.exact; digest = digest })

pub returns-in_err-records-clause-exact : goal.returns-in_err-records-clause-exact
returns-in_err-records-clause-exact c =
    let p = err_from_is_err_and c.from_residual.result c.from_residual.ensures.1 in
    let under = rw c.deref.ensures.value at c.in_err-records.ensures.under in
    rw (p.1, p.2) (λ defined. rw (under defined) refl)

pub returns-in_err-orders-clause-exact : goal.returns-in_err-orders-clause-exact
returns-in_err-orders-clause-exact c =
    let p = err_from_is_err_and c.from_residual-in_err-orders.result c.from_residual-in_err-orders.ensures.1 in
    let under = rw c.deref.ensures.value at c.in_ok-records.ensures.under in
    rw (p.1, p.2) (λ defined. rw under (c.in_err-orders.ensures.exact defined))

pub returns-clause-exact : goal.returns-clause-exact
returns-clause-exact c =
    let under = rw c.deref.ensures.value at c.in_ok-records.ensures.under in
    rw (under, c.finish.ensures) c.in_ok-orders.ensures.exact
