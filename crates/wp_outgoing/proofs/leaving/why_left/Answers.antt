use Rattle.std.proofs.Common.{◌∙◌, ◌<◌, sym, ap, subst, Bool, Option, IfSome, length}
use Rattle.wp_model.specs.Opening.{Stock}
use Rattle.wp_outgoing.specs.Leaving.{left_why, short_in}
use Rattle.wp_waves.specs.Standing.{standing_of}
use Rattle.wp_waves.specs.declared.free_stock.Shortage.{Shortage}
use Rattle.wp_waves.specs.declared.standings.Standing.{Standing}
use Rattle.wp_outgoing.proofs.LeftOrders.{of_stock}
use Rattle.wp_outgoing.proofs.leaving.why_left.Goals as goal

pub left_why-requires : goal.left_why-requires
left_why-requires c =
    let stock = c.args.day.now.stock in
    let turns = c.args.out.now.turns.now in
    let name = c.args.one.now.order in
    subst (λ (s : Stock). IfSome c.short_of-short.result (λ (short : Shortage). short.article < length s.articles)) (sym c.requires.stock)
    (subst (λ (found : Option Shortage). IfSome found (λ (short : Shortage). short.article < length stock.articles)) (sym c.short_of-short.ensures)
    (of_stock stock turns name c.requires.articles))

pub returns : goal.returns
returns c = λ taken is.
    let one = c.args.one.now in
    let day = c.args.day.now in
    let order = one.order in
    let stock = day.stock in
    let standing = c.standing_of-standing.result in
    let short = c.short_of-short.result in
    let goes = c.goes_out-goes.result in
    c.left_why.ensures
    ∙ (ap (λ (s : Stock). left_why s standing short goes) c.requires.stock
    ∙ (ap (λ (s : Standing). left_why stock s short goes) (c.standing_of-standing.ensures taken is)
    ∙ (ap (λ (s : Option Shortage). left_why stock (standing_of day taken one) s goes) c.short_of-short.ensures
    ∙ ap (λ (b : Bool). left_why stock (standing_of day taken one) (short_in c.args.out.now.turns.now order) b) c.goes_out-goes.ensures)))
