use Rattle.std.proofs.Common.{◌∙◌, ap, length, None, replicate}
use Rattle.wp_book.specs.Calls.{free_book}
use Rattle.wp_floor.proofs.NewFloor.{floor_opens}
use Rattle.wp_floor.proofs.floor.Floor.open.Goals as goal

pub returns-clause-floor : goal.returns-clause-floor
returns-clause-floor c =
    floor_opens c.args.opening.now (record { book = c.in_ok-book.book; waves = c.in_ok-waves.waves; takers = c.in_ok-takers.takers })
    c.stock.ensures.read
    (c.in_ok-book.ensures ∙ ap free_book c.stock.ensures.stock)
    c.in_ok-waves.ensures.waves
    c.in_ok-waves.ensures.none
    (c.in_ok-takers.ensures ∙ ap (λ n. replicate n None) (c.count.ensures ∙ ap length c.orders.ensures))
