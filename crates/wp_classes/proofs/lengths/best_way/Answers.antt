use Rattle.std.proofs.Common.{refl}
use Rattle.wp_classes.proofs.Leasts.{last_of_six, unequal}
use Rattle.wp_classes.proofs.lengths.best_way.Goals as goal

pub returns : goal.returns
returns c =
    let least = c.least_length_by_way-least.ensures in
    last_of_six _ _ _ _ _ _ _ refl
    (unequal _ _ _ _ c.length_by_way.ensures least c.if-eq.ensures) (unequal _ _ _ _ c.length_by_way-2.ensures least c.if-eq-2.ensures)
    (unequal _ _ _ _ c.length_by_way-3.ensures least c.if-eq-3.ensures)
    (unequal _ _ _ _ c.length_by_way-4.ensures least c.if-eq-4.ensures) (unequal _ _ _ _ c.length_by_way-5.ensures least c.if-eq-5.ensures)
