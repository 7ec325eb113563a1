use Rattle.wp_batch.proofs.Splits.{moved_left, turned}
use Rattle.wp_batch.proofs.improve.placed.Goals as goal

pub returns-then-to_left : goal.returns-then-to_left
returns-then-to_left c = λ union d. moved_left _ _ _ _ _ _ _ c.requires.rest c.with.ensures.orders c.without-rest.ensures.orders d

pub returns : goal.returns
returns c = λ union d. turned _ _ _ _
    (moved_left _ _ _ _ _ _ _ c.requires.rest c.with-2.ensures.orders c.without-rest.ensures.orders (turned _ _ _ _ d))
