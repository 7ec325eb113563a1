use Rattle.std.proofs.Common.{sym}
use Rattle.std.proofs.lemmas.Bool.{leb-true, le-leb}
use Rattle.wp_lengths.proofs.Further.{class_filled, later_from, least_from, none_first}
use Rattle.wp_lengths.proofs.reach.is_later.Goals as goal

pub returns-in-Some : goal.returns-in-Some
returns-in-Some c = (
  λ yes. later_from _ _ _ _ _ c.least.ensures.valid.ascending c.joined_to.ensures (sym c.in-Some.ensures.first) c.requires (leb-true _ _ yes),
  λ later. le-leb _ _ (least_from _ _ _ _ _ c.joined_to.ensures (sym c.in-Some.ensures.first) later),
)

pub returns-in-None : goal.returns-in-None
returns-in-None c = absurd (none_first _ (class_filled c.args.pairs.now _ _ c.joined_to.ensures) (sym c.in-None.ensures.first))
