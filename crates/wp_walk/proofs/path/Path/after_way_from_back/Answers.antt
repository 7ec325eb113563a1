use Rattle.std.proofs.Common.{◌∙◌, append_assoc, sym}
use Rattle.wp_walk.proofs.Walks.{if_ok_then}
use Rattle.wp_walk.proofs.path.Path.after_way_from_back.Goals as goal

pub returns : goal.returns
returns c = if_ok_then c.after_behind.result _ _
    (λ p e. e ∙ (rw (c.in_ok-after_up.ensures, c.slots.ensures.value) (sym (append_assoc _ _ c.args.self)))) c.after_behind.ensures
