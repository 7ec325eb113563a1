use Rattle.std.proofs.Common.{◌++◌, ◌∙◌, ap, ap₂, drop, length}
use Rattle.std.proofs.lemmas.List.{drop-replicate}
use Rattle.wp_model.proofs.name.padded.Goals as goal

pub returns : goal.returns
returns c =
    ap₂ (λ a b. a ++ b) c.copy_from_slice.ensures.after (ap (drop (length c.args.text.now)) c.zeros-bytes.ensures
    ∙ drop-replicate (length c.args.text.now) 40 0)
