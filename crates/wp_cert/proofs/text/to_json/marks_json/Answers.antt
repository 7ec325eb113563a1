use Rattle.std.proofs.Common.{arith, ap, map, List, Bool, ◌∙◌}
use Rattle.std.proofs.lemmas.List.{take_all}
use Rattle.serde_json.specs.Data.{string}
use Rattle.wp_cert.specs.TextData.{mark_code}
use Rattle.wp_cert.proofs.TextShown.{marks_more, view-text}
use Rattle.wp_cert.proofs.text.to_json.marks_json.Goals as goal

pub loop-place-preserved : goal.loop-place-preserved
loop-place-preserved c =
    let more = marks_more c.args.marks.now c.loop-place.place c.at.result _ (omega arith) c.at.ensures c.loop-place.invariant in
    c.in_ok-push_str.ensures.bytes ∙ (rw c.mark_text.ensures more)

pub returns : goal.returns
returns c =
    view-text c.loop-place.text
    ∙ ap string (c.loop-place.invariant ∙ ap (λ (marks : List Bool). map mark_code marks) (take_all c.loop-place.place c.args.marks.now (omega arith)))
