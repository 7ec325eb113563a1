use Rattle.std.proofs.Common.{◌++◌, ◌∷◌, [], Bool, List, append_assoc, ap, arith, false, sym, take, ◌∙◌}
use Rattle.std.proofs.lemmas.List.{take_more}
use Rattle.std.proofs.lemmas.Option.{get_or_from_slice_get}
use Rattle.wp_price.proofs.marking.append.Goals as goal

pub loop-place-preserved : goal.loop-place-preserved
loop-place-preserved c =
    let at = get_or_from_slice_get c.args.more.now c.loop-place.place c.at.result false c.at.ensures in
    let more = take_more c.args.more.now c.loop-place.place false (omega (arith, c.loop-place-test.true, c.len-place-end.ensures))
    ∙ ap (λ (mark : Bool). take c.loop-place.place c.args.more.now ++ mark ∷ []) at in
    c.in_ok-push.ensures.ok ∙ (ap (λ (ms : List Bool). ms ++ c.at.result ∷ []) c.loop-place.invariant
    ∙ (append_assoc c.args.marks.now (take c.loop-place.place c.args.more.now) (c.at.result ∷ [])
    ∙ ap (λ (ms : List Bool). c.args.marks.now ++ ms) (sym more)))
