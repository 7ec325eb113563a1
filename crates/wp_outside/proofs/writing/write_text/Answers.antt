use Rattle.std.proofs.Common.{◌≡◌, ◌∙◌, ◌-◌, take, drop, length, arith}
use Rattle.std.proofs.Math.Seq.{take-add}
use Rattle.std.proofs.lemmas.Grind.{common_steps}
use Rattle.wp_outside.proofs.Taking.{Grows-append, not_both}
use Rattle.wp_outside.proofs.writing.write_text.Goals as goal

pub loop-done-preserved : goal.loop-done-preserved
loop-done-preserved g c =
    let text = c.args.text.now in
    let done = c.loop-done.done in
    let rest : take (length text - done) (drop done text) ≡ drop done text = grind (arith, common_steps) in
    let within = rw rest at c.in_ok-done.ensures.within in
    let takes = rw rest at c.in_ok-done.ensures.takes in
    let so_far = c.loop-done.invariant in
    let went = c.in_ok-done.ensures in (
      grind (arith, common_steps),
      rw take-add (Grows-append _ _ _ _ _ so_far.1 takes),
      went.uncounted (not_both _ _) ∙ so_far.2,
      went.sound ∙ so_far.3,
      λ none. c.write.ensures.early (so_far.3 ∙ none) ∙ so_far.4 none,
    )
