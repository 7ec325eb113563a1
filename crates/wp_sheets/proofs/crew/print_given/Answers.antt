use Rattle.std.proofs.Common.{sym, ap}
use Rattle.std.proofs.lemmas.List.{append-nil}
use Rattle.wp_sheets.specs.Crews.{given_to}
use Rattle.wp_sheets.proofs.GivenBatches.{grown_by_own, same_at_other}
use Rattle.wp_sheets.proofs.Written.{written}
use Rattle.wp_sheets.proofs.crew.print_given.Goals as goal
use Rattle.wp_sheets.proofs.crew.print_given.Goals.{else-owner-picker, then-owner-picker+in_ok-or}

pub loop-place-init : goal.loop-place-init
unfolding given_to
loop-place-init c = sym (append-nil c.args.text.now.items)

pub loop-place-preserved : goal.loop-place-preserved
loop-place-preserved c =
    let picker = c.args.picker in
    let place = c.loop-place.place in
    let owners = c.args.picker_of.now in
    let names = c.args.names.now in
    let numbers = c.args.numbers.now in
    let old = c.args.text.now.items in
    let text = c.loop-place.text.items in
    let new = c.if-owner-picker.text.items in
    elim c.if-owner-picker.branch [
      | then-owner-picker+in_ok-or w ↦
          grown_by_own picker place owners names numbers old text new w.index-names-place.result c.requires.names c.requires.numbers c.loop-place-test.true
          c.loop-place.invariant w.if-owner-picker.true w.index-names-place.is
          (rw w.text-is (written w.write.result _ _ w.in_ok-or.ensures w.write.ensures.bytes))
      | else-owner-picker w ↦
          same_at_other picker place owners names numbers old text new c.requires.names c.requires.numbers c.loop-place-test.true c.loop-place.invariant
          w.if-owner-picker.false (ap (λ v. v.items) w.text-is)
    ]
