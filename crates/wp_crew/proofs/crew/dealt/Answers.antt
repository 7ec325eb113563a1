use Rattle.std.proofs.Common.{◌<◌, ℕ, List, All, subst, sym}
use Rattle.wp_crew.specs.Crews.{AreNumberedByFirst}
use Rattle.wp_crew.specs.Numbers.{IsRenumbered}
use Rattle.wp_crew.specs.Turns.{IsBalanced}
use Rattle.wp_crew.proofs.NewNumbers.{length_renumbered, still_balanced}
use Rattle.wp_crew.proofs.Slices.{written_whole}
use Rattle.wp_crew.proofs.crew.dealt.Goals as goal

pub number_pickers-requires-clause-below : goal.number_pickers-requires-clause-below
number_pickers-requires-clause-below c =
    subst (λ (owners : List ℕ). All (λ picker. picker < c.args.pickers) owners) (sym c.deref_mut.ensures.value) c.in_ok-picker_of.ensures.assigned.below

pub returns-clause-balanced : goal.returns-clause-balanced
returns-clause-balanced c =
    let renumbered = subst (λ (owners : List ℕ). IsRenumbered c.args.pickers owners c.number_pickers.new.picker_of) c.deref_mut.ensures.value
    c.in_ok-number_pickers.ensures.renumbered in
    subst (λ (owners : List ℕ). IsBalanced c.args.lengths.now c.args.pickers owners)
    (sym (written_whole c.in_ok-picker_of.picker_of.len c.number_pickers.new.picker_of c.in_ok-picker_of.picker_of.items c.in_ok-picker_of.picker_of.ok.0
    (length_renumbered c.args.pickers c.in_ok-picker_of.picker_of.items c.number_pickers.new.picker_of renumbered)))
    (still_balanced c.args.lengths.now c.args.pickers c.in_ok-picker_of.picker_of.items c.number_pickers.new.picker_of c.in_ok-picker_of.ensures renumbered)

pub returns-clause-numbered : goal.returns-clause-numbered
returns-clause-numbered c =
    let renumbered = subst (λ (owners : List ℕ). IsRenumbered c.args.pickers owners c.number_pickers.new.picker_of) c.deref_mut.ensures.value
    c.in_ok-number_pickers.ensures.renumbered in
    subst (λ (owners : List ℕ). AreNumberedByFirst owners)
    (sym (written_whole c.in_ok-picker_of.picker_of.len c.number_pickers.new.picker_of c.in_ok-picker_of.picker_of.items c.in_ok-picker_of.picker_of.ok.0
    (length_renumbered c.args.pickers c.in_ok-picker_of.picker_of.items c.number_pickers.new.picker_of renumbered)))
    c.in_ok-number_pickers.ensures.numbered
