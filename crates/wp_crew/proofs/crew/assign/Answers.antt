use Rattle.std.proofs.Common.{◌∙◌, ℕ, List, ap, subst, sym}
use Rattle.wp_crew.specs.Crews.{AreLoads, IsAssignment, NoneIsBelow, greatest}
use Rattle.wp_crew.proofs.Crews.{is_near_the_mean, is_settled, none_is_below}
use Rattle.wp_crew.proofs.crew.assign.Goals as goal

pub loads_of-requires-clause-assigned : goal.loads_of-requires-clause-assigned
loads_of-requires-clause-assigned c =
    subst (λ (owners : List ℕ). IsAssignment c.args.lengths.now c.args.pickers owners) (sym c.deref.ensures.value)
    c.in_ok-picker_of.ensures.balanced.assigned

pub returns-clause-crew : goal.returns-clause-crew
returns-clause-crew c =
    let owners = c.in_ok-picker_of.picker_of.items in
    let loads = c.in_ok-loads.loads.items in
    let balanced = c.in_ok-picker_of.ensures.balanced in
    let loaded = subst (λ (xs : List ℕ). AreLoads c.args.lengths.now c.args.pickers xs loads) c.deref.ensures.value c.in_ok-loads.ensures in
    record {
      assigned = balanced.assigned;
      loaded = loaded;
      settled = is_settled c.args.lengths.now c.args.pickers owners loads balanced loaded;
      numbered = c.in_ok-picker_of.ensures.numbered;
      greatest_load = c.greatest-longest.ensures ∙ ap greatest c.deref-2.ensures.value;
      least_load = c.least_longest-least.ensures;
    }

pub returns-clause-least : goal.returns-clause-least
returns-clause-least c =
    subst (λ n. NoneIsBelow c.args.lengths.now c.args.pickers n) (sym c.least_longest-least.ensures)
    (none_is_below c.args.lengths.now c.args.pickers c.requires.some)

pub returns-clause-near : goal.returns-clause-near
returns-clause-near c =
    let owners = c.in_ok-picker_of.picker_of.items in
    let loads = c.in_ok-loads.loads.items in
    let loaded = subst (λ (xs : List ℕ). AreLoads c.args.lengths.now c.args.pickers xs loads) c.deref.ensures.value c.in_ok-loads.ensures in
    is_near_the_mean c.args.lengths.now c.args.pickers owners loads c.greatest-longest.result c.requires.some c.in_ok-picker_of.ensures.balanced loaded
