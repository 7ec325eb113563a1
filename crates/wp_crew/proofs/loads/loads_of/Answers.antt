use Rattle.std.proofs.Common.{◌≡◌, get_or, replicate, arith, rules}
use Rattle.std.proofs.lemmas.List.{get_or_read}
use Rattle.wp_crew.proofs.FirstLoads.{all_loads, load_fits, no_loads, one_load, owner_below}
use Rattle.wp_crew.proofs.loads.loads_of.Goals as goal

pub loop-place-init : goal.loop-place-init
loop-place-init c =
    let is : c.in_ok-loads.loads.items ≡ replicate c.args.pickers 0 = search rules in
    no_loads c.args.lengths.now c.args.picker_of.now c.args.pickers c.in_ok-loads.loads.items is

pub overflow_add-index_mut : goal.overflow_add-index_mut
overflow_add-index_mut c =
    let low = owner_below c.args.lengths.now c.args.picker_of.now c.args.pickers c.loop-place.place c.requires.assigned c.loop-place-test.true in
    let had : c.index_mut.result.now ≡ get_or c.loop-place.loads.items (get_or c.args.picker_of.now c.loop-place.place 0) 0 =
    get_or_read c.loop-place.loads.items (get_or c.args.picker_of.now c.loop-place.place 0) c.index_mut.result.now
    (omega (arith, low, c.loop-place.invariant.loaded)) c.index_mut.ensures.value 0 in
    omega (
      arith,
      load_fits c.args.lengths.now c.args.picker_of.now c.args.pickers c.loop-place.place c.index_mut.result.now c.loop-place.loads.items c.requires.few
          c.requires.assigned c.loop-place.invariant c.loop-place-test.true had,
    )

pub loop-place-preserved : goal.loop-place-preserved
loop-place-preserved c =
    let low = owner_below c.args.lengths.now c.args.picker_of.now c.args.pickers c.loop-place.place c.requires.assigned c.loop-place-test.true in
    let had : c.index_mut.result.now ≡ get_or c.loop-place.loads.items (get_or c.args.picker_of.now c.loop-place.place 0) 0 =
    get_or_read c.loop-place.loads.items (get_or c.args.picker_of.now c.loop-place.place 0) c.index_mut.result.now
    (omega (arith, low, c.loop-place.invariant.loaded)) c.index_mut.ensures.value 0 in
    one_load c.args.lengths.now c.args.picker_of.now c.args.pickers c.loop-place.place c.index_mut.result.now c.loop-place.loads.items
    c.requires.assigned c.loop-place.invariant c.loop-place-test.true had

pub returns : goal.returns
returns c =
    all_loads c.args.lengths.now c.args.picker_of.now c.args.pickers c.loop-place.place c.loop-place.loads.items c.requires.assigned
    c.loop-place.invariant (omega arith)
