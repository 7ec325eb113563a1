use Rattle.std.proofs.Common.{refl, sum, subst, sym, ◌∙◌}
use Rattle.std.proofs.lemmas.Bool.{false≢true}
use Rattle.wp_cert.specs.Paths.{pairing_of}
use Rattle.wp_search.specs.Branches.{IsBranch}
use Rattle.wp_search.specs.declared.branch.Branch.{Branch}
use Rattle.wp_search.proofs.Turns.{feasible_duals_below, own_feasible, turned_apart, turned_together}
use Rattle.wp_search.proofs.turn.+turns.Goals as goal

pub take_turn-returns-then-is_together-clause-turned : goal.take_turn-returns-then-is_together-clause-turned
take_turn-returns-then-is_together-clause-turned g t c =
    let turner = c.args.turner.now in
    let wave = turner.wave.now in
    let pairing = pairing_of wave turner.capacity.most c.args.path.now.items in
    rw c.in-Split.is (turned_together wave pairing (sum c.args.above.now) turner.pays turner.least c.in-Split.cut c.keep_least.new.cut
    c.in-Split.together.value c.in-Split.apart.value c.take_turn_below.new.branch c.in_ok-turn-in-Split.turn
    (subst (λ (b : Branch). IsBranch wave pairing (sum c.args.above.now) b) c.in-Split.is c.requires.branch)
    (rw (c.deref-then-is_together.ensures, c.deref-then-is_together-2.ensures) at c.keep_least.ensures)
    (rw c.deref.ensures at (c.is_together.ensures.0 c.if-is_together.true))
    (rw (c.pair_of-pair.ensures, c.deref_mut.ensures.value) at c.in_ok-turn-in-Split.ensures.turned))

pub take_turn-returns-in_ok-turn-in-Split-2-clause-turned : goal.take_turn-returns-in_ok-turn-in-Split-2-clause-turned
take_turn-returns-in_ok-turn-in-Split-2-clause-turned g t c =
    let turner = c.args.turner.now in
    let wave = turner.wave.now in
    let pairing = pairing_of wave turner.capacity.most c.args.path.now.items in
    rw c.in-Split.is (turned_apart wave pairing (sum c.args.above.now) turner.pays turner.least c.in-Split.cut c.keep_least-in-Split.new.cut
    c.in-Split.together.value c.in-Split.apart.value c.take_turn_below-in-Split.new.branch c.in_ok-turn-in-Split-2.turn
    (subst (λ (b : Branch). IsBranch wave pairing (sum c.args.above.now) b) c.in-Split.is c.requires.branch)
    (rw (c.deref-in-Split.ensures, c.deref-in-Split-2.ensures) at c.keep_least-in-Split.ensures)
    (λ low. false≢true (sym c.if-is_together.false ∙ c.is_together.ensures.1 (rw c.deref.ensures low)))
    (rw (c.pair_of-pair-in-Split.ensures, c.deref_mut-in-Split.ensures.value) at c.in_ok-turn-in-Split-2.ensures.turned))

pub take_turn_below-take_turn-requires-clause-above : goal.take_turn_below-take_turn-requires-clause-above
take_turn_below-take_turn-requires-clause-above g t c κs within =
    let turner = c.args.turner.now in
    let wave = turner.wave.now in
    let pairing = pairing_of wave turner.capacity.most c.args.path.now.items in
    rw c.in_ok-push.ensures.items (feasible_duals_below wave pairing c.args.pair c.args.worked.now.own.duals
    (c.requires.worked.right.all.duals ∙ refl) (own_feasible wave pairing _ c.args.worked.now.own c.requires.worked.right))
