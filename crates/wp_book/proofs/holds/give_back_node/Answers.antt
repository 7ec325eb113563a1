use Rattle.std.proofs.Common.{sym, ◌∙◌, ap, ◌≤◌, ◌<◌, ◌+◌, ◌^◌, ℕ, IfSome, slice_get, subst, arith}
use Rattle.std.specs.List.{sum_by}
use Rattle.wp_model.specs.Book.{hold_units_where, units_at}
use Rattle.wp_book.proofs.HoldSums.{but_of-other, but_of-own, freed_none, freed_same, other_wave-at, same_wave-at}
use Rattle.wp_book.proofs.holds.give_back_node.Goals as goal

pub give_back_holds-requires-clause-within : goal.give_back_holds-requires-clause-within
give_back_holds-requires-clause-within c = λ row past.
    let own = same_wave-at c.args.node.now.wave c.args.wave row c.args.node.now.holds c.if-node-wave.true in
    omega (arith, own, ap (λ holds. units_at holds row) c.as_slice.ensures, c.requires.within row past)

pub give_back_holds-requires-clause-held : goal.give_back_holds-requires-clause-held
give_back_holds-requires-clause-held c = λ row.
    let own = same_wave-at c.args.node.now.wave c.args.wave row c.args.node.now.holds c.if-node-wave.true in
    subst (λ (units : ℕ). IfSome (slice_get c.args.rows.now row) (λ r. (units ≤ r.held) × (r.free + r.held < 2 ^ 32)))
    (own ∙ sym (ap (λ holds. units_at holds row) c.as_slice.ensures)) (c.requires.held row)

pub returns-then-node-wave-clause-rows : goal.returns-then-node-wave-clause-rows
returns-then-node-wave-clause-rows c =
    c.give_back_holds.ensures
    ∙ freed_same _ _ c.args.rows.now (λ row. ap (λ holds. units_at holds row) c.as_slice.ensures
    ∙ sym (same_wave-at c.args.node.now.wave c.args.wave row c.args.node.now.holds c.if-node-wave.true))

pub returns-then-node-wave-clause-others : goal.returns-then-node-wave-clause-others
returns-then-node-wave-clause-others c = λ passes.
    ap (sum_by (hold_units_where passes c.args.node.now.wave)) c.clear.ensures
    ∙ sym (but_of-own c.args.node.now.wave c.args.wave passes c.args.node.now.holds c.if-node-wave.true)

pub returns-else-node-wave-clause-rows : goal.returns-else-node-wave-clause-rows
returns-else-node-wave-clause-rows c = sym (freed_none _ c.args.rows.now
    (λ row. other_wave-at c.args.node.now.wave c.args.wave row c.args.node.now.holds c.if-node-wave.false))

pub returns-else-node-wave-clause-others : goal.returns-else-node-wave-clause-others
returns-else-node-wave-clause-others c = λ passes. but_of-other c.args.node.now.wave c.args.wave passes c.args.node.now.holds c.if-node-wave.false
