use Rattle.std.proofs.Common.{◌≡◌, ◌∙◌, sym, ap, subst, ◌<◌, ◌≤◌, ◌^◌, ◌+◌, ◌++◌, ◌∷◌, [], List, IfSome, length, slice_get, arith}
use Rattle.std.proofs.lemmas.List.Sums.{sum_by_push}
use Rattle.wp_model.proofs.Elements.{at_some}
use Rattle.wp_model.proofs.Rows.{IfSome-change_rows, length-change_rows}
use Rattle.wp_model.specs.Book.{Where, but_of, is_for_wave}
use Rattle.wp_model.specs.Change.{change_rows, free_held_units}
use Rattle.wp_model.specs.declared.row.Row.{Row}
use Rattle.wp_book.specs.Chains.{chain_units, node_units}
use Rattle.wp_book.proofs.HoldSums.{freed_more, freed_none}
use Rattle.wp_book.proofs.holds.give_back_chain.Goals as goal

pub loop-node-init : goal.loop-node-init
loop-node-init c = record {
  rest = λ row. omega arith;
  rows = sym (freed_none _ c.args.rows.now (λ k. omega arith));
  others = λ passes. omega (arith, ap (chain_units passes) c.new-done.ensures);
}

pub give_back_node-requires-clause-within : goal.give_back_node-requires-clause-within
give_back_node-requires-clause-within c = λ row past.
    let was : c.loop-node.chain ≡ c.pop.new.self ++ c.in-Some.node ∷ [] = c.in-Some.ensures.some in
    let P = is_for_wave c.args.wave row in
    omega (
      arith,
      ap (chain_units P) was,
      sum_by_push (node_units P) c.pop.new.self c.in-Some.node,
      c.loop-node.invariant.rest row,
      c.requires.within row (omega (arith, ap length c.loop-node.invariant.rows ∙ length-change_rows _ _)),
    )

pub give_back_node-requires-clause-held : goal.give_back_node-requires-clause-held
give_back_node-requires-clause-held c = λ row.
    let was : c.loop-node.chain ≡ c.pop.new.self ++ c.in-Some.node ∷ [] = c.in-Some.ensures.some in
    let P = is_for_wave c.args.wave row in
    let part : chain_units P c.loop-node.chain ≡ chain_units P c.pop.new.self + node_units P c.in-Some.node =
    ap (chain_units P) was ∙ sum_by_push (node_units P) c.pop.new.self c.in-Some.node in
    subst (λ (rows : List Row). IfSome (slice_get rows row) (λ r. (node_units P c.in-Some.node ≤ r.held) × (r.free + r.held < 2 ^ 32)))
    (sym c.loop-node.invariant.rows)
    (IfSome-change_rows _ c.args.rows.now row _ (λ r there.
    let enough = at_some _ _ r there (c.requires.held row) in
    (omega (arith, part, c.loop-node.invariant.rest row, enough.0), omega (arith, c.loop-node.invariant.rest row, enough.0, enough.1))))

pub loop-node-preserved : goal.loop-node-preserved
loop-node-preserved c =
    let was : c.loop-node.chain ≡ c.pop.new.self ++ c.in-Some.node ∷ [] = c.in-Some.ensures.some in
    let part : (P : Where) → chain_units P c.loop-node.chain ≡ chain_units P c.pop.new.self + node_units P c.in-Some.node =
    λ P. ap (chain_units P) was ∙ sum_by_push (node_units P) c.pop.new.self c.in-Some.node in
    record {
      rest = λ row. omega (arith, part (is_for_wave c.args.wave row), c.loop-node.invariant.rest row);
      rows = c.give_back_node.ensures.rows ∙ ap (λ rows. change_rows
          (λ row. free_held_units (node_units (is_for_wave c.args.wave row) c.in-Some.node)) 0 rows) c.loop-node.invariant.rows
          ∙ freed_more _ (λ row. node_units (is_for_wave c.args.wave row) c.in-Some.node) _ c.args.rows.now
          (λ row. omega (arith, part (is_for_wave c.args.wave row), c.loop-node.invariant.rest row));
      others = λ passes.
          let pushed : chain_units passes c.push.new.self ≡ chain_units passes c.loop-node.done + node_units passes c.give_back_node.new.node =
          ap (chain_units passes) c.push.ensures ∙ sum_by_push (node_units passes) c.loop-node.done c.give_back_node.new.node in
          omega (arith, part (but_of c.args.wave passes), pushed, c.give_back_node.ensures.others passes, c.loop-node.invariant.others passes);
    }
