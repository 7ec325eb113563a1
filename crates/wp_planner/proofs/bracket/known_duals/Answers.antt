use Rattle.std.proofs.Common.{◌≡◌, ℕ, Some, length}
use Rattle.wp_model.proofs.Elements.{if_some_then}
use Rattle.wp_lengths.specs.Duals.{AreFeasible}
use Rattle.wp_lp.specs.Covers.{pairs_of}
use Rattle.wp_planner.proofs.RootDuals.{bound_feasible, no_cuts}
use Rattle.wp_planner.specs.Roots.{root_duals}
use Rattle.wp_planner.proofs.bracket.known_duals.Goals as goal

pub returns-clause-feasible : goal.returns-clause-feasible
returns-clause-feasible c = λ wave capacity bound of. if_some_then c.root_duals.result (λ duals. root_duals c.args.tree.now.nodes ≡ Some duals.now)
    (λ duals. AreFeasible wave (pairs_of wave capacity) duals.now)
    (λ duals is. (bound_feasible wave capacity bound c.args.tree.now duals.now (no_cuts c.args.tree.now.cuts c.is_some.ensures c.if-is_some.false) of is).0)
    c.root_duals.ensures

pub returns-clause-count : goal.returns-clause-count
returns-clause-count c = λ wave capacity bound of. if_some_then c.root_duals.result (λ duals. root_duals c.args.tree.now.nodes ≡ Some duals.now)
    (λ duals. length duals.now ≡ length wave.orders)
    (λ duals is. (bound_feasible wave capacity bound c.args.tree.now duals.now (no_cuts c.args.tree.now.cuts c.is_some.ensures c.if-is_some.false) of is).1)
    c.root_duals.ensures
