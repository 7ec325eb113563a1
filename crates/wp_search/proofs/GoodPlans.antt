-- What a search that has ended found is a good plan.
use Rattle.std.proofs.Common.{◌≡◌, ℕ, ◌+◌, ◌-◌, ◌*◌, ◌<◌, ◌≤◌, ◌⊎◌, ◌↔◌, List, length, arith, ap, sym, ◌∙◌, inl, inr, ⊎_elim, mul-le-mul_right}
use Rattle.std.specs.Prelude.{IfOk, Some, Result, Ok, Err, sum}
use Rattle.wp_model.specs.declared.memory.Memory.{Memory}
use Rattle.wp_lengths.specs.Waves.{WavePicks}
use Rattle.wp_cert.specs.Trees.{IsBoundOf, plain_tree}
use Rattle.wp_cert.specs.declared.tree.Tree.{Tree}
use Rattle.std.specs.List.Sorted.{IsStrictlyIncreasing}
use Rattle.wp_cert.proofs.BoundsHold.{bounds_hold}
use Rattle.wp_cert.proofs.PutIntoBatches.{all_places, batching_is_put}
use Rattle.wp_cert.proofs.Walked.{no_walks_are_shorter}
use Rattle.wp_lengths.specs.Batchings.{no_pairs}
use Rattle.wp_lengths.specs.Duals.{AreShares, units_of}
use Rattle.wp_search.specs.Branches.{bound_of, nodes_of}
use Rattle.wp_search.specs.Counts.{own_nodes}
use Rattle.wp_search.specs.Plans.{IsGoodPlan}
use Rattle.wp_node.specs.Prices.{full, price}
use Rattle.wp_search.specs.Searches.{HasEnded, IsSearch}
use Rattle.wp_search.specs.declared.plan.Planned.{Planned}
use Rattle.wp_search.specs.declared.plan.State.TheVariants as states
use Rattle.wp_search.specs.declared.search.TreeSearch.{TreeSearch}
use Rattle.wp_search.proofs.OwnCounts.{full_not_spent}
use Rattle.wp_search.proofs.Searches.{duals_listed, own_listed, search_bound, search_short, splits_listed}

module _ (wave : WavePicks) (capacity : ℕ) (shares : List ℕ) (search : TreeSearch) (bound : ℕ) (some : 1 ≤ capacity) (are : AreShares wave capacity shares)
    (is : IsSearch wave capacity (sum shares) search) (at : bound_of (units_of (sum shares)) search.tree ≡ Some bound) where
  tree_right : IsBoundOf wave capacity (plain_tree (nodes_of search.tree)) bound
  tree_right = search_bound wave capacity bound shares search.tree are is.right at

  -- what was spent is the price of the nodes with duals of their own
  all_paid : own_nodes (nodes_of search.tree) * price (length wave.orders) capacity ≡ search.spent
  all_paid = ap (λ (k : ℕ). k * price (length wave.orders) capacity) (own_listed search.tree) ∙ sym is.paid

  -- where the budget doesn't pay for a further node, it pays for no more than there are
  all_worked : (nodes : ℕ) → search.budget < search.spent + price (length wave.orders) capacity → nodes * price (length wave.orders) capacity ≤ search.budget
      → nodes ≤ own_nodes (nodes_of search.tree)
  all_worked nodes short enough = ⊎_elim (λ (few : nodes ≤ own_nodes (nodes_of search.tree)). few)
      (λ (more : own_nodes (nodes_of search.tree) + 1 ≤ nodes). absurd
      (omega (arith, mul-le-mul_right (price (length wave.orders) capacity) more, all_paid, short, enough)))
      (few_or_more nodes (own_nodes (nodes_of search.tree)))
    where
      few_or_more : (a b : ℕ) → (a ≤ b) ⊎ (b + 1 ≤ a)
      few_or_more a b = grind arith

  -- nor is it a full one
  not_full : search.budget < search.spent + price (length wave.orders) capacity → full (length wave.orders) capacity ≤ search.budget → ⊥
  not_full short enough =
      full_not_spent wave capacity (nodes_of search.tree) bound search.budget (search.budget - search.spent) tree_right
      (omega (arith, all_paid, is.within)) (omega (arith, short, is.within)) enough

  -- a search that ended at the cost of its best batching has that bound
  at_cost : bound_of (units_of (sum shares)) search.tree ≡ Some search.best.cost → bound ≡ search.best.cost
  at_cost ended = some_same (sym at ∙ ended)
    where
      some_same : {a b : ℕ} → Some a ≡ Some b → a ≡ b
      some_same same = cc

  -- the plan of a search that has ended is good
  pub good_plan : (budget : ℕ) (planned : Planned) → HasEnded wave capacity (sum shares) search → search.budget ≡ budget
      → planned.batching ≡ search.best.batching → planned.cost ≡ search.best.cost → planned.tree ≡ plain_tree (nodes_of search.tree) → planned.bound ≡ bound
      → ((planned.state ≡ states.Proven) ↔ (bound ≡ search.best.cost)) → IsGoodPlan wave capacity budget planned
  good_plan budget planned ended spends batching costs tree bounds state =
      let right : IsBoundOf wave capacity planned.tree planned.bound = rw (tree, bounds) tree_right in
      let least = bounds_hold wave capacity planned.tree planned.bound some right in record {
        sound = record {
          batching = rw batching (batching_is_put wave capacity search.best.batching is.best.proper.batching);
          ascending = rw batching (all_places IsStrictlyIncreasing search.best.batching (λ place low. (is.best.proper.batching.each place low).ascending));
          listed = rw batching is.best.proper.listed;
          cost = rw (batching, costs) is.best.cost;
          bound = right;
          least = no_walks_are_shorter wave capacity planned.bound least;
          below = rw (costs) (least search.best.batching search.best.cost is.best.proper.batching is.best.cost);
          plain = ap (λ (t : Tree). t.cuts) tree;
          duals = rw tree (duals_listed wave (no_pairs wave capacity) (sum shares) search.tree is.right);
          short = rw tree (search_short wave (no_pairs wave capacity) (sum shares) search.tree is.right);
        };
        worth = record {
          state = rw (bounds, costs) state;
          joined = rw batching is.best.proper.joined;
          within = rw tree (omega (arith, all_paid, is.within, spends));
          worked = λ count enough. ⊎_elim (λ short. inr (rw tree (all_worked count short (omega (arith, enough, spends)))))
              (λ done. inl (state.1 (at_cost done))) ended;
          full_tree = λ enough. ⊎_elim (λ short. absurd (not_full short (omega (arith, enough, spends)))) (λ done. state.1 (at_cost done)) ended;
          splits = rw (tree, bounds) (splits_listed bound search.tree (is.cuts bound at));
        };
      }

  -- so is what it is answered with
  pub good_result : (budget : ℕ) (result : Result Planned Memory) → HasEnded wave capacity (sum shares) search → search.budget ≡ budget
      → IfOk result (λ planned. planned.batching ≡ search.best.batching) → IfOk result (λ planned. planned.cost ≡ search.best.cost)
      → IfOk result (λ planned. planned.tree ≡ plain_tree (nodes_of search.tree)) → IfOk result (λ planned. planned.bound ≡ bound)
      → IfOk result (λ planned. (planned.state ≡ states.Proven) ↔ (bound ≡ search.best.cost)) → IfOk result (IsGoodPlan wave capacity budget)
  good_result budget (Ok planned) ended spends batching costs tree bounds state = good_plan budget planned ended spends batching costs tree bounds state
  good_result budget (Err fault) ended spends batching costs tree bounds state = batching
