use Rattle.std.proofs.Common.{◌≡◌, ◌*◌, ◌≤◌, take}
use Rattle.wp_planner.specs.Sent.{plans_of}
use Rattle.wp_top.specs.Summaries.{proven_plans, total_bound, total_cost}
use Rattle.wp_top.proofs.summary.totals_of.Given as goal

-- the plans so far were added
abbrev pub invariant-loop-one : goal.invariant-loop-one
invariant-loop-one l = record {
  cost : l.totals.cost ≡ total_cost (plans_of (take l.one-index l.planned));
  bound : l.totals.bound ≡ total_bound (plans_of (take l.one-index l.planned));
  proven : l.totals.proven ≡ proven_plans (plans_of (take l.one-index l.planned));
  few_cost : l.totals.cost ≤ l.one-index * 18446744073709551615;
  few_bound : l.totals.bound ≤ l.one-index * 18446744073709551615;
  few_proven : l.totals.proven ≤ l.one-index;
}
