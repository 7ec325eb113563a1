-- What waves are planned with, and what is told of their plans besides.
use Rattle.std.specs.Prelude.{ℕ, ◌≤◌, ◌*◌, ◌^◌, min, Bool, Option, Some, None}
use Rattle.wp_node.specs.Prices.{price}

-- how many orders a batch may have, what may be spent on a wave's bound, or in its place for how many nodes, and on how
-- many threads; whether sheets tell what three usual rules would walk, to how many pickers all batches are dealt, 0
-- where they aren't, and whether sheets tell a bracket of the linear bound
pub record Terms : Type 0 where
  pub capacity : ℕ
  pub budget : ℕ
  pub nodes : Option ℕ
  pub workers : ℕ
  pub rules : Bool
  pub pickers : ℕ
  pub root : Bool

-- a capacity, a budget and numbers of workers and of pickers within their ranges
pub record AreTerms (terms : Terms) : Type 0 where
  pub some_capacity : 1 ≤ terms.capacity
  pub most_capacity : terms.capacity ≤ 8
  pub budget : terms.budget ≤ 10 ^ 18
  pub some_workers : 1 ≤ terms.workers
  pub most_workers : terms.workers ≤ 16
  pub pickers : terms.pickers ≤ 100

-- what may be spent on the bound of a wave of so many orders: where there are nodes, so many times the price of a node
-- of that wave, but no more than the greatest budget
abbrev pub spent_on : ℕ → ℕ → ℕ → Option ℕ → ℕ
spent_on orders capacity budget None = budget
spent_on orders capacity budget (Some nodes) = min (price orders capacity * nodes) (10 ^ 18)

abbrev pub budget_of : ℕ → Terms → ℕ
budget_of orders terms = spent_on orders terms.capacity terms.budget terms.nodes
