use Rattle.std.proofs.Common.{ℕ, List}
use Rattle.wp_floor.specs.Floor.{AreNumbersOf}
use Rattle.wp_floor.specs.WantLists.{AreWantsBefore}
use Rattle.wp_floor.proofs.wanting.list_wants.Given as goal

-- the orders so far have their wants
abbrev pub invariant-loop-place : goal.invariant-loop-place
invariant-loop-place l = (orders : List (List ℕ)) → AreNumbersOf l.opening orders l.numbers → AreWantsBefore l.opening orders l.place l.wants.items
