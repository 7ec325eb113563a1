-- The ranges of the numbers that the options give which limit no file, and what stands for those that aren't given.
use Rattle.std.specs.Prelude.{ℕ, ◌≤◌, Option, codes}
use Rattle.std.specs.Option.{ForSome}
use Rattle.clap.specs.Walk.{Text}
use Rattle.wp_model.specs.Tables.{IsCart}

-- the most orders that a batch may have
abbrev pub most_capacity : ℕ
most_capacity = 8

-- where units are given, they may be those of a cart
abbrev pub AreUnits : Option ℕ → Type 0
AreUnits units = ForSome units IsCart

-- the greatest budget, the work that the search for better batches may do
abbrev pub most_budget : ℕ
most_budget = 1000000000000000000

-- the most nodes for which each wave's search may work
abbrev pub most_nodes : ℕ
most_nodes = 1000000000

-- where nodes are given, they are so many as a search may work for
abbrev pub AreNodes : Option ℕ → Type 0
AreNodes nodes = ForSome nodes (λ count. (1 ≤ count) × (count ≤ most_nodes))

-- the most threads that may search at once
abbrev pub most_workers : ℕ
most_workers = 16

-- the greatest number of rules: 1 asks for what three usual rules would walk, and 0 doesn't
abbrev pub most_rules : ℕ
most_rules = 1

-- the most pickers to whom the batches of a day are dealt
abbrev pub most_pickers : ℕ
most_pickers = 100

-- what the words may say of the root: that the sheets tell a bracket of the linear bound (1), or not (0)
abbrev pub most_root : ℕ
most_root = 1

-- what the words may say of the store: that the day goes on from it and its entries are added to it (1), or that it
-- isn't touched (0)
abbrev pub most_store : ℕ
most_store = 1

-- the greatest number from which an input is made: any word of 64 bits is one
abbrev pub most_number : ℕ
most_number = 18446744073709551615

-- the budget where none is given
abbrev pub usual_budget : ℕ
usual_budget = 2000000

-- the number of threads where none is given
abbrev pub usual_workers : Text
usual_workers = codes "1"

-- the number of a switch where none is given: what the switch asks for isn't done
abbrev pub usual_switch : Text
usual_switch = codes "0"
