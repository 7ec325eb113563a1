-- What the chains of a book hold.
use Rattle.std.specs.Prelude.{ℕ, List, map}
use Rattle.std.specs.List.{flat_map, sum_by}
use Rattle.wp_model.specs.Book.{Holding, Where, hold_units_where, of_wave}
use Rattle.wp_book.specs.declared.room.KeptHolds.{KeptHolds}

-- the holdings that one call made
abbrev pub holdings_of : KeptHolds → List Holding
holdings_of node = map (of_wave node.wave) node.holds

-- all holdings of the chains
abbrev pub holdings_in : List (List KeptHolds) → List Holding
holdings_in chains = flat_map (flat_map holdings_of) chains

-- the units that pass a test, of one call's holds
abbrev pub node_units : Where → KeptHolds → ℕ
node_units passes node = sum_by (hold_units_where passes node.wave) node.holds

-- the units that pass a test, of a chain
abbrev pub chain_units : Where → List KeptHolds → ℕ
chain_units passes nodes = sum_by (node_units passes) nodes

-- the units that pass a test, of all chains
abbrev pub all_units : Where → List (List KeptHolds) → ℕ
all_units passes chains = sum_by (chain_units passes) chains
