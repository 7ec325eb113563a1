-- Open orders so far where there is no open file.
use Rattle.std.specs.Prelude.{ℕ, List, [], ◌∷◌, ◌++◌, Option, Some, None}
use Rattle.wp_waves.specs.declared.open_orders.OpenOrder.{OpenOrder}

-- open orders with one more, where no wave has it
abbrev pub with_untaken : List OpenOrder → List ℕ → List ℕ → Option (List ℕ) → List OpenOrder
with_untaken listed order group None = listed ++ (record { order = order; group = group; rank = 0 }) ∷ []
with_untaken listed order group (Some wave) = listed
