-- What open orders want together.
use Rattle.std.specs.Prelude.{◌≡◌, ℕ, ◌-◌, ◌≤◌, ⊤, List, [], ◌∷◌, ◌++◌, map}
use Rattle.std.specs.List.{sum_by}
use Rattle.wp_model.specs.Demand.{order_demand, wave_demand}
use Rattle.wp_model.specs.Opening.{Opening}
use Rattle.wp_waves.specs.OpenOrders.{order_of}
use Rattle.wp_waves.specs.declared.open_orders.OpenOrder.{OpenOrder}

-- how many units of an article an open order wants
abbrev pub wanted_by : Opening → ℕ → OpenOrder → ℕ
wanted_by opening article one = order_demand opening one.order article

-- how many open orders want together
abbrev pub wanted_together : Opening → List OpenOrder → ℕ → ℕ
wanted_together opening listed article = sum_by (wanted_by opening article) listed

-- the open orders of all waves, wave by wave
abbrev pub all_of : List (List OpenOrder) → List OpenOrder
all_of [] = []
all_of (wave ∷ waves) = wave ++ all_of waves

-- each wave is covered by what is free less what the waves before it want
abbrev pub AreCoveredInTurn : Opening → (ℕ → ℕ) → List (List OpenOrder) → Type 0
AreCoveredInTurn opening free [] = ⊤
AreCoveredInTurn opening free (wave ∷ waves) =
    ((article : ℕ) → wave_demand opening (map order_of wave) article ≤ free article)
    × AreCoveredInTurn opening (λ article. free article - wave_demand opening (map order_of wave) article) waves
