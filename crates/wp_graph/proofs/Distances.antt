-- Distances in an aisle in closed form.
use Rattle.std.proofs.Common.{◌≡◌, ℕ, zero, suc, ◌+◌, ◌-◌, ◌*◌, ◌<◌, ◌≤◌, arith, refl}
use Rattle.std.proofs.lemmas.Bool.Decides.{nat_tests}
use Rattle.wp_model.specs.Warehouse.{Layout, IsUpTo, step_length}
use Rattle.wp_graph.specs.Required.{aisle_length, distance}

-- between two slots there is the pitch
pub inner_step : (layout : Layout) (slot : ℕ) → 0 < slot → slot < layout.slots → step_length layout slot ≡ layout.pitch
inner_step layout slot low high = grind (arith, nat_tests)

-- behind the last slot there is the clearance
pub last_step : (layout : Layout) → step_length layout layout.slots ≡ layout.clearance
last_step layout = grind (arith, nat_tests)

-- the distance of a slot from the front: the clearance, and the pitch for each slot before it
pub distance_of_slot : (layout : Layout) (n : ℕ) → n < layout.slots → distance layout (suc n) ≡ layout.clearance + n * layout.pitch
distance_of_slot layout zero within = omega arith
distance_of_slot layout (suc n) within =
    let before = distance_of_slot layout n (omega arith) in
    let step = inner_step layout (suc n) (omega arith) within in
    omega arith

-- the same for a slot of the layout
pub distance_is : (layout : Layout) (slot : ℕ) → IsUpTo layout.slots slot → distance layout slot ≡ layout.clearance + (slot - 1) * layout.pitch
distance_is layout zero h = absurd (omega arith)
distance_is layout (suc n) h =
    let before : suc n - 1 ≡ n = omega arith in rw before (distance_of_slot layout n (omega arith))

-- an aisle is as long as two clearances and the pitches between its slots
pub aisle_length_is : (layout : Layout) → 1 ≤ layout.slots → aisle_length layout ≡ 2 * layout.clearance + (layout.slots - 1) * layout.pitch
aisle_length_is layout some =
    let before = distance_is layout layout.slots (some, omega arith) in
    let step = last_step layout in
    let end : distance layout (suc layout.slots) ≡ distance layout layout.slots + step_length layout layout.slots = refl in
    let same : layout.slots + 1 ≡ suc layout.slots = omega arith in
    rw same (omega arith)
