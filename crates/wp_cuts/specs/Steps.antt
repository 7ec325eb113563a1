-- The step of a layout: the length of each closed walk is a multiple of it, so a bound may be rounded up to one.
use Rattle.std.specs.Prelude.{◌≡◌, ℕ, zero, suc, ◌*◌, ◌%◌, ◌≤◌, ◌==◌, ◌&&◌, ◌||◌, Bool, List, All, if◌then◌else◌}
use Rattle.std.specs.Prelude.{nat_lt}
use Rattle.std.specs.List.{list_all}
use Rattle.std.specs.Int.{◌∣◌}
use Rattle.wp_model.specs.Warehouse.{Layout}
use Rattle.wp_model.specs.declared.point.Point.{Point}
use Rattle.wp_model.specs.Tours.{IsClosedWalk}
use Rattle.wp_lengths.specs.Duals.{sixtieths_of}

-- a number divides the length of each move: the clearance, the spacings, and the pitch where an aisle has two slots or
-- more
pub record DividesMoves (layout : Layout) (divisor : ℕ) : Type 0 where
  pub clearance : divisor ∣ layout.clearance
  pub pitch : 2 ≤ layout.slots → divisor ∣ layout.pitch
  pub spacings : All (λ spacing. divisor ∣ spacing) layout.spacings

-- the step of a layout is twice the greatest common divisor of the lengths of its moves
pub record IsLayoutStep (layout : Layout) (step : ℕ) : Type 0 where
  pub half : ℕ
  pub divides : DividesMoves layout half
  pub greatest : (other : ℕ) → DividesMoves layout other → other ∣ half
  pub twice : step ≡ 2 * half

-- whether a number divides another
abbrev pub divides : ℕ → ℕ → Bool
divides divisor n = n % divisor == 0

-- whether it divides the length of each move
abbrev pub divides_moves : Layout → ℕ → Bool
divides_moves layout divisor =
    divides divisor layout.clearance
    && ((nat_lt layout.slots 2 || divides divisor layout.pitch) && list_all (divides divisor) layout.spacings)

-- the greatest number up to a most that passes a test, or 0
unfoldable pub greatest_of : (ℕ → Bool) → ℕ → ℕ
greatest_of passes zero = 0
greatest_of passes (suc most) = if passes (suc most) then suc most else greatest_of passes most

-- the step of a layout as it is computed: no divisor of the clearance is above it
abbrev pub layout_step : Layout → ℕ
layout_step layout = 2 * greatest_of (divides_moves layout) layout.clearance

-- so many sixtieths of a unit of length, rounded up to a multiple of a step: the least one that isn't below them
pub record IsRoundedUp (step sixtieths bound : ℕ) : Type 0 where
  pub multiple : step ∣ bound
  pub enough : sixtieths ≤ sixtieths_of bound
  pub least : (other : ℕ) → step ∣ other → sixtieths ≤ sixtieths_of other → bound ≤ other

-- the length of each closed walk is a multiple of the layout's step
abbrev pub ClosedWalksAreMultiples : Type 0
ClosedWalksAreMultiples = (layout : Layout) (step : ℕ) (points : List Point) (total : ℕ) → IsLayoutStep layout step
    → IsClosedWalk layout points total → step ∣ total
