-- What the orders of batches load, where there is a cart or none.
use Rattle.std.proofs.Common.{◌≡◌, ◌+◌, ◌↔◌, ℕ, List, [], Option, None, Some, refl}
use Rattle.std.specs.Prelude.{slice_index, sum_by}
use Rattle.wp_pairs.specs.Carts.{Carries, FitsAnyCart, LoadedCart, any_load}

-- a batch fits a cart exactly where the cart holds what its orders load
pub fits_carried : (cart : Option LoadedCart) (batch : List ℕ) → FitsAnyCart cart batch ↔ Carries cart (any_load cart batch)
fits_carried None batch = (λ light. light, λ light. light)
fits_carried (Some held) batch = (λ light. light, λ light. light)

-- no order loads nothing
pub none_loads : (cart : Option LoadedCart) → any_load cart [] ≡ 0
none_loads None = refl
none_loads (Some held) = refl

-- a list that weighs as much as two others, whatever each order weighs, loads as much as they
pub loads_together : (cart : Option LoadedCart) (left right both : List ℕ)
    → ((f : ℕ → ℕ) → sum_by f both ≡ sum_by f left + sum_by f right)
    → any_load cart both ≡ any_load cart left + any_load cart right
loads_together None left right both weighs = refl
loads_together (Some held) left right both weighs = weighs (slice_index held.loads)
