-- The passes at the opening.
use Rattle.std.proofs.Common.{◌≡◌, ℕ, zero, suc, [], All, refl, arith}
use Rattle.wp_turn.specs.Promises.{Opening, IsOf, own_calls, new_pass, new_passes}
use Rattle.wp_turn.proofs.Closing.{all_snoc}

module _ {T : Type 0} (E : Type 0) (turn : Opening T) where
  -- all are of their turn
  pub new_of_it : (n : ℕ) → All (λ pass. IsOf turn pass) (new_passes {E = E} turn n)
  new_of_it zero k d inside = absurd (omega (arith, inside))
  new_of_it (suc n) k d inside = all_snoc (λ pass. IsOf turn pass) (new_passes {E = E} turn n) (new_pass turn (suc n)) (new_of_it n) (refl, refl) k d inside

  -- none has made a call
  pub new_without_calls : (n : ℕ) → All (λ pass. own_calls pass ≡ []) (new_passes {E = E} turn n)
  new_without_calls zero k d inside = absurd (omega (arith, inside))
  new_without_calls (suc n) k d inside = all_snoc (λ pass. own_calls pass ≡ []) (new_passes {E = E} turn n) (new_pass turn (suc n)) (new_without_calls n)
      refl k d inside
