-- Two neighbours of the largest gap.
use Rattle.std.proofs.Common.{◌≡◌, ℕ, ◌-◌, ◌≤◌, List, [], ◌∷◌, ◌++◌, map, arith, refl, ap, ◌⊎◌, inl, inr}
use Rattle.wp_graph.specs.Required.{largest_gap}

-- two neighbours among places, and what stands before and behind them, whose distances differ by the largest gap
pub record WidestGap (d : ℕ → ℕ) (places : List ℕ) : Type 0 where
  pub near : ℕ
  pub far : ℕ
  pub before : List ℕ
  pub after : List ℕ
  pub places_are : places ≡ before ++ near ∷ far ∷ after
  pub gap_is : d far - d near ≡ largest_gap (map d places)

-- of two places or more, some two neighbours are those of the largest gap
pub widest : (d : ℕ → ℕ) (a b : ℕ) (rest : List ℕ) → WidestGap d (a ∷ b ∷ rest)
widest d a b [] = record { near = a; far = b; before = []; after = []; places_are = refl; gap_is = omega arith }
widest d a b (c ∷ rest) = go (widest d b c rest) (cases_le (largest_gap (map d (b ∷ c ∷ rest))) (d b - d a))
  where
    cases_le : (m n : ℕ) → (m ≤ n) ⊎ (n ≤ m)
    cases_le m n = grind arith

    go : WidestGap d (b ∷ c ∷ rest) → (largest_gap (map d (b ∷ c ∷ rest)) ≤ d b - d a) ⊎ (d b - d a ≤ largest_gap (map d (b ∷ c ∷ rest)))
        → WidestGap d (a ∷ b ∷ c ∷ rest)
    go found (inl low) = record { near = a; far = b; before = []; after = c ∷ rest; places_are = refl; gap_is = omega (arith, low) }
    go found (inr high) = record {
      near = found.near;
      far = found.far;
      before = a ∷ found.before;
      after = found.after;
      places_are = ap (λ xs. a ∷ xs) found.places_are;
      gap_is = omega (arith, found.gap_is, high);
    }
