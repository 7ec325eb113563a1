-- The greatest of some numbers.
use Rattle.std.proofs.Common.{◌≡◌, ℕ, zero, suc, ◌+◌, ◌<◌, ◌≤◌, max, List, [], ◌∷◌, length, get_or, drop, arith, refl}
use Rattle.std.proofs.lemmas.List.{at_drop_more, at_drop_all}
use Rattle.wp_crew.specs.Crews.{greatest}

greatest-cons : (one : ℕ) (numbers : List ℕ) → greatest (one ∷ numbers) ≡ max one (greatest numbers)
unfolding greatest
greatest-cons one numbers = refl

pub greatest-nil : greatest [] ≡ 0
unfolding greatest
greatest-nil = refl

-- none is above it
pub le-greatest : (numbers : List ℕ) (i : ℕ) → i < length numbers → get_or numbers i 0 ≤ greatest numbers
le-greatest [] i within = absurd (omega arith)
le-greatest (one ∷ numbers) zero within = omega (arith, greatest-cons one numbers)
le-greatest (one ∷ numbers) (suc i) within = omega (arith, greatest-cons one numbers, le-greatest numbers i (omega arith))

-- what none is above
pub greatest-le : (numbers : List ℕ) (most : ℕ) → ((i : ℕ) → i < length numbers → get_or numbers i 0 ≤ most) → greatest numbers ≤ most
greatest-le [] most each = omega (arith, greatest-nil)
greatest-le (one ∷ numbers) most each =
    omega (arith, greatest-cons one numbers, each 0 (omega arith), greatest-le numbers most (λ i within. each (suc i) (omega arith)))

-- the greatest so far and the greatest of the rest
pub greatest_more : (numbers : List ℕ) (i most : ℕ) → i < length numbers → max most (greatest (drop i numbers)) ≡ greatest numbers
    → max (max most (get_or numbers i 0)) (greatest (drop (i + 1) numbers)) ≡ greatest numbers
greatest_more numbers i most within so_far =
    omega (arith, so_far, at_drop_more greatest numbers i 0 within, greatest-cons (get_or numbers i 0) (drop (i + 1) numbers))

pub greatest_all : (numbers : List ℕ) (i most : ℕ) → length numbers ≤ i → max most (greatest (drop i numbers)) ≡ greatest numbers
    → most ≡ greatest numbers
greatest_all numbers i most after so_far = omega (arith, so_far, at_drop_all greatest numbers i after, greatest-nil)
