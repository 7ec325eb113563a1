-- The slack of a batch, and the batch of least slack among those that are permitted.
use Rattle.std.specs.Prelude.{◌≡◌, ℕ, Bool, true, false, List, [], ◌∷◌, Option, Some, None, Contains, if◌then◌else◌}
use Rattle.std.specs.Prelude.{nat_lt, ℤ, pos, ◌+ℤ◌, ◌≤ℤ◌}
use Rattle.wp_pairs.specs.Permitted.{IsPermitted, Pairing}
use Rattle.wp_lengths.specs.Lengths.{IsLengthOf}
use Rattle.wp_lengths.specs.Waves.{WavePicks}
use Rattle.wp_lengths.specs.Duals.{duals_of, sixtieths_of}

-- the slack of a batch: sixty times its length, less what its orders have in duals
pub record IsSlack (wave : WavePicks) (duals batch : List ℕ) (slack : ℤ) : Type 0 where
  pub total : ℕ
  pub long : IsLengthOf wave batch total
  pub is : slack +ℤ pos (duals_of duals batch) ≡ pos (sixtieths_of total)

-- a list of orders comes before another: it has a lower order at the first place where they differ, or it is a
-- beginning of it
abbrev pub comes_before : List ℕ → List ℕ → Bool
comes_before [] [] = false
comes_before [] (order ∷ orders) = true
comes_before (order ∷ orders) [] = false
comes_before (left ∷ lefts) (right ∷ rights) =
    if nat_lt left right then true else if nat_lt right left then false else comes_before lefts rights

-- the batches among which the least slack is looked for: those that are permitted, and where an order is given, have it
abbrev pub IsCandidate : Pairing → Option ℕ → List ℕ → Type 0
IsCandidate pairing None batch = IsPermitted pairing batch
IsCandidate pairing (Some order) batch = IsPermitted pairing batch × Contains batch order

-- a candidate has this slack, no candidate has less, and none with the same slack comes before it
pub record IsLeastSlack (wave : WavePicks) (pairing : Pairing) (duals : List ℕ) (through : Option ℕ) (batch : List ℕ)
    (slack : ℤ) : Type 0 where
  pub candidate : IsCandidate pairing through batch
  pub is : IsSlack wave duals batch slack
  pub least : (other : List ℕ) (more : ℤ) → IsCandidate pairing through other → IsSlack wave duals other more
      → slack ≤ℤ more
  pub first : (other : List ℕ) → IsCandidate pairing through other → IsSlack wave duals other slack
      → comes_before other batch ≡ false

-- there is no candidate
abbrev pub HasNoCandidate : Pairing → Option ℕ → Type 0
HasNoCandidate pairing through = (batch : List ℕ) → IsCandidate pairing through batch → ⊥
