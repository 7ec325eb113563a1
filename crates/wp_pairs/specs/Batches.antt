-- Batches: sets of orders of a wave, as contracts see them and as a word of 64 bits keeps them.
use Rattle.std.specs.Prelude.{ℕ, zero, suc, ◌+◌, ◌/◌, ◌%◌, ◌^◌, ◌<◌, ◌==◌, List, [], ◌∷◌, All, if◌then◌else◌}
use Rattle.std.specs.List.Sorted.{IsStrictlyIncreasing}

-- a set of orders, listed in ascending order; an order is its place in the wave, which has at most 64 orders
pub record IsBatch (batch : List ℕ) : Type 0 where
  pub ascending : IsStrictlyIncreasing batch
  pub below : All (λ order. order < 64) batch

-- the places of the ones among the lowest digits of a word, so many of them, the lowest being at this place
unfoldable pub members_from : ℕ → ℕ → ℕ → List ℕ
members_from zero place word = []
members_from (suc digits) place word =
    if word % 2 == 1 then place ∷ members_from digits (place + 1) (word / 2)
    else members_from digits (place + 1) (word / 2)

-- the places of the ones of a word of 64 bits
unfoldable pub members : ℕ → List ℕ
members word = members_from 64 0 word

-- the word with ones at these places
abbrev pub word_of : List ℕ → ℕ
word_of [] = 0
word_of (place ∷ places) = 2 ^ place + word_of places
