-- Joining the words of one needed aisle after another.
use Rattle.std.proofs.Common.{◌≡◌, ℕ, ◌+◌, ◌-◌, ◌*◌, ◌/◌, ◌^◌, ◌<◌, ◌≤◌, List, slice_index, max, bit_or, arith, ap, sym, ◌∙◌, ⊎_elim}
use Rattle.std.specs.Int.{bit_at, trailing_zeros, w64}
use Rattle.std.proofs.lemmas.Bool.{cases_eq, cases_lt}
use Rattle.std.proofs.lemmas.Nat.Bits.{bit_at-trailing_zeros, bit_at_above, bit_at_clear_other, bit_at_clear_same, bit_at_or}
use Rattle.wp_graph.specs.PickSets.{HasBitsOfBoth}
use Rattle.wp_graph.proofs.Places.{lowest_cleared, lowest_less, without_lowest}

-- all words are joined, but for those of the aisles that are left
pub record JoinedBut (rest : ℕ) (words left right : List ℕ) : Type 0 where
  pub joined : (at : ℕ) → at < 260 → bit_at rest (64 - at / 4) ≡ 0 → HasBitsOfBoth (slice_index left at) (slice_index right at) (slice_index words at)
  pub same : (at : ℕ) → at < 260 → bit_at rest (64 - at / 4) ≡ 1 → slice_index words at ≡ slice_index left at

-- the words of one aisle are joined, and the others stay
pub record JoinsAisle (aisle : ℕ) (now next other : List ℕ) : Type 0 where
  pub here : (at : ℕ) → 4 * aisle ≤ at → at < 4 * aisle + 4 → slice_index next at ≡ bit_or (slice_index now at) (slice_index other at)
  pub before : (at : ℕ) → at < 4 * aisle → slice_index next at ≡ slice_index now at
  pub behind : (at : ℕ) → 4 * aisle + 4 ≤ at → slice_index next at ≡ slice_index now at

-- with the aisle of the lowest bit joined, the others are left
pub one_aisle_less : {rest : ℕ} {now next left right : List ℕ} → 0 < rest → rest < 2 ^ 64 → JoinsAisle (64 - trailing_zeros w64 rest) now next right →
    JoinedBut rest now left right → JoinedBut (without_lowest rest) next left right
one_aisle_less {rest} {now} {next} {left} {right} some fits joins before = record {
  joined = λ at within off k small. ⊎_elim
      (λ (e : 64 - at / 4 ≡ t).
      let was = before.same at within (ap (λ (i : ℕ). bit_at rest i) e ∙ low.1) in
      ap (λ (w : ℕ). bit_at w k) (joins.here at (omega (arith, e, low.0)) (omega (arith, e, low.0))) ∙ bit_at_or (slice_index now at) (slice_index right at) k
      ∙ ap (λ (w : ℕ). max (bit_at w k) (bit_at (slice_index right at) k)) was)
      (λ ne. ap (λ (w : ℕ). bit_at w k) (stays at ne) ∙ before.joined at within (off_before at ne off) k small)
      (cases_eq (64 - at / 4) t);
  same = λ at within on. ⊎_elim
      (λ (e : 64 - at / 4 ≡ t).
      let off = ap (λ (i : ℕ). bit_at (without_lowest rest) i) e ∙ bit_at_clear_same w64 rest t low.0 in absurd (omega (arith, on, off)))
      (λ ne. stays at ne ∙ before.same at within (lowest_cleared rest (64 - at / 4) some fits (below at on) on))
      (cases_eq (64 - at / 4) t);
}
  where
    t : ℕ
    t = trailing_zeros w64 rest

    low : (t < 64) × (bit_at rest t ≡ 1) × ((i : ℕ) → i < t → bit_at rest i ≡ 0)
    low = bit_at-trailing_zeros w64 rest some fits

    stays : (at : ℕ) → (64 - at / 4 ≡ t → ⊥) → slice_index next at ≡ slice_index now at
    stays at ne = ⊎_elim (λ under. joins.before at under) (λ over. joins.behind at (omega (arith, ne, low.0))) (cases_lt at (4 * (64 - t)))

    off_before : (at : ℕ) → (64 - at / 4 ≡ t → ⊥) → bit_at (without_lowest rest) (64 - at / 4) ≡ 0 → bit_at rest (64 - at / 4) ≡ 0
    off_before at ne off =
        ⊎_elim (λ under. sym (bit_at_clear_other w64 rest t low.0 (64 - at / 4) under ne) ∙ off) (λ over. bit_at_above rest 64 (64 - at / 4) fits over)
        (cases_lt (64 - at / 4) 64)

    below : (at : ℕ) → bit_at (without_lowest rest) (64 - at / 4) ≡ 1 → 64 - at / 4 < 64
    below at on =
        ⊎_elim (λ under. under)
        (λ over. let off = bit_at_above (without_lowest rest) 64 (64 - at / 4) (omega (arith, fits, lowest_less rest some fits)) over in absurd
        (omega (arith, on, off)))
        (cases_lt (64 - at / 4) 64)
