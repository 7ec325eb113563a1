-- What orders load, word by word.
use Rattle.std.proofs.Common.{◌≡◌, ℕ, zero, suc, ◌+◌, ◌-◌, ◌<◌, ◌≤◌, List, [], ◌∷◌, ◌++◌, length, replicate, set, slice_index, take, append_assoc, arith, ap}
use Rattle.std.proofs.Common.{refl, sym, ◌∙◌}
use Rattle.std.proofs.Math.Seq.{set-append_seam, take-append_seam}
use Rattle.std.proofs.lemmas.List.{length-take-le, take_more}
use Rattle.wp_pairs.specs.Carts.{KeepsLoads, padded}

-- the load of one more order is written behind the others
pub one_more_load : (loads : List ℕ) (i : ℕ) → i < length loads → length loads ≤ 64
    → set (padded (take i loads)) i (slice_index loads i) ≡ padded (take (i + 1) loads)
one_more_load loads i low few =
    let v = slice_index loads i in
    let count : length (take i loads) ≡ i = length-take-le i loads (omega (arith, low)) in
    let next : length (take (i + 1) loads) ≡ i + 1 = length-take-le (i + 1) loads (omega (arith, low)) in
    let rest = 64 - length (take (i + 1) loads) in
    let room : 64 - length (take i loads) ≡ suc (64 - length (take (i + 1) loads)) = omega (arith, count, next, low, few) in
    let more = take_more loads i 0 low in
    ap (λ (n : ℕ). set (take i loads ++ replicate n 0) i v) room
    ∙ (ap (λ (k : ℕ). set (take i loads ++ 0 ∷ replicate rest 0) k v) (sym count)
    ∙ (set-append_seam (take i loads) 0 (replicate rest 0) v
    ∙ (sym (append_assoc (take i loads) (v ∷ []) (replicate rest 0)) ∙ ap (λ (ws : List ℕ). ws ++ replicate rest 0) (sym more))))

-- the words of these loads keep them
pub keeps_loads : (loads words : List ℕ) → length loads ≤ 64 → words ≡ padded loads
    → KeepsLoads (length loads) words × (take (length loads) words ≡ loads)
keeps_loads loads words few is =
    let kept : take (length loads) words ≡ loads = ap (take (length loads)) is ∙ take-append_seam loads (replicate (64 - length loads) 0) in (
      record { words_are = is ∙ ap padded (sym kept); count_is = ap length (sym kept); few = few },
      kept,
    )

-- an order for which there is no load loads nothing
pub no_load : (loads : List ℕ) (order : ℕ) → length loads ≤ order → slice_index loads order ≡ 0
no_load [] order high = refl
no_load (load ∷ loads) zero high = absurd (omega (arith, high))
no_load (load ∷ loads) (suc order) high = no_load loads order (omega (arith, high))
