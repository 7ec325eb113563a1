-- Steps of a path: it begins with no pair, and an undecided pair makes it longer.
use Rattle.std.proofs.Common.{◌≡◌, ℕ, ◌<◌, ◌≤◌, Bool, List, [], ◌∷◌, ◌++◌, length, get_or, take, arith, sym, ◌∙◌, subst, ⊎_elim}
use Rattle.std.proofs.lemmas.Bool.{cases_lt}
use Rattle.std.proofs.lemmas.List.{get_or_append_left, get_or_push, length-append, take-append-le, take_all}
use Rattle.wp_pairs.specs.declared.pair.OrderPair.{OrderPair}
use Rattle.wp_pairs.specs.Permitted.{AreUndecided}
use Rattle.wp_lengths.specs.Waves.{WavePicks}
use Rattle.wp_cert.specs.Paths.{IsPath, pairing_of}
use Rattle.wp_cert.specs.Trees.{with_pair}

-- no pair is a path
pub empty_path : (wave : WavePicks) (capacity : ℕ) → IsPath wave capacity []
empty_path wave capacity = record { each = λ k d within. absurd (omega arith) }

-- an undecided pair makes a path longer
pub longer_path : (wave : WavePicks) (capacity : ℕ) (pairs : List OrderPair) (first second : ℕ) (together : Bool) → IsPath wave capacity pairs
    → AreUndecided (pairing_of wave capacity pairs) first second → IsPath wave capacity (with_pair (pairing_of wave capacity pairs) first second together).pairs
longer_path wave capacity pairs first second together path undecided =
    let new : OrderPair = record { first = first; second = second; together = together } in
    record {
      each = λ k d within. ⊎_elim
          (λ (low : k < length pairs).
          let same = get_or_append_left pairs (new ∷ []) d k low in
          let before = take-append-le k pairs (new ∷ []) (omega arith) in
          subst (λ (ps : List OrderPair). AreUndecided (pairing_of wave capacity ps) (get_or (pairs ++ new ∷ []) k d).first
          (get_or (pairs ++ new ∷ []) k d).second) (sym before)
          (subst (λ (p : OrderPair). AreUndecided (pairing_of wave capacity (take k pairs)) p.first p.second) (sym same) (path.each k d low)))
          (λ (high : length pairs ≤ k).
          let last : k ≡ length pairs = omega (arith, within, length-append pairs (new ∷ [])) in
          let same = get_or_push pairs new d k (sym last) in
          let before = take-append-le k pairs (new ∷ []) (omega (arith, last)) ∙ take_all k pairs high in
          subst (λ (ps : List OrderPair). AreUndecided (pairing_of wave capacity ps) (get_or (pairs ++ new ∷ []) k d).first
          (get_or (pairs ++ new ∷ []) k d).second) (sym before)
          (subst (λ (p : OrderPair). AreUndecided (pairing_of wave capacity pairs) p.first p.second) (sym same) undecided))
          (cases_lt k (length pairs));
    }
