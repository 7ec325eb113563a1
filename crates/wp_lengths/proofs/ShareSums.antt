-- Share duals, one after the other.
use Rattle.std.proofs.Common.{◌≡◌, ◌≢◌, ℕ, ◌+◌, ◌<◌, ◌↔◌, ◌⊎◌, List, [], ◌∷◌, ◌++◌, length, length-append, arith, refl, sym, ◌∙◌, subst, inr, ⊎_elim, Contains}
use Rattle.std.specs.Prelude.{slice_index, sum}
use Rattle.std.specs.List.Sorted.{IsStrictlyIncreasing}
use Rattle.std.proofs.lemmas.Bool.{cases_eq}
use Rattle.std.proofs.lemmas.List.Sums.{sum_by_push}
use Rattle.std.proofs.lemmas.List.{get_or_append_left, get_or_push}
use Rattle.wp_pairs.proofs.Members.{contains_none}
use Rattle.wp_lengths.specs.Waves.{WavePicks}
use Rattle.wp_lengths.specs.Duals.{IsShare, IsSumOfShares}
use Rattle.wp_lengths.proofs.Ascending.{single_list}

-- no order with one order is that order alone
pub one_order : (empty batch : List ℕ) (order : ℕ) → empty ≡ [] → IsStrictlyIncreasing batch
    → ((p : ℕ) → Contains batch p ↔ (Contains empty p ⊎ (p ≡ order))) → batch ≡ order ∷ []
one_order empty batch order none up is =
    single_list batch order up ((is order).1 (inr refl))
    (λ p has. ⊎_elim (λ l. absurd (contains_none p (subst (λ (xs : List ℕ). Contains xs p) none l))) (λ (e : p ≡ order). e) ((is p).0 has))

-- the share duals of the orders below this one come to this
pub record AreSharesBelow (wave : WavePicks) (capacity order total : ℕ) : Type 0 where
  pub shares : List ℕ
  pub count : length shares ≡ order
  pub each : (k : ℕ) → k < order → IsShare wave capacity k (slice_index shares k)
  pub sums : sum shares ≡ total

-- of none
pub no_shares : (wave : WavePicks) (capacity : ℕ) → AreSharesBelow wave capacity 0 0
no_shares wave capacity = record { shares = []; count = refl; each = λ k low. absurd (omega arith); sums = refl }

-- of one more
pub more_shares : (wave : WavePicks) (capacity order total share : ℕ) → AreSharesBelow wave capacity order total → IsShare wave capacity order share
    → AreSharesBelow wave capacity (order + 1) (total + share)
more_shares wave capacity order total share before is = record {
  shares = before.shares ++ share ∷ [];
  count = omega (arith, length-append before.shares (share ∷ []), before.count);
  each = λ k low. ⊎_elim
      (λ (e : k ≡ order). let here = get_or_push before.shares share 0 k (before.count ∙ sym e) in
      subst (λ (s : ℕ). IsShare wave capacity k s) (sym here) (subst (λ (o : ℕ). IsShare wave capacity o share) (sym e) is))
      (λ (ne : k ≢ order). let there = get_or_append_left before.shares (share ∷ []) 0 k (omega (arith, before.count, ne)) in
      subst (λ (s : ℕ). IsShare wave capacity k s) (sym there) (before.each k (omega (arith, ne))))
      (cases_eq k order);
  sums = omega (arith, sum_by_push (λ (x : ℕ). x) before.shares share, before.sums);
}

-- of all
pub all_shares : (wave : WavePicks) (capacity order total : ℕ) → AreSharesBelow wave capacity order total → order ≡ length wave.orders
    → IsSumOfShares wave capacity total
all_shares wave capacity order total below all = (
  below.shares,
  record { count = below.count ∙ all; each = λ k low. below.each k (omega (arith, all)) },
  below.sums,
)
