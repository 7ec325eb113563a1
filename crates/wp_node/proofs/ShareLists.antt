-- Lists of share duals, order by order.
use Rattle.std.proofs.Common.{◌≡◌, ◌≢◌, ℕ, ◌+◌, ◌^◌, ◌<◌, ◌≤◌, List, [], ◌∷◌, ◌++◌, length, length-append, arith, refl, sym, ◌∙◌, subst, ⊎_elim}
use Rattle.std.specs.Prelude.{All, slice_index}
use Rattle.std.proofs.lemmas.Bool.{cases_eq}
use Rattle.std.proofs.lemmas.List.{get_or_append_left, get_or_push}
use Rattle.std.proofs.lemmas.List.Elements.{All-nil, All-push}
use Rattle.wp_lengths.specs.Waves.{WavePicks}
use Rattle.wp_lengths.specs.Duals.{AreDuals, AreShares, IsShare, greatest_dual}

-- the share duals of the orders below this one
pub record AreSharesBelow (wave : WavePicks) (capacity order : ℕ) (shares : List ℕ) : Type 0 where
  pub count : length shares ≡ order
  pub each : (k : ℕ) → k < order → IsShare wave capacity k (slice_index shares k)
  pub within : All (λ share. share ≤ greatest_dual) shares

-- of none
pub no_shares : (wave : WavePicks) (capacity : ℕ) → AreSharesBelow wave capacity 0 []
no_shares wave capacity = record {
  count = refl;
  each = λ k low. absurd (omega arith);
  within = All-nil (λ (share : ℕ). share ≤ greatest_dual);
}

-- of one more
pub one_more_share : (wave : WavePicks) (capacity order share : ℕ) (shares : List ℕ) → AreSharesBelow wave capacity order shares
    → IsShare wave capacity order share → share < 2 ^ 34 → AreSharesBelow wave capacity (order + 1) (shares ++ share ∷ [])
one_more_share wave capacity order share shares before is small = record {
  count = omega (arith, length-append shares (share ∷ []), before.count);
  each = λ k low. ⊎_elim
      (λ (e : k ≡ order). let here = get_or_push shares share 0 k (before.count ∙ sym e) in
      subst (λ (s : ℕ). IsShare wave capacity k s) (sym here) (subst (λ (o : ℕ). IsShare wave capacity o share) (sym e) is))
      (λ (ne : k ≢ order). let there = get_or_append_left shares (share ∷ []) 0 k (omega (arith, before.count, ne)) in
      subst (λ (s : ℕ). IsShare wave capacity k s) (sym there) (before.each k (omega (arith, ne))))
      (cases_eq k order);
  within = All-push (λ (s : ℕ). s ≤ greatest_dual) shares share before.within (omega (arith, small));
}

-- of all
pub all_are_shares : (wave : WavePicks) (capacity order : ℕ) (shares : List ℕ) → AreSharesBelow wave capacity order shares → order ≡ length wave.orders
    → AreShares wave capacity shares
all_are_shares wave capacity order shares below all = record {
  count = below.count ∙ all;
  each = λ k low. below.each k (omega (arith, all));
}

-- they are duals
pub shares_are_duals : (wave : WavePicks) (capacity order : ℕ) (shares : List ℕ) → AreSharesBelow wave capacity order shares → order ≤ 64 → AreDuals shares
shares_are_duals wave capacity order shares below few = record { few = omega (arith, below.count, few); within = below.within }
