-- Plain prices say what their duals say.
use Rattle.std.proofs.Common.{◌≡◌, ℕ, suc, ◌*◌, List, [], ◌∷◌, All, arith, refl}
use Rattle.std.specs.Prelude.{sum}
use Rattle.wp_cuts.specs.Cuts.{CutParts, times_met, times_met_by_all}
use Rattle.wp_cuts.specs.Prices.{PlainPricesSayWhatDualsSay, taken_off, taken_off_all}
use Rattle.wp_cuts.proofs.Rounding.{rounded_to_units}

nothing_times : (price times : ℕ) → price ≡ 0 → price * times ≡ 0
nothing_times price times none = let zeros : 0 * times ≡ 0 = omega arith in rw none zeros

-- prices of 0 take nothing off
pub nothing_off : (cuts : List CutParts) (prices batch : List ℕ) → All (λ price. price ≡ 0) prices → taken_off cuts prices batch ≡ 0
nothing_off [] prices batch none = refl
nothing_off (cut ∷ cuts) [] batch none = refl
nothing_off (cut ∷ cuts) (price ∷ prices) batch none = omega (
  arith,
  nothing_times price (times_met cut batch) (none 0 0 (omega arith)),
  nothing_off cuts prices batch (λ k d low. none (suc k) d (omega (arith, low))),
)

pub nothing_off_all : (cuts : List CutParts) (prices : List ℕ) → All (λ price. price ≡ 0) prices → taken_off_all cuts prices ≡ 0
nothing_off_all [] prices none = refl
nothing_off_all (cut ∷ cuts) [] none = refl
nothing_off_all (cut ∷ cuts) (price ∷ prices) none = omega (
  arith,
  nothing_times price (times_met_by_all cut) (none 0 0 (omega arith)),
  nothing_off_all cuts prices (λ k d low. none (suc k) d (omega (arith, low))),
)

-- plain prices say what their duals say
pub plain_prices_say : PlainPricesSayWhatDualsSay
plain_prices_say = λ wave pairing cuts prices plain. record {
  feasible = (
    λ feasible batch total permitted long. omega (arith, feasible batch total permitted long, nothing_off cuts prices.cuts batch plain.cuts, plain.count),
    λ feasible batch total permitted long. omega (arith, feasible batch total permitted long, nothing_off cuts prices.cuts batch plain.cuts, plain.count),
  );
  tight = (
    λ tight order known. let at = tight order known in (
      at.0,
      record {
        permitted = at.1.permitted;
        holds = at.1.holds;
        total = at.1.total;
        long = at.1.long;
        equal = omega (arith, at.1.equal, nothing_off cuts prices.cuts at.0 plain.cuts, plain.count);
      },
    ),
    λ tight order known. let at = tight order known in (
      at.0,
      record {
        permitted = at.1.permitted;
        holds = at.1.holds;
        total = at.1.total;
        long = at.1.long;
        equal = omega (arith, at.1.equal, nothing_off cuts prices.cuts at.0 plain.cuts, plain.count);
      },
    ),
  );
  nets = λ batches.
      let none : batches * prices.count ≡ 0 = counted batches prices.count plain.count in
      omega (arith, none, nothing_off_all cuts prices.cuts plain.cuts);
  bounds = λ bound. rounded_to_units (sum prices.duals) bound;
}
  where
    counted : (batches count : ℕ) → count ≡ 0 → batches * count ≡ 0
    counted batches count none = let zeros : batches * 0 ≡ 0 = grind arith in rw none zeros
