-- Brackets that are no wider than what is known.
use Rattle.std.proofs.Common.{◌≡◌, ◌⊎◌, ⊎_elim, inl, inr, ℕ, ◌+◌, ◌*◌, ◌/◌, ◌≤◌, ◌<◌, ◌^◌, List, All, length, ℤ, pos, ◌*ℤ◌, ◌≤ℤ◌, Result, Ok, Err, IfOk, arith}
use Rattle.std.proofs.Common.{ap, sym, subst, refl}
use Rattle.std.specs.Prelude.{sum}
use Rattle.std.proofs.Math.IntN.{*ℤ_comm}
use Rattle.std.proofs.lemmas.Int.{ints}
use Rattle.std.proofs.lemmas.Nat.{mul-le}
use Rattle.wp_batch.proofs.Costs.{one_cost}
use Rattle.wp_lengths.specs.Batchings.{IsBatching, IsCost}
use Rattle.wp_lengths.specs.Waves.{WavePicks}
use Rattle.wp_pairs.specs.Permitted.{Pairing}
use Rattle.wp_master.specs.Bases.{total_below}
use Rattle.wp_master.specs.Pairs.{number_at}
use Rattle.wp_lp.specs.Covers.{pairs_of}
use Rattle.wp_lp.specs.Knowns.{AreNear, AreSound, IsBracketFrom, IsCoverWithin, IsKnown, IsNarrowFrom, IsRootFrom, IsToldRoot, Reaches}
use Rattle.wp_lp.specs.Parts.{AreExact, IsWeightedBatch, cost_of}
use Rattle.wp_lp.specs.Roots.{IsBracket, IsCauseOf, IsHalt, IsNarrow, IsRoot}
use Rattle.wp_lp.specs.Runs.{AreSixtieths}
use Rattle.wp_lp.specs.declared.part.WeightedBatch.{WeightedBatch}
use Rattle.wp_lp.specs.declared.root.Root.{Root}
use Rattle.wp_lp.specs.declared.root.RootState.{RootState}
use Rattle.wp_lp.specs.declared.root.RootState.TheVariants.{Narrow, Rounds, Turns, Wide}
use Rattle.wp_lp.proofs.Pools.{batching_under}
use Rattle.wp_lp.proofs.RoundedDown.{rounded}
use Rattle.wp_lp.proofs.Sides.{bracket_of, narrow_of}
use Rattle.wp_lp.proofs.Wholes.{times_most}

-- a number whose quotient is below another is no more than the divisor times that
pub quotient_below : (t w c : ℕ) → 0 < w → t / w < c → t ≤ w * c
quotient_below t w c some low =
    let round = rounded t w (t / w) some refl in
    let product = mul-le (t / w + 1) w c w (omega (arith, low)) (omega arith) in
    omega (arith, round.1, product)

-- and one whose quotient isn't is no less
pub quotient_above : (t w c : ℕ) → 0 < w → c ≤ t / w → w * c ≤ t
quotient_above t w c some low =
    let round = rounded t w (t / w) some refl in
    let product = mul-le c w (t / w) w low (omega arith) in
    omega (arith, round.0, product)

-- a cover whose quotient by its whole weight is below a cost comes to no more than that cost
pub kept_cover : (wave : WavePicks) (pairing : Pairing) (cost : ℕ) (parts : List WeightedBatch) (over : ℕ) → 1 ≤ over → over < 2 ^ 86
    → AreExact (length wave.orders) (60 * over) parts → All (IsWeightedBatch wave pairing) parts → cost_of parts < 2 ^ 127 → cost_of parts / (60 * over) < cost
    → IsCoverWithin wave pairing cost parts over
kept_cover wave pairing cost parts over some small exact each fits low = record {
  some = some;
  small = small;
  exact = exact;
  each = each;
  fits = fits;
  within = quotient_below (cost_of parts) (60 * over) cost (omega (arith, some)) low;
}

-- the parts of a batching whose cost is no more than such a quotient come to no more than what was divided
pub priced_cover : (wave : WavePicks) (pairing : Pairing) (batches : List (List ℕ)) (cost least : ℕ) (parts : List WeightedBatch) (over : ℕ) → 1 ≤ over
    → over < 2 ^ 86 → AreExact (length wave.orders) (60 * over) parts → All (IsWeightedBatch wave pairing) parts
    → (found : ℕ) × IsCost wave batches found × (cost_of parts ≡ 60 * over * found) → IsCost wave batches cost → least < 2 ^ 127
    → cost ≤ least / (60 * over) → IsCoverWithin wave pairing cost parts over × (cost_of parts ≤ least)
priced_cover wave pairing batches cost least parts over some small exact each found is fits high =
    let product = ap (λ (t : ℕ). 60 * over * t) (one_cost wave batches found.0 cost found.1 is) in
    let most = quotient_above least (60 * over) cost (omega (arith, some)) high in (
      record {
        some = some;
        small = small;
        exact = exact;
        each = each;
        fits = omega (arith, found.2, product, most, fits);
        within = omega (arith, found.2, product);
      },
      omega (arith, found.2, product, most),
    )

-- the parts of a batching, each of a weight of 60, are a cover that comes to its cost
pub batching_cover : (wave : WavePicks) (pairing : Pairing) (batches : List (List ℕ)) (cost : ℕ) (parts : List WeightedBatch)
    → AreExact (length wave.orders) 60 parts → All (IsWeightedBatch wave pairing) parts → (found : ℕ) × IsCost wave batches found × (cost_of parts ≡ 60 * found)
    → IsCost wave batches cost → cost_of parts < 2 ^ 127 → IsCoverWithin wave pairing cost parts 1
batching_cover wave pairing batches cost parts exact each found is fits = record {
  some = omega arith;
  small = omega arith;
  exact = λ order low. omega (arith, exact order low);
  each = each;
  fits = fits;
  within = omega (arith, found.2, one_cost wave batches found.0 cost found.1 is);
}

-- one of two has what both have
pub either_has : {X : Type 0} (P : X → Type 0) (left right one : X) → (one ≡ left) ⊎ (one ≡ right) → P left → P right → P one
either_has P left right one either first second = ⊎_elim (λ (e : one ≡ left). subst P (sym e) first) (λ (e : one ≡ right). subst P (sym e) second) either

-- a bracket that reaches more reaches less
pub reaches_less : (less more : ℕ) (root : Root) → less ≤ more → pos 0 ≤ℤ root.denominator → Reaches more root → Reaches less root
reaches_less less more root few above reaches =
    let scaled = times_most root.denominator (pos less) (pos more) above (omega (arith, ints, few)) in
    omega (arith, ints, scaled, reaches, *ℤ_comm root.denominator (pos less), *ℤ_comm root.denominator (pos more))

denominator_above : (wave : WavePicks) (pairing : Pairing) (root : Root) → IsBracket wave pairing root → pos 0 ≤ℤ root.denominator
denominator_above wave pairing root is = omega (arith, ints, is.cover.above)

narrow_near : (n over low cost : ℕ) (root : Root) → root.low ≡ pos (low * over) → root.high ≡ pos cost → root.denominator ≡ pos (60 * over)
    → cost < low * over + n * over → IsNarrow n root.low root.high root.denominator
narrow_near n over low cost root low_is high_is q_is near =
    let product : pos n *ℤ pos (60 * over) ≡ pos (60 * (n * over)) = omega (arith, ints) in
    let right = ap (λ (t : ℤ). pos n *ℤ t) q_is in
    omega (arith, ints, near, low_is, high_is, right, product)

-- the bracket of a cover and of sound duals
pub cover_bracket : (wave : WavePicks) (pairing : Pairing) (cost : ℕ) (parts : List WeightedBatch) (sixtieths : List ℕ) (over : ℕ) (state : RootState)
    (root : Root)
    → IsToldRoot parts sixtieths over state root → IsCoverWithin wave pairing cost parts over → AreSound wave pairing sixtieths
    → pairing.orders ≡ length wave.orders → IsBracketFrom wave pairing cost (sum sixtieths) state root
cover_bracket wave pairing cost parts sixtieths over state root is cover sound as_many =
    let total = sum sixtieths in
    let left = ap (λ (t : ℤ). pos total *ℤ t) is.is.denominator in
    let low : pos total *ℤ pos (60 * over) ≡ pos (60 * (total * over)) = omega (arith, ints) in
    let right = ap (λ (t : ℤ). pos cost *ℤ t) is.is.denominator in
    let high : pos cost *ℤ pos (60 * over) ≡ pos (60 * over * cost) = omega (arith, ints) in
    record {
      bracket = bracket_of wave pairing parts sixtieths over is.told root is.is cover.each cover.exact cover.some sound.feasible sound.count as_many;
      reaches = omega (arith, ints, left, low, is.is.low);
      within = omega (arith, ints, right, high, is.is.high, cover.within);
      told = ⊎_elim
          (λ (near : (is.told ≡ Narrow) × AreNear parts sixtieths over). inl (
            subst (λ (s : RootState). root.state ≡ s) near.0 is.is.is_state,
            narrow_near (length wave.orders) over total (cost_of parts) root is.is.low is.is.high is.is.denominator
                (subst (λ (n : ℕ). cost_of parts < sum sixtieths * over + n * over) sound.count near.1),
          ))
          (λ (same : is.told ≡ state). inr (subst (λ (s : RootState). root.state ≡ s) same is.is.is_state)) is.is_told;
    }

-- it is narrow where duals that were rounded down come to no more
pub narrow_from : (wave : WavePicks) (pairing : Pairing) (cost known : ℕ) (parts : List WeightedBatch) (sixtieths duals : List ℕ) (over : ℕ) (exact : List ℤ)
    (denominator : ℤ) (root : Root) → IsBracketFrom wave pairing cost (sum duals) Narrow root → IsToldRoot parts duals over Narrow root → known ≤ sum duals
    → sum sixtieths ≤ sum duals → AreSixtieths exact denominator sixtieths → pos over ≡ denominator → length exact ≡ length wave.orders
    → 1 ≤ length wave.orders → pos (cost_of parts) ≤ℤ (pos 60 *ℤ total_below (length wave.orders) (number_at exact))
    → IsNarrowFrom wave pairing cost known root
narrow_from wave pairing cost known parts sixtieths duals over exact denominator root from is known_less less rounded_down over_is count some most =
    let n = length wave.orders in
    let base = narrow_of n over exact sixtieths denominator (pos (sum sixtieths * over)) (pos (cost_of parts)) (pos (60 * over)) (cost_of parts) some count
    rounded_down over_is refl refl refl most in
    let more = mul-le (sum sixtieths) over (sum duals) over less (omega arith) in
    let right = ap (λ (t : ℤ). pos n *ℤ t) is.is.denominator in
    record {
      bracket = from.bracket;
      reaches = reaches_less known (sum duals) root known_less (denominator_above wave pairing root from.bracket) from.reaches;
      within = from.within;
      is_state = ⊎_elim (λ (narrow : (root.state ≡ Narrow) × IsNarrow n root.low root.high root.denominator). narrow.0)
          (λ (same : root.state ≡ Narrow). same) from.told;
      narrow = omega (arith, ints, base, more, is.is.low, is.is.high, right);
    }

-- a bracket in the state Narrow is narrow where it was to be in another state
pub narrow_told : (wave : WavePicks) (pairing : Pairing) (cost sixtieths made : ℕ) (root : Root) → IsBracketFrom wave pairing cost sixtieths (Rounds made) root
    → root.state ≡ Narrow → IsNarrowFrom wave pairing cost sixtieths root
narrow_told wave pairing cost sixtieths made root from is = record {
  bracket = from.bracket;
  reaches = from.reaches;
  within = from.within;
  is_state = is;
  narrow = ⊎_elim (λ (narrow : (root.state ≡ Narrow) × IsNarrow (length wave.orders) root.low root.high root.denominator). narrow.1)
      (λ (other : root.state ≡ Rounds made). absurd (cc (other, is))) from.told;
}

-- a narrow bracket is one in any state
pub narrow_in : (wave : WavePicks) (pairing : Pairing) (cost less sixtieths : ℕ) (state : RootState) (root : Root) → less ≤ sixtieths
    → IsNarrowFrom wave pairing cost sixtieths root → IsBracketFrom wave pairing cost less state root
narrow_in wave pairing cost less sixtieths state root few narrow = record {
  bracket = narrow.bracket;
  reaches = reaches_less less sixtieths root few (denominator_above wave pairing root narrow.bracket) narrow.reaches;
  within = narrow.within;
  told = inl (narrow.is_state, narrow.narrow);
}

-- a bracket that reaches more sixtieths
pub from_less : (wave : WavePicks) (pairing : Pairing) (cost less sixtieths : ℕ) (state : RootState) (root : Root) → less ≤ sixtieths
    → IsBracketFrom wave pairing cost sixtieths state root → IsBracketFrom wave pairing cost less state root
from_less wave pairing cost less sixtieths state root few from = record {
  bracket = from.bracket;
  reaches = reaches_less less sixtieths root few (denominator_above wave pairing root from.bracket) from.reaches;
  within = from.within;
  told = from.told;
}

halt_cause : (wave : WavePicks) (pairing : Pairing) (rounds : ℕ) (low high denominator : ℤ) (state : RootState) → IsHalt wave pairing rounds state
    → IsCauseOf wave pairing rounds low high denominator state
halt_cause wave pairing rounds low high denominator Narrow is = absurd is
halt_cause wave pairing rounds low high denominator (Rounds made) is = is
halt_cause wave pairing rounds low high denominator (Turns made) is = is
halt_cause wave pairing rounds low high denominator (Wide left right) is = is

-- the bracket in which a search ends has a cause for its state
pub root_from : (wave : WavePicks) (pairing : Pairing) (rounds cost sixtieths : ℕ) (state : RootState) (root : Root)
    → IsBracketFrom wave pairing cost sixtieths state root → IsHalt wave pairing rounds state → IsRootFrom wave pairing rounds cost sixtieths root
root_from wave pairing rounds cost sixtieths state root from halt = record {
  is = record {
    bracket = from.bracket;
    cause = ⊎_elim
        (λ (narrow : (root.state ≡ Narrow) × IsNarrow (length wave.orders) root.low root.high root.denominator).
        subst (IsCauseOf wave pairing rounds root.low root.high root.denominator) (sym narrow.0) narrow.1)
        (λ (same : root.state ≡ state). subst (IsCauseOf wave pairing rounds root.low root.high root.denominator) (sym same)
        (halt_cause wave pairing rounds root.low root.high root.denominator state halt)) from.told;
  };
  reaches = from.reaches;
  within = from.within;
}

-- and so has a narrow one
pub narrow_root_from : (wave : WavePicks) (pairing : Pairing) (rounds cost sixtieths : ℕ) (root : Root)
    → IsNarrowFrom wave pairing cost sixtieths root → IsRootFrom wave pairing rounds cost sixtieths root
narrow_root_from wave pairing rounds cost sixtieths root narrow = record {
  is = record {
    bracket = narrow.bracket;
    cause = subst (IsCauseOf wave pairing rounds root.low root.high root.denominator) (sym narrow.is_state) narrow.narrow;
  };
  reaches = narrow.reaches;
  within = narrow.within;
}

-- a batching of a wave, its cost and sound duals are known under its pairs
pub known_is : (wave : WavePicks) (capacity cost : ℕ) (pairing : Pairing) (batches : List (List ℕ)) (duals : List ℕ) → pairing ≡ pairs_of wave capacity
    → IsBatching wave capacity batches → IsCost wave batches cost → AreSound wave (pairs_of wave capacity) duals → IsKnown wave pairing batches cost duals
known_is wave capacity cost pairing batches duals is batching priced sound =
    subst (λ (p : Pairing). IsKnown wave p batches cost duals) (sym is) (record {
      batching = batching_under wave (pairs_of wave capacity) capacity batches refl refl refl refl batching;
      priced = priced;
      sound = sound;
    })

-- what two clauses say of a value together
pub both_ok : {T E : Type 0} (r : Result T E) (P Q R : T → Type 0) → ((x : T) → P x → Q x → R x) → IfOk r P → IfOk r Q → IfOk r R
both_ok (Ok x) P Q R both left right = both x left right
both_ok (Err e) P Q R both left right = tt

-- the bracket of a wave that reaches more sixtieths reaches less
pub root_reaches : (wave : WavePicks) (pairing : Pairing) (rounds less more : ℕ) (root : Root) → less ≤ more → IsRoot wave pairing rounds root
    → Reaches more root → Reaches less root
root_reaches wave pairing rounds less more root few is = reaches_less less more root few (denominator_above wave pairing root is.bracket)
