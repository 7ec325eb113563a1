-- The parts with which a cover begins.
use Rattle.std.proofs.Common.{◌≡◌, ◌⊎◌, ⊎_elim, inl, inr, ℕ, zero, suc, ◌+◌, ◌*◌, ◌≤◌, ◌<◌, ◌^◌, Bool, true, false, cond, List, [], ◌∷◌, ◌++◌, All, length, map}
use Rattle.std.proofs.Common.{get_or, Contains}
use Rattle.std.proofs.Common.{ℤ, pos, ◌+ℤ◌, ◌*ℤ◌, ◌≤ℤ◌, arith, ap, sym, subst, refl, ◌∙◌}
use Rattle.std.specs.Prelude.{slice_index_or}
use Rattle.std.proofs.Math.IntN.{*ℤ_comm}
use Rattle.std.proofs.lemmas.Int.{ints}
use Rattle.std.proofs.lemmas.List.Elements.{All-get_or, All-head, All-tail}
use Rattle.std.proofs.lemmas.List.Sums.{sum_by-cons, sum_by-le, sum_by_push}
use Rattle.wp_lengths.specs.Lengths.{IsLengthOf}
use Rattle.wp_lengths.specs.Waves.{WavePicks}
use Rattle.wp_pairs.specs.Permitted.{IsPermitted, Pairing}
use Rattle.wp_master.proofs.Numbers.{product_of_sum, product_of_product}
use Rattle.wp_master.specs.Bases.{total_below}
use Rattle.wp_master.specs.Pairs.{number_at}
use Rattle.wp_master.specs.Pools.{ColumnPool, column_of}
use Rattle.wp_master.specs.declared.column.Column.{Column}
use Rattle.wp_lp.proofs.Holds.{has_false, has_true}
use Rattle.wp_lp.proofs.Wholes.{times_most}
use Rattle.wp_lp.specs.Covers.{has}
use Rattle.wp_lp.specs.Parts.{IsCapped, IsWeightedBatch, cost_of, cover_of, weighed, weight_for}
use Rattle.std.proofs.lemmas.List.{get_or-map, length-map}
use Rattle.std.proofs.lemmas.Nat.{mul-le}
use Rattle.wp_lengths.specs.Batchings.{IsCost, batch_at}
use Rattle.wp_lp.specs.Runs.{IsBatchingUnder, IsPermittedPool}
use Rattle.wp_lp.specs.declared.part.WeightedBatch.{WeightedBatch}

-- what the columns before one that hold an order weigh
abbrev pub held_before : ColumnPool → List ℤ → ℕ → ℕ → ℤ
held_before pool weights order count = total_below count (λ (column : ℕ). cond (has (column_of pool column).batch order) (number_at weights column) (pos 0))

-- what the columns before one weigh, each times its length
abbrev pub weighed_before : ColumnPool → List ℤ → ℕ → ℤ
weighed_before pool weights count = total_below count (λ (column : ℕ). number_at weights column *ℤ pos (column_of pool column).length)

-- an order has sixty times the denominator or more in parts, or else sixty times what the columns before one weigh that hold it
abbrev pub IsEnoughSoFar : ColumnPool → List ℤ → ℤ → ℕ → ℕ → List WeightedBatch → Type 0
IsEnoughSoFar pool weights denominator order count parts = ((pos 60 *ℤ denominator) ≤ℤ pos (cover_of parts order))
    ⊎ (pos (cover_of parts order) ≡ pos 60 *ℤ held_before pool weights order count)

-- a part is that of a column
pub record IsPartOf (pool : ColumnPool) (weights : List ℤ) (denominator : ℤ) (column : ℕ) (part : WeightedBatch) : Type 0 where
  pub batch : part.batch ≡ (column_of pool column).batch
  pub long : part.length ≡ (column_of pool column).length
  pub weight : IsCapped (number_at weights column) denominator part.weight

step_up : (i : ℕ) → i + 1 ≡ suc i
step_up i = omega arith

enough_step : (b : Bool) (q w total : ℤ) (cover more weight : ℕ) → IsCapped w q weight → more ≡ cover + cond b weight 0
    → ((pos 60 *ℤ q) ≤ℤ pos cover) ⊎ (pos cover ≡ pos 60 *ℤ total)
    → ((pos 60 *ℤ q) ≤ℤ pos more) ⊎ (pos more ≡ pos 60 *ℤ (total +ℤ cond b w (pos 0)))
enough_step true q w total cover more weight capped is before = ⊎_elim
    (λ (enough : (pos 60 *ℤ q) ≤ℤ pos cover). inl (omega (arith, ints, enough, is)))
    (λ (same : pos cover ≡ pos 60 *ℤ total). ⊎_elim
    (λ (own : pos weight ≡ pos 60 *ℤ w). inr (omega (arith, ints, same, own, is)))
    (λ (all : pos weight ≡ pos 60 *ℤ q). inl (omega (arith, ints, all, is))) capped.least) before
enough_step false q w total cover more weight capped is before = ⊎_elim
    (λ (enough : (pos 60 *ℤ q) ≤ℤ pos cover). inl (omega (arith, ints, enough, is)))
    (λ (same : pos cover ≡ pos 60 *ℤ total). inr (omega (arith, ints, same, is))) before

-- an order has enough so far with the part of one more column
pub enough_more : (pool : ColumnPool) (weights : List ℤ) (q : ℤ) (order i : ℕ) (part : WeightedBatch) (before after : List WeightedBatch)
    → IsPartOf pool weights q i part
    → after ≡ before ++ part ∷ [] → IsEnoughSoFar pool weights q order i before → IsEnoughSoFar pool weights q order (i + 1) after
unfolding total_below
enough_more pool weights q order i part before after of e so_far =
    subst (λ (k : ℕ). IsEnoughSoFar pool weights q order k after) (sym (step_up i))
    (enough_step (has (column_of pool i).batch order) q (number_at weights i) (held_before pool weights order i) (cover_of before order) (cover_of after order)
    part.weight of.weight (ap (λ (ps : List WeightedBatch). cover_of ps order) e ∙ sum_by_push (weight_for order) before part
    ∙ ap (λ (b : List ℕ). cover_of before order + cond (has b order) part.weight 0) of.batch) so_far)

cost_step : (w total : ℤ) (cost more weight long : ℕ) → pos weight ≤ℤ (pos 60 *ℤ w) → more ≡ cost + weight * long → pos cost ≤ℤ (pos 60 *ℤ total)
    → pos more ≤ℤ (pos 60 *ℤ (total +ℤ (w *ℤ pos long)))
cost_step w total cost more weight long capped is before =
    let scaled = times_most (pos long) (pos weight) (pos 60 *ℤ w) (omega (arith, ints)) capped in
    let turned = *ℤ_comm (pos long) (pos 60 *ℤ w) in
    let grouped = product_of_product (pos 60) w (pos long) in
    let whole = product_of_sum (pos 60) total (w *ℤ pos long) in
    let product : pos long *ℤ pos weight ≡ pos (weight * long) = omega (arith, ints) in
    omega (arith, ints, is, before, scaled, turned, grouped, whole, product)

-- what the parts come to with that of one more column
pub cost_more : (pool : ColumnPool) (weights : List ℤ) (q : ℤ) (i : ℕ) (part : WeightedBatch) (before after : List WeightedBatch)
    → IsPartOf pool weights q i part
    → after ≡ before ++ part ∷ [] → pos (cost_of before) ≤ℤ (pos 60 *ℤ weighed_before pool weights i)
    → pos (cost_of after) ≤ℤ (pos 60 *ℤ weighed_before pool weights (i + 1))
unfolding total_below
cost_more pool weights q i part before after of e so_far =
    subst (λ (k : ℕ). pos (cost_of after) ≤ℤ (pos 60 *ℤ weighed_before pool weights k)) (sym (step_up i))
    (cost_step (number_at weights i) (weighed_before pool weights i) (cost_of before) (cost_of after) part.weight (column_of pool i).length of.weight.most
    (ap (λ (ps : List WeightedBatch). cost_of ps) e ∙ sum_by_push weighed before part ∙ ap (λ (l : ℕ). cost_of before + part.weight * l) of.long) so_far)

-- the part of a column of a permitted pool is permitted, with its length
pub part_of_column : (wave : WavePicks) (pairing : Pairing) (pool : ColumnPool) (weights : List ℤ) (q : ℤ) (i : ℕ) (part : WeightedBatch)
    → IsPartOf pool weights q i part → i < length pool.columns → IsPermittedPool wave pairing pool → IsWeightedBatch wave pairing part
part_of_column wave pairing pool weights q i part of low is = record {
  permitted = subst (IsPermitted pairing) (sym of.batch) (All-get_or (λ (column : Column). IsPermitted pairing column.batch) pool.columns i _ low is.permitted);
  long = subst (λ (l : ℕ). IsLengthOf wave part.batch l) (sym of.long) (subst (λ (b : List ℕ). IsLengthOf wave b (column_of pool i).length) (sym of.batch)
      (All-get_or (λ (column : Column). IsLengthOf wave column.batch column.length) pool.columns i _ low is.lengths));
}

no_cover : (parts : List WeightedBatch) (order : ℕ) (d : WeightedBatch) → ((k : ℕ) → k < length parts → Contains (get_or parts k d).batch order → ⊥)
    → cover_of parts order ≡ 0
no_cover [] order d none = refl
no_cover (part ∷ parts) order d none =
    let own = ap (λ (b : Bool). cond b part.weight 0) (has_false part.batch order (none 0 (omega arith))) in
    let rest = no_cover parts order d (λ k low. none (suc k) (omega (arith, low))) in
    omega (arith, sum_by-cons (weight_for order) part parts, own, rest)

-- where one part alone has an order, and all weigh as much, the order has that weight
pub one_cover : (parts : List WeightedBatch) (order k whole : ℕ) (d : WeightedBatch) → All (λ (part : WeightedBatch). part.weight ≡ whole) parts
    → k < length parts
    → Contains (get_or parts k d).batch order → ((j : ℕ) → j < length parts → Contains (get_or parts j d).batch order → j ≡ k) → cover_of parts order ≡ whole
one_cover [] order k whole d weights low has_it once = absurd (omega (arith, low))
one_cover (part ∷ parts) order zero whole d weights low has_it once =
    let own = ap (λ (b : Bool). cond b part.weight 0) (has_true part.batch order has_it) in
    let rest = no_cover parts order d (λ j within is. let e = once (suc j) (omega (arith, within)) is in omega (arith, e)) in
    omega (arith, sum_by-cons (weight_for order) part parts, own, rest, All-head (λ (part : WeightedBatch). part.weight ≡ whole) part parts weights)
one_cover (part ∷ parts) order (suc k) whole d weights low has_it once =
    let own = ap (λ (b : Bool). cond b part.weight 0) (has_false part.batch order (λ is. let e = once zero (omega arith) is in omega (arith, e))) in
    let rest = one_cover parts order k whole d (All-tail (λ (part : WeightedBatch). part.weight ≡ whole) part parts weights) (omega (arith, low)) has_it
    (λ j within is. let e = once (suc j) (omega (arith, within)) is in omega (arith, e)) in
    omega (arith, sum_by-cons (weight_for order) part parts, own, rest)

-- with no part yet an order has what no column weighs
pub enough_begins : (pool : ColumnPool) (weights : List ℤ) (q : ℤ) (order : ℕ) (parts : List WeightedBatch) → parts ≡ []
    → IsEnoughSoFar pool weights q order 0 parts
unfolding total_below
enough_begins pool weights q order parts none = subst (IsEnoughSoFar pool weights q order 0) (sym none) (inr refl)

-- no part costs nothing
pub cost_begins : (pool : ColumnPool) (weights : List ℤ) (parts : List WeightedBatch) → parts ≡ []
    → pos (cost_of parts) ≤ℤ (pos 60 *ℤ weighed_before pool weights 0)
unfolding total_below
cost_begins pool weights parts none = subst (λ (ps : List WeightedBatch). pos (cost_of ps) ≤ℤ (pos 60 *ℤ pos 0)) (sym none) (omega (arith, ints))

-- with the parts of all columns an order has enough
pub enough_ends : (pool : ColumnPool) (weights : List ℤ) (q : ℤ) (order count : ℕ) (parts : List WeightedBatch) → count ≡ length pool.columns
    → q ≤ℤ held_before pool weights order (length pool.columns) → IsEnoughSoFar pool weights q order count parts
    → (pos 60 *ℤ q) ≤ℤ pos (cover_of parts order)
enough_ends pool weights q order count parts all cover so_far = ⊎_elim (λ (enough : (pos 60 *ℤ q) ≤ℤ pos (cover_of parts order)). enough)
    (λ (same : pos (cover_of parts order) ≡ pos 60 *ℤ held_before pool weights order count).
    let whole = subst (λ (k : ℕ). pos (cover_of parts order) ≡ pos 60 *ℤ held_before pool weights order k) all same in
    omega (arith, ints, whole, cover)) so_far

-- all parts come to no more than sixty times the duals
pub cost_ends : (pool : ColumnPool) (weights : List ℤ) (duals : ℤ) (count : ℕ) (parts : List WeightedBatch) → count ≡ length pool.columns
    → duals ≡ weighed_before pool weights (length pool.columns) → pos (cost_of parts) ≤ℤ (pos 60 *ℤ weighed_before pool weights count)
    → pos (cost_of parts) ≤ℤ (pos 60 *ℤ duals)
cost_ends pool weights duals count parts all equal most =
    let whole = subst (λ (k : ℕ). pos (cost_of parts) ≤ℤ (pos 60 *ℤ weighed_before pool weights k)) all most in
    omega (arith, ints, whole, equal)

-- the parts of a batching, each of a whole weight, give each order that weight
pub batching_exact : (pairing : Pairing) (batches : List (List ℕ)) (parts : List WeightedBatch) (order whole : ℕ) → IsBatchingUnder pairing batches
    → map (λ (part : WeightedBatch). part.batch) parts ≡ batches → All (λ (part : WeightedBatch). part.weight ≡ whole) parts → order < pairing.orders
    → cover_of parts order ≡ whole
batching_exact pairing batches parts order whole batching are weights low =
    let blank : WeightedBatch = record { batch = []; length = 0; weight = 0 } in
    let count : length batches ≡ length parts = ap (λ (xs : List (List ℕ)). length xs) (sym are) ∙ length-map parts (λ (part : WeightedBatch). part.batch) in
    let at = λ (k : ℕ) (within : k < length parts). ap (λ (xs : List (List ℕ)). batch_at xs k) (sym are)
    ∙ get_or-map (λ (part : WeightedBatch). part.batch) parts k blank [] within in
    let held = batching.covered order low in
    let inside : held.0 < length parts = omega (arith, held.1, count) in
    one_cover parts order held.0 whole blank weights inside (subst (λ (b : List ℕ). Contains b order) (at held.0 inside) held.2)
    (λ j within is. batching.once order j held.0 (omega (arith, within, count)) held.1 (subst (λ (b : List ℕ). Contains b order) (sym (at j within)) is) held.2)

-- what they come to fits, where that weight is at most 60
pub batching_cost : (parts : List WeightedBatch) (whole : ℕ) → whole ≤ 60 → All (λ (part : WeightedBatch). part.weight ≡ whole) parts
    → All (λ (part : WeightedBatch). part.length < 2 ^ 28) parts → length parts < 2 ^ 64 → cost_of parts < 2 ^ 127
batching_cost parts whole most weights small few =
    let each : All (λ (part : WeightedBatch). weighed part ≤ 16106127360) parts = λ k d low.
    let part = slice_index_or parts k d in
    let weight = weights k d low in
    let product = mul-le part.weight part.length 60 268435456 (omega (arith, weight, most)) (omega (arith, small k d low)) in
    omega (arith, product) in
    omega (arith, sum_by-le weighed 16106127360 parts each, few)

parts_priced : (wave : WavePicks) (pairing : Pairing) (parts : List WeightedBatch) (whole : ℕ) → All (λ (part : WeightedBatch). part.weight ≡ whole) parts
    → All (IsWeightedBatch wave pairing) parts
    → (cost : ℕ) × IsCost wave (map (λ (part : WeightedBatch). part.batch) parts) cost × (cost_of parts ≡ whole * cost)
parts_priced wave pairing [] whole weights each = (0, refl, omega arith)
parts_priced wave pairing (part ∷ parts) whole weights each =
    let rest = parts_priced wave pairing parts whole (All-tail (λ (p : WeightedBatch). p.weight ≡ whole) part parts weights)
    (All-tail (IsWeightedBatch wave pairing) part parts each) in
    let own = All-head (IsWeightedBatch wave pairing) part parts each in
    let weight = ap (λ (n : ℕ). n * part.length) (All-head (λ (p : WeightedBatch). p.weight ≡ whole) part parts weights) in
    (part.length + rest.0, (part.length, rest.0, own.long, rest.1, refl), omega (arith, sum_by-cons weighed part parts, rest.2, weight))

-- they come to that weight times the cost of the batching
pub batching_priced : (wave : WavePicks) (pairing : Pairing) (batches : List (List ℕ)) (parts : List WeightedBatch) (whole : ℕ)
    → map (λ (part : WeightedBatch). part.batch) parts ≡ batches → All (λ (part : WeightedBatch). part.weight ≡ whole) parts
    → All (IsWeightedBatch wave pairing) parts
    → (cost : ℕ) × IsCost wave batches cost × (cost_of parts ≡ whole * cost)
batching_priced wave pairing batches parts whole are weights each =
    let priced = parts_priced wave pairing parts whole weights each in
    (priced.0, subst (λ (bs : List (List ℕ)). IsCost wave bs priced.0) are priced.1, priced.2)
