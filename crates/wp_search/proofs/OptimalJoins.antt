-- In a batching that costs least no two batches gain by joining: joined they would cost less.
use Rattle.std.proofs.Common.{◌≡◌, ℕ, zero, suc, ◌+◌, ◌<◌, ◌⊎◌, List, [], ◌∷◌, ◌++◌, length, arith, refl, ap, sym, subst, inl, inr, ⊎_elim, Contains}
use Rattle.std.proofs.lemmas.List.Elements.{All-contains, Contains-append_cases, Contains-append_left, Contains-append_right}
use Rattle.wp_pairs.specs.Batches.{IsBatch}
use Rattle.wp_pairs.specs.Permitted.{IsPermitted}
use Rattle.wp_pairs.proofs.Members.{contains_none}
use Rattle.wp_lengths.specs.Batchings.{IsBatching, IsCost, batch_at, no_pairs}
use Rattle.wp_batch.specs.Joins.{NoJoinGains}
use Rattle.wp_lengths.specs.Lengths.{IsLengthOf, batch_picks}
use Rattle.wp_lengths.specs.Waves.{IsWave, WavePicks}
use Rattle.wp_batch.proofs.Joining.{permitted_as_one}
use Rattle.wp_lengths.proofs.Unions.{all_from_contained, same_shortest}
use Rattle.wp_lengths.proofs.FewerOrders.{picked_by_more, same_length}
use Rattle.wp_lengths.proofs.OrderSums.{all_of, in_all}
use Rattle.wp_cert.specs.Bounds.{NoBatchingCostsLess}
use Rattle.wp_cert.proofs.AscendingUnions.{IsUnion, union_of}

-- ---- batches of which no two meet

-- batches that are permitted where there is no pair, and of which no two have an order in common
abbrev ArePacked : WavePicks → ℕ → List (List ℕ) → Type 0
ArePacked wave capacity [] = Unit {0}
ArePacked wave capacity (batch ∷ batches) =
    IsPermitted (no_pairs wave capacity) batch × ((order : ℕ) → Contains batch order → Contains (all_of batches) order → ⊥)
    × ArePacked wave capacity batches

-- an order among those of all batches is in one of them
in_some : (batches : List (List ℕ)) (order : ℕ) → Contains (all_of batches) order
    → (place : ℕ) × (place < length batches) × Contains (batch_at batches place) order
in_some [] order has = absurd (contains_none order has)
in_some (batch ∷ batches) order has = ⊎_elim (λ l. (0, omega arith, l))
    (λ r. let at = in_some batches order r in (suc at.0, omega (arith, at.1), at.2)) (Contains-append_cases batch (all_of batches) order has)

-- those of a batching are so
packed_from : (wave : WavePicks) (capacity : ℕ) (batches : List (List ℕ)) → ((place : ℕ) → place < length batches → IsPermitted (no_pairs wave capacity)
    (batch_at batches place))
    → ((order left right : ℕ) → left < length batches → right < length batches → Contains (batch_at batches left) order
    → Contains (batch_at batches right) order → left ≡ right) → ArePacked wave capacity batches
packed_from wave capacity [] each once = tt
packed_from wave capacity (batch ∷ batches) each once = (
  each zero (omega arith),
  λ order has later. let at = in_some batches order later in
      let e : zero ≡ suc at.0 = once order zero (suc at.0) (omega arith) (omega (arith, at.1)) has at.2 in omega (arith, e),
  packed_from wave capacity batches (λ place within. each (suc place) (omega arith))
      (λ order left right l r has has_too. let e : suc left ≡ suc right = once order (suc left) (suc right) (omega arith) (omega arith) has has_too in
      omega (arith, e)),
)

each_packed : (wave : WavePicks) (capacity : ℕ) (batches : List (List ℕ)) → ArePacked wave capacity batches → (place : ℕ) → place < length batches
    → IsPermitted (no_pairs wave capacity) (batch_at batches place)
each_packed wave capacity [] packed place within = absurd (omega arith)
each_packed wave capacity (batch ∷ batches) packed zero within = packed.0
each_packed wave capacity (batch ∷ batches) packed (suc place) within = each_packed wave capacity batches packed.2 place (omega arith)

once_packed : (wave : WavePicks) (capacity : ℕ) (batches : List (List ℕ)) → ArePacked wave capacity batches → (order left right : ℕ) → left < length batches
    → right < length batches → Contains (batch_at batches left) order → Contains (batch_at batches right) order → left ≡ right
once_packed wave capacity [] packed order left right l r has has_too = absurd (omega arith)
once_packed wave capacity (batch ∷ batches) packed order zero zero l r has has_too = refl
once_packed wave capacity (batch ∷ batches) packed order zero (suc right) l r has has_too =
    absurd (packed.1 order has (in_all batches right order (omega arith) has_too))
once_packed wave capacity (batch ∷ batches) packed order (suc left) zero l r has has_too =
    absurd (packed.1 order has_too (in_all batches left order (omega arith) has))
once_packed wave capacity (batch ∷ batches) packed order (suc left) (suc right) l r has has_too =
    ap suc (once_packed wave capacity batches packed.2 order left right (omega arith) (omega arith) has has_too)

-- ---- a batch taken out

-- batches without the one at a place
record IsTakenOut (wave : WavePicks) (capacity : ℕ) (batches : List (List ℕ)) (place : ℕ) (rest : List (List ℕ)) : Type 0 where
  packed : ArePacked wave capacity rest
  apart : (order : ℕ) → Contains (batch_at batches place) order → Contains (all_of rest) order → ⊥
  covers : (order : ℕ) → Contains (all_of batches) order → Contains (batch_at batches place) order ⊎ Contains (all_of rest) order
  within : (order : ℕ) → Contains (all_of rest) order → Contains (all_of batches) order
  kept : (k : ℕ) → k < place → (k < length rest) × (batch_at rest k ≡ batch_at batches k)
  costs : (cost : ℕ) → IsCost wave batches cost
      → (first : ℕ) × (others : ℕ) × IsLengthOf wave (batch_at batches place) first × IsCost wave rest others × (cost ≡ first + others)

take_out : (wave : WavePicks) (capacity : ℕ) (batches : List (List ℕ)) (place : ℕ) → place < length batches → ArePacked wave capacity batches
    → (rest : List (List ℕ)) × IsTakenOut wave capacity batches place rest
take_out wave capacity [] place low packed = absurd (omega arith)
take_out wave capacity (batch ∷ batches) zero low packed = (
  batches,
  record {
    packed = packed.2;
    apart = packed.1;
    covers = λ order has. Contains-append_cases batch (all_of batches) order has;
    within = λ order has. Contains-append_right batch (all_of batches) order has;
    kept = λ k none. absurd (omega arith);
    costs = λ cost is. (is.0, is.1, is.2, is.3, is.4);
  },
)
take_out wave capacity (batch ∷ batches) (suc place) low packed =
    let out = take_out wave capacity batches place (omega arith) packed.2 in
    let rest = out.0 in
    let t = out.1 in (
      batch ∷ rest,
      record {
        packed = (packed.0, λ order has later. packed.1 order has (t.within order later), t.packed);
        apart = λ order has other. ⊎_elim (λ l. packed.1 order l (in_all batches place order (omega arith) has)) (λ r. t.apart order has r)
            (Contains-append_cases batch (all_of rest) order other);
        covers = λ order has. ⊎_elim (λ l. inr (Contains-append_left batch (all_of rest) order l))
            (λ r. ⊎_elim (λ here. inl here) (λ later. inr (Contains-append_right batch (all_of rest) order later)) (t.covers order r))
            (Contains-append_cases batch (all_of batches) order has);
        within = λ order has. ⊎_elim (λ l. Contains-append_left batch (all_of batches) order l)
            (λ r. Contains-append_right batch (all_of batches) order (t.within order r)) (Contains-append_cases batch (all_of rest) order has);
        kept = kept_later batch batches rest place t.kept;
        costs = λ cost is. let c = t.costs is.1 is.3 in (c.0, is.0 + c.1, c.2, (is.0, c.1, is.2, c.3, refl), omega (arith, is.4, c.4));
      },
    )
  where
    kept_later : (batch : List ℕ) (batches rest : List (List ℕ)) (place : ℕ)
        → ((k : ℕ) → k < place → (k < length rest) × (batch_at rest k ≡ batch_at batches k)) → (k : ℕ) → k < suc place
        → (k < length (batch ∷ rest)) × (batch_at (batch ∷ rest) k ≡ batch_at (batch ∷ batches) k)
    kept_later batch batches rest place kept zero low = (omega arith, refl)
    kept_later batch batches rest place kept (suc k) low = let old = kept k (omega arith) in (omega (arith, old.0), old.1)

-- ---- the batching with two batches joined

-- a union is as long as both batches one after the other
union_length : (wave : WavePicks) (left right union : List ℕ) (total : ℕ) → IsUnion left right union → IsLengthOf wave (left ++ right) total
    → IsLengthOf wave union total
union_length wave left right union total is long =
    same_shortest wave.layout (batch_picks wave (left ++ right)) (batch_picks wave union) total
    (λ p. (
      picked_by_more wave (left ++ right) union (λ o has. (is.both o).1 (Contains-append_cases left right o has)) p,
      picked_by_more wave union (left ++ right)
          (λ o has. ⊎_elim (λ l. Contains-append_left left right o l) (λ r. Contains-append_right left right o r) ((is.both o).0 has)) p,
    )) long

-- in a batching that costs least no two batches gain by joining
pub optimal_joins : (wave : WavePicks) (capacity : ℕ) (batches : List (List ℕ)) (cost : ℕ) → IsWave wave → IsBatching wave capacity batches
    → IsCost wave batches cost → NoBatchingCostsLess wave capacity cost → NoJoinGains wave capacity batches
optimal_joins wave capacity batches cost valid is costs least = λ i j lt within fits one other both long_left long_right long_both.
    let left = batch_at batches i in
    let right = batch_at batches j in
    let early : i < length batches = omega (arith, lt, within) in
    let out = take_out wave capacity batches j within (packed_from wave capacity batches is.each is.once) in
    let o = out.1 in
    let kept = o.kept i lt in
    let twice = take_out wave capacity out.0 i kept.0 o.packed in
    let t = twice.1 in
    let rest = twice.0 in
    let in_left = λ (order : ℕ) (has : Contains (batch_at out.0 i) order). subst (λ (xs : List ℕ). Contains xs order) kept.1 has in
    let of_left = λ (order : ℕ) (has : Contains left order). subst (λ (xs : List ℕ). Contains xs order) (sym kept.1) has in
    let joined = union_of left right (is.each i early).ascending (is.each j within).ascending in
    let union = joined.0 in
    let u = joined.1 in
    let is_batch : IsBatch union = record {
      ascending = u.ascending;
      below = all_from_contained (λ (order : ℕ). order < 64) union (λ order has. let low = ⊎_elim
          (λ l. All-contains (λ (o : ℕ). o < length wave.orders) left order (is.each i early).known l)
          (λ r. All-contains (λ (o : ℕ). o < length wave.orders) right order (is.each j within).known r) ((u.both order).0 has) in
          omega (arith, low, valid.most));
    } in
    let packed : ArePacked wave capacity (union ∷ rest) = (
      (permitted_as_one wave capacity batches i j union is lt within is_batch u.both).0 fits,
      λ order has later. ⊎_elim (λ l. t.apart order (of_left order l) later) (λ r. o.apart order r (t.within order later)) ((u.both order).0 has),
      t.packed,
    ) in
    let covers = λ (order : ℕ) (low : order < length wave.orders). let at = is.covered order low in
    in_some (union ∷ rest) order (⊎_elim (λ r. Contains-append_left union (all_of rest) order ((u.both order).1 (inr r)))
    (λ others. ⊎_elim (λ l. Contains-append_left union (all_of rest) order ((u.both order).1 (inl (in_left order l))))
    (λ later. Contains-append_right union (all_of rest) order later) (t.covers order others)) (o.covers order (in_all batches at.0 order at.1 at.2))) in
    let batching : IsBatching wave capacity (union ∷ rest) = record {
      each = each_packed wave capacity (union ∷ rest) packed;
      covered = covers;
      once = once_packed wave capacity (union ∷ rest) packed;
    } in
    let first = o.costs cost costs in
    let second = t.costs first.1 first.3 in
    let low = least (union ∷ rest) (both + second.1) batching (both, second.1, union_length wave left right union both u long_both, second.3, refl) in
    let right_same = same_length wave right other first.0 long_right first.2 in
    let left_same = same_length wave left one second.0 long_left (subst (λ (xs : List ℕ). IsLengthOf wave xs second.0) kept.1 second.2) in
    omega (arith, low, right_same, left_same, first.4, second.4)
