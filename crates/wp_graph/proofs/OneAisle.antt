-- What a closed walk walks of one aisle is at least as long as one of the six ways through it.
use Rattle.std.proofs.Common.{◌≡◌, ◌≢◌, ℕ, zero, suc, ◌+◌, ◌-◌, ◌*◌, ◌%◌, ◌<◌, ◌≤◌, nat_le, Bool, true, false, List, [], ◌∷◌, ◌++◌, Some, None, option_map}
use Rattle.std.proofs.Common.{length, map, slice_get, if◌then◌else◌, arith, refl, sym, ap, ◌∙◌, subst, ◌⊎◌, inl, inr, ⊎_elim}
use Rattle.std.proofs.lemmas.Bool.{cases_eq, le-leb}
use Rattle.std.proofs.lemmas.Nat.{mul-le}
use Rattle.wp_model.proofs.Sums.{sum-grows}
use Rattle.wp_model.specs.Sums.{sum_below}
use Rattle.wp_model.specs.Warehouse.{End}
use Rattle.wp_graph.specs.AisleLengths.{ways_with}
use Rattle.wp_model.specs.Warehouse.End.{at_front, at_back}
use Rattle.wp_graph.specs.Required.{IsAscending, largest_gap}
use Rattle.wp_graph.specs.Members.{Among}
use Rattle.wp_graph.specs.Cuts.{HasBeyond, HasUpTo, IsCut, Turning}
use Rattle.wp_graph.specs.Cuts.IsCut.{backs, fronts, gaps, skips}
use Rattle.wp_graph.proofs.Members.{among-append_right}
use Rattle.wp_graph.proofs.AscendingNumbers.{head_below, last_most_from, neighbours_ascend, neighbours_part}
use Rattle.wp_graph.proofs.Stretches.{last_from}
use Rattle.wp_graph.proofs.Widest.{widest}

-- each piece walked at least so often
pub all_least : (n k : ℕ) (d w : ℕ → ℕ) → ((s : ℕ) → s < n → k ≤ d s) → k * sum_below n w ≤ sum_below n (λ s. d s * w s)
all_least zero k d w most = let none : k * 0 ≡ 0 = grind arith in omega (arith, none)
all_least (suc n) k d w most =
    let before = all_least n k d w (λ s low. most s (omega arith)) in
    let last = mul-le k (w n) (d n) (w n) (most n (omega arith)) (omega arith) in
    let apart : k * (sum_below n w + w n) ≡ k * sum_below n w + k * w n = grind arith in
    omega (arith, before, last, apart)

-- each piece behind a place walked twice or more
behind_least : (n m : ℕ) (d w : ℕ → ℕ) → m ≤ n → ((s : ℕ) → m ≤ s → s < n → 2 ≤ d s)
    → sum_below m (λ s. d s * w s) + 2 * (sum_below n w - sum_below m w) ≤ sum_below n (λ s. d s * w s)
behind_least zero m d w low most = let e : m ≡ 0 = omega arith in rw e (omega arith)
behind_least (suc n) m d w low most = elim (cases_eq m (suc n)) [
  | inl e ↦ rw e (omega arith)
  | inr other ↦ let before = behind_least n m d w (omega arith) (λ s high within. most s high (omega arith)) in
      let last = mul-le 2 (w n) (d n) (w n) (most n (omega arith) (omega arith)) (omega arith) in
      let grows = sum-grows m n w (omega arith) in
      omega (arith, before, last, grows)
]

-- the first piece that isn't walked, if there is one
pub first_gap : (n : ℕ) (d : ℕ → ℕ) → ((s : ℕ) → s < n → 0 < d s) ⊎ ((z : ℕ) × (z < n) × (d z ≡ 0) × ((s : ℕ) → s < z → 0 < d s))
first_gap zero d = inl (λ s low. absurd (omega arith))
first_gap (suc n) d = ⊎_elim
    (λ all. ⊎_elim (λ none. inr (n, omega arith, none, all))
    (λ some. inl (λ s low. ⊎_elim (λ e. subst (λ x. 0 < d x) (sym e) some) (λ other. all s (omega arith)) (cases_eq s n))) (positive (d n)))
    (λ gap. inr (gap.0, omega (arith, gap.1), gap.2, gap.3))
    (first_gap n d)
  where
    positive : (k : ℕ) → (k ≡ 0) ⊎ (0 < k)
    positive zero = inl refl
    positive (suc k) = inr (omega arith)

-- the last one, if there is one
pub last_gap : (n : ℕ) (d : ℕ → ℕ) (z : ℕ) → z < n → d z ≡ 0 → (y : ℕ) × (z ≤ y) × (y < n) × (d y ≡ 0) × ((s : ℕ) → y < s → s < n → 0 < d s)
last_gap zero d z within none = absurd (omega arith)
last_gap (suc n) d z within none = go (λ low. last_gap n d z low none) (positive (d n))
  where
    positive : (k : ℕ) → (k ≡ 0) ⊎ (0 < k)
    positive zero = inl refl
    positive (suc k) = inr (omega arith)

    go : (z < n → (y : ℕ) × (z ≤ y) × (y < n) × (d y ≡ 0) × ((s : ℕ) → y < s → s < n → 0 < d s)) → (d n ≡ 0) ⊎ (0 < d n) → (y : ℕ) × (z ≤ y) × (y < suc n)
        × (d y ≡ 0) × ((s : ℕ) → y < s → s < suc n → 0 < d s)
    go before (inl e) = (n, omega arith, omega arith, e, λ s high low. absurd (omega arith))
    go before (inr some) =
        let other : z ≢ n = λ e. omega (arith, ap d e, none, some) in
        let rest = before (omega (arith, other)) in (
          rest.0,
          rest.1,
          omega (arith, rest.2),
          rest.3,
          λ s high low. ⊎_elim (λ e. subst (λ x. 0 < d x) (sym e) some) (λ apart. rest.4 s high (omega arith))
              (cases_eq s n),
        )

-- between two gaps of an aisle whose pieces are walked an even number of times
pub cut_least : (n z y : ℕ) (d w : ℕ → ℕ) → z ≤ y → y < n → ((s : ℕ) → s < n → d s % 2 ≡ 0) → ((s : ℕ) → s < z → 0 < d s)
    → ((s : ℕ) → y < s → s < n → 0 < d s) →
    2 * sum_below z w + 2 * (sum_below n w - sum_below (suc y) w) ≤ sum_below n (λ s. d s * w s)
cut_least n z y d w low within even before behind =
    let first = all_least z 2 d w (λ s high. omega (arith, even s (omega arith), before s high)) in
    let middle = sum-grows z (suc y) (λ s. d s * w s) (omega arith) in
    let last = behind_least n (suc y) d w (omega arith) (λ s high upto. omega (arith, even s upto, behind s (omega arith) upto)) in
    omega (arith, first, middle, last)

-- the largest gap is no smaller than that around places where nothing is required
gap_least : (d : ℕ → ℕ) (z y x : ℕ) (places : List ℕ) → ((i j : ℕ) → i ≤ j → d i ≤ d j) → x ≤ z → ((r : ℕ) → Among places r → (r ≤ z) ⊎ (y < r))
    → y < last_from x places → z ≤ y → d (suc y) - d z ≤ largest_gap (map d (x ∷ places))
gap_least d z y x [] grows low parts high order = absurd (omega arith)
gap_least d z y x (r ∷ places) grows low parts high order = ⊎_elim
    (λ near. let rest = gap_least d z y r places grows near (λ q h. parts q (inr h)) high order in omega (arith, rest))
    (λ far. omega (arith, grows x z low, grows (suc y) r (omega arith)))
    (parts r (inl refl))

last_among : (x : ℕ) (xs : List ℕ) → Among (x ∷ xs) (last_from x xs)
last_among x [] = inl refl
last_among x (y ∷ xs) = inr (last_among y xs)

map_last : (d : ℕ → ℕ) (x : ℕ) (xs : List ℕ) → slice_get (map d (x ∷ xs)) (length (map d (x ∷ xs)) - 1) ≡ Some (d (last_from x xs))
map_last d x [] = refl
map_last d x (y ∷ xs) =
    let back : length (map d (x ∷ y ∷ xs)) - 1 ≡ suc (length (map d (y ∷ xs)) - 1) = omega arith in
    ap (λ i. slice_get (map d (x ∷ y ∷ xs)) i) back ∙ map_last d y xs

two_or_more : (d : ℕ → ℕ) (x : ℕ) (xs : List ℕ) (y z : ℕ) → x ≤ z → z ≤ y → y < last_from x xs → (whole : ℕ)
    → (if nat_le 2 (length (map d (x ∷ xs))) then Some (2 * (whole - largest_gap (map d (x ∷ xs)))) else None) ≡ Some
    (2 * (whole - largest_gap (map d (x ∷ xs))))
two_or_more d x [] y z low order high whole = absurd (omega arith)
two_or_more d x (r ∷ xs) y z low order high whole = let yes = le-leb 2 (length (map d (x ∷ r ∷ xs))) (omega arith) in rw yes refl

among_far : (before : List ℕ) (near far : ℕ) (after : List ℕ) → Among (before ++ near ∷ far ∷ after) far
among_far before near far after = among-append_right before (near ∷ far ∷ after) far (inr (inl refl))

-- the gap way turns at two neighbours of the largest gap
gap_turning : (d : ℕ → ℕ) (b z y x : ℕ) (places : List ℕ) → ((i j : ℕ) → i ≤ j → d i ≤ d j) → IsAscending (x ∷ places)
    → ((r : ℕ) → Among (x ∷ places) r → r ≤ b) → x ≤ z → z ≤ y → y < last_from x places
    → Turning d b (x ∷ places) z y (2 * (d b - largest_gap (map d (x ∷ places))))
gap_turning d b z y x [] grows up upto near order high = absurd (omega arith)
gap_turning d b z y x (q ∷ places) grows up upto near order high =
    let wide = widest d x q places in
    let up' : IsAscending (wide.before ++ wide.near ∷ wide.far ∷ wide.after) = subst (λ xs. IsAscending xs) wide.places_are up in
    let ascend = neighbours_ascend wide.before wide.after wide.near wide.far up' in
    let within : wide.far ≤ b = upto wide.far (subst (λ xs. Among xs wide.far) (sym wide.places_are) (among_far wide.before wide.near wide.far wide.after)) in
    record {
      near = wide.near;
      far = wide.far;
      ordered = omega (arith, ascend);
      within = within;
      passed = λ r h. ⊎_elim (λ low. inl (low, (x, inl refl, near))) (λ far. inr (far, (last_from x (q ∷ places), last_among x (q ∷ places), high)))
          (neighbours_part wide.before wide.after wide.near wide.far r up' (subst (λ xs. Among xs r) wide.places_are h));
      near_used = λ some. (x, inl refl, near);
      far_used = λ some. (last_from x (q ∷ places), last_among x (q ∷ places), high);
      length_is = omega (arith, wide.gap_is, grows wide.near wide.far (omega (arith, ascend)), grows wide.far b within);
    }

-- where nothing is required between two gaps, but something on the depot's side of them if it lies in this aisle, a
-- way that turns there applies, no longer than two passes of what lies outside the gaps
pub cut_ways : (depot : End → Bool) (d : ℕ → ℕ) (b z y : ℕ) (places : List ℕ) → (d 0 ≡ 0) → ((i j : ℕ) → i ≤ j → d i ≤ d j) → z ≤ y → y < b
    → IsAscending places → ((r : ℕ) → Among places r → r ≤ b) → ((r : ℕ) → Among places r → (r ≤ z) ⊎ (y < r)) →
    (depot at_front ≡ true → HasUpTo places z) → (depot at_back ≡ true → HasBeyond places y)
    → IsCut (ways_with depot (d b) (map d places)) d b places z y (2 * d z + 2 * (d b - d (suc y)))
cut_ways depot d b z y [] begins grows order within up upto parts near_depot far_depot =
    skips refl refl (record {
      near = 0;
      far = b;
      ordered = omega arith;
      within = omega arith;
      passed = λ r h. absurd h;
      near_used = λ some. absurd (omega arith);
      far_used = λ some. absurd (omega arith);
      length_is = omega (arith, begins);
    })
cut_ways depot d b z y (x ∷ places) begins grows order within up upto parts near_depot far_depot = ⊎_elim
    (λ low. fronts (2 * d (last_from x places)) (last_from x places) (front_applies (depot at_back) refl low)
    (omega (arith, grows (last_from x places) z low)) (last_among x places) low
    (λ r h. let most = last_most_from x places r up h in omega (arith, most, low)) (front_turning low))
    (λ high. ⊎_elim
    (λ near. gaps (2 * (d b - largest_gap (map d (x ∷ places)))) x (last_from x places) (two_or_more d x places y z near order high (d b))
    (let gap = gap_least d z y x places grows near (λ r h. parts r (inr h)) high order in
    omega (arith, gap, grows z (suc y) (omega arith), grows (suc y) b (omega arith))) (inl refl) near (last_among x places) high
    (gap_turning d b z y x places grows up upto near order high))
    (λ far. backs (2 * (d b - d x)) x (back_applies (depot at_front) refl far) (omega (arith, grows (suc y) x (omega arith))) (inl refl) far
    (λ r h. below r far h) (back_turning far))
    (parts x (inl refl)))
    (parts (last_from x places) (last_among x places))
  where
    below : (r : ℕ) → y < x → Among (x ∷ places) r → y < r
    below r far (inl e) = omega (arith, e)
    below r far (inr h) = let more = head_below x places r up h in omega (arith, more)

    first : (r : ℕ) → Among (x ∷ places) r → x ≤ r
    first r (inl e) = omega (arith, e)
    first r (inr h) = let more = head_below x places r up h in omega (arith, more)

    back_applies : (has : Bool) → depot at_front ≡ has → y < x → (if depot at_front then None else Some (2 * (d b - d x))) ≡ Some (2 * (d b - d x))
    back_applies true has far = let near = near_depot has in absurd (let more = below near.0 far near.1 in omega (arith, more, near.2))
    back_applies false has far = rw has refl

    front_applies : (has : Bool) → depot at_back ≡ has → last_from x places ≤ z
        → (if depot at_back then None else option_map (λ farthest. 2 * farthest) (slice_get (map d (x ∷ places)) (length (map d (x ∷ places)) - 1))) ≡ Some
        (2 * d (last_from x places))
    front_applies true has low = let far = far_depot has in absurd (let most = last_most_from x places far.0 up far.1 in omega (arith, most, far.2))
    front_applies false has low = rw has (ap (option_map (λ farthest. 2 * farthest)) (map_last d x places))

    front_turning : last_from x places ≤ z → Turning d b (x ∷ places) z y (2 * d (last_from x places))
    front_turning low = record {
      near = last_from x places;
      far = b;
      ordered = upto (last_from x places) (last_among x places);
      within = omega arith;
      passed = λ r h. inl (last_most_from x places r up h, (last_from x places, last_among x places, low));
      near_used = λ some. (last_from x places, last_among x places, low);
      far_used = λ some. absurd (omega arith);
      length_is = omega arith;
    }

    back_turning : y < x → Turning d b (x ∷ places) z y (2 * (d b - d x))
    back_turning far = record {
      near = 0;
      far = x;
      ordered = omega arith;
      within = upto x (inl refl);
      passed = λ r h. inr (first r h, (x, inl refl, far));
      near_used = λ some. absurd (omega arith);
      far_used = λ some. (x, inl refl, far);
      length_is = omega (arith, begins);
    }
