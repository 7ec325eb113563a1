-- The required places of an aisle: the depot's, and those of the words' bits.
-- The required places of an aisle: the depot's, and those of the words' bits.
use Rattle.std.proofs.Common.{◌≡◌, ℕ, zero, suc, ◌+◌, ◌-◌, ◌*◌, ◌<◌, ◌≤◌, ◌==◌, ◌||◌, Bool, true, false, cond, List, [], ◌∷◌, ◌++◌, filter, fold, map}
use Rattle.std.proofs.Common.{if◌then◌else◌, arith, refl, ap, sym, ◌∙◌, inl, inr, ◌⊎◌, ⊎_elim}
use Rattle.std.specs.Int.{bit_at}
use Rattle.std.specs.List.{range_with_len}
use Rattle.std.proofs.lemmas.Bool.{false_from_ne_true}
use Rattle.std.proofs.Math.Bool.{or-false}
use Rattle.std.proofs.lemmas.List.{append-nil, map-append}
use Rattle.std.proofs.lemmas.List.Sums.{fold-append}
use Rattle.std.proofs.lemmas.List.Elements.{filter-append}
use Rattle.wp_model.specs.declared.point.Point.{Point}
use Rattle.wp_model.specs.Warehouse.{Layout, IsLayout, IsSlot, depot_point, step_length}
use Rattle.wp_model.specs.Warehouse.End.{at_front, at_back}
use Rattle.wp_graph.specs.PickSets.{AreSlots}
use Rattle.wp_graph.specs.Required.{IsAscending, distance, has_point, is_at, is_required, required_distances, site_places}
use Rattle.wp_graph.specs.Sites.{has_depot, site_of}
use Rattle.wp_graph.specs.Stretches.{back_distances, bit_places, front_distances, slot_distances}
use Rattle.wp_graph.proofs.Ends.{depot_behind, depot_in_front, depot_no_slot}
use Rattle.wp_graph.proofs.PointTests.{has_among}
use Rattle.wp_graph.proofs.Members.{Contains-from_among}
use Rattle.wp_graph.proofs.Places.{agreeing, none_passes, range_parts}

-- where the test finds a point in a list of slots, it is a slot of the layout
pub slot_had : (layout : Layout) (points : List Point) (aisle place : ℕ) → AreSlots layout points → has_point points aisle place ≡ true
    → IsSlot layout (record { aisle = aisle; slot = place })
slot_had layout points aisle place are has = are.slots (record { aisle = aisle; slot = place }) (Contains-from_among _ _ (has_among points aisle place has))

required_front : (layout : Layout) (points : List Point) (aisle : ℕ) → AreSlots layout points
    → is_required layout points aisle 0 ≡ has_depot (site_of layout) aisle at_front
unfolding has_point
required_front layout points aisle are =
    let none : has_point points aisle 0 ≡ false = false_from_ne_true _ (λ has. let s = (slot_had layout points aisle 0 are has).slot in omega (arith, s)) in
    ap (λ b. is_at aisle 0 (depot_point layout) || b) none ∙ or-false (is_at aisle 0 (depot_point layout))
    ∙ depot_in_front layout.depot aisle (layout.slots + 1) layout.end (omega arith)

required_back : (layout : Layout) (points : List Point) (aisle : ℕ) → AreSlots layout points →
    is_required layout points aisle (layout.slots + 1) ≡ has_depot (site_of layout) aisle at_back
unfolding has_point
required_back layout points aisle are =
    let none : has_point points aisle (layout.slots + 1) ≡ false =
    false_from_ne_true _ (λ has. let s = (slot_had layout points aisle (layout.slots + 1) are has).slot in omega (arith, s)) in
    ap (λ b. is_at aisle (layout.slots + 1) (depot_point layout) || b) none ∙ or-false (is_at aisle (layout.slots + 1) (depot_point layout))
    ∙ depot_behind layout.depot aisle (layout.slots + 1) layout.end (omega arith)

required_slot : (layout : Layout) (points : List Point) (aisle place : ℕ) → 0 < place → place < layout.slots + 1 →
    is_required layout points aisle place ≡ has_point points aisle place
unfolding has_point
required_slot layout points aisle place low high =
    ap (λ b. b || has_point points aisle place) (depot_no_slot layout.depot aisle (layout.slots + 1) place layout.end low high)

-- places that pass lie behind the front and within a bound
pub places_within : (has : ℕ → Bool) (m n : ℕ) → m < n → has 0 ≡ false → ((k : ℕ) → m < k → has k ≡ false)
    → filter has (range_with_len 0 n) ≡ filter has (range_with_len 1 m)
places_within has m zero within none past = absurd (omega arith)
places_within has m (suc n) within none past =
    let all : n ≡ m + (n - m) = omega arith in
    let gone = none_passes has (1 + m) (n - m) (λ k low high. past k (omega arith)) in
    let split : filter has (range_with_len 1 n) ≡ filter has (range_with_len 1 m) =
    ap (λ n'. filter has (range_with_len 1 n')) all ∙ ap (filter has) (range_parts 1 m (n - m))
    ∙ filter-append has (range_with_len 1 m) (range_with_len (1 + m) (n - m))
    ∙ ap (λ xs. filter has (range_with_len 1 m) ++ xs) gone ∙ append-nil _ in
    rw none split

-- the slots of the layout among the places up to some bound
pub slots_within : (layout : Layout) (points : List Point) (aisle n : ℕ) → AreSlots layout points → layout.slots < n →
    filter (has_point points aisle) (range_with_len 0 n) ≡ filter (has_point points aisle) (range_with_len 1 layout.slots)
slots_within layout points aisle n are within
    = places_within (has_point points aisle) layout.slots n within (outside 0 (inl refl)) (λ k past. outside k (inr past))
  where
    outside : (k : ℕ) → (k ≡ 0) ⊎ (layout.slots < k) → has_point points aisle k ≡ false
    outside k out = false_from_ne_true _ (λ h. let s = (slot_had layout points aisle k are h).slot in
        ⊎_elim (λ e. omega (arith, s, e)) (λ far. omega (arith, s, far)) out)

map_if : (f : ℕ → ℕ) (b : Bool) (x : ℕ) → map f (cond b (x ∷ []) []) ≡ cond b (f x ∷ []) []
map_if f true x = refl
map_if f false x = refl

-- the required distances of an aisle: that of the depot in front, those of the slots, and that of the depot at the back
pub required_parts : (layout : Layout) (points : List Point) (aisle : ℕ) → AreSlots layout points →
    required_distances layout points aisle ≡ (front_distances layout aisle ++ slot_distances layout points aisle) ++ back_distances layout aisle
unfolding site_places
required_parts layout points aisle are =
    let test = is_required layout points aisle in
    let m = layout.slots in
    let last : range_with_len (1 + m) 1 ≡ (m + 1) ∷ [] = ap (λ (n : ℕ). n ∷ []) (omega arith) in
    let all : m + 2 ≡ suc (m + 1) = omega arith in
    let parts : filter test (range_with_len 1 (m + 1)) ≡ filter test (range_with_len 1 m) ++ filter test (range_with_len (1 + m) 1) =
    ap (filter test) (range_parts 1 m 1) ∙ filter-append test (range_with_len 1 m) (range_with_len (1 + m) 1) in
    let slots = agreeing test (has_point points aisle) 1 m (λ k low high. required_slot layout points aisle k (omega arith) (omega (arith, high))) in
    let front = required_front layout points aisle are in
    let back = required_back layout points aisle are in
    let behind : filter test (range_with_len (1 + m) 1) ≡ cond (has_depot (site_of layout) aisle at_back) ((m + 1) ∷ []) [] =
    ap (filter test) last ∙ ap (λ b. cond b ((m + 1) ∷ []) []) back in
    let places : filter test (range_with_len 0 (m + 2)) ≡ cond (has_depot (site_of layout) aisle at_front)
    (0 ∷ (filter (has_point points aisle) (range_with_len 1 m) ++ cond (has_depot (site_of layout) aisle at_back) ((m + 1) ∷ []) []))
    (filter (has_point points aisle) (range_with_len 1 m) ++ cond (has_depot (site_of layout) aisle at_back) ((m + 1) ∷ []) []) =
    ap (λ n. filter test (range_with_len 0 n)) all ∙ ap
    (λ b. cond b (0 ∷ filter test (range_with_len 1 (m + 1))) (filter test (range_with_len 1 (m + 1)))) front
    ∙ ap (λ (ps : List ℕ). cond (has_depot (site_of layout) aisle at_front) (0 ∷ ps) ps)
    (parts ∙ ap (λ (ps : List ℕ). ps ++ filter test (range_with_len (1 + m) 1)) slots
    ∙ ap (λ (ps : List ℕ). filter (has_point points aisle) (range_with_len 1 m) ++ ps) behind) in
    ap (map (distance layout)) places
    ∙ mapped (has_depot (site_of layout) aisle at_front) (filter (has_point points aisle) (range_with_len 1 m))
    (cond (has_depot (site_of layout) aisle at_back) ((m + 1) ∷ []) [])
    ∙ ap (λ (ds : List ℕ). (front_distances layout aisle ++ slot_distances layout points aisle) ++ ds)
    (map_if (distance layout) (has_depot (site_of layout) aisle at_back) (m + 1))
  where
    mapped : (b : Bool) (xs ys : List ℕ) → map (distance layout) (cond b (0 ∷ (xs ++ ys)) (xs ++ ys))
        ≡ (cond b (0 ∷ []) [] ++ map (distance layout) xs) ++ map (distance layout) ys
    mapped true xs ys = ap (λ (ds : List ℕ). 0 ∷ ds) (map-append (distance layout) xs ys)
    mapped false xs ys = map-append (distance layout) xs ys

-- distances of places from the front on ascend
pub ascending_after : (p : ℕ → Bool) (f : ℕ → ℕ) (a n x : ℕ) → ((k : ℕ) → a ≤ k → k < a + n → x < f k) → ((k : ℕ) → a ≤ k → k + 1 < a + n → f k < f (k + 1)) →
    IsAscending (x ∷ map f (filter p (range_with_len a n)))
ascending_after p f a zero x above up = tt
ascending_after p f a (suc n) x above up =
    let later = ascending_after p f (a + 1) n x (λ k low high. above k (omega arith) (omega arith)) (λ k low high. up k (omega arith) (omega arith)) in
    let next = ascending_after p f (a + 1) n (f a) (λ k low high. far k (k - (a + 1)) (omega arith) (omega arith))
    (λ k low high. up k (omega arith) (omega arith)) in
    elim (p a) as (λ b. IsAscending (x ∷ map f (cond b (a ∷ filter p (range_with_len (a + 1) n)) (filter p (range_with_len (a + 1) n)))))
    [ true ↦ (above a (omega arith) (omega arith), next) | false ↦ later ]
  where
    far : (k d : ℕ) → k ≡ a + 1 + d → k < a + suc n → f a < f k
    far k zero e high = let s : k ≡ a + 1 = omega arith in rw s (up a (omega arith) (omega arith))
    far k (suc d) e high =
        let before = far (k - 1) d (omega arith) (omega arith) in
        let step = up (k - 1) (omega arith) (omega arith) in
        let s : k - 1 + 1 ≡ k = omega arith in
        let t = rw s at step in omega (arith, before, t)

-- each place is further from the front than the one before it
pub steps_up : (layout : Layout) → IsLayout layout → (k : ℕ) → distance layout k < distance layout (k + 1)
steps_up layout valid k =
    let s : k + 1 ≡ suc k = omega arith in
    let step : 0 < step_length layout k = elim (k == 0 || k == layout.slots) as
    (λ b. 0 < (if b then layout.clearance else layout.pitch)) [ true ↦ valid.clearance.0 | false ↦ valid.pitch.0 ] in
    rw s (omega (arith, step))

-- ascending numbers ascend still without the first
pub tail_ascending : (x : ℕ) (xs : List ℕ) → IsAscending (x ∷ xs) → IsAscending xs
tail_ascending x [] up = tt
tail_ascending x (y ∷ ys) up = up.1

-- the required distances of an aisle ascend
pub required_ascending : (layout : Layout) (points : List Point) (aisle : ℕ) → IsLayout layout → IsAscending (required_distances layout points aisle)
unfolding site_places
required_ascending layout points aisle valid =
    let two : layout.slots + 2 ≡ suc (layout.slots + 1) = omega arith in
    let rest = ascending_after (is_required layout points aisle) (distance layout) 1 (layout.slots + 1) 0 (λ k low high. some k low)
    (λ k low high. steps_up layout valid k) in
    rw two (elim (is_required layout points aisle 0) as (λ b. IsAscending
    (map (distance layout) (cond b (0 ∷ filter (is_required layout points aisle) (range_with_len 1 (layout.slots + 1)))
    (filter (is_required layout points aisle) (range_with_len 1 (layout.slots + 1))))))
    [ true ↦ rest | false ↦ tail_ascending 0 _ rest ])
  where
    some : (k : ℕ) → 1 ≤ k → 0 < distance layout k
    some zero low = absurd (omega arith)
    some (suc k) low = let s : k + 1 ≡ suc k = omega arith in let up = rw s at (steps_up layout valid k) in omega (arith, up)

-- one more word of bits
pub words_more : {S : Type 0} (f : S → ℕ → S) (d : ℕ → ℕ) (has : ℕ → Bool) (before now next : S) (index word : ℕ) →
    now ≡ fold f before (map d (filter has (range_with_len 0 (64 * index)))) → next ≡ fold f now (map d (bit_places (64 * index) word)) →
    ((k : ℕ) → k < 64 → (bit_at word k == 1) ≡ has (64 * index + k)) → next ≡ fold f before (map d (filter has (range_with_len 0 (64 * (index + 1)))))
unfolding bit_places
words_more f d has before now next index word so_far reached tells =
    let more : 64 * (index + 1) ≡ 64 * index + 64 = omega arith in
    let places = agreeing (λ place. bit_at word (place - 64 * index) == 1) has (64 * index) 64
    (λ k low high. let e : 64 * index + (k - 64 * index) ≡ k = omega arith in tells (k - 64 * index) (omega arith) ∙ ap has e) in
    let zero_add : 0 + 64 * index ≡ 64 * index = omega arith in
    let front = filter has (range_with_len 0 (64 * index)) in
    let behind = filter has (range_with_len (64 * index) 64) in
    let split : filter has (range_with_len 0 (64 * (index + 1))) ≡ front ++ behind =
    ap (λ n. filter has (range_with_len 0 n)) more ∙ ap (filter has) (range_parts 0 (64 * index) 64)
    ∙ filter-append has (range_with_len 0 (64 * index)) (range_with_len (0 + 64 * index) 64)
    ∙ ap (λ a. front ++ filter has (range_with_len a 64)) zero_add in
    reached ∙ ap (λ ps. fold f now (map d ps)) places ∙ ap (λ s. fold f s (map d behind)) so_far
    ∙ sym (fold-append f before (map d front) (map d behind)) ∙ ap (fold f before) (sym (map-append d front behind))
    ∙ ap (λ ps. fold f before (map d ps)) (sym split)
