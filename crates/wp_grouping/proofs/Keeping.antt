-- Waves by keys as they are kept.
use Rattle.std.proofs.Common.{◌≡◌, ◌≢◌, ◌∙◌, refl, sym, ap, ℕ, suc, ◌+◌, ◌<◌, ◌==◌, inl, inr, Bool, true, false, List, [], ◌∷◌, ◌++◌, length}
use Rattle.std.proofs.Common.{Option, Some, None, option_map, cond, subst, arith, slice_get, slice_set, get_or, Vec, length-set, replicate}
use Rattle.std.proofs.lemmas.List.{get_or-replicate, length-replicate}
use Rattle.std.proofs.lemmas.Bool.{cases_eq, eq-eqb, eqb-true}
use Rattle.std.proofs.lemmas.Option.{same_Some, slice_get-get_or}
use Rattle.std.specs.declared.alloc.Global.{Global}
use Rattle.wp_grouping.specs.Gathering.{AreKept, Gathered, joined, orders_of, place_of}
use Rattle.wp_model.proofs.Elements.{slice_get-set_other, slice_get-set_same}
use Rattle.wp_waves.proofs.KeptWaves.{kept_at, kept_length, kept_set}
use Rattle.wp_waves.specs.Filling.{waves_kept}
use Rattle.wp_waves.specs.declared.open_orders.OpenOrder.{OpenOrder}

-- the place of a key's wave where the first wave has the key or not
abbrev place_if : Bool → Option ℕ → Option ℕ
place_if b later = cond b (Some 0) (option_map (λ i. i + 1) later)

-- the place after one is found, or none
next_place : (later : Option ℕ) (p : ℕ) → option_map (λ i. i + 1) later ≡ Some p → (i : ℕ) × (later ≡ Some i) × (p ≡ i + 1)
next_place None p is = absurd (cc is)
next_place (Some i) p is = (i, refl, sym (same_Some (i + 1) p is))

no_next : (later : Option ℕ) → option_map (λ i. i + 1) later ≡ None → later ≡ None
no_next None is = refl
no_next (Some i) is = absurd (cc is)

-- a wave that is found stands among the waves
within_step : (b : Bool) (later : Option ℕ) (count p : ℕ) → ((i : ℕ) → later ≡ Some i → i < count) → place_if b later ≡ Some p → p < suc count
within_step true later count p rest is = omega (arith, same_Some 0 p is)
within_step false later count p rest is =
    let next = next_place later p is in
    omega (arith, next.2, rest next.0 next.1)

pub place_within : (key : ℕ) (waves : List Gathered) (p : ℕ) → place_of key waves ≡ Some p → p < length waves
place_within key [] p is = absurd (cc is)
place_within key (w ∷ waves) p is = within_step (w.key == key) (place_of key waves) (length waves) p (place_within key waves) is

-- an order joins the wave that is found
there_first : (v w : List OpenOrder) (rest : List (List OpenOrder)) (one : OpenOrder) (p : ℕ) → p ≡ 0 → slice_get (v ∷ rest) p ≡ Some w
    → (v ++ one ∷ []) ∷ rest ≡ slice_set (v ∷ rest) p (w ++ one ∷ [])
there_first v w rest one p first there =
    let same : v ≡ w = same_Some v w (ap (slice_get (v ∷ rest)) (sym first) ∙ there) in
    ap (λ (l : List OpenOrder). (l ++ one ∷ []) ∷ rest) same ∙ ap (λ n. slice_set (v ∷ rest) n (w ++ one ∷ [])) (sym first)

there_later : (v w : List OpenOrder) (rest new : List (List OpenOrder)) (one : OpenOrder) (p i : ℕ) → p ≡ suc i → slice_get (v ∷ rest) p ≡ Some w
    → (slice_get rest i ≡ Some w → new ≡ slice_set rest i (w ++ one ∷ [])) → v ∷ new ≡ slice_set (v ∷ rest) p (w ++ one ∷ [])
there_later v w rest new one p i next there step =
    let at : slice_get rest i ≡ Some w = ap (slice_get (v ∷ rest)) (sym next) ∙ there in
    ap (λ l. v ∷ l) (step at) ∙ ap (λ n. slice_set (v ∷ rest) n (w ++ one ∷ [])) (sym next)

there_step : (b : Bool) (key : ℕ) (one : OpenOrder) (v : Gathered) (waves : List Gathered) (p : ℕ) (w : List OpenOrder)
    → ((i : ℕ) → place_of key waves ≡ Some i → slice_get (orders_of waves) i ≡ Some w
    → orders_of (joined key one waves) ≡ slice_set (orders_of waves) i (w ++ one ∷ []))
    → place_if b (place_of key waves) ≡ Some p → slice_get (v.orders ∷ orders_of waves) p ≡ Some w
    → orders_of (cond b ((record { key = key; orders = v.orders ++ one ∷ [] }) ∷ waves) (v ∷ joined key one waves))
    ≡ slice_set (v.orders ∷ orders_of waves) p (w ++ one ∷ [])
there_step true key one v waves p w step is there = there_first v.orders w (orders_of waves) one p (sym (same_Some 0 p is)) there
there_step false key one v waves p w step is there =
    let next = next_place (place_of key waves) p is in
    there_later v.orders w (orders_of waves) (orders_of (joined key one waves)) one p next.0 (omega (arith, next.2)) there (step next.0 next.1)

pub joined_there : (key : ℕ) (one : OpenOrder) (waves : List Gathered) (p : ℕ) (w : List OpenOrder) → place_of key waves ≡ Some p
    → slice_get (orders_of waves) p ≡ Some w → orders_of (joined key one waves) ≡ slice_set (orders_of waves) p (w ++ one ∷ [])
joined_there key one [] p w is there = absurd (cc is)
joined_there key one (v ∷ waves) p w is there =
    there_step (v.key == key) key one v waves p w (λ i found at. joined_there key one waves i w found at) is there

-- an order whose wave isn't there begins one
new_step : (b : Bool) (key : ℕ) (one : OpenOrder) (v : Gathered) (waves : List Gathered)
    → (place_of key waves ≡ None → joined key one waves ≡ waves ++ (record { key = key; orders = one ∷ [] }) ∷ [])
    → place_if b (place_of key waves) ≡ None
    → cond b ((record { key = key; orders = v.orders ++ one ∷ [] }) ∷ waves) (v ∷ joined key one waves)
    ≡ v ∷ (waves ++ (record { key = key; orders = one ∷ [] }) ∷ [])
new_step true key one v waves step none = absurd (cc none)
new_step false key one v waves step none = ap (λ l. v ∷ l) (step (no_next (place_of key waves) none))

pub joined_new : (key : ℕ) (one : OpenOrder) (waves : List Gathered) → place_of key waves ≡ None
    → joined key one waves ≡ waves ++ (record { key = key; orders = one ∷ [] }) ∷ []
joined_new key one [] none = refl
joined_new key one (v ∷ waves) none = new_step (v.key == key) key one v waves (joined_new key one waves) none

-- the places of all keys stay where an order joins a wave
stay_step : (b : Bool) (key other p : ℕ) (one : OpenOrder) (v : Gathered) (waves : List Gathered) → (v.key == key) ≡ b
    → ((i : ℕ) → place_of key waves ≡ Some i → place_of other (joined key one waves) ≡ place_of other waves)
    → place_if b (place_of key waves) ≡ Some p
    → place_of other (cond b ((record { key = key; orders = v.orders ++ one ∷ [] }) ∷ waves) (v ∷ joined key one waves))
    ≡ place_if (v.key == other) (place_of other waves)
stay_step true key other p one v waves same step is = ap (λ k. place_if (k == other) (place_of other waves)) (sym (eqb-true v.key key same))
stay_step false key other p one v waves same step is =
    let next = next_place (place_of key waves) p is in
    ap (place_if (v.key == other)) (step next.0 next.1)

pub places_stay : (key other p : ℕ) (one : OpenOrder) (waves : List Gathered) → place_of key waves ≡ Some p
    → place_of other (joined key one waves) ≡ place_of other waves
places_stay key other p one [] is = absurd (cc is)
places_stay key other p one (v ∷ waves) is =
    stay_step (v.key == key) key other p one v waves refl (λ i found. places_stay key other i one waves found) is

-- a new wave is found at its place, and each other key as before
none_where : (b : Bool) → (b ≡ true → ⊥) → place_if b None ≡ None
none_where true not = absurd (not refl)
none_where false not = refl

pub place_new : (key other : ℕ) (one : OpenOrder) (waves : List Gathered) → key ≢ other
    → place_of other (waves ++ (record { key = key; orders = one ∷ [] }) ∷ []) ≡ place_of other waves
place_new key other one [] differs = none_where (key == other) (λ e. differs (eqb-true key other e))
place_new key other one (v ∷ waves) differs = ap (place_if (v.key == other)) (place_new key other one waves differs)

last_step : (b : Bool) (later new : Option ℕ) (count : ℕ) → (later ≡ None → new ≡ Some count) → place_if b later ≡ None
    → place_if b new ≡ Some (suc count)
last_step true later new count step none = absurd (cc none)
last_step false later new count step none = ap (option_map (λ i. i + 1)) (step (no_next later none)) ∙ ap Some (omega arith)

pub place_last : (key : ℕ) (one : OpenOrder) (waves : List Gathered) → place_of key waves ≡ None
    → place_of key (waves ++ (record { key = key; orders = one ∷ [] }) ∷ []) ≡ Some (length waves)
place_last key one [] none = ap (λ b. place_if b None) (eq-eqb key key refl)
place_last key one (v ∷ waves) none =
    last_step (v.key == key) (place_of key waves) (place_of key (waves ++ (record { key = key; orders = one ∷ [] }) ∷ [])) (length waves)
    (place_last key one waves) none

orders_more : (waves : List Gathered) (w : Gathered) → orders_of (waves ++ w ∷ []) ≡ orders_of waves ++ w.orders ∷ []
orders_more [] w = refl
orders_more (v ∷ waves) w = ap (λ l. v.orders ∷ l) (orders_more waves w)

orders_length : (waves : List Gathered) → length (orders_of waves) ≡ length waves
orders_length [] = refl
orders_length (v ∷ waves) = ap suc (orders_length waves)

-- the place that is kept of a key's wave
pub kept_place : (gathered : List Gathered) (waves : List (Vec OpenOrder Global)) (places : List (Option ℕ)) (key : ℕ) (place : Option ℕ)
    → AreKept gathered waves places → key < length places → place ≡ get_or places key place → place_of key gathered ≡ place
kept_place gathered waves places key place are within is =
    same_Some (place_of key gathered) place (sym (are.places_are key within) ∙ (slice_get-get_or places key place within ∙ ap Some (sym is)))

-- the place that is found of a key's wave
pub found_place : (gathered : List Gathered) (waves : List (Vec OpenOrder Global)) (places : List (Option ℕ)) (key : ℕ) (place : Option ℕ) (p : ℕ)
    → AreKept gathered waves places → key < length places → place ≡ get_or places key place → place ≡ Some p → place_of key gathered ≡ Some p
found_place gathered waves places key place p are within is some = kept_place gathered waves places key place are within is ∙ some

-- no wave, and no key has a place
pub none_kept : (count : ℕ) (places : List (Option ℕ)) → places ≡ replicate count None → AreKept [] [] places
none_kept count places are = record {
  waves_are = refl;
  places_are = λ key below.
      let no : Option ℕ = None in
      let long : length (replicate count no) ≡ count = length-replicate count no in
      let short : key < count = omega (arith, below, ap (λ (l : List (Option ℕ)). length l) are, long) in
      slice_get-get_or places key no below
      ∙ ap Some (ap (λ (l : List (Option ℕ)). get_or l key no) are ∙ get_or-replicate count key no no short);
}

-- how many waves there are
pub as_many : (gathered : List Gathered) (waves : List (Vec OpenOrder Global)) (places : List (Option ℕ)) → AreKept gathered waves places
    → length waves ≡ length gathered
as_many gathered waves places are =
    omega (arith, kept_length waves, ap (λ (l : List (List OpenOrder)). length l) are.waves_are, orders_length gathered)

-- an order joined its wave
pub joined_kept : (gathered : List Gathered) (waves : List (Vec OpenOrder Global)) (places : List (Option ℕ)) (key p : ℕ) (one : OpenOrder)
    (old new : Vec OpenOrder Global) → AreKept gathered waves places → place_of key gathered ≡ Some p → old ≡ get_or waves p old
    → new.items ≡ old.items ++ one ∷ [] → AreKept (joined key one gathered) (slice_set waves p new) places
joined_kept gathered waves places key p one old new are found is pushed =
    let within : p < length waves = omega (arith, as_many gathered waves places are, place_within key gathered p found) in
    let there : slice_get (orders_of gathered) p ≡ Some old.items =
    ap (λ (l : List (List OpenOrder)). slice_get l p) (sym are.waves_are) ∙ kept_at waves p old within is in
    record {
      waves_are = kept_set waves p new
          ∙ (ap (slice_set (waves_kept waves) p) pushed
          ∙ (ap (λ (l : List (List OpenOrder)). slice_set l p (old.items ++ one ∷ [])) are.waves_are
          ∙ sym (joined_there key one gathered p old.items found there)));
      places_are = λ k below. are.places_are k below ∙ ap Some (sym (places_stay key k p one gathered found));
    }

-- an order began a wave
pub begun_kept : (gathered : List Gathered) (waves new : List (Vec OpenOrder Global)) (places : List (Option ℕ)) (key count : ℕ) (one : OpenOrder)
    → AreKept gathered waves places → place_of key gathered ≡ None → key < length places → count ≡ length waves
    → waves_kept new ≡ waves_kept waves ++ (one ∷ []) ∷ [] → AreKept (joined key one gathered) new (slice_set places key (Some count))
begun_kept gathered waves new places key count one are none small long begun =
    let begins : Gathered = record { key = key; orders = one ∷ [] } in
    let more : joined key one gathered ≡ gathered ++ begins ∷ [] = joined_new key one gathered none in
    subst (λ g. AreKept g new (slice_set places key (Some count))) (sym more) (record {
      waves_are = begun ∙ (ap (λ (l : List (List OpenOrder)). l ++ (one ∷ []) ∷ []) are.waves_are ∙ sym (orders_more gathered begins));
      places_are = λ k below. elim (cases_eq k key) [
        | inl here ↦
            let last : Some count ≡ place_of key (gathered ++ begins ∷ []) =
            ap Some (long ∙ as_many gathered waves places are) ∙ sym (place_last key one gathered none) in
            ap (slice_get (slice_set places key (Some count))) here
            ∙ (slice_get-set_same places key (Some count) small
            ∙ ap Some (last ∙ ap (λ n. place_of n (gathered ++ begins ∷ [])) (sym here)))
        | inr other ↦
            let before : k < length places = omega (arith, below, length-set places key (Some count)) in
            let differs : key ≢ k = λ same. other (sym same) in
            slice_get-set_other places key k (Some count) other
            ∙ (are.places_are k before ∙ ap Some (sym (place_new key k one gathered differs)))
      ];
    })
