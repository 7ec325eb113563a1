-- Waves by keys have each order once, in the order in which they are served.
use Rattle.std.proofs.Common.{◌≡◌, refl, sym, ap, ℕ, ◌<◌, ◌==◌, inl, inr, List, [], ◌∷◌, ◌++◌, length}
use Rattle.std.proofs.Common.{◌⊎◌, subst, arith, append_assoc, append-nil, length-append, All}
use Rattle.std.proofs.lemmas.Bool.{cond_both}
use Rattle.std.proofs.lemmas.List.Elements.{All-cons, All-head, All-nil, All-tail, All-weaker}
use Rattle.std.proofs.lemmas.List.Sorted.{IsPermutation-append_left, IsPermutation-append_right, IsPermutation-refl, IsPermutation-to_front}
use Rattle.std.proofs.lemmas.List.Sorted.{IsPermutation-trans}
use Rattle.std.specs.List.Sorted.{IsPermutation}
use Rattle.wp_grouping.specs.Gathering.{Gathered, all_joined, joined, orders_of}
use Rattle.wp_waves.proofs.Filling.{part_last, part_more}
use Rattle.wp_waves.specs.Waves.{IsPartOf, firsts}
use Rattle.wp_waves.specs.Weights.{all_of}
use Rattle.wp_waves.specs.declared.open_orders.OpenOrder.{OpenOrder}

-- what holds where an order joins the first wave, and where it goes on to the others, holds of an order that joins
pub joined_case : (P : List Gathered → Type 0) (key : ℕ) (one : OpenOrder) (w : Gathered) (waves : List Gathered)
    → P ((record { key = key; orders = w.orders ++ one ∷ [] }) ∷ waves) → P (w ∷ joined key one waves) → P (joined key one (w ∷ waves))
joined_case P key one w waves here later =
    cond_both (w.key == key) ((record { key = key; orders = w.orders ++ one ∷ [] }) ∷ waves) (w ∷ joined key one waves) P (λ e. here) (λ e. later)

-- each order is in one wave
joined_once : (key : ℕ) (one : OpenOrder) (waves : List Gathered)
    → IsPermutation (all_of (orders_of waves) ++ one ∷ []) (all_of (orders_of (joined key one waves)))
joined_once key one [] = IsPermutation-refl (one ∷ [])
joined_once key one (w ∷ waves) =
    let old = w.orders in
    let rest = all_of (orders_of waves) in
    let from = λ (l : List OpenOrder). IsPermutation ((old ++ rest) ++ one ∷ []) l in
    let moved = IsPermutation-append_right old (rest ++ one ∷ []) (one ∷ rest) (IsPermutation-to_front rest one) in
    let left = sym (append_assoc old rest (one ∷ [])) in
    let here : from ((old ++ one ∷ []) ++ rest) =
    subst from (sym (append_assoc old (one ∷ []) rest)) (subst (λ l. IsPermutation l (old ++ (one ∷ rest))) left moved) in
    let later : from (old ++ all_of (orders_of (joined key one waves))) =
    subst (λ l. IsPermutation l (old ++ all_of (orders_of (joined key one waves)))) left
    (IsPermutation-append_right old (rest ++ one ∷ []) (all_of (orders_of (joined key one waves))) (joined_once key one waves)) in
    joined_case (λ ws. from (all_of (orders_of ws))) key one w waves here later

-- no wave is empty
joined_some : (key : ℕ) (one : OpenOrder) (waves : List Gathered) → All (λ w. 0 < length w) (orders_of waves)
    → All (λ w. 0 < length w) (orders_of (joined key one waves))
joined_some key one [] some =
    All-cons (λ (w : List OpenOrder). 0 < length w) (one ∷ []) [] (omega arith) (All-nil (λ (w : List OpenOrder). 0 < length w))
joined_some key one (w ∷ waves) some =
    let P = λ (v : List OpenOrder). 0 < length v in
    let rest = All-tail P w.orders (orders_of waves) some in
    joined_case (λ ws. All P (orders_of ws)) key one w waves
    (All-cons P (w.orders ++ one ∷ []) (orders_of waves) (omega (arith, length-append w.orders (one ∷ []))) rest)
    (All-cons P w.orders (orders_of (joined key one waves)) (All-head P w.orders (orders_of waves) some) (joined_some key one waves rest))

one_last : {A : Type 0} (ys : List A) (z : A) → IsPartOf (z ∷ []) (ys ++ z ∷ [])
one_last ys z = part_last [] ys z tt

-- in a wave orders stand as they are served
joined_parts : (done : List OpenOrder) (key : ℕ) (one : OpenOrder) (waves : List Gathered) → All (λ w. IsPartOf w done) (orders_of waves)
    → All (λ w. IsPartOf w (done ++ one ∷ [])) (orders_of (joined key one waves))
joined_parts done key one [] parts =
    let P = λ (v : List OpenOrder). IsPartOf v (done ++ one ∷ []) in
    All-cons P (one ∷ []) [] (one_last done one) (All-nil P)
joined_parts done key one (w ∷ waves) parts =
    let P = λ (v : List OpenOrder). IsPartOf v (done ++ one ∷ []) in
    let Q = λ (v : List OpenOrder). IsPartOf v done in
    let first = All-head Q w.orders (orders_of waves) parts in
    let rest = All-tail Q w.orders (orders_of waves) parts in
    let stay = All-weaker Q P (λ v. part_more v done (one ∷ [])) (orders_of waves) rest in
    joined_case (λ ws. All P (orders_of ws)) key one w waves
    (All-cons P (w.orders ++ one ∷ []) (orders_of waves) (part_last w.orders done one first) stay)
    (All-cons P w.orders (orders_of (joined key one waves)) (part_more w.orders done (one ∷ []) first) (joined_parts done key one waves rest))

-- the first orders: as before, or with the order as the last of them
abbrev Firsts : List OpenOrder → OpenOrder → List OpenOrder → Type 0
Firsts old one new = (new ≡ old) ⊎ (new ≡ old ++ one ∷ [])

firsts_here : (w : List OpenOrder) (one : OpenOrder) (others : List (List OpenOrder)) → 0 < length w → firsts ((w ++ one ∷ []) ∷ others) ≡ firsts (w ∷ others)
firsts_here [] one others some = absurd (omega arith)
firsts_here (o ∷ w) one others some = refl

firsts_later : (w : List OpenOrder) (one : OpenOrder) (old new : List (List OpenOrder)) → Firsts (firsts old) one (firsts new)
    → Firsts (firsts (w ∷ old)) one (firsts (w ∷ new))
firsts_later [] one old new is = is
firsts_later (o ∷ w) one old new (inl same) = inl (ap (λ l. o ∷ l) same)
firsts_later (o ∷ w) one old new (inr more) = inr (ap (λ l. o ∷ l) more)

joined_firsts : (key : ℕ) (one : OpenOrder) (waves : List Gathered) → All (λ w. 0 < length w) (orders_of waves)
    → Firsts (firsts (orders_of waves)) one (firsts (orders_of (joined key one waves)))
joined_firsts key one [] some = inr refl
joined_firsts key one (w ∷ waves) some =
    let P = λ (v : List OpenOrder). 0 < length v in
    joined_case (λ ws. Firsts (firsts (w.orders ∷ orders_of waves)) one (firsts (orders_of ws))) key one w waves
    (inl (firsts_here w.orders one (orders_of waves) (All-head P w.orders (orders_of waves) some)))
    (firsts_later w.orders one (orders_of waves) (orders_of (joined key one waves))
    (joined_firsts key one waves (All-tail P w.orders (orders_of waves) some)))

part_firsts : (done old new : List OpenOrder) (one : OpenOrder) → IsPartOf old done → Firsts old one new → IsPartOf new (done ++ one ∷ [])
part_firsts done old new one part (inl same) = subst (λ l. IsPartOf l (done ++ one ∷ [])) (sym same) (part_more old done (one ∷ []) part)
part_firsts done old new one part (inr more) = subst (λ l. IsPartOf l (done ++ one ∷ [])) (sym more) (part_last old done one part)

-- waves of the orders so far, each order in one of them, as they are served
pub record AreGathered (done : List OpenOrder) (waves : List Gathered) : Type 0 where
  pub once : IsPermutation done (all_of (orders_of waves))
  pub some : All (λ w. 0 < length w) (orders_of waves)
  pub as_served : All (λ w. IsPartOf w done) (orders_of waves)
  pub by_first : IsPartOf (firsts (orders_of waves)) done

one_gathered : (done : List OpenOrder) (key : ℕ) (one : OpenOrder) (waves : List Gathered) → AreGathered done waves
    → AreGathered (done ++ one ∷ []) (joined key one waves)
one_gathered done key one waves are = record {
  once = IsPermutation-trans _ _ _ (IsPermutation-append_left (one ∷ []) done (all_of (orders_of waves)) are.once) (joined_once key one waves);
  some = joined_some key one waves are.some;
  as_served = joined_parts done key one waves are.as_served;
  by_first = part_firsts done (firsts (orders_of waves)) (firsts (orders_of (joined key one waves))) one are.by_first
      (joined_firsts key one waves are.some);
}

all_gathered : (done served : List OpenOrder) (keys : List ℕ) (waves : List Gathered) → length keys ≡ length served → AreGathered done waves
    → AreGathered (done ++ served) (all_joined waves served keys)
all_gathered done [] keys waves long are = subst (λ l. AreGathered l waves) (sym (append-nil done)) are
all_gathered done (one ∷ served) [] waves long are = absurd (omega (arith, long))
all_gathered done (one ∷ served) (key ∷ keys) waves long are =
    subst (λ l. AreGathered l (all_joined (joined key one waves) served keys)) (append_assoc done (one ∷ []) served)
    (all_gathered (done ++ one ∷ []) served keys (joined key one waves) (omega (arith, long)) (one_gathered done key one waves are))

none_gathered : AreGathered [] []
none_gathered = record {
  once = IsPermutation-refl [];
  some = All-nil (λ (w : List OpenOrder). 0 < length w);
  as_served = All-nil (λ (w : List OpenOrder). IsPartOf w []);
  by_first = tt;
}

-- waves by keys have each order once, in the order in which they are served
pub by_key_gathered : (served : List OpenOrder) (keys : List ℕ) → length keys ≡ length served → AreGathered served (all_joined [] served keys)
by_key_gathered served keys long = all_gathered [] served keys [] long none_gathered

-- one order more
pub all_joined_more : (waves : List Gathered) (served : List OpenOrder) (keys : List ℕ) (one : OpenOrder) (key : ℕ) → length keys ≡ length served
    → all_joined waves (served ++ one ∷ []) (keys ++ key ∷ []) ≡ joined key one (all_joined waves served keys)
all_joined_more waves [] [] one key long = refl
all_joined_more waves [] (k ∷ keys) one key long = absurd (omega (arith, long))
all_joined_more waves (o ∷ served) [] one key long = absurd (omega (arith, long))
all_joined_more waves (o ∷ served) (k ∷ keys) one key long = all_joined_more (joined k o waves) served keys one key (omega (arith, long))
