-- Waves that are filled order by order stay right.
use Rattle.std.proofs.Common.{◌≡◌, ◌≢◌, ◌∙◌, refl, sym, ap, ℕ, zero, suc, ◌+◌, ◌<◌, ◌≤◌, inl, inr, Bool, true, false, List, [], ◌∷◌, ◌++◌, length, Some}
use Rattle.std.proofs.Common.{slice_get, slice_set, subst, arith, append_assoc, length-append, All}
use Rattle.std.proofs.lemmas.Bool.{cases_eq, cases_lt}
use Rattle.std.proofs.lemmas.List.Elements.{All-cons, All-head, All-nil, All-push, All-set, All-tail, All-weaker}
use Rattle.std.proofs.lemmas.List.Sorted.{All-permutation, IsPermutation-append_left, IsPermutation-append_right, IsPermutation-to_front, IsPermutation-trans}
use Rattle.std.proofs.lemmas.List.Sorted.{IsPermutation-refl}
use Rattle.std.proofs.lemmas.Option.{same_Some, slice_get_within}
use Rattle.std.proofs.lemmas.Slice.Eq.{bytes_eq-Decides}
use Rattle.std.specs.List.Sorted.{IsPermutation}
use Rattle.std.specs.Str.{bytes_eq}
use Rattle.wp_model.proofs.Elements.{All-at, slice_get-push, slice_get-set, slice_get-set_same}
use Rattle.wp_waves.specs.Filling.{AreFilled, HasBegun, HasJoined, IsLastOf, IsPut}
use Rattle.wp_waves.specs.Waves.{AreOfOneGroup, GoesBefore, HasOneGroup, IsPartOf, first_before, firsts, is_of_group}
use Rattle.wp_waves.specs.Weights.{all_of}
use Rattle.wp_waves.specs.declared.open_orders.OpenOrder.{OpenOrder}

-- lists whose items all have something

All-front : {X : Type 0} (P : X → Type 0) (xs ys : List X) → All P (xs ++ ys) → All P xs
All-front P [] ys all = All-nil P
All-front P (x ∷ xs) ys all = All-cons P x xs (All-head P x (xs ++ ys) all) (All-front P xs ys (All-tail P x (xs ++ ys) all))

All-back : {X : Type 0} (P : X → Type 0) (xs ys : List X) → All P (xs ++ ys) → All P ys
All-back P [] ys all = all
All-back P (x ∷ xs) ys all = All-back P xs ys (All-tail P x (xs ++ ys) all)

All-both : {X : Type 0} (xs : List X) (P Q R : X → Type 0) → ((x : X) → P x → Q x → R x) → All P xs → All Q xs → All R xs
All-both xs P Q R both all other k d within = both _ (all k d within) (other k d within)

-- each order is in one wave

all_of_set : (waves : List (List OpenOrder)) (k : ℕ) (w : List OpenOrder) (one : OpenOrder) → slice_get waves k ≡ Some w
    → IsPermutation (all_of waves ++ one ∷ []) (all_of (slice_set waves k (w ++ one ∷ [])))
all_of_set [] k w one there = absurd (cc there)
all_of_set (v ∷ waves) zero w one there =
    let same : v ≡ w = cc there in
    let moved = IsPermutation-append_right w (all_of waves ++ one ∷ []) (one ∷ all_of waves) (IsPermutation-to_front (all_of waves) one) in
    let left : w ++ (all_of waves ++ one ∷ []) ≡ (v ++ all_of waves) ++ one ∷ [] =
    sym (append_assoc w (all_of waves) (one ∷ [])) ∙ ap (λ (l : List OpenOrder). (l ++ all_of waves) ++ one ∷ []) (sym same) in
    let right : w ++ (one ∷ all_of waves) ≡ (w ++ one ∷ []) ++ all_of waves = sym (append_assoc w (one ∷ []) (all_of waves)) in
    subst (λ l. IsPermutation l ((w ++ one ∷ []) ++ all_of waves)) left (subst (IsPermutation (w ++ (all_of waves ++ one ∷ []))) right moved)
all_of_set (v ∷ waves) (suc k) w one there =
    subst (λ l. IsPermutation l (v ++ all_of (slice_set waves k (w ++ one ∷ [])))) (sym (append_assoc v (all_of waves) (one ∷ [])))
    (IsPermutation-append_right v (all_of waves ++ one ∷ []) (all_of (slice_set waves k (w ++ one ∷ []))) (all_of_set waves k w one there))

all_of_more : (waves : List (List OpenOrder)) (one : OpenOrder) → all_of (waves ++ (one ∷ []) ∷ []) ≡ all_of waves ++ one ∷ []
all_of_more [] one = refl
all_of_more (v ∷ waves) one = ap (λ rest. v ++ rest) (all_of_more waves one) ∙ sym (append_assoc v (all_of waves) (one ∷ []))

with_one : (done : List OpenOrder) (waves : List (List OpenOrder)) (one : OpenOrder) → IsPermutation done (all_of waves)
    → IsPermutation (done ++ one ∷ []) (all_of waves ++ one ∷ [])
with_one done waves one same = IsPermutation-append_left (one ∷ []) done (all_of waves) same

-- parts of lists

pub part_more : {A : Type 0} (xs ys zs : List A) → IsPartOf xs ys → IsPartOf xs (ys ++ zs)
part_more [] ys zs is = tt
part_more (x ∷ xs) [] zs is = absurd is
part_more (x ∷ xs) (y ∷ ys) zs (inl here) = inl (here.0, part_more xs ys zs here.1)
part_more (x ∷ xs) (y ∷ ys) zs (inr later) = inr (part_more (x ∷ xs) ys zs later)

one_last : {A : Type 0} (ys : List A) (z : A) → IsPartOf (z ∷ []) (ys ++ z ∷ [])
one_last [] z = inl (refl, tt)
one_last (y ∷ ys) z = inr (one_last ys z)

pub part_last : {A : Type 0} (xs ys : List A) (z : A) → IsPartOf xs ys → IsPartOf (xs ++ z ∷ []) (ys ++ z ∷ [])
part_last [] ys z is = one_last ys z
part_last (x ∷ xs) [] z is = absurd is
part_last (x ∷ xs) (y ∷ ys) z (inl here) = inl (here.0, part_last xs ys z here.1)
part_last (x ∷ xs) (y ∷ ys) z (inr later) = inr (part_last (x ∷ xs) ys z later)

-- groups

group_more : (group : List ℕ) (w : List OpenOrder) (one : OpenOrder) → 0 < length w → is_of_group group (w ++ one ∷ []) ≡ is_of_group group w
group_more group [] one some = absurd (omega arith)
group_more group (o ∷ w) one some = refl

own_group : (one : OpenOrder) → is_of_group one.group (one ∷ []) ≡ true
own_group one = (bytes_eq-Decides one.group one.group).1 refl

one_group_more : (w : List OpenOrder) (one : OpenOrder) → HasOneGroup w → is_of_group one.group w ≡ true → HasOneGroup (w ++ one ∷ [])
one_group_more [] one has is = absurd (cc is)
one_group_more (o ∷ w) one has is =
    All-push (λ (other : OpenOrder). other.group ≡ o.group) w one has (sym ((bytes_eq-Decides o.group one.group).0 is))

-- the first orders

firsts_set : (waves : List (List OpenOrder)) (k : ℕ) (w : List OpenOrder) (one : OpenOrder) → slice_get waves k ≡ Some w → 0 < length w
    → firsts (slice_set waves k (w ++ one ∷ [])) ≡ firsts waves
firsts_set [] k w one there some = refl
firsts_set (v ∷ waves) (suc k) w one there some = ap (first_before v) (firsts_set waves k w one there some)
firsts_set (v ∷ waves) zero w one there some =
    let same : v ≡ w = cc there in
    first_more w one (firsts waves) some ∙ ap (λ l. first_before l (firsts waves)) (sym same)
  where
    first_more : (w : List OpenOrder) (one : OpenOrder) (others : List OpenOrder) → 0 < length w → first_before (w ++ one ∷ []) others ≡ first_before w others
    first_more [] one others some = absurd (omega arith)
    first_more (o ∷ w) one others some = refl

firsts_more : (waves : List (List OpenOrder)) (one : OpenOrder) → firsts (waves ++ (one ∷ []) ∷ []) ≡ firsts waves ++ one ∷ []
firsts_more [] one = refl
firsts_more ([] ∷ waves) one = firsts_more waves one
firsts_more ((o ∷ w) ∷ waves) one = ap (λ rest. o ∷ rest) (firsts_more waves one)

-- ranks

-- no order so far has a rank above the next one's
abbrev pub AreBelow : List OpenOrder → OpenOrder → Type 0
AreBelow done one = All (λ (before : OpenOrder). before.rank ≤ one.rank) done

in_wave : (P : OpenOrder → Type 0) (waves : List (List OpenOrder)) (k : ℕ) (w : List OpenOrder) → All P (all_of waves) → slice_get waves k ≡ Some w → All P w
in_wave P [] k w all there = absurd (cc there)
in_wave P (v ∷ waves) zero w all there = let same : v ≡ w = cc there in subst (All P) same (All-front P v (all_of waves) all)
in_wave P (v ∷ waves) (suc k) w all there = in_wave P waves k w (All-back P v (all_of waves) all) there

below_in : (done : List OpenOrder) (waves : List (List OpenOrder)) (one : OpenOrder) (k : ℕ) (w : List OpenOrder) → IsPermutation done (all_of waves)
    → AreBelow done one → slice_get waves k ≡ Some w → AreBelow w one
below_in done waves one k w same below there =
    in_wave (λ (before : OpenOrder). before.rank ≤ one.rank) waves k w
    (All-permutation (λ (before : OpenOrder). before.rank ≤ one.rank) done (all_of waves) same below) there

goes_before_more : (earlier later : List OpenOrder) (one : OpenOrder) → GoesBefore earlier later → AreBelow earlier one → GoesBefore earlier (later ++ one ∷ [])
goes_before_more earlier later one before below =
    All-both earlier (λ (e : OpenOrder). All (λ (other : OpenOrder). e.rank ≤ other.rank) later) (λ (e : OpenOrder). e.rank ≤ one.rank)
    (λ (e : OpenOrder). All (λ (other : OpenOrder). e.rank ≤ other.rank) (later ++ one ∷ []))
    (λ e all here. All-push (λ (other : OpenOrder). e.rank ≤ other.rank) later one all here) before below

-- an order joins the last wave of its group

-- what stands at a place after that: another wave, as it was, or the wave with the order
data StandsAt (one : OpenOrder) (old : List (List OpenOrder)) (place : ℕ) (w : List OpenOrder) (i : ℕ) (v : List OpenOrder) : Type 0 where
  other : i ≢ place → slice_get old i ≡ Some v → StandsAt one old place w i v
  joined : i ≡ place → v ≡ w ++ one ∷ [] → StandsAt one old place w i v

stands : (one : OpenOrder) (old : List (List OpenOrder)) (place : ℕ) (w : List OpenOrder) (i : ℕ) (v : List OpenOrder)
    → slice_get (slice_set old place (w ++ one ∷ [])) i ≡ Some v → StandsAt one old place w i v
stands one old place w i v there = elim (slice_get-set old place i v (w ++ one ∷ []) there) [
  | inl here ↦ joined here.0 here.1
  | inr before ↦ other before.0 before.1
]

-- the group of a wave with one order more
was_of_group : (w v : List OpenOrder) (one : OpenOrder) (group : List ℕ) → 0 < length w → v ≡ w ++ one ∷ [] → is_of_group group v ≡ true
    → is_of_group group w ≡ true
was_of_group w v one group some is of_group = sym (group_more group w one some) ∙ (ap (is_of_group group) (sym is) ∙ of_group)

-- two waves of a group of which one is of another group are both of it
same_group : (a b group : List ℕ) (w : List OpenOrder) → is_of_group a w ≡ true → is_of_group b w ≡ true → a ≡ b
same_group a b group [] in_a in_b = absurd (cc in_a)
same_group a b group (o ∷ w) in_a in_b = sym ((bytes_eq-Decides o.group a).0 in_a) ∙ (bytes_eq-Decides o.group b).0 in_b

-- no wave after the last of a group is of it
none_after : (one : OpenOrder) (old : List (List OpenOrder)) (place : ℕ) (last : IsLastOf one.group old place) (i : ℕ) (v : List OpenOrder) (group : List ℕ)
    → place < i → slice_get old i ≡ Some v → is_of_group group last.wave ≡ true → is_of_group group v ≡ true → ⊥
none_after one old place last i v group after there of_last of_v =
    let same : group ≡ one.group = same_group group one.group group last.wave of_last last.is in
    let not : is_of_group one.group v ≡ false = last.last i v after there in
    let both : true ≡ false = sym of_v ∙ (ap (λ g. is_of_group g v) same ∙ not) in
    cc both

-- what holds of an earlier and a later wave of a group goes on to the waves with one order more in the last of a group
still_joined : (P : List OpenOrder → List OpenOrder → Type 0) (one : OpenOrder) (old : List (List OpenOrder)) (place : ℕ)
    (last : IsLastOf one.group old place) → 0 < length last.wave
    → ((i j : ℕ) (a b : List OpenOrder) → i < j → slice_get old i ≡ Some a → slice_get old j ≡ Some b → AreOfOneGroup a b → P a b)
    → ((i : ℕ) (a : List OpenOrder) → i < place → slice_get old i ≡ Some a → P a last.wave → P a (last.wave ++ one ∷ []))
    → (i j : ℕ) (a b : List OpenOrder) → i < j → slice_get (slice_set old place (last.wave ++ one ∷ [])) i ≡ Some a
    → slice_get (slice_set old place (last.wave ++ one ∷ [])) j ≡ Some b → AreOfOneGroup a b → P a b
still_joined P one old place last some each more i j a b before at_i at_j both =
    by (stands one old place last.wave i a at_i) (stands one old place last.wave j b at_j)
  where
    by : StandsAt one old place last.wave i a → StandsAt one old place last.wave j b → P a b
    by (other not_i was_i) (other not_j was_j) = each i j a b before was_i was_j both
    by (other not_i was_i) (joined is_j has_j) =
        let below : i < place = omega arith in
        let of_last = was_of_group last.wave b one both.0 some has_j both.2 in
        subst (P a) (sym has_j) (more i a below was_i (each i place a last.wave below was_i last.there (both.0, both.1, of_last)))
    by (joined is_i has_i) (other not_j was_j) =
        absurd (none_after one old place last j b both.0 (omega arith) was_j (was_of_group last.wave a one both.0 some has_i both.1) both.2)
    by (joined is_i has_i) (joined is_j has_j) = absurd (omega arith)

pub joined_stays : (most : ℕ) (done : List OpenOrder) (old new : List (List OpenOrder)) (one : OpenOrder) → AreFilled most done old → AreBelow done one
    → HasJoined most one old new → AreFilled most (done ++ one ∷ []) new
joined_stays most done old new one are below join =
    let last = join.last in
    let w = last.wave in
    let some : 0 < length w = All-at (λ (v : List OpenOrder). 0 < length v) old join.place w are.some last.there in
    let long = length-append w (one ∷ []) in
    subst (AreFilled most (done ++ one ∷ [])) (sym join.new_is) (record {
      once = IsPermutation-trans _ _ _ (with_one done old one are.once) (all_of_set old join.place w one last.there);
      some = All-set (λ (v : List OpenOrder). 0 < length v) old join.place (w ++ one ∷ []) (omega (arith, long)) are.some;
      few = All-set (λ (v : List OpenOrder). length v ≤ most) old join.place (w ++ one ∷ []) (omega (arith, long, join.room)) are.few;
      group = All-set HasOneGroup old join.place (w ++ one ∷ [])
          (one_group_more w one (All-at HasOneGroup old join.place w are.group last.there) last.is) are.group;
      as_served = All-set (λ (v : List OpenOrder). IsPartOf v (done ++ one ∷ [])) old join.place (w ++ one ∷ [])
          (part_last w done one (All-at (λ (v : List OpenOrder). IsPartOf v done) old join.place w are.as_served last.there))
          (All-weaker (λ (v : List OpenOrder). IsPartOf v done) (λ (v : List OpenOrder). IsPartOf v (done ++ one ∷ [])) (λ v. part_more v done (one ∷ [])) old
          are.as_served);
      full = still_joined (λ a b. length a ≡ most) one old join.place last some are.full (λ i a before there full. full);
      ranks = still_joined GoesBefore one old join.place last some are.ranks
          (λ i a before there goes. goes_before_more a w one goes (below_in done old one i a are.once below there));
      by_first = subst (λ l. IsPartOf l (done ++ one ∷ [])) (sym (firsts_set old join.place w one last.there some))
          (part_more (firsts old) done (one ∷ []) are.by_first);
    })

-- an order begins a wave

-- where the last wave of its group has no room, or there is none, each wave of the group is full
all_full : (most : ℕ) (done : List OpenOrder) (old new : List (List OpenOrder)) (one : OpenOrder) → AreFilled most done old → HasBegun most one old new
    → (i : ℕ) (w : List OpenOrder) → slice_get old i ≡ Some w → is_of_group one.group w ≡ true → length w ≡ most
all_full most done old new one are begun i w there is = elim begun.full [
  | inl none ↦
      let both : true ≡ false = sym is ∙ none i w (omega arith) there in
      absurd (cc both)
  | inr found ↦
      let place = found.0 in
      let last = found.1 in
      let most_is = All-at (λ (v : List OpenOrder). length v ≤ most) old place last.wave are.few last.there in
      elim (cases_eq i place) [
        | inl here ↦
            let same : w ≡ last.wave = same_Some w last.wave (sym there ∙ (ap (slice_get old) here ∙ last.there)) in
            omega (arith, ap (λ (v : List OpenOrder). length v) same, found.2, most_is)
        | inr elsewhere ↦ elim (cases_lt i place) [
          | inl before ↦ are.full i place w last.wave before there last.there (one.group, is, last.is)
          | inr after ↦
              let both : true ≡ false = sym is ∙ last.last i w (omega arith) there in
              absurd (cc both)
        ]
      ]
]

still_begun : (P : List OpenOrder → List OpenOrder → Type 0) (one : OpenOrder) (old : List (List OpenOrder))
    → ((i j : ℕ) (a b : List OpenOrder) → i < j → slice_get old i ≡ Some a → slice_get old j ≡ Some b → AreOfOneGroup a b → P a b)
    → ((i : ℕ) (a : List OpenOrder) → slice_get old i ≡ Some a → is_of_group one.group a ≡ true → P a (one ∷ []))
    → (i j : ℕ) (a b : List OpenOrder) → i < j → slice_get (old ++ (one ∷ []) ∷ []) i ≡ Some a → slice_get (old ++ (one ∷ []) ∷ []) j ≡ Some b
    → AreOfOneGroup a b → P a b
still_begun P one old each new i j a b before at_i at_j both = elim (slice_get-push old i a (one ∷ []) at_i) [
  | inl was_i ↦ elim (slice_get-push old j b (one ∷ []) at_j) [
    | inl was_j ↦ each i j a b before was_i was_j both
    | inr is_j ↦
        let group_is : one.group ≡ both.0 = (bytes_eq-Decides one.group both.0).0 (ap (is_of_group both.0) (sym is_j.1) ∙ both.2) in
        let of_a : is_of_group one.group a ≡ true = ap (λ g. is_of_group g a) group_is ∙ both.1 in
        subst (P a) (sym is_j.1) (new i a was_i of_a)
  ]
  | inr is_i ↦ elim (slice_get-push old j b (one ∷ []) at_j) [
    | inl was_j ↦ absurd (omega (arith, is_i.0, slice_get_within old j b was_j))
    | inr is_j ↦ absurd (omega (arith, is_i.0, is_j.0))
  ]
]

alone : (one : OpenOrder) → HasOneGroup (one ∷ [])
alone one = All-nil (λ (other : OpenOrder). other.group ≡ one.group)

before_one : (w : List OpenOrder) (one : OpenOrder) → AreBelow w one → GoesBefore w (one ∷ [])
before_one w one below =
    All-weaker (λ (e : OpenOrder). e.rank ≤ one.rank) (λ (e : OpenOrder). All (λ (other : OpenOrder). e.rank ≤ other.rank) (one ∷ []))
    (λ e here. All-cons (λ (other : OpenOrder). e.rank ≤ other.rank) one [] here (All-nil (λ (other : OpenOrder). e.rank ≤ other.rank))) w below

pub begun_stays : (most : ℕ) (done : List OpenOrder) (old new : List (List OpenOrder)) (one : OpenOrder) → 0 < most → AreFilled most done old
    → AreBelow done one → HasBegun most one old new → AreFilled most (done ++ one ∷ []) new
begun_stays most done old new one room are below begun =
    subst (AreFilled most (done ++ one ∷ [])) (sym begun.new_is) (record {
      once = subst (IsPermutation (done ++ one ∷ [])) (sym (all_of_more old one)) (with_one done old one are.once);
      some = All-push (λ (v : List OpenOrder). 0 < length v) old (one ∷ []) are.some (omega arith);
      few = All-push (λ (v : List OpenOrder). length v ≤ most) old (one ∷ []) are.few (omega arith);
      group = All-push HasOneGroup old (one ∷ []) are.group (alone one);
      as_served = All-push (λ (v : List OpenOrder). IsPartOf v (done ++ one ∷ [])) old (one ∷ [])
          (All-weaker (λ (v : List OpenOrder). IsPartOf v done) (λ (v : List OpenOrder). IsPartOf v (done ++ one ∷ [])) (λ v. part_more v done (one ∷ [])) old
          are.as_served)
          (one_last done one);
      full = still_begun (λ a b. length a ≡ most) one old are.full (λ i a there of_group. all_full most done old new one are begun i a there of_group);
      ranks = still_begun GoesBefore one old are.ranks (λ i a there of_group. before_one a one (below_in done old one i a are.once below there));
      by_first = subst (λ l. IsPartOf l (done ++ one ∷ [])) (sym (firsts_more old one)) (part_last (firsts old) done one are.by_first);
    })

-- an order that was put into waves leaves them right
pub put_stays : (most : ℕ) (done : List OpenOrder) (old new : List (List OpenOrder)) (one : OpenOrder) → 0 < most → AreFilled most done old
    → AreBelow done one → IsPut most one old new → AreFilled most (done ++ one ∷ []) new
put_stays most done old new one room are below (inl join) = joined_stays most done old new one are below join
put_stays most done old new one room are below (inr begun) = begun_stays most done old new one room are below begun

-- no order, and no wave
pub none_filled : (most : ℕ) → AreFilled most [] []
none_filled most = record {
  once = IsPermutation-refl [];
  some = All-nil (λ (v : List OpenOrder). 0 < length v);
  few = All-nil (λ (v : List OpenOrder). length v ≤ most);
  group = All-nil HasOneGroup;
  as_served = All-nil (λ (v : List OpenOrder). IsPartOf v []);
  full = λ i j a b before at_i at_j both. absurd (cc at_i);
  ranks = λ i j a b before at_i at_j both. absurd (cc at_i);
  by_first = tt;
}
