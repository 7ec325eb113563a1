-- Which waves have the right shape, and that such waves of served orders are right.
use Rattle.std.proofs.Common.{◌≡◌, ◌∙◌, refl, sym, ap, ℕ, ◌+◌, ◌<◌, ◌≤◌, ◌&&◌, inl, inr, Bool, true, false, List, [], ◌∷◌, length, Some}
use Rattle.std.proofs.Common.{slice_get, subst, arith, All, None}
use Rattle.std.proofs.lemmas.Bool.{cases_eq, cases_lt, lt-ltb}
use Rattle.std.proofs.lemmas.List.Sums.{list_all-from_AllPass}
use Rattle.std.proofs.lemmas.Bool.Decides.{leb_tells}
use Rattle.std.proofs.lemmas.List.Elements.{All-cons, All-head, All-nil, All-tail, All-weaker}
use Rattle.std.proofs.lemmas.Option.{same_Some, slice_get_within}
use Rattle.std.proofs.lemmas.Slice.Eq.{bytes_eq-Decides}
use Rattle.std.specs.List.{list_all}
use Rattle.std.specs.Prelude.{nat_le, nat_lt}
use Rattle.std.specs.Str.{bytes_eq}
use Rattle.wp_grouping.specs.Gathering.{are_small, waves_by_key}
use Rattle.wp_grouping.specs.Shape.{AreRight, AreRightBefore, FollowsAll, HasNoneBetween, IsLastBefore, IsRightAt, MayFollow, Tells, goes_before}
use Rattle.wp_grouping.proofs.Joining.{by_key_gathered}
use Rattle.wp_model.proofs.Elements.{All-from_at}
use Rattle.wp_waves.proofs.AsFew.{filled_are_waves}
use Rattle.wp_waves.specs.Waves.{AreOfOneGroup, AreWavesOf, GoesBefore, HasOneGroup, is_of_group, leaves_with}
use Rattle.wp_waves.specs.declared.open_orders.OpenOrder.{OpenOrder}

-- tests that tell

tells_where : (b : Bool) (P : Type 0) → (b ≡ true → P) → (P → b ≡ true) → Tells b P
tells_where true P then' back = then' refl
tells_where false P then' back = λ p. let both : false ≡ true = back p in cc both

pub tells_same : (b : Bool) (P Q : Type 0) → (P → Q) → (Q → P) → Tells b P → Tells b Q
tells_same true P Q to back told = to told
tells_same false P Q to back told = λ q. told (back q)

tells_cons : {X : Type 0} (a b : Bool) (P : X → Type 0) (x : X) (xs : List X) → Tells a (P x) → Tells b (All P xs) → Tells (a && b) (All P (x ∷ xs))
tells_cons true true P x xs first rest = All-cons P x xs first rest
tells_cons true false P x xs first rest = λ all. rest (All-tail P x xs all)
tells_cons false b P x xs first rest = λ all. first (All-head P x xs all)

tells_all : {X : Type 0} (test : X → Bool) (P : X → Type 0) (xs : List X) → ((x : X) → Tells (test x) (P x)) → Tells (list_all test xs) (All P xs)
tells_all test P [] each = All-nil P
tells_all test P (x ∷ xs) each = tells_cons (test x) (list_all test xs) P x xs (each x) (tells_all test P xs each)

rank_tells : (a b : ℕ) → Tells (nat_le a b) (a ≤ b)
rank_tells a b = elim (leb_tells a b) [
  | inl is ↦ subst (λ t. Tells t (a ≤ b)) (sym is.0) is.1
  | inr above ↦ subst (λ t. Tells t (a ≤ b)) (sym above.0) (λ le. absurd (omega (arith, le, above.1)))
]

pub goes_before_tells : (earlier later : List OpenOrder) → Tells (goes_before earlier later) (GoesBefore earlier later)
goes_before_tells earlier later =
    tells_all (λ (one : OpenOrder). list_all (λ (other : OpenOrder). nat_le one.rank other.rank) later)
    (λ (one : OpenOrder). All (λ (other : OpenOrder). one.rank ≤ other.rank) later) earlier
    (λ one. tells_all (λ (other : OpenOrder). nat_le one.rank other.rank) (λ (other : OpenOrder). one.rank ≤ other.rank) later
    (λ other. rank_tells one.rank other.rank))

leaves_tells : (group : List ℕ) (one : OpenOrder) → Tells (leaves_with group one) (one.group ≡ group)
leaves_tells group one =
    tells_where (bytes_eq one.group group) (one.group ≡ group) (bytes_eq-Decides one.group group).0 (bytes_eq-Decides one.group group).1

-- one group

pub one_group_tells : (first : OpenOrder) (wave : List OpenOrder) → Some first ≡ slice_get wave 0
    → Tells (list_all (leaves_with first.group) wave) (HasOneGroup wave)
one_group_tells first [] is = absurd (cc is)
one_group_tells first (one ∷ others) is =
    let same : first ≡ one = cc is in
    let P = λ (other : OpenOrder). other.group ≡ one.group in
    subst (λ (f : OpenOrder). Tells (list_all (leaves_with f.group) (one ∷ others)) (HasOneGroup (one ∷ others))) (sym same)
    (tells_same (list_all (leaves_with one.group) (one ∷ others)) (All P (one ∷ others)) (All P others) (All-tail P one others)
    (λ rest. All-cons P one others refl rest) (tells_all (leaves_with one.group) P (one ∷ others) (leaves_tells one.group)))

pub between_tells : (one other : OpenOrder) (a b : List OpenOrder) → Some one ≡ slice_get a 0 → Some other ≡ slice_get b 0
    → Tells (bytes_eq one.group other.group) (AreOfOneGroup a b)
between_tells one other [] b is_one is_other = absurd (cc is_one)
between_tells one other (o ∷ a) [] is_one is_other = absurd (cc is_other)
between_tells one other (o ∷ a) (p ∷ b) is_one is_other =
    let same_one : one ≡ o = cc is_one in
    let same_other : other ≡ p = cc is_other in
    subst (λ (x : OpenOrder). Tells (bytes_eq x.group other.group) (AreOfOneGroup (o ∷ a) (p ∷ b))) (sym same_one)
    (subst (λ (y : OpenOrder). Tells (bytes_eq o.group y.group) (AreOfOneGroup (o ∷ a) (p ∷ b))) (sym same_other)
    (tells_where (bytes_eq o.group p.group) (AreOfOneGroup (o ∷ a) (p ∷ b))
    (λ e. (p.group, e, (bytes_eq-Decides p.group p.group).1 refl))
    (λ both. (bytes_eq-Decides o.group p.group).1
    ((bytes_eq-Decides o.group both.0).0 both.1 ∙ sym ((bytes_eq-Decides p.group both.0).0 both.2)))))

pub none_first : (a b : List OpenOrder) → slice_get a 0 ≡ None → AreOfOneGroup a b → ⊥
none_first [] b none both = cc both.1
none_first (o ∷ a) b none both = absurd (cc none)

pub none_second : (a b : List OpenOrder) → slice_get b 0 ≡ None → AreOfOneGroup a b → ⊥
none_second a [] none both = cc both.2
none_second a (p ∷ b) none both = absurd (cc none)

pub no_orders : (wave : List OpenOrder) → slice_get wave 0 ≡ None → HasOneGroup wave
no_orders [] none = tt
no_orders (one ∷ others) none = absurd (cc none)

-- two waves of a group of which the second is of another's group
same_group : (a b : List ℕ) (w : List OpenOrder) → is_of_group a w ≡ true → is_of_group b w ≡ true → a ≡ b
same_group a b [] in_a in_b = absurd (cc in_a)
same_group a b (o ∷ w) in_a in_b = sym ((bytes_eq-Decides o.group a).0 in_a) ∙ (bytes_eq-Decides o.group b).0 in_b

through : (a b c : List OpenOrder) → AreOfOneGroup a c → AreOfOneGroup b c → AreOfOneGroup a b
through a b c of_a of_b =
    let same = same_group of_b.0 of_a.0 c of_b.2 of_a.2 in
    (of_a.0, of_a.1, subst (λ g. is_of_group g b ≡ true) same of_b.1)

-- waves that follow one another

goes_through : (a b c : List OpenOrder) (group : List ℕ) → is_of_group group b ≡ true → GoesBefore a b → GoesBefore b c → GoesBefore a c
goes_through a [] c group is first second = absurd (cc is)
goes_through a (o ∷ b) c group is first second =
    let low = All-head (λ (one : OpenOrder). All (λ (other : OpenOrder). one.rank ≤ other.rank) c) o b second in
    All-weaker (λ (one : OpenOrder). All (λ (other : OpenOrder). one.rank ≤ other.rank) (o ∷ b))
    (λ (one : OpenOrder). All (λ (other : OpenOrder). one.rank ≤ other.rank) c)
    (λ one below.
    let step = All-head (λ (other : OpenOrder). one.rank ≤ other.rank) o b below in
    All-weaker (λ (other : OpenOrder). o.rank ≤ other.rank) (λ (other : OpenOrder). one.rank ≤ other.rank)
    (λ other up. omega (arith, step, up)) c low) a first

-- a wave that may follow the last wave of its group may follow each
follow_each : (most : ℕ) (waves : List (List OpenOrder)) (end place : ℕ) (wave : List OpenOrder) → AreRightBefore most waves end
    → (last : IsLastBefore waves end wave place) → MayFollow most last.earlier wave → FollowsAll most waves end wave
follow_each most waves end place wave before last may i earlier below there both = elim (cases_eq i place) [
  | inl here ↦
      let same : earlier ≡ last.earlier = same_Some earlier last.earlier (sym there ∙ (ap (slice_get waves) here ∙ last.there)) in
      subst (λ w. MayFollow most w wave) (sym same) may
  | inr elsewhere ↦ elim (cases_lt i place) [
    | inl sooner ↦
        let shared = through earlier last.earlier wave both last.group in
        let step = (before place last.earlier last.before last.there).follows i earlier sooner there shared in
        record { full = step.full; ranks = goes_through earlier last.earlier wave last.group.0 last.group.1 step.ranks may.ranks }
    | inr later ↦ absurd (last.last i earlier (omega arith) below there both)
  ]
]

pub follows_told : (b : Bool) (most : ℕ) (waves : List (List OpenOrder)) (end place : ℕ) (wave : List OpenOrder) → AreRightBefore most waves end
    → (last : IsLastBefore waves end wave place) → Tells b (MayFollow most last.earlier wave) → Tells b (FollowsAll most waves end wave)
follows_told b most waves end place wave before last =
    tells_same b (MayFollow most last.earlier wave) (FollowsAll most waves end wave) (follow_each most waves end place wave before last)
    (λ all. all place last.earlier last.before last.there last.group)

pub follows_none : (most : ℕ) (waves : List (List OpenOrder)) (end : ℕ) (wave : List OpenOrder) → HasNoneBetween waves 0 end wave
    → FollowsAll most waves end wave
follows_none most waves end wave none i earlier below there both = absurd (none i earlier (omega arith) below there both)

-- one place more is looked at, where no wave of the group stands
pub none_more : (waves : List (List OpenOrder)) (from below end : ℕ) (wave other : List OpenOrder) → from ≡ below + 1 → HasNoneBetween waves from end wave
    → slice_get waves below ≡ Some other → (AreOfOneGroup other wave → ⊥) → HasNoneBetween waves below end wave
none_more waves from below end wave other next none there not i earlier least before at both = elim (cases_eq i below) [
  | inl here ↦
      let same : earlier ≡ other = same_Some earlier other (sym at ∙ (ap (slice_get waves) here ∙ there)) in
      not (subst (λ w. AreOfOneGroup w wave) same both)
  | inr later ↦ none i earlier (omega arith) before at both
]

pub last_found : (waves : List (List OpenOrder)) (from place end : ℕ) (wave other : List OpenOrder) → from ≡ place + 1 → place < end
    → HasNoneBetween waves from end wave → slice_get waves place ≡ Some other → AreOfOneGroup other wave → IsLastBefore waves end wave place
last_found waves from place end wave other next before none there both = record {
  earlier = other;
  there = there;
  before = before;
  group = both;
  last = λ i earlier least. none i earlier (omega arith);
}

-- the test of a wave at a place
pub right_told : (b : Bool) (most : ℕ) (waves : List (List OpenOrder)) (place : ℕ) (wave : List OpenOrder) → length wave ≤ most → HasOneGroup wave
    → Tells b (FollowsAll most waves place wave) → Tells b (IsRightAt most waves place wave)
right_told b most waves place wave few group =
    tells_same b (FollowsAll most waves place wave) (IsRightAt most waves place wave) (λ all. record { few = few; group = group; follows = all })
    (λ is. is.follows)

pub one_more_right : (most : ℕ) (waves : List (List OpenOrder)) (place : ℕ) → AreRightBefore most waves place
    → ((wave : List OpenOrder) → slice_get waves place ≡ Some wave → IsRightAt most waves place wave) → AreRightBefore most waves (place + 1)
one_more_right most waves place before here i wave below there = elim (cases_eq i place) [
  | inl is ↦
      subst (λ n. IsRightAt most waves n wave) (sym is) (here wave (ap (slice_get waves) (sym is) ∙ there))
  | inr other ↦ before i wave (omega arith) there
]

pub all_right : (most : ℕ) (waves : List (List OpenOrder)) (end : ℕ) → length waves ≤ end → AreRightBefore most waves end → AreRight most waves
all_right most waves end past before place wave there = before place wave (omega (arith, slice_get_within waves place wave there)) there

-- waves by keys that have the right shape are right
pub are_waves : (most : ℕ) (served : List OpenOrder) (keys : List ℕ) → 0 < most → length keys ≡ length served
    → AreRight most (waves_by_key served keys) → AreWavesOf most served (waves_by_key served keys)
are_waves most served keys room long are =
    let waves = waves_by_key served keys in
    let gathered = by_key_gathered served keys long in
    filled_are_waves most served waves room (record {
      once = gathered.once;
      some = gathered.some;
      few = All-from_at (λ (w : List OpenOrder). length w ≤ most) waves (λ place wave there. (are place wave there).few);
      group = All-from_at HasOneGroup waves (λ place wave there. (are place wave there).group);
      as_served = gathered.as_served;
      full = λ i j one other before at_i at_j both. ((are j other at_j).follows i one before at_i both).full;
      ranks = λ i j one other before at_i at_j both. ((are j other at_j).follows i one before at_i both).ranks;
      by_first = gathered.by_first;
    })

-- the test of an earlier and a later wave

pub follow_told : (b : Bool) (most : ℕ) (earlier later : List OpenOrder) → length earlier ≡ most → b ≡ goes_before earlier later
    → Tells b (MayFollow most earlier later)
follow_told b most earlier later full is =
    tells_same b (GoesBefore earlier later) (MayFollow most earlier later) (λ ranks. record { full = full; ranks = ranks }) (λ may. may.ranks)
    (subst (λ t. Tells t (GoesBefore earlier later)) (sym is) (goes_before_tells earlier later))

-- keys that are below a number

pub are_below : (count : ℕ) (keys : List ℕ) → All (λ key. key < count) keys → are_small count keys ≡ true
are_below count keys all =
    list_all-from_AllPass (λ key. nat_lt key count) keys
    (All-weaker (λ key. key < count) (λ key. nat_lt key count ≡ true) (λ key below. lt-ltb key count below) keys all)
