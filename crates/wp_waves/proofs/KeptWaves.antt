-- Waves as they are kept.
use Rattle.std.proofs.Common.{◌≡◌, ◌≢◌, ◌∙◌, refl, sym, ap, ℕ, zero, suc, ◌+◌, ◌<◌, ◌≤◌, inl, inr, true, false, List, [], ◌∷◌, ◌++◌, length, map, take, Some}
use Rattle.std.proofs.Common.{slice_get, slice_set, get_or, subst, arith, add-one, All, Vec}
use Rattle.std.proofs.Math.Seq.{take-suc}
use Rattle.std.proofs.lemmas.Bool.{cases_eq}
use Rattle.std.proofs.lemmas.List.{get_or-take, get_or_default, length-take}
use Rattle.std.proofs.lemmas.Option.{same_Some, slice_get_within}
use Rattle.std.specs.List.Sorted.{IsNonDecreasingBy}
use Rattle.std.specs.Str.{bytes_eq}
use Rattle.std.specs.declared.alloc.Global.{Global}
use Rattle.wp_waves.specs.Filling.{HasJoined, HasRoomAt, HaveNoneFrom, IsLastOf, waves_kept}
use Rattle.wp_waves.specs.Turns.{rank_of}
use Rattle.wp_waves.specs.Waves.{is_of_group}
use Rattle.wp_waves.specs.declared.open_orders.OpenOrder.{OpenOrder}
use Rattle.wp_waves.proofs.Filling.{AreBelow}

-- the group of a wave is that of its first order
pub first_is : (group : List ℕ) (w : List OpenOrder) (one : OpenOrder) → Some one ≡ slice_get w 0 → is_of_group group w ≡ bytes_eq one.group group
first_is group [] one is = absurd (cc is)
first_is group (o ∷ w) one is =
    let same : one ≡ o = cc is in
    ap (λ (x : OpenOrder). bytes_eq x.group group) (sym same)

-- the wave that stands at a place
pub kept_at : (waves : List (Vec OpenOrder Global)) (place : ℕ) (v : Vec OpenOrder Global) → place < length waves → v ≡ get_or waves place v
    → slice_get (waves_kept waves) place ≡ Some v.items
kept_at [] place v within is = absurd (omega arith)
kept_at (w ∷ waves) zero v within is = ap (λ (x : Vec OpenOrder Global). Some x.items) (sym is)
kept_at (w ∷ waves) (suc place) v within is = kept_at waves place v (omega arith) is

-- it is changed in its place
pub kept_set : (waves : List (Vec OpenOrder Global)) (place : ℕ) (v : Vec OpenOrder Global) → waves_kept (slice_set waves place v)
    ≡ slice_set (waves_kept waves) place v.items
kept_set [] place v = refl
kept_set (w ∷ waves) zero v = refl
kept_set (w ∷ waves) (suc place) v = ap (λ rest. w.items ∷ rest) (kept_set waves place v)

pub kept_length : (waves : List (Vec OpenOrder Global)) → length (waves_kept waves) ≡ length waves
kept_length [] = refl
kept_length (w ∷ waves) = omega (arith, kept_length waves)

-- one wave more is looked at, which is not of the group
pub none_from : (group : List ℕ) (waves : List (List OpenOrder)) (place below : ℕ) (w : List OpenOrder) → place ≡ below + 1
    → HaveNoneFrom group waves place → slice_get waves below ≡ Some w → is_of_group group w ≡ false → HaveNoneFrom group waves below
none_from group waves place below w next none there not i v from at = elim (cases_eq i below) [
  | inl here ↦
      let both : Some v ≡ Some w = sym at ∙ (ap (slice_get waves) here ∙ there) in
      let same : v ≡ w = cc both in
      ap (is_of_group group) same ∙ not
  | inr later ↦ none i v (omega arith) at
]

-- no wave stands past the last
pub none_past : (group : List ℕ) (waves : List (List OpenOrder)) (place : ℕ) → length waves ≤ place → HaveNoneFrom group waves place
none_past group waves place past i v from at = absurd (omega (arith, slice_get_within waves i v at))

-- a wave that is of the group, after which none is, is the last of it
pub last_found : (group : List ℕ) (waves : List (List OpenOrder)) (place below : ℕ) (w : List OpenOrder) → place ≡ below + 1
    → HaveNoneFrom group waves place → slice_get waves below ≡ Some w → is_of_group group w ≡ true → IsLastOf group waves below
last_found group waves place below w next none there is = record {
  wave = w;
  there = there;
  is = is;
  last = λ i other after at. none i other (omega arith) at;
}

-- the orders so far have no rank above that of the next one
pub below_next : (served : List OpenOrder) (i : ℕ) (one : OpenOrder) → IsNonDecreasingBy rank_of served → i < length served → one ≡ get_or served i one
    → AreBelow (take i served) one
below_next served i one rising within is k d below =
    let short : k < i = omega (arith, length-take i served) in
    let before = rising k i d (omega arith) within in
    omega (arith, ap rank_of (get_or-take i served k d short), before, ap rank_of is, ap rank_of (get_or_default served i d one within))

-- one order more
pub take_one : (served : List OpenOrder) (i : ℕ) (one : OpenOrder) → i < length served → one ≡ get_or served i one
    → take (i + 1) served ≡ take i served ++ one ∷ []
take_one served i one within is = rw add-one (take-suc served i one within ∙ ap (λ x. take i served ++ x ∷ []) (sym is))

-- a place that is found has a wave
pub last_within : (group : List ℕ) (waves : List (Vec OpenOrder Global)) (place : ℕ) → IsLastOf group (waves_kept waves) place → place < length waves
last_within group waves place last = omega (arith, slice_get_within (waves_kept waves) place last.wave last.there, kept_length waves)

-- how long the last wave of a group is
pub last_length : (group : List ℕ) (waves : List (Vec OpenOrder Global)) (place : ℕ) (v : Vec OpenOrder Global)
    (last : IsLastOf group (waves_kept waves) place) → v ≡ get_or waves place v → length last.wave ≡ length v.items
last_length group waves place v last is =
    ap (λ (w : List OpenOrder). length w)
    (same_Some last.wave v.items (sym last.there ∙ kept_at waves place v (last_within group waves place last) is))

-- an order was pushed to the last wave of its group
pub joined_kept : (most : ℕ) (one : OpenOrder) (waves : List (Vec OpenOrder Global)) (place : ℕ) (old new : Vec OpenOrder Global)
    → HasRoomAt most one.group (waves_kept waves) place → old ≡ get_or waves place old → new.items ≡ old.items ++ one ∷ []
    → HasJoined most one (waves_kept waves) (waves_kept (slice_set waves place new))
joined_kept most one waves place old new has is pushed =
    let last = has.last in
    let there = kept_at waves place old (last_within one.group waves place last) is in
    let same : last.wave ≡ old.items = same_Some last.wave old.items (sym last.there ∙ there) in
    record {
      place = place;
      last = last;
      room = has.room;
      new_is = kept_set waves place new ∙ ap (slice_set (waves_kept waves) place) (pushed ∙ ap (λ (w : List OpenOrder). w ++ one ∷ []) (sym same));
    }
