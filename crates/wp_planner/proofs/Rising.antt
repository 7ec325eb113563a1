-- Holds rise where each stands before the next.
use Rattle.std.proofs.Common.{◌≡◌, ◌≢◌, refl, sym, subst, ℕ, zero, suc, ◌+◌, ◌-◌, ◌<◌, ◌≤◌, inl, inr, ⊎_elim, List, [], ◌∷◌, length, Some, get_or, slice_get}
use Rattle.std.proofs.Common.{arith}
use Rattle.std.proofs.lemmas.Bool.{cases_eq}
use Rattle.std.proofs.lemmas.Option.{get_or_from_slice_get, same_Some, slice_get-get_or}
use Rattle.wp_model.specs.HoldLists.{Each, IsBefore, Rises}
use Rattle.wp_model.specs.declared.row.Hold.{Hold}

-- up to a place, each hold stands before the next
abbrev pub EachBeforeNext : List Hold → ℕ → Type 0
EachBeforeNext holds end = (place : ℕ) (first second : Hold) → suc place < end → slice_get holds place ≡ Some first
    → slice_get holds (suc place) ≡ Some second → IsBefore first second

then_before : (g h k : Hold) → IsBefore g h → IsBefore h k → IsBefore g k
then_before g h k (inl one) (inl two) = inl (omega (arith, one, two))
then_before g h k (inl one) (inr two) = inl (omega (arith, one, two))
then_before g h k (inr one) (inl two) = inl (omega (arith, one, two))
then_before g h k (inr one) (inr two) = inr (omega (arith, one, two), omega (arith, one, two))

-- a hold that stands before another stands before all that this one does
before_each : (g h : Hold) (hs : List Hold) → IsBefore g h → Each (IsBefore h) hs → Each (IsBefore g) hs
before_each g h [] before each = tt
before_each g h (k ∷ hs) before each = (then_before g h k before each.0, before_each g h hs before each.1)

-- holds of which each stands before the next rise
pub rises_from_next : (holds : List Hold) → EachBeforeNext holds (length holds) → Rises holds
rises_from_next [] next = tt
rises_from_next (h ∷ []) next = (tt, tt)
rises_from_next (g ∷ h ∷ hs) next =
    let before = next 0 g h (omega arith) refl refl in
    let later = rises_from_next (h ∷ hs) (λ place first second low one two. next (suc place) first second (omega (arith, low)) one two) in
    ((before, before_each g h hs before later.0), later)

-- the first of holds
first_is : (P : Hold → Type 0) (hs : List Hold) (first : Hold) → Each P hs → slice_get hs 0 ≡ Some first → P first
first_is P [] first each is = absurd (cc is)
first_is P (h ∷ hs) first each is = subst P (same_Some h first is) each.0

-- each hold of those that rise stands before the next
pub next_from_rises : (holds : List Hold) (place : ℕ) (first second : Hold) → Rises holds → slice_get holds place ≡ Some first
    → slice_get holds (suc place) ≡ Some second → IsBefore first second
next_from_rises [] place first second rises one two = absurd (cc one)
next_from_rises (h ∷ hs) zero first second rises one two =
    subst (λ (g : Hold). IsBefore g second) (same_Some h first one) (first_is (IsBefore h) hs second rises.0 two)
next_from_rises (h ∷ hs) (suc place) first second rises one two = next_from_rises hs place first second rises.1 one two

-- up to one place more
pub each_before_one_more : (holds : List Hold) (place : ℕ) (f s : Hold) → 1 ≤ place → IsBefore (get_or holds (place - 1) f) (get_or holds place s)
    → EachBeforeNext holds place → EachBeforeNext holds (place + 1)
each_before_one_more holds place f s some before each = λ at first second low one two.
    ⊎_elim
    (λ (last : suc at ≡ place).
    let here : place - 1 ≡ at = omega (arith, last) in
    let left = subst (λ (k : ℕ). IsBefore (get_or holds k f) (get_or holds place s)) here before in
    let both = subst (λ (k : ℕ). IsBefore (get_or holds at f) (get_or holds k s)) (sym last) left in
    subst (λ (g : Hold). IsBefore g second) (get_or_from_slice_get holds at first f one)
    (subst (λ (h : Hold). IsBefore (get_or holds at f) h) (get_or_from_slice_get holds (suc at) second s two) both))
    (λ (no : suc at ≢ place). each at first second (omega (arith, low, no)) one two)
    (cases_eq (suc at) place)

-- of holds that rise, the one at a place stands after the one before it
pub next_at : (holds : List Hold) (place : ℕ) (f s : Hold) → 1 ≤ place → place < length holds → Rises holds
    → IsBefore (get_or holds (place - 1) f) (get_or holds place s)
next_at holds zero f s some within rises = absurd (omega (arith, some))
next_at holds (suc place) f s some within rises =
    let here : suc place - 1 ≡ place = omega arith in
    subst (λ (k : ℕ). IsBefore (get_or holds k f) (get_or holds (suc place) s)) (sym here)
    (next_from_rises holds place _ _ rises (slice_get-get_or holds place f (omega (arith, within))) (slice_get-get_or holds (suc place) s within))
