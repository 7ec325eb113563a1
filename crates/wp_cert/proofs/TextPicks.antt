-- The slots at which orders pick, as they were read.
use Rattle.std.proofs.Common.{◌≡◌, ℕ, zero, suc, ◌+◌, ◌<◌, ◌≤◌, ◌↔◌, ◌⊎◌, Bool, true, false, List, [], ◌∷◌, ◌++◌, length, get_or, take, Contains}
use Rattle.std.proofs.Common.{arith, refl, sym, ap, ◌∙◌}
use Rattle.std.proofs.Common.{⊎_elim, inl, inr, subst, ◌&&◌}
use Rattle.std.specs.List.{AllZip, list_all}
use Rattle.std.specs.Prelude.{nat_le}
use Rattle.std.proofs.lemmas.List.Elements.{Contains-get_or, Contains-push, Contains-push_cases, Contains-append_left}
use Rattle.std.proofs.lemmas.List.{take_more}
use Rattle.wp_model.specs.declared.point.Point.{Point}
use Rattle.wp_graph.specs.PickSets.{PickSet}
use Rattle.wp_model.specs.Warehouse.{Layout}
use Rattle.wp_cert.specs.Text.{PickAt, PicksAt, is_order_of, is_slot_of, is_up_to, place_of}
use Rattle.wp_cert.specs.declared.text.form.WrittenSlot.{WrittenSlot}

-- two points with the same numbers are the same
pub same_point : (p q : Point) → place_of p ≡ place_of q → p ≡ q
same_point p q same =
    let aisle : p.aisle ≡ q.aisle = ap (λ (place : WrittenSlot). place.aisle) same in
    let slot : p.slot ≡ q.slot = ap (λ (place : WrittenSlot). place.slot) same in
    rw (aisle, slot) refl

-- one more place is one more slot
pub one_more_slot : (places : List WrittenSlot) (i : ℕ) (d : WrittenSlot) (point : Point) (before after : PickSet) → i < length places
    → place_of point ≡ get_or places i d → PicksAt before (take i places)
    → ((p : Point) → Contains after.points p ↔ (Contains before.points p ⊎ (p ≡ point))) → PicksAt after (take (i + 1) places)
one_more_slot places i d point before after within here had grown p =
    let whole = take_more places i d within in
    let forth : Contains after.points p → Contains (take (i + 1) places) (place_of p) =
    λ has. rw whole (⊎_elim (λ old. Contains-append_left (take i places) (get_or places i d ∷ []) (place_of p) ((had p).0 old))
    (λ (e : p ≡ point). subst (λ (place : WrittenSlot). Contains (take i places ++ get_or places i d ∷ []) place) (sym here ∙ ap place_of (sym e))
    (Contains-push (take i places) (get_or places i d))) ((grown p).0 has)) in
    let back : Contains (take (i + 1) places) (place_of p) → Contains after.points p =
    λ has. (grown p).1 (⊎_elim (λ old. inl ((had p).1 old)) (λ (e : get_or places i d ≡ place_of p). inr (same_point p point (sym e ∙ sym here)))
    (Contains-push_cases (take i places) (get_or places i d) (place_of p)
    (subst (λ (xs : List WrittenSlot). Contains xs (place_of p)) whole has))) in
    (forth, back)

-- the first of two that both hold
pub and_left : (a b : Bool) → (a && b) ≡ true → a ≡ true
and_left true b both = refl
and_left false b both = absurd (cc both)

-- the second of two that both hold
pub and_right : (a b : Bool) → (a && b) ≡ true → b ≡ true
and_right true b both = both
and_right false b both = absurd (cc both)

some_within : (places : List WrittenSlot) → nat_le 1 (length places) ≡ true → 0 < length places
some_within [] h = absurd (cc h)
some_within (x ∷ xs) h = omega arith

-- an order that is in range picks at some slot
pub order_picks : (layout : Layout) (places : List WrittenSlot) (picks : PickSet) → is_order_of layout places ≡ true → PicksAt picks places
    → 0 < length picks.points
order_picks layout places picks within at =
    let some = some_within places (and_left (nat_le 1 (length places)) (list_all (is_slot_of layout) places) within) in
    let first = get_or places 0 (record { aisle = 0; slot = 0 }) in
    let has = (at (record { aisle = first.aisle; slot = first.slot })).1 (Contains-get_or places 0 (record { aisle = 0; slot = 0 }) some) in
    omega (arith, has.1)

zip_push : {A B : Type 0} (R : A → B → Type 0) (xs : List A) (ys : List B) (x : A) (y : B) → AllZip R xs ys → R x y → AllZip R (xs ++ x ∷ []) (ys ++ y ∷ [])
zip_push R [] [] x y all one = (one, tt)
zip_push R [] (z ∷ zs) x y all one = absurd all
zip_push R (z ∷ zs) [] x y all one = absurd all
zip_push R (w ∷ ws) (z ∷ zs) x y all one = (all.0, zip_push R ws zs x y all.1 one)

-- one more order picks at its places
pub one_more_order : (orders : List (List WrittenSlot)) (i : ℕ) (d : List WrittenSlot) (all : List PickSet) (picks : PickSet) → i < length orders
    → PickAt all (take i orders) → PicksAt picks (get_or orders i d) → PickAt (all ++ picks ∷ []) (take (i + 1) orders)
one_more_order orders i d all picks within at one =
    rw (take_more orders i d within) (zip_push PicksAt all (take i orders) picks (get_or orders i d) at one)

-- what passes for all items passes for each
pub passes_at : {A : Type 0} (test : A → Bool) (xs : List A) (i : ℕ) (d : A) → i < length xs → list_all test xs ≡ true → test (get_or xs i d) ≡ true
passes_at test [] i d within all = absurd (omega arith)
passes_at test (x ∷ xs) zero d within all = and_left (test x) (list_all test xs) all
passes_at test (x ∷ xs) (suc i) d within all = passes_at test xs i d (omega arith) (and_right (test x) (list_all test xs) all)

-- a number in its range is no more than the most
pub no_more : (most n : ℕ) → is_up_to most n ≡ true → n ≤ most
no_more most n h = grind arith

-- there are as many orders as the text has
pub as_many : (orders : List PickSet) (places : List (List WrittenSlot)) → PickAt orders places → length orders ≡ length places
as_many [] [] at = refl
as_many [] (z ∷ zs) at = absurd at
as_many (x ∷ xs) [] at = absurd at
as_many (x ∷ xs) (z ∷ zs) at = ap suc (as_many xs zs at.1)
