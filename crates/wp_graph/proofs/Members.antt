-- Membership in a list by recursion, and what filters, maps and ranges have.
use Rattle.std.proofs.Common.{◌≡◌, ℕ, zero, suc, ◌+◌, ◌<◌, ◌≤◌, Bool, true, false, cond, List, [], ◌∷◌, ◌++◌, length, get_or, filter, map, arith, refl, inl}
use Rattle.std.proofs.Common.{inr, ap, sym, ◌∙◌, subst, ◌⊎◌, ⊎_elim, Contains}
use Rattle.std.specs.List.{flat_map, range_with_len}
use Rattle.std.proofs.lemmas.Bool.{cases_eq}
use Rattle.wp_graph.specs.Members.{Among}

-- a list contains each of its elements
pub Contains-from_among : {X : Type 0} (xs : List X) (x : X) → Among xs x → Contains xs x
Contains-from_among [] x h = absurd h
Contains-from_among (y ∷ ys) x (inl e) = (0, omega arith, e)
Contains-from_among (y ∷ ys) x (inr h) = let c = Contains-from_among ys x h in (suc c.0, omega arith, c.2)

-- what stands at a place of a list is one of its elements
pub among_at : {X : Type 0} (xs : List X) (k : ℕ) (x d : X) → k < length xs → get_or xs k d ≡ x → Among xs x
among_at [] k x d within e = absurd (omega arith)
among_at (y ∷ ys) zero x d within e = inl e
among_at (y ∷ ys) (suc k) x d within e = inr (among_at ys k x d (omega arith) e)

-- what a list contains is one of its elements
pub among_from_Contains : {X : Type 0} (xs : List X) (x : X) → Contains xs x → Among xs x
among_from_Contains xs x c = among_at xs c.0 x x c.1 c.2

-- an element of the first of two lists is one of both joined
pub among-append_left : {X : Type 0} (xs ys : List X) (x : X) → Among xs x → Among (xs ++ ys) x
among-append_left [] ys x h = absurd h
among-append_left (y ∷ xs) ys x (inl e) = inl e
among-append_left (y ∷ xs) ys x (inr h) = inr (among-append_left xs ys x h)

-- an element of the second of two lists is one of both joined
pub among-append_right : {X : Type 0} (xs ys : List X) (x : X) → Among ys x → Among (xs ++ ys) x
among-append_right [] ys x h = h
among-append_right (y ∷ xs) ys x h = inr (among-append_right xs ys x h)

-- an element of two lists joined is one of the first or of the second
pub among-append : {X : Type 0} (xs ys : List X) (x : X) → Among (xs ++ ys) x → Among xs x ⊎ Among ys x
among-append [] ys x h = inr h
among-append (y ∷ xs) ys x (inl e) = inl (inl e)
among-append (y ∷ xs) ys x (inr h) = ⊎_elim (λ a. inl (inr a)) (λ b. inr b) (among-append xs ys x h)

-- an element that passes the test is one of those that are kept
pub among-filter : {X : Type 0} (p : X → Bool) (xs : List X) (x : X) → Among xs x → p x ≡ true → Among (filter p xs) x
among-filter p [] x h passes = absurd h
among-filter p (y ∷ ys) x (inl e) passes =
    let at : p y ≡ true = ap p e ∙ passes in subst (λ b. Among (cond b (y ∷ filter p ys) (filter p ys)) x) (sym at) (inl e)
among-filter p (y ∷ ys) x (inr h) passes =
    let rest = among-filter p ys x h passes in
    elim (p y) as (λ b. Among (cond b (y ∷ filter p ys) (filter p ys)) x) [ true ↦ inr rest | false ↦ rest ]

-- one of those that are kept is an element of the list, and passes the test
pub filter_passed : {X : Type 0} (p : X → Bool) (xs : List X) (x : X) → Among (filter p xs) x → Among xs x × (p x ≡ true)
filter_passed p [] x h = absurd h
filter_passed {X} p (y ∷ ys) x h = go (λ there. filter_passed p ys x there) (p y) refl h
  where
    go : (Among (filter p ys) x → Among ys x × (p x ≡ true)) → (b : Bool) → p y ≡ b → Among (cond b (y ∷ filter p ys) (filter p ys)) x → Among (y ∷ ys) x
        × (p x ≡ true)
    go rest true at (inl e) = (inl e, sym (ap p e) ∙ at)
    go rest true at (inr there) = (inr (rest there).0, (rest there).1)
    go rest false at there = (inr (rest there).0, (rest there).1)

-- a number within the bounds of a range is one of it
pub among-range : (a n x : ℕ) → a ≤ x → x < a + n → Among (range_with_len a n) x
among-range a zero x low high = absurd (omega arith)
among-range a (suc n) x low high = ⊎_elim (λ e. inl e) (λ ne. inr (among-range (a + 1) n x (omega arith) (omega arith))) (cases_eq a x)

-- a number of a range is within its bounds
pub range_bounds : (a n x : ℕ) → Among (range_with_len a n) x → (a ≤ x) × (x < a + n)
range_bounds a zero x h = absurd h
range_bounds a (suc n) x (inl e) = (omega arith, omega arith)
range_bounds a (suc n) x (inr h) = let rest = range_bounds (a + 1) n x h in (omega arith, omega arith)

-- what an element is mapped to is one of the mapped
pub among-map : {X Y : Type 0} (f : X → Y) (xs : List X) (x : X) → Among xs x → Among (map f xs) (f x)
among-map f [] x h = absurd h
among-map f (y ∷ ys) x (inl e) = inl (ap f e)
among-map f (y ∷ ys) x (inr h) = inr (among-map f ys x h)

-- each of the mapped is what some element is mapped to
pub map_source : {X Y : Type 0} (f : X → Y) (xs : List X) (y : Y) → Among (map f xs) y → (x : X) × Among xs x × (f x ≡ y)
map_source f [] y h = absurd h
map_source f (x ∷ xs) y (inl e) = (x, inl refl, e)
map_source f (x ∷ xs) y (inr h) = let rest = map_source f xs y h in (rest.0, inr rest.1, rest.2)

-- an element of a list that some element makes is one of all such lists joined
pub among-flat_map : {X Y : Type 0} (f : X → List Y) (xs : List X) (x : X) (y : Y) → Among xs x → Among (f x) y → Among (flat_map f xs) y
among-flat_map f [] x y h inner = absurd h
among-flat_map f (z ∷ zs) x y (inl e) inner = among-append_left (f z) (flat_map f zs) y (subst (λ w. Among (f w) y) (sym e) inner)
among-flat_map f (z ∷ zs) x y (inr h) inner = among-append_right (f z) (flat_map f zs) y (among-flat_map f zs x y h inner)

-- an element of all such lists joined is one of a list that some element makes
pub flat_map_source : {X Y : Type 0} (f : X → List Y) (xs : List X) (y : Y) → Among (flat_map f xs) y → (x : X) × Among xs x × Among (f x) y
flat_map_source f [] y h = absurd h
flat_map_source {X} {Y} f (z ∷ zs) y h = go (λ there. flat_map_source f zs y there) (among-append (f z) (flat_map f zs) y h)
  where
    go : (Among (flat_map f zs) y → (x : X) × Among zs x × Among (f x) y) → Among (f z) y ⊎ Among (flat_map f zs) y → (x : X) × Among (z ∷ zs) x × Among (f x) y
    go rest (inl here) = (z, inl refl, here)
    go rest (inr there) = ((rest there).0, inr (rest there).1, (rest there).2)

-- a list of which nothing is an element is empty
pub nil_from_none : {X : Type 0} (xs : List X) → ((x : X) → Among xs x → ⊥) → xs ≡ []
nil_from_none [] none = refl
nil_from_none (x ∷ xs) none = absurd (none x (inl refl))
