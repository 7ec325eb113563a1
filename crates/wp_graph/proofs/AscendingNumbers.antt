-- The first, the last and neighbours of ascending numbers.
use Rattle.std.proofs.Common.{◌≡◌, Bool, ℕ, suc, ◌+◌, ◌-◌, ◌≤◌, ◌<◌, true, false, cond, List, [], ◌∷◌, ◌++◌, Some, length, filter, slice_get, arith, refl, sym}
use Rattle.std.proofs.Common.{◌∙◌, subst, inl, inr, ◌⊎◌}
use Rattle.std.specs.List.{range_with_len}
use Rattle.std.proofs.lemmas.List.{map-id}
use Rattle.std.proofs.lemmas.Option.{same_Some}
use Rattle.wp_model.specs.declared.point.Point.{Point}
use Rattle.wp_graph.specs.Required.{IsAscending, has_point, site_places}
use Rattle.wp_graph.specs.Sites.{Site, depot_of}
use Rattle.wp_graph.specs.Members.{Among}
use Rattle.wp_graph.proofs.RequiredPlaces.{ascending_after, tail_ascending}
use Rattle.wp_graph.proofs.Stretches.{last_from, last_is}

-- the first of ascending numbers is below each of the others
pub head_below : (a : ℕ) (xs : List ℕ) (x : ℕ) → IsAscending (a ∷ xs) → Among xs x → a < x
head_below a [] x up h = absurd h
head_below a (b ∷ xs) x up (inl e) = omega (arith, up.0, e)
head_below a (b ∷ xs) x up (inr h) = let rest = head_below b xs x up.1 h in omega (arith, rest, up.0)

-- no number of an ascending list is less than its first
pub first_least : (xs : List ℕ) (a x : ℕ) → IsAscending xs → slice_get xs 0 ≡ Some a → Among xs x → a ≤ x
first_least [] a x up first h = absurd h
first_least (b ∷ xs) a x up first (inl e) = let same = same_Some _ _ first in omega (arith, same, e)
first_least (b ∷ xs) a x up first (inr h) = let same = same_Some _ _ first in let below = head_below b xs x up h in omega (arith, same, below)

-- no number of an ascending list is above its last
pub last_most_from : (b : ℕ) (xs : List ℕ) (x : ℕ) → IsAscending (b ∷ xs) → Among (b ∷ xs) x → x ≤ last_from b xs
last_most_from b [] x up (inl e) = omega (arith, e)
last_most_from b [] x up (inr h) = absurd h
last_most_from b (c ∷ xs) x up (inl e) = let rest = last_most_from c xs c up.1 (inl refl) in omega (arith, e, rest, up.0)
last_most_from b (c ∷ xs) x up (inr h) = last_most_from c xs x up.1 h

-- the same, where the last is looked up by its place
pub last_most : (xs : List ℕ) (z x : ℕ) → IsAscending xs → slice_get xs (length xs - 1) ≡ Some z → Among xs x → x ≤ z
last_most [] z x up last h = absurd h
last_most (b ∷ xs) z x up last h = let same = same_Some _ _ (sym (last_is b xs) ∙ last) in let below = last_most_from b xs x up h in omega (arith, same, below)

-- of two neighbours the first is less than the second
pub neighbours_ascend : (before after : List ℕ) (near far : ℕ) → IsAscending (before ++ near ∷ far ∷ after) → near < far
neighbours_ascend [] after near far up = up.0
neighbours_ascend (b ∷ before) after near far up = neighbours_ascend before after near far (tail_ascending b (before ++ near ∷ far ∷ after) up)

-- each number is at most the first of two neighbours, or at least the second
pub neighbours_part : (before after : List ℕ) (near far x : ℕ) → IsAscending (before ++ near ∷ far ∷ after) → Among (before ++ near ∷ far ∷ after) x
    → (x ≤ near) ⊎ (far ≤ x)
neighbours_part [] after near far x up (inl e) = inl (omega (arith, e))
neighbours_part [] after near far x up (inr (inl e)) = inr (omega (arith, e))
neighbours_part [] after near far x up (inr (inr h)) = let below = head_below far after x up.1 h in inr (omega (arith, below))
neighbours_part (b ∷ before) after near far x up (inl e) =
    let below = head_below b (before ++ near ∷ far ∷ after) near up (among_middle before near (far ∷ after)) in inl (omega (arith, below, e))
  where
    among_middle : (xs : List ℕ) (y : ℕ) (ys : List ℕ) → Among (xs ++ y ∷ ys) y
    among_middle [] y ys = inl refl
    among_middle (z ∷ xs) y ys = inr (among_middle xs y ys)
neighbours_part (b ∷ before) after near far x up (inr h) = neighbours_part before after near far x (tail_ascending b (before ++ near ∷ far ∷ after) up) h

-- places that pass ascend
pub passed_ascend : (test : ℕ → Bool) (slots : ℕ) → IsAscending (filter test (range_with_len 0 (slots + 2)))
passed_ascend test slots =
    let two : slots + 2 ≡ suc (slots + 1) = omega arith in
    let rest = ascending_after test (λ k. k) 1 (slots + 1) 0 (λ k low high. low) (λ k low high. omega arith) in
    let rest' = subst (λ xs. IsAscending (0 ∷ xs)) (map-id (filter test (range_with_len 1 (slots + 1)))) rest in
    rw two (elim (test 0) as (λ b. IsAscending (cond b (0 ∷ filter test (range_with_len 1 (slots + 1))) (filter test (range_with_len 1 (slots + 1)))))
    [ true ↦ rest' | false ↦ tail_ascending 0 _ rest' ])

-- required places ascend
pub places_ascend : (site : Site) (picks : List Point) (aisle : ℕ) → IsAscending (site_places site picks aisle)
unfolding site_places
places_ascend site picks aisle = passed_ascend (has_point (depot_of site ∷ picks) aisle) site.slots
