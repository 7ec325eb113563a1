-- What the orders of two batches load: those of a union load no more than both.
use Rattle.std.proofs.Common.{◌+◌, ◌≤◌, ◌↔◌, ◌⊎◌, ◌++◌, ◌≡◌, ℕ, List, Option, None, Some, Contains, arith, inl, inr, length, ⊎_elim}
use Rattle.std.specs.Prelude.{slice_index, sum_by}
use Rattle.std.specs.List.Sorted.{IsStrictlyIncreasing}
use Rattle.std.proofs.lemmas.List.Sums.{sum_by-append}
use Rattle.wp_pairs.specs.Carts.{FitsAnyCart, LoadedCart}
use Rattle.wp_pairs.proofs.Classes.{no_heavier, ones}
use Rattle.wp_lengths.proofs.Ascending.{split_off}

-- an ascending list of the orders of two others
pub record IsUnion (left right union : List ℕ) : Type 0 where
  pub left_ascends : IsStrictlyIncreasing left
  pub right_ascends : IsStrictlyIncreasing right
  pub ascends : IsStrictlyIncreasing union
  pub of_both : (order : ℕ) → Contains union order ↔ (Contains left order ⊎ Contains right order)

-- it weighs no more than both, whatever each order weighs
pub union_weighs : (f : ℕ → ℕ) (left right union : List ℕ) → IsUnion left right union → sum_by f union ≤ sum_by f left + sum_by f right
union_weighs f left right union is =
    let s = split_off f left union is.left_ascends is.ascends (λ x has. (is.of_both x).1 (inl has)) in
    let rest = no_heavier f s.rest right s.ascending is.right_ascends
    (λ x has. ⊎_elim (λ old. absurd (s.not_of_part x has old)) (λ new. new) ((is.of_both x).0 (s.of_whole x has))) in
    omega (arith, s.sums, rest)

-- where none is in both, it weighs as much as both
apart_weighs : (f : ℕ → ℕ) (left right union : List ℕ) → IsUnion left right union → ((order : ℕ) → Contains left order → Contains right order → ⊥)
    → sum_by f left + sum_by f right ≤ sum_by f union
apart_weighs f left right union is apart =
    let s = split_off f left union is.left_ascends is.ascends (λ x has. (is.of_both x).1 (inl has)) in
    let rest = no_heavier f right s.rest is.right_ascends s.ascending
    (λ x has. ⊎_elim (λ old. absurd (apart x old has)) (λ new. new) (s.covers x ((is.of_both x).1 (inr has)))) in
    omega (arith, s.sums, rest)

-- a batch of the orders of two others fits a cart that holds both
pub union_fits : (cart : Option LoadedCart) (left right union : List ℕ) → IsUnion left right union → FitsAnyCart cart (left ++ right)
    → FitsAnyCart cart union
union_fits None left right union is light = tt
union_fits (Some held) left right union is light =
    let loads = slice_index held.loads in
    omega (arith, union_weighs loads left right union is, sum_by-append loads left right, light)

-- and a cart that it fits holds both, where no order is in both
pub apart_fit : (cart : Option LoadedCart) (left right union : List ℕ) → IsUnion left right union
    → ((order : ℕ) → Contains left order → Contains right order → ⊥) → FitsAnyCart cart union → FitsAnyCart cart (left ++ right)
apart_fit None left right union is apart light = tt
apart_fit (Some held) left right union is apart light =
    let loads = slice_index held.loads in
    omega (arith, apart_weighs loads left right union is apart, sum_by-append loads left right, light)

-- then it has as many orders as both
pub apart_count : (left right union : List ℕ) → IsUnion left right union → ((order : ℕ) → Contains left order → Contains right order → ⊥)
    → length union ≡ length left + length right
apart_count left right union is apart =
    let one : ℕ → ℕ = λ x. 1 in
    omega (arith, union_weighs one left right union is, apart_weighs one left right union is apart, ones left, ones right, ones union)
