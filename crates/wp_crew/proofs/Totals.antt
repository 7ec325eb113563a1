-- Totals over the first numbers: the loads of all pickers are together the sum of the lengths.
use Rattle.std.proofs.Common.{◌≡◌, ◌≢◌, ℕ, zero, suc, ◌+◌, ◌*◌, ◌<◌, ◌≤◌, List, [], ◌∷◌, length, All, arith, refl, ap, sym, inl, inr, sum}
use Rattle.std.proofs.lemmas.Bool.{cases_eq}
use Rattle.std.proofs.lemmas.List.Elements.{All-head, All-tail}
use Rattle.std.proofs.lemmas.List.Sums.{sum_by-cons}
use Rattle.wp_crew.specs.Crews.{load}
use Rattle.wp_crew.proofs.LoadSums.{load-cons, load-nil, own, others}

-- the sum of a function's values below a number
pub total_below : (ℕ → ℕ) → ℕ → ℕ
total_below f zero = 0
total_below f (suc n) = total_below f n + f n

below_zero : (f : ℕ → ℕ) → total_below f 0 ≡ 0
unfolding total_below
below_zero f = refl

below_more : (f : ℕ → ℕ) (n : ℕ) → total_below f (suc n) ≡ total_below f n + f n
unfolding total_below
below_more f n = refl

pub same_total : (f g : ℕ → ℕ) (n : ℕ) → ((k : ℕ) → k < n → f k ≡ g k) → total_below f n ≡ total_below g n
same_total f g zero same = omega (arith, below_zero f, below_zero g)
same_total f g (suc n) same =
    omega (arith, below_more f n, below_more g n, same n (omega arith), same_total f g n (λ k low. same k (omega arith)))

no_total : (f : ℕ → ℕ) (n : ℕ) → ((k : ℕ) → f k ≡ 0) → total_below f n ≡ 0
no_total f zero none = below_zero f
no_total f (suc n) none = omega (arith, below_more f n, none n, no_total f n none)

-- one value more is as much more in the total
one_more : (f g : ℕ → ℕ) (place one n : ℕ) → g place ≡ f place + one → ((k : ℕ) → k ≢ place → g k ≡ f k)
    → (place < n → total_below g n ≡ total_below f n + one) × (n ≤ place → total_below g n ≡ total_below f n)
one_more f g place one zero here there = (λ low. absurd (omega arith), λ high. omega (arith, below_zero f, below_zero g))
one_more f g place one (suc n) here there =
    let before = one_more f g place one n here there in (
      λ low. elim (cases_eq n place) [
        | inl e ↦ omega (arith, below_more f n, below_more g n, before.1 (omega arith), here, ap f e, ap g e)
        | inr ne ↦ omega (arith, below_more f n, below_more g n, before.0 (omega (arith, ne)), there n ne)
      ],
      λ high. omega (arith, below_more f n, below_more g n, before.1 (omega arith), there n (omega arith)),
    )

-- the loads of all pickers are together the sum of the lengths
pub total_of_loads : (lengths owners : List ℕ) (pickers : ℕ) → length owners ≡ length lengths → All (λ owner. owner < pickers) owners
    → total_below (load lengths owners) pickers ≡ sum lengths
total_of_loads [] owners pickers e below = omega (arith, no_total (load [] owners) pickers (load-nil owners))
total_of_loads (one ∷ lengths) [] pickers e below = absurd (omega arith)
total_of_loads (one ∷ lengths) (owner ∷ owners) pickers e below =
    let here : load (one ∷ lengths) (owner ∷ owners) owner ≡ load lengths owners owner + one
    = omega (arith, load-cons one lengths owner owners owner, own owner owner one refl) in
    let there : (k : ℕ) → k ≢ owner → load (one ∷ lengths) (owner ∷ owners) k ≡ load lengths owners k
    = λ (k : ℕ) (ne : k ≢ owner). omega (arith, load-cons one lengths owner owners k, others owner k one (λ same. ne (sym same))) in
    omega (
      arith,
      (one_more (load lengths owners) (load (one ∷ lengths) (owner ∷ owners)) owner one pickers here there).0
          (All-head (λ other. other < pickers) owner owners below),
      total_of_loads lengths owners pickers (omega arith) (All-tail (λ other. other < pickers) owner owners below),
      sum_by-cons (λ x. x) one lengths,
    )

-- values that are at most some number
pub total_at_most : (f : ℕ → ℕ) (n most : ℕ) → ((k : ℕ) → k < n → f k ≤ most) → total_below f n ≤ n * most
total_at_most f zero most each = omega (arith, below_zero f)
total_at_most f (suc n) most each =
    omega (arith, below_more f n, each n (omega arith), total_at_most f n most (λ k low. each k (omega arith)))

-- values that come to some number with one more
total_at_least : (f : ℕ → ℕ) (n least one : ℕ) → ((k : ℕ) → k < n → least ≤ f k + one) → n * least ≤ total_below f n + n * one
total_at_least f zero least one each = omega (arith, below_zero f)
total_at_least f (suc n) least one each =
    omega (arith, below_more f n, each n (omega arith), total_at_least f n least one (λ k low. each k (omega arith)))

-- and one of which is that number by itself
pub total_near : (f : ℕ → ℕ) (n least one place : ℕ) → place < n → f place ≡ least → ((k : ℕ) → k < n → least ≤ f k + one)
    → n * least + one ≤ total_below f n + n * one
total_near f zero least one place low is each = absurd (omega arith)
total_near f (suc n) least one place low is each = elim (cases_eq n place) [
  | inl e ↦ omega (arith, below_more f n, is, ap f e, total_at_least f n least one (λ k less. each k (omega arith)))
  | inr ne ↦ omega (
    arith,
    below_more f n,
    each n (omega arith),
    total_near f n least one place (omega (arith, ne)) is (λ k less. each k (omega arith)),
  )
]
