-- The free units of an article, row by row.
use Rattle.std.proofs.Common.{◌≡◌, ◌≢◌, ◌∙◌, refl, sym, ap, ℕ, zero, suc, ◌+◌, ◌*◌, ◌≤◌, ◌&&◌, ◌==◌, not, false, inl, inr, List, length, slice_get, slice_set}
use Rattle.std.proofs.Common.{Option, Some, None, IfSome, if◌then◌else◌, arith, eq-eqb, ne_eqb, length-set}
use Rattle.std.proofs.lemmas.Bool.{and_right, cases_lt}
use Rattle.std.proofs.lemmas.Option.{slice_get_cases, slice_get_within}
use Rattle.std.specs.Option.{option_map_or}
use Rattle.wp_model.proofs.Elements.{at_some, if_some, slice_get-set_other, slice_get-set_same}
use Rattle.wp_model.proofs.Share.{offer_at-le}
use Rattle.wp_model.proofs.Sums.{sum-agree, sum-one_changed}
use Rattle.wp_model.specs.Demand.{free_units, offer_at, offer_of}
use Rattle.wp_model.specs.Sums.{sum_below}
use Rattle.wp_model.specs.declared.row.Row.{Row}
use Rattle.wp_book.specs.FreeCounts.{IsCountable}

-- what a row offers that is there
pub offer_is : (rows : List Row) (article : ℕ) (except : Option ℕ) (k : ℕ) (r : Row) → slice_get rows k ≡ Some r
    → offer_at rows article except k ≡ offer_of article except k r
offer_is rows article except k r there = ap (λ found. option_map_or (offer_of article except k) found 0) there

-- a place past the rows offers nothing
pub offer_past : (rows : List Row) (article : ℕ) (except : Option ℕ) (k : ℕ) → length rows ≤ k → offer_at rows article except k ≡ 0
offer_past rows article except k past = elim (slice_get_cases rows k).1 [
  | inl found ↦ absurd (omega (arith, found.1))
  | inr none ↦ ap (λ found. option_map_or (offer_of article except k) found 0) none.1
]

-- a row offers all that is free in it of its own article
pub offer_own : (article k : ℕ) (r : Row) → r.article ≡ article → offer_of article None k r ≡ r.free
offer_own article k r own = ap (λ b. if b && not false then r.free else 0) (eq-eqb r.article article own)

-- and nothing of another article
pub offer_none : (article k : ℕ) (r : Row) → r.article ≢ article → offer_of article None k r ≡ 0
offer_none article k r other = ap (λ b. if b && not false then r.free else 0) (ne_eqb r.article article other)

-- no sum is past its width
most_offered : (rows : List Row) (article articles k : ℕ) → IfSome (slice_get rows k) (IsCountable articles) → offer_at rows article None k ≤ 4294967295
most_offered rows article articles k is = elim (slice_get_cases rows k).1 [
  | inl found ↦
      let countable = at_some (slice_get rows k) (IsCountable articles) found.0 found.2 is in
      omega (arith, offer_at-le rows article None k found.0 found.2, countable.fits)
  | inr none ↦ omega (arith, offer_past rows article None k none.0)
]

-- so many places, each with a countable row or none, offer no more than as many times the most in one row
pub most_free : (n : ℕ) (rows : List Row) (article articles : ℕ) → ((k : ℕ) → IfSome (slice_get rows k) (IsCountable articles))
    → sum_below n (offer_at rows article None) ≤ n * 4294967295
most_free zero rows article articles each = omega arith
most_free (suc n) rows article articles each = omega (arith, most_free n rows article articles each, most_offered rows article articles n (each n))

-- the same where each row that there is is countable
pub most_counted : (n : ℕ) (rows : List Row) (article articles : ℕ) → ((k : ℕ) (r : Row) → slice_get rows k ≡ Some r → IsCountable articles r)
    → sum_below n (offer_at rows article None) ≤ n * 4294967295
most_counted n rows article articles each = most_free n rows article articles (λ k. if_some (slice_get rows k) (IsCountable articles) (each k))

-- the excepted row offers nothing, and each other as much as ever
excepted_offers : (rows : List Row) (article row : ℕ) → offer_at rows article (Some row) row ≡ 0
excepted_offers rows article row =
    ap (λ b. option_map_or (λ (r : Row). if (r.article == article) && not b then r.free else 0) (slice_get rows row) 0) (eq-eqb row row refl)
    ∙ nothing (slice_get rows row)
  where
    nothing : (found : Option Row) → option_map_or (λ (r : Row). if (r.article == article) && false then r.free else 0) found 0 ≡ 0
    nothing None = refl
    nothing (Some r) = ap (λ b. if b then r.free else 0) (and_right (r.article == article) false refl)

others_offer : (rows : List Row) (article row k : ℕ) → k ≢ row → offer_at rows article (Some row) k ≡ offer_at rows article None k
others_offer rows article row k other =
    ap (λ b. option_map_or (λ (r : Row). if (r.article == article) && not b then r.free else 0) (slice_get rows k) 0) (ne_eqb row k (λ e. other (sym e)))

-- what is free but for the excepted row, and what that one offers otherwise, are all that is free
pub free_but : (rows : List Row) (article row : ℕ) → free_units rows article (Some row) + offer_at rows article None row ≡ free_units rows article None
free_but rows article row = elim (cases_lt row (length rows)) [
  | inl within ↦
      omega (
        arith,
        sum-one_changed (length rows) (offer_at rows article (Some row)) (offer_at rows article None) row within
            (λ k other. others_offer rows article row k other),
        excepted_offers rows article row,
      )
  | inr past ↦
      omega (
        arith,
        sum-agree (length rows) (offer_at rows article (Some row)) (offer_at rows article None) (λ k below. others_offer rows article row k (omega arith)),
        offer_past rows article None row past,
      )
]

-- what is free of an article changes by what the row that is written over and the new one offer of it
pub free_set : (rows : List Row) (article i : ℕ) (r s : Row) → slice_get rows i ≡ Some r
    → free_units (slice_set rows i s) article None + offer_of article None i r ≡ free_units rows article None + offer_of article None i s
free_set rows article i r s there =
    let within = slice_get_within rows i r there in
    let new = slice_set rows i s in
    omega (
      arith,
      ap (λ n. sum_below n (offer_at new article None)) (length-set rows i s),
      sum-one_changed (length rows) (offer_at new article None) (offer_at rows article None) i within
          (λ k other. ap (λ found. option_map_or (offer_of article None k) found 0) (slice_get-set_other rows i k s other)),
      offer_is new article None i s (slice_get-set_same rows i s within),
      offer_is rows article None i r there,
    )
