-- The free units of rows, added up row by row.
use Rattle.std.proofs.Common.{◌≡◌, ◌≢◌, ◌∙◌, refl, sym, ap, subst, ℕ, zero, suc, ◌+◌, ◌*◌, ◌<◌, ◌≤◌, ◌^◌, ◌&&◌, ◌==◌, true, false, Bool, inl, inr, List, ◌++◌}
use Rattle.std.proofs.Common.{All, None, Some, Option, drop, length, arith, eq-eqb, length-set, if◌then◌else◌, lit<, ne_eqb, replicate, slice_get, take}
use Rattle.std.proofs.Math.Seq.{take-append_seam}
use Rattle.std.proofs.lemmas.Bool.{cases_eq}
use Rattle.std.proofs.lemmas.List.{get_or-set_other, get_or-set_same, length-replicate}
use Rattle.std.proofs.lemmas.Option.{slice_get_within}
use Rattle.std.specs.Option.{option_map_or}
use Rattle.std.specs.Prelude.{slice_index, slice_set}
use Rattle.wp_dispatch.specs.FreeUnits.{HasAdded, units_with}
use Rattle.wp_dispatch.proofs.RowArticles.{row_count}
use Rattle.wp_model.proofs.Elements.{All-at}
use Rattle.wp_model.specs.Demand.{offer_at, offer_of}
use Rattle.wp_model.specs.Limits.{most_on_hand}
use Rattle.wp_model.specs.History.{History, state_after}
use Rattle.wp_model.specs.Sound.{IsBalanced, IsSound}
use Rattle.wp_model.specs.Sums.{sum_below}
use Rattle.wp_model.specs.Tables.{IsReadOpening}
use Rattle.wp_model.specs.declared.row.Row.{Row}

-- so many rows have added what they have free, article by article
pub record AreAdded (rows : List Row) (count articles : ℕ) (units : List ℕ) : Type 0 where
  pub long : length units ≡ articles
  pub added : (article : ℕ) → slice_index units article ≡ sum_below count (offer_at rows article None)

zeros : (n i : ℕ) → slice_index (replicate n 0) i ≡ 0
zeros zero i = refl
zeros (suc n) zero = refl
zeros (suc n) (suc i) = zeros n i

sum_more : (k : ℕ) (f : ℕ → ℕ) → sum_below (k + 1) f ≡ sum_below k f + f k
sum_more k f = let e : suc k ≡ k + 1 = omega arith in sym (ap (λ n. sum_below n f) e)

-- no row has added any
pub none_added : (rows : List Row) (articles : ℕ) (units : List ℕ) → units ≡ replicate articles 0 → AreAdded rows 0 articles units
none_added rows articles units is = record {
  long = ap length is ∙ length-replicate articles 0;
  added = λ article. ap (λ us. slice_index us article) is ∙ zeros articles article;
}

-- what a row offers of an article is what is free in it, where it is of the article
offer_is : (rows : List Row) (article k : ℕ) (row : Row) → slice_get rows k ≡ Some row
    → offer_at rows article None k ≡ (if (row.article == article) && true then row.free else 0)
offer_is rows article k row there = ap (λ found. option_map_or (offer_of article None k) found 0) there

offer_here : (rows : List Row) (k : ℕ) (row : Row) → slice_get rows k ≡ Some row → offer_at rows row.article None k ≡ row.free
offer_here rows k row there =
    offer_is rows row.article k row there ∙ ap (λ b. if b && true then row.free else 0) (eq-eqb row.article row.article refl)

offer_elsewhere : (rows : List Row) (article k : ℕ) (row : Row) → slice_get rows k ≡ Some row → row.article ≢ article → offer_at rows article None k ≡ 0
offer_elsewhere rows article k row there other =
    offer_is rows article k row there ∙ ap (λ b. if b && true then row.free else 0) (ne_eqb row.article article other)

-- one row more
pub row_added : (rows : List Row) (k articles : ℕ) (row : Row) (old new : List ℕ) → slice_get rows k ≡ Some row → row.article < articles
    → AreAdded rows k articles old → HasAdded row old new → AreAdded rows (k + 1) articles new
row_added rows k articles row old new there within are has = record {
  long = ap length has ∙ (length-set old row.article (units_with row old) ∙ are.long);
  added = λ article. elim (cases_eq article row.article) [
    | inl here ↦
        let offer : offer_at rows article None k ≡ row.free = ap (λ a. offer_at rows a None k) here ∙ offer_here rows k row there in
        let is : slice_index new article ≡ units_with row old =
        ap (λ us. slice_index us article) has ∙ (ap (λ a. slice_index (slice_set old row.article (units_with row old)) a) here
        ∙ get_or-set_same old row.article (units_with row old) 0 (omega (arith, are.long))) in
        let was = ap (slice_index old) (sym here) ∙ are.added article in
        omega (arith, is, was, offer, sum_more k (offer_at rows article None))
    | inr away ↦
        let offer : offer_at rows article None k ≡ 0 = offer_elsewhere rows article k row there (λ e. away (sym e)) in
        let is : slice_index new article ≡ slice_index old article =
        ap (λ us. slice_index us article) has ∙ get_or-set_other old row.article article (units_with row old) 0 away in
        omega (arith, is, are.added article, offer, sum_more k (offer_at rows article None))
  ];
}

-- a sum of terms that are no more than this
sum_within : (n most : ℕ) (f : ℕ → ℕ) → ((k : ℕ) → f k ≤ most) → sum_below n f ≤ n * most
sum_within zero most f each = omega arith
sum_within (suc n) most f each = omega (arith, sum_within n most f each, each n)

-- a row offers no more units than a row may have
offer_within : (rows : List Row) (article k : ℕ) → All IsBalanced rows → offer_at rows article None k ≤ most_on_hand
offer_within rows article k each = by (slice_get rows k) refl
  where
    free_within : (b : Bool) (row : Row) → IsBalanced row → (if b && true then row.free else 0) ≤ most_on_hand
    free_within true row is = omega (arith, is.sum, is.most)
    free_within false row is = omega arith

    by : (found : Option Row) → slice_get rows k ≡ found → option_map_or (offer_of article None k) found 0 ≤ most_on_hand
    by None e = omega arith
    by (Some row) e = free_within (row.article == article) row (All-at IsBalanced rows k row each e)

-- there is room for what a row has free
pub row_fits : (history : History) (k articles : ℕ) (row : Row) (units : List ℕ) → IsReadOpening history.opening
    → IsSound history.opening (state_after history) → slice_get (state_after history).rows k ≡ Some row
    → AreAdded (state_after history).rows k articles units → units_with row units < 2 ^ 64
row_fits history k articles row units read sound there are =
    let rows = (state_after history).rows in
    let balanced : IsBalanced row = All-at IsBalanced rows k row sound.rows there in
    let numeral : 25600 * 1000000 + 1000000 < 2 ^ 64 = lit< tt in
    let few : k < 25600 = omega (arith, slice_get_within rows k row there, row_count history, read.stock.most) in
    omega (
      arith,
      numeral,
      few,
      are.added row.article,
      balanced.sum,
      balanced.most,
      sum_within k most_on_hand (offer_at rows row.article None) (λ n. offer_within rows row.article n sound.rows),
    )

-- what was written back is what was added
pub written_back : (rows : List Row) (k articles many : ℕ) (new items : List ℕ) → many ≡ length items → length items ≡ articles
    → AreAdded rows k articles new → AreAdded rows k articles (take many (new ++ drop (length new) items))
written_back rows k articles many new items is long are =
    let same : many ≡ length new = omega (arith, is, long, are.long) in
    subst (AreAdded rows k articles)
    (sym (ap (λ n. take n (new ++ drop (length new) items)) same ∙ take-append_seam new (drop (length new) items))) are
