-- What an article's rows offer, by their places among them.
use Rattle.std.proofs.Common.{◌≡◌, ◌≢◌, ◌∙◌, refl, sym, ap, ℕ, zero, suc, ◌+◌, ◌<◌, ◌≤◌, ◌==◌, ◌&&◌, ◌++◌, ◌∷◌, [], not, Bool, false, inl, inr, List, length}
use Rattle.std.proofs.Common.{Option, Some, slice_get, take, if◌then◌else◌, arith, eq-eqb, ne_eqb}
use Rattle.std.proofs.lemmas.Bool.{and_left, cases_Bool, cases_eq, cond-false, cond-true}
use Rattle.std.proofs.lemmas.List.{length_push, take_all}
use Rattle.std.proofs.lemmas.List.Sums.{sum_by_more}
use Rattle.std.proofs.lemmas.Option.{get_or_from_slice_get, slice_get_cases}
use Rattle.std.specs.List.{count_by}
use Rattle.std.specs.Option.{option_map_or}
use Rattle.wp_model.proofs.Elements.{slice_get-push_before, within_some}
use Rattle.wp_model.proofs.Sums.{sum-agree}
use Rattle.wp_model.specs.Demand.{is_excepted, offer_at, offer_of}
use Rattle.wp_model.specs.Sums.{sum_below}
use Rattle.wp_model.specs.declared.row.Row.{Row}
use Rattle.wp_book.proofs.ArticleRows.{below_begins, below_failing, below_item, below_passing, is_other, is_own, is_row, length_passing, slice_get-last}
use Rattle.wp_book.specs.ArticleRows.{is_row_of, numbers_below, rows_among, rows_of}
use Rattle.wp_allot.specs.DealtUnits.{offer_in}

-- what the numbers of a list have, by their places
abbrev of_items : (ℕ → ℕ) → List ℕ → ℕ → ℕ
of_items f numbers place = option_map_or f (slice_get numbers place) 0

-- where the others have nothing, the numbers that pass have as much as all
sum_of_items : (n : ℕ) (passes : ℕ → Bool) (f : ℕ → ℕ) → ((k : ℕ) → passes k ≡ false → f k ≡ 0)
    → sum_below (length (numbers_below n passes)) (of_items f (numbers_below n passes)) ≡ sum_below n f
sum_of_items zero passes f none = refl
sum_of_items (suc n) passes f none = elim (cases_Bool (passes n)) [
  | inl is ↦
      let before = numbers_below n passes in
      let long : length (before ++ n ∷ []) ≡ suc (length before) = omega (arith, length_push before n) in
      let last : of_items f (before ++ n ∷ []) (length before) ≡ f n = ap (λ found. option_map_or f found 0) (slice_get-last before n) in
      let same = sum-agree (length before) (of_items f (before ++ n ∷ [])) (of_items f before)
      (λ k below. ap (λ found. option_map_or f found 0) (slice_get-push_before before k n below)) in
      ap (λ numbers. sum_below (length numbers) (of_items f numbers)) (below_passing n passes is)
      ∙ (ap (λ m. sum_below m (of_items f (before ++ n ∷ []))) long ∙ plus (same ∙ sum_of_items n passes f none) last)
  | inr fails ↦
      ap (λ numbers. sum_below (length numbers) (of_items f numbers)) (below_failing n passes fails)
      ∙ nothing (sum_of_items n passes f none) (none n fails)
]
  where
    plus : {a b c d : ℕ} → a ≡ b → c ≡ d → a + c ≡ b + d
    plus p q = omega arith

    nothing : {a b c : ℕ} → a ≡ b → c ≡ 0 → a ≡ b + c
    nothing p q = omega arith

-- those before a place have as much as all numbers below the one there
sum_before_item : (n : ℕ) (passes : ℕ → Bool) (f : ℕ → ℕ) (place number : ℕ) → ((k : ℕ) → passes k ≡ false → f k ≡ 0)
    → slice_get (numbers_below n passes) place ≡ Some number → sum_below place (of_items f (numbers_below n passes)) ≡ sum_below number f
sum_before_item n passes f place number none there =
    let item = below_item n passes place number there in
    ap (λ m. sum_below m (of_items f (numbers_below n passes))) (sym item.before)
    ∙ (sum-agree (length (numbers_below number passes)) (of_items f (numbers_below n passes)) (of_items f (numbers_below number passes))
    (λ k below. ap (λ found. option_map_or f found 0) (below_begins number n passes k (omega (arith, item.within)) below))
    ∙ sum_of_items number passes f none)

-- a row of another article offers nothing
pub offer-none : (rows : List Row) (article : ℕ) (except : Option ℕ) (row : ℕ) (r : Row) → slice_get rows row ≡ Some r → r.article ≢ article
    → offer_at rows article except row ≡ 0
offer-none rows article except row r there other =
    ap (λ found. option_map_or (offer_of article except row) found 0) there
    ∙ cond-false ((r.article == article) && not (is_excepted except row)) r.free 0 (and_left _ _ (ne_eqb r.article article other))

-- nor does a number that is of none of its rows
others_none : (rows : List Row) (article : ℕ) (except : Option ℕ) (row : ℕ) → is_row_of article rows row ≡ false → offer_at rows article except row ≡ 0
others_none rows article except row fails = elim (slice_get_cases rows row).1 [
  | inl found ↦
      ap (λ found. option_map_or (offer_of article except row) found 0) found.2
      ∙ cond-false ((found.0.article == article) && not (is_excepted except row)) found.0.free 0
      (and_left _ _ (sym (is_row article rows row found.0 found.2) ∙ fails))
  | inr past ↦ ap (λ found. option_map_or (offer_of article except row) found 0) past.1
]

-- all rows of an article offer as much of it as all rows
pub offers_whole : (rows : List Row) (article : ℕ) (except : Option ℕ)
    → sum_below (length (rows_of article rows)) (offer_in rows article except) ≡ sum_below (length rows) (offer_at rows article except)
offers_whole rows article except =
    sum_of_items (length rows) (is_row_of article rows) (offer_at rows article except) (others_none rows article except)

-- a row at a place among an article's rows: what is offered there and before
pub record IsPlace (rows : List Row) (article : ℕ) (except : Option ℕ) (place row : ℕ) : Type 0 where
  pub within : row < length rows
  pub offer : offer_in rows article except place ≡ offer_at rows article except row
  pub before : sum_below place (offer_in rows article except) ≡ sum_below row (offer_at rows article except)

-- each row of the article is such
pub is_place : (rows : List Row) (article : ℕ) (except : Option ℕ) (place row : ℕ) → slice_get (rows_of article rows) place ≡ Some row
    → IsPlace rows article except place row
is_place rows article except place row there = record {
  within = (below_item (length rows) (is_row_of article rows) place row there).within;
  offer = ap (λ found. option_map_or (offer_at rows article except) found 0) there;
  before = sum_before_item (length rows) (is_row_of article rows) (offer_at rows article except) place row (others_none rows article except) there;
}

count_among : (n article : ℕ) (rows : List Row) → n ≤ length rows
    → length (rows_among n article rows) ≡ count_by (λ (r : Row). r.article == article) (take n rows)
count_among zero article rows upto = refl
count_among (suc n) article rows upto =
    let row = within_some rows n (omega arith) in
    let e : suc n ≡ n + 1 = omega arith in
    let one : Row → ℕ = λ r. if r.article == article then 1 else 0 in
    let more : count_by (λ (r : Row). r.article == article) (take (suc n) rows) ≡ count_by (λ (r : Row). r.article == article) (take n rows) + one row.0 =
    ap (λ m. count_by (λ (r : Row). r.article == article) (take m rows)) e
    ∙ (sum_by_more one rows n row.0 (omega arith)
    ∙ ap (λ (r : Row). count_by (λ (r : Row). r.article == article) (take n rows) + one r) (get_or_from_slice_get rows n row.0 row.0 row.1)) in
    elim (cases_eq row.0.article article) [
      | inl own ↦
          omega (
            arith,
            more,
            cond-true {A = ℕ} (row.0.article == article) 1 0 (eq-eqb row.0.article article own),
            length_passing n (is_row_of article rows) (is_own article rows n row.0 row.1 own),
            count_among n article rows (omega arith),
          )
      | inr other ↦
          omega (
            arith,
            more,
            cond-false {A = ℕ} (row.0.article == article) 1 0 (ne_eqb row.0.article article other),
            ap length (below_failing n (is_row_of article rows) (is_other article rows n row.0 row.1 other)),
            count_among n article rows (omega arith),
          )
    ]

-- an article has as many rows as are counted of it
pub rows_counted : (article : ℕ) (rows : List Row) → length (rows_of article rows) ≡ count_by (λ (r : Row). r.article == article) rows
rows_counted article rows =
    count_among (length rows) article rows (omega arith)
    ∙ ap (λ (some : List Row). count_by (λ (r : Row). r.article == article) some) (take_all (length rows) rows (omega arith))
