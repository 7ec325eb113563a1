-- The count of the free units of each article, kept beside the rows.
use Rattle.std.proofs.Common.{◌≡◌, ◌∙◌, refl, sym, ap, subst, ℕ, zero, suc, ◌+◌, ◌*◌, ◌<◌, ◌≤◌, ◌^◌, inl, inr, List, length, replicate, get_or, slice_get}
use Rattle.std.proofs.Common.{slice_set, slice_index, Some, None, All, IfSome, arith, length-set, get_or-set_same, get_or-set_other}
use Rattle.std.proofs.lemmas.Bool.{cases_eq}
use Rattle.std.proofs.lemmas.List.{get_or_default, set-get_or}
use Rattle.std.proofs.lemmas.Option.{slice_get-get_or, slice_get_within}
use Rattle.wp_model.proofs.Elements.{All-at, at_some, if_some, slice_get-set}
use Rattle.wp_model.proofs.Sums.{term-le-sum}
use Rattle.wp_model.specs.Demand.{free_units, offer_at, offer_of}
use Rattle.wp_model.specs.Sound.{IsBalanced}
use Rattle.wp_model.specs.Sums.{sum_below}
use Rattle.wp_model.specs.declared.row.Row.{Row}
use Rattle.wp_book.specs.FreeCounts.{AreCounted, IsCountable}
use Rattle.wp_book.proofs.FreeUnits.{free_set, most_free, offer_is, offer_none, offer_own}

-- what was read of counted rows: the row with a number, and the count of its article
pub record IsRead (rows : List Row) (free : List ℕ) (i : ℕ) (r : Row) (count : ℕ) : Type 0 where
  pub counted : AreCounted rows free
  pub there : slice_get rows i ≡ Some r
  pub known : IsCountable (length free) r
  pub is : count ≡ slice_index free r.article

-- a row that was read at a place within the rows stands there
pub row_read : (rows : List Row) (i : ℕ) (r : Row) → i < length rows → r ≡ get_or rows i r → slice_get rows i ≡ Some r
row_read rows i r within is = slice_get-get_or rows i r within ∙ ap Some (sym is)

-- a row that was read by its number, and a count by its article, are what is read of counted rows
pub was_read : (rows : List Row) (free : List ℕ) (i : ℕ) (r : Row) (count : ℕ) → AreCounted rows free → i < length rows → r ≡ get_or rows i r
    → count ≡ get_or free r.article count
    → IsRead rows free i r count
was_read rows free i r count counted within is-row is-count =
    let there = row_read rows i r within is-row in
    let known = at_some (slice_get rows i) (IsCountable (length free)) r there (counted.each i) in
    record { counted = counted; there = there; known = known; is = is-count ∙ get_or_default free r.article count 0 known.article }

-- the count of the row's article is no less than what is free in the row, and is far from its width
pub record IsBounded (r : Row) (count : ℕ) : Type 0 where
  pub least : r.free ≤ count
  pub most : count ≤ 4294967295 * 4294967295

-- what was read of counted rows keeps within these bounds
pub read_bounded : (rows : List Row) (free : List ℕ) (i : ℕ) (r : Row) (count : ℕ) → IsRead rows free i r count → IsBounded r count
read_bounded rows free i r count read =
    let all : count ≡ free_units rows r.article None = read.is ∙ read.counted.counts r.article in
    let own : offer_at rows r.article None i ≡ r.free = offer_is rows r.article None i r read.there ∙ offer_own r.article i r refl in
    record {
      least = omega (arith, all, own, term-le-sum (length rows) (offer_at rows r.article None) i (slice_get_within rows i r read.there));
      most = omega (arith, all, most_free (length rows) rows r.article (length free) read.counted.each, read.counted.few);
    }

-- a row is written over by one of its article, and the count of the article goes with what is free
pub recounted : (rows : List Row) (free : List ℕ) (i : ℕ) (r s : Row) (count n : ℕ) → IsRead rows free i r count → s.article ≡ r.article → s.free < 2 ^ 32
    → n + r.free ≡ count + s.free
    → AreCounted (slice_set rows i s) (slice_set free r.article n)
recounted rows free i r s count n read same fits moved = record {
  few = omega (arith, length-set rows i s, read.counted.few);
  each = λ k. if_some (slice_get (slice_set rows i s) k) (IsCountable (length (slice_set free r.article n))) (λ t now. elim (slice_get-set rows i k t s now) [
    | inl own ↦ subst (IsCountable (length (slice_set free r.article n))) (sym own.1)
        (record { article = omega (arith, same, length-set free r.article n, read.known.article); fits = fits })
    | inr other ↦
        let was = at_some (slice_get rows k) (IsCountable (length free)) t other.1 (read.counted.each k) in
        record { article = omega (arith, length-set free r.article n, was.article); fits = was.fits }
  ]);
  counts = λ article. elim (cases_eq article r.article) [
    | inl own ↦
        let now : slice_index (slice_set free r.article n) article ≡ n =
        ap (λ a. slice_index (slice_set free r.article n) a) own ∙ get_or-set_same free r.article n 0 read.known.article in
        omega (
          arith,
          now,
          moved,
          read.is,
          ap (slice_index free) own,
          read.counted.counts article,
          free_set rows article i r s read.there,
          offer_own article i r (sym own),
          offer_own article i s (same ∙ sym own),
        )
    | inr other ↦
        omega (
          arith,
          get_or-set_other free r.article article n 0 other,
          read.counted.counts article,
          free_set rows article i r s read.there,
          offer_none article i r (λ e. other (sym e)),
          offer_none article i s (λ e. other (sym e ∙ same)),
        )
  ];
}

-- a row is written over by one of its article with as many free units
pub count_kept : (rows : List Row) (free : List ℕ) (i : ℕ) (r s : Row) → AreCounted rows free → slice_get rows i ≡ Some r → s.article ≡ r.article
    → s.free ≡ r.free → AreCounted (slice_set rows i s) free
count_kept rows free i r s counted there same kept =
    let known = at_some (slice_get rows i) (IsCountable (length free)) r there (counted.each i) in
    let read : IsRead rows free i r (slice_index free r.article) = record { counted = counted; there = there; known = known; is = refl } in
    subst (AreCounted (slice_set rows i s)) (set-get_or free r.article 0)
    (recounted rows free i r s (slice_index free r.article) (slice_index free r.article) read same (omega (arith, kept, known.fits)) (omega (arith, kept)))

-- counting: no count at first
pub no_counts : (articles article : ℕ) → slice_index (replicate articles 0) article ≡ 0
no_counts zero article = refl
no_counts (suc articles) zero = refl
no_counts (suc articles) (suc article) = no_counts articles article

-- so many rows are counted
abbrev pub CountsFirst : List Row → ℕ → List ℕ → Type 0
CountsFirst rows i free = (article : ℕ) → slice_index free article ≡ sum_below i (offer_at rows article None)

-- and one row more is counted once its free units are added to the count of its article
pub counts_next : (rows : List Row) (i : ℕ) (free : List ℕ) (r : Row) (n : ℕ) → CountsFirst rows i free → slice_get rows i ≡ Some r → r.article < length free
    → n ≡ slice_index free r.article + r.free
    → CountsFirst rows (i + 1) (slice_set free r.article n)
counts_next rows i free r n counts there known more = λ article.
    let e : i + 1 ≡ suc i = omega arith in
    let next : sum_below (i + 1) (offer_at rows article None) ≡ sum_below i (offer_at rows article None) + offer_of article None i r =
    ap (λ m. sum_below m (offer_at rows article None)) e ∙ ap (λ m. sum_below i (offer_at rows article None) + m) (offer_is rows article None i r there) in
    elim (cases_eq article r.article) [
      | inl own ↦
          let now : slice_index (slice_set free r.article n) article ≡ n =
          ap (λ a. slice_index (slice_set free r.article n) a) own ∙ get_or-set_same free r.article n 0 known in
          omega (arith, now, more, next, ap (slice_index free) own, counts article, offer_own article i r (sym own))
      | inr other ↦ omega (arith, get_or-set_other free r.article article n 0 other, next, counts article, offer_none article i r (λ e. other (sym e)))
    ]

-- rows that balance, each of a known article, are countable
pub countable : (rows : List Row) (articles : ℕ) → All IsBalanced rows → All (λ (row : Row). row.article < articles) rows → (k : ℕ) (r : Row)
    → slice_get rows k ≡ Some r → IsCountable articles r
countable rows articles balanced known k r there =
    let is = All-at IsBalanced rows k r balanced there in
    record { article = All-at (λ (row : Row). row.article < articles) rows k r known there; fits = omega (arith, is.sum, is.most) }

-- rows that balance, each of a known article, are counted once all of them are
pub all_counted : (rows : List Row) (articles : ℕ) (free : List ℕ) → length rows < 2 ^ 32 → All IsBalanced rows
    → All (λ (row : Row). row.article < articles) rows → length free ≡ articles → CountsFirst rows (length rows) free
    → AreCounted rows free
all_counted rows articles free few balanced known long counts = record {
  few = few;
  each = λ k. subst (λ n. IfSome (slice_get rows k) (IsCountable n)) (sym long)
      (if_some (slice_get rows k) (IsCountable articles) (λ r there. countable rows articles balanced known k r there));
  counts = counts;
}
