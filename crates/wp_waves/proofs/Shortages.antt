-- The first article of which more is wanted than is free.
use Rattle.std.proofs.Common.{◌≡◌, ◌≢◌, ◌∙◌, refl, sym, ap, ap₂, ℕ, suc, ◌<◌, ◌≤◌, ◌==◌, inl, inr, List, [], ◌∷◌, length, Option, Some, None, slice_get}
use Rattle.std.proofs.Common.{option_map, subst, arith, ne_eqb}
use Rattle.std.specs.Prelude.{All}
use Rattle.std.specs.Option.{MatchOption}
use Rattle.std.proofs.lemmas.Bool.{cases_eq, cases_lt, cond-false}
use Rattle.std.proofs.lemmas.List.Sums.{sum_by-cons}
use Rattle.wp_model.proofs.Demand.{first_short_is}
use Rattle.wp_model.proofs.Elements.{All-at}
use Rattle.wp_model.specs.Demand.{AreCovered, IsFirstShort, first_short, quantity_of}
use Rattle.wp_model.specs.declared.row.Line.{Line}
use Rattle.wp_waves.specs.Shortages.{IsFirstAmong, IsLess}
use Rattle.wp_waves.specs.Turns.{lines_demand, shortage_in}
use Rattle.wp_waves.specs.declared.free_stock.Shortage.{Shortage}

-- the numbers of an article
abbrev numbers : (ℕ → ℕ) → (ℕ → ℕ) → ℕ → Shortage
numbers wanted free article = record { article = article; wanted = wanted article; free = free article }

-- all is covered, or this is the first article of so many of which more is wanted than is free
abbrev pub IsShortOf : ℕ → (ℕ → ℕ) → (ℕ → ℕ) → Option Shortage → Type 0
IsShortOf articles wanted free None = (article : ℕ) → wanted article ≤ free article
IsShortOf articles wanted free (Some short) =
    (short.article < articles) × (short.wanted ≡ wanted short.article) × (short.free ≡ free short.article) × (short.free < short.wanted)
    × ((article : ℕ) → article < short.article → wanted article ≤ free article)

none_is : (articles : ℕ) (wanted free : ℕ → ℕ) (found : Option ℕ) → ((article : ℕ) → wanted article ≤ free article)
    → MatchOption found (AreCovered wanted free 0 articles) (IsFirstShort wanted free 0 articles)
    → option_map (numbers wanted free) found ≡ None
none_is articles wanted free None covered is = refl
none_is articles wanted free (Some article) covered is = absurd (omega (arith, covered article, is.short))

some_is : (articles : ℕ) (wanted free : ℕ → ℕ) (found : Option ℕ) (short : Shortage) → IsShortOf articles wanted free (Some short)
    → MatchOption found (AreCovered wanted free 0 articles) (IsFirstShort wanted free 0 articles)
    → option_map (numbers wanted free) found ≡ Some short
some_is articles wanted free None short is covered = absurd (omega (arith, covered short.article (omega arith) is.0, is.1, is.2, is.3))
some_is articles wanted free (Some article) short is first =
    let same : article ≡ short.article = elim (cases_eq article short.article) [
      | inl e ↦ e
      | inr other ↦ elim (cases_lt article short.article) [
        | inl before ↦ absurd (omega (arith, is.4 article before, first.short))
        | inr after ↦ absurd (omega (arith, first.before short.article (omega arith) (omega arith), is.1, is.2, is.3))
      ]
    ] in
    let one : numbers wanted free article ≡ numbers wanted free short.article = ap (numbers wanted free) same in
    let two : numbers wanted free short.article ≡ short =
    ap₂ (λ w f. let s : Shortage = record { article = short.article; wanted = w; free = f } in s) (sym is.1) (sym is.2) in
    ap Some (one ∙ two)

-- it is the first short article
pub shortage_is : (articles : ℕ) (wanted free : ℕ → ℕ) (found : Option Shortage) → IsShortOf articles wanted free found
    → found ≡ shortage_in articles wanted free
shortage_is articles wanted free None is =
    sym (none_is articles wanted free (first_short wanted free articles 0) is (first_short_is wanted free articles 0 articles (omega arith)))
shortage_is articles wanted free (Some short) is =
    sym (some_is articles wanted free (first_short wanted free articles 0) short is (first_short_is wanted free articles 0 articles (omega arith)))

-- a line of the article stands at a place
pub record IsLineOf (lines : List Line) (article : ℕ) : Type 0 where
  pub place : ℕ
  pub line : Line
  pub within : place < length lines
  pub there : slice_get lines place ≡ Some line
  pub same : line.article ≡ article

one_later : (l : Line) (lines : List Line) (article : ℕ) → IsLineOf lines article → IsLineOf (l ∷ lines) article
one_later l lines article is = record { place = suc is.place; line = is.line; within = omega (arith, is.within); there = is.there; same = is.same }

-- an article of which units are wanted is a line's
demand-some : (lines : List Line) (article : ℕ) → lines_demand lines article ≢ 0 → IsLineOf lines article
demand-some [] article some = absurd (some refl)
demand-some (l ∷ lines) article some = elim (cases_eq l.article article) [
  | inl same ↦ record { place = 0; line = l; within = omega arith; there = refl; same = same }
  | inr other ↦
      let none = cond-false (l.article == article) l.quantity 0 (ne_eqb l.article article other) in
      one_later l lines article (demand-some lines article (λ e. some (omega (arith, sum_by-cons (quantity_of article) l lines, none, e))))
]

enough_of : (lines : List Line) (free : ℕ → ℕ) (article : ℕ)
    → ((k : ℕ) (line : Line) → k < length lines → slice_get lines k ≡ Some line → line.article ≡ article
    → lines_demand lines line.article ≤ free line.article)
    → lines_demand lines article ≤ free article
enough_of lines free article each = elim (cases_eq (lines_demand lines article) 0) [
  | inl none ↦ omega (arith, none)
  | inr some ↦
      let found = demand-some lines article some in
      subst (λ a. lines_demand lines a ≤ free a) found.same (each found.place found.line found.within found.there found.same)
]

-- among all lines
pub short_from_all : (articles : ℕ) (lines : List Line) (free : ℕ → ℕ) (first : Option Shortage)
    → All (λ (line : Line). line.article < articles) lines → IsFirstAmong lines free (length lines) first
    → IsShortOf articles (lines_demand lines) free first
short_from_all articles lines free None within each = λ article. enough_of lines free article (λ k line below there same. each k line below there)
short_from_all articles lines free (Some short) within less = (
  let at = less.2 in
      omega (arith, at.3, All-at (λ (line : Line). line.article < articles) lines at.0 at.1 within at.2),
  less.0.wanted,
  less.0.free_is,
  less.0.less,
  λ article before. enough_of lines free article (λ k line below there same. less.1 k line below there (omega (arith, same))),
)

-- no line yet
pub first_of_none : (lines : List Line) (free : ℕ → ℕ) → IsFirstAmong lines free 0 None
first_of_none lines free = λ k line below there. absurd (omega arith)

-- where none is short all is covered
pub covered_from_none : (articles : ℕ) (lines : List Line) (free : ℕ → ℕ) → All (λ (line : Line). line.article < articles) lines
    → shortage_in articles (lines_demand lines) free ≡ None → (article : ℕ) → lines_demand lines article ≤ free article
covered_from_none articles lines free within none article =
    none_covers (first_short (lines_demand lines) free articles 0) none (first_short_is (lines_demand lines) free articles 0 articles (omega arith))
  where
    past_wants_none : articles ≤ article → lines_demand lines article ≡ 0
    past_wants_none past = elim (cases_eq (lines_demand lines article) 0) [
      | inl none ↦ none
      | inr some ↦
          let found = demand-some lines article some in
          let below = All-at (λ (line : Line). line.article < articles) lines found.place found.line within found.there in
          absurd (omega (arith, below, found.same))
    ]

    none_covers : (found : Option ℕ) → option_map (numbers (lines_demand lines) free) found ≡ None
        → MatchOption found (AreCovered (lines_demand lines) free 0 articles) (IsFirstShort (lines_demand lines) free 0 articles)
        → lines_demand lines article ≤ free article
    none_covers (Some short) none is = absurd (cc none)
    none_covers None none covered = elim (cases_lt article articles) [
      | inl below ↦ covered article (omega arith) below
      | inr past ↦ omega (arith, past_wants_none (omega arith))
    ]
