-- What orders take from rows.
use Rattle.std.proofs.Common.{◌≡◌, ◌≢◌, ℕ, ◌<◌, ◌≤◌, ◌&&◌, ◌==◌, not, List, length, slice_get, Option, Some, inl, inr, sym, ap, ◌∙◌, if◌then◌else◌, arith}
use Rattle.std.proofs.Common.{eq-eqb, ne_eqb}
use Rattle.std.proofs.lemmas.Bool.{and_left, cases_eq, cond-false, cond-true}
use Rattle.std.proofs.lemmas.Option.{slice_get_cases}
use Rattle.std.specs.Option.{option_map_or}
use Rattle.wp_model.proofs.Elements.{within_some}
use Rattle.wp_model.proofs.Overlap.{order_gets_demand, overlap-le-demand, overlap-le-offer, row_share}
use Rattle.wp_model.proofs.Sums.{sum-agree, sum-zero}
use Rattle.wp_model.specs.Change.{share}
use Rattle.wp_model.specs.Demand.{free_units, is_excepted, offer_at, offer_of}
use Rattle.wp_model.specs.Sound.{units_of}
use Rattle.wp_model.specs.Overlap.{overlap}
use Rattle.wp_model.specs.Sums.{sum_below}
use Rattle.wp_model.specs.declared.row.Row.{Row}

-- what an order takes from a row is what it and the row's free units have in common
pub share-at : (demand : ℕ → ℕ → ℕ) (rows : List Row) (except : Option ℕ) (order k : ℕ) (r : Row) → slice_get rows k ≡ Some r
    → share demand rows except order k ≡ overlap (demand r.article) (offer_at rows r.article except) order k
share-at demand rows except order k r is = ap (λ found. option_map_or (λ r. overlap (demand r.article) (offer_at rows r.article except) order k) found 0) is

-- a row offers no more than is free
offer_of-le : (article : ℕ) (except : Option ℕ) (k : ℕ) (r : Row) → offer_of article except k r ≤ r.free
offer_of-le article except k r = grind arith

-- a row offers no more than it has free
pub offer_at-le : (rows : List Row) (article : ℕ) (except : Option ℕ) (k : ℕ) (r : Row) → slice_get rows k ≡ Some r → offer_at rows article except k ≤ r.free
offer_at-le rows article except k r is =
    omega (arith, ap (λ found. option_map_or (offer_of article except k) found 0) is, offer_of-le article except k r)

-- what orders take from a row together
abbrev pub shares : (ℕ → ℕ → ℕ) → List Row → Option ℕ → ℕ → ℕ → ℕ
shares demand rows except orders k = sum_below orders (λ order. share demand rows except order k)

-- orders take no more from a row than is free
pub shares-le-free : (demand : ℕ → ℕ → ℕ) (rows : List Row) (except : Option ℕ) (orders k : ℕ) (r : Row) → slice_get rows k ≡ Some r
    → shares demand rows except orders k ≤ r.free
shares-le-free demand rows except orders k r is =
    let offer = offer_at rows r.article except in
    let same = sum-agree orders (λ order. share demand rows except order k) (λ order. overlap (demand r.article) offer order k)
    (λ order within. share-at demand rows except order k r is) in
    omega (arith, same, row_share (demand r.article) offer orders k, offer_at-le rows r.article except k r is)

-- an order that takes units from a row wants some of its article
pub share-some : (demand : ℕ → ℕ → ℕ) (rows : List Row) (except : Option ℕ) (order k : ℕ) → share demand rows except order k ≢ 0
    → (r : Row) × (slice_get rows k ≡ Some r) × (demand r.article order ≢ 0)
share-some demand rows except order k some = elim (slice_get_cases rows k).1 [
  | inl found ↦ let r = found.0 in (
    r,
    found.2,
    λ none. some (omega (
      arith,
      share-at demand rows except order k r found.2,
      overlap-le-demand (demand r.article) (offer_at rows r.article except) order k,
    )),
  )
  | inr past ↦ absurd (some (ap (λ found. option_map_or (λ r. overlap (demand r.article) (offer_at rows r.article except) order k) found 0) past.1))
]

-- a row's units, where it is of the article and where it isn't
units_of-here : (rows : List Row) (article : ℕ) (units : ℕ → ℕ) (k : ℕ) (r : Row) → slice_get rows k ≡ Some r → r.article ≡ article
    → units_of rows article units k ≡ units k
units_of-here rows article units k r is e =
    ap (λ found. option_map_or (λ r. if r.article == article then units k else 0) found 0) is ∙ cond-true (r.article == article) _ _ (eq-eqb _ _ e)

units_of-elsewhere : (rows : List Row) (article : ℕ) (units : ℕ → ℕ) (k : ℕ) (r : Row) → slice_get rows k ≡ Some r → r.article ≢ article
    → units_of rows article units k ≡ 0
units_of-elsewhere rows article units k r is other =
    ap (λ found. option_map_or (λ r. if r.article == article then units k else 0) found 0) is ∙ cond-false (r.article == article) _ _ (ne_eqb _ _ other)

-- a row of another article offers nothing
offer_of-other : (article : ℕ) (except : Option ℕ) (k : ℕ) (r : Row) → r.article ≢ article → offer_of article except k r ≡ 0
offer_of-other article except k r other = cond-false ((r.article == article) && not (is_excepted except k)) _ _ (and_left _ _ (ne_eqb _ _ other))

-- what an order takes of an article from a row
share-of_article : (demand : ℕ → ℕ → ℕ) (rows : List Row) (except : Option ℕ) (place article k : ℕ) → k < length rows
    → units_of rows article (share demand rows except place) k ≡ overlap (demand article) (offer_at rows article except) place k
share-of_article demand rows except place article k within =
    let found = within_some rows k within in
    let r = found.0 in
    elim (cases_eq r.article article) [
      | inl e ↦ units_of-here rows article (share demand rows except place) k r found.1 e ∙ share-at demand rows except place k r found.1
          ∙ ap (λ a. overlap (demand a) (offer_at rows a except) place k) e
      | inr other ↦
          let nothing = ap (λ found. option_map_or (offer_of article except k) found 0) found.1 ∙ offer_of-other article except k r other in
          omega (
            arith,
            units_of-elsewhere rows article (share demand rows except place) k r found.1 other,
            overlap-le-offer (demand article) (offer_at rows article except) place k,
          )
    ]

-- where free stock covers what orders want of an article, an order gets just what it wants
pub shares_are_demand : (demand : ℕ → ℕ → ℕ) (rows : List Row) (except : Option ℕ) (orders place article : ℕ)
    → sum_below orders (demand article) ≤ free_units rows article except → (demand article place ≢ 0 → place < orders)
    → sum_below (length rows) (units_of rows article (share demand rows except place)) ≡ demand article place
shares_are_demand demand rows except orders place article covered wanted =
    sum-agree (length rows) _ _ (λ k within. share-of_article demand rows except place article k within)
    ∙ elim (cases_eq (demand article place) 0) [
      | inl none ↦ sum-zero (length rows) _ (λ k within. omega (arith, overlap-le-demand (demand article) (offer_at rows article except) place k)) ∙ sym none
      | inr some ↦ order_gets_demand (demand article) (offer_at rows article except) orders (length rows) place covered (wanted some)
    ]
