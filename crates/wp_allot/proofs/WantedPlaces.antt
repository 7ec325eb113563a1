-- The rows of the articles that gathered wants are of, counted article by article.
use Rattle.std.proofs.Common.{◌≡◌, ◌≢◌, ◌∙◌, refl, sym, ap, ℕ, zero, suc, ◌+◌, ◌-◌, ◌<◌, ◌≤◌, ◌==◌, inl, inr, List, [], ◌∷◌, length, take}
use Rattle.std.proofs.Common.{if◌then◌else◌, nat_lt, slice_get, Some, arith, eq-eqb, ne_eqb}
use Rattle.std.proofs.lemmas.Bool.{cases_eq, cond-false, cond-true}
use Rattle.std.proofs.lemmas.List.Sums.{count_by-le-length, sum_by-cons, sum_by-take-le}
use Rattle.std.specs.List.{count_by}
use Rattle.wp_model.proofs.Elements.{All-at, within_some}
use Rattle.wp_model.specs.Tables.{places_of}
use Rattle.wp_model.specs.declared.row.StockRow.{StockRow}
use Rattle.wp_book.proofs.Books.{sum_by-plus}
use Rattle.wp_book.proofs.HoldSums.{sum_by-none}
use Rattle.wp_allot.proofs.FilledRoom.{as_one, flag, flag-unwanted, flag-wanted}
use Rattle.wp_allot.proofs.OrderIntervals.{units_of-other, units_of-own, wanted_more}
use Rattle.wp_allot.specs.Gathered.{AreOfArticle}
use Rattle.wp_allot.specs.Wants.{AreInTurn, is_wanted, units_of, wanted_of, wanted_places}
use Rattle.wp_allot.specs.declared.gathered.ArticleWants.{ArticleWants}
use Rattle.wp_allot.specs.declared.want.Want.{Want}

-- the wants of an article are none of another one
others_same : (wants : List Want) (start : ℕ) (of : ArticleWants) (article n : ℕ) → AreOfArticle wants start of → article ≢ of.article → start + n ≤ of.end
    → wanted_of (take (start + n) wants) article ≡ wanted_of (take start wants) article
others_same wants start of article zero is other within = ap (λ m. wanted_of (take m wants) article) {x = start + 0} {y = start} (omega arith)
others_same wants start of article (suc n) is other within =
    let place = start + n in
    let inside : place < length wants = omega (arith, within, is.within) in
    let want = within_some wants place inside in
    let own = is.own place want.0 (omega arith) (omega (arith, within)) want.1 in
    let more = wanted_more wants article place want.0 want.1 inside in
    let none = units_of-other article want.0 (λ e. other (sym e ∙ own)) in
    let before = others_same wants start of article n is other (omega (arith, within)) in
    ap (λ m. wanted_of (take m wants) article) {x = start + suc n} {y = place + 1} (omega arith) ∙ sum_of more none before
  where
    sum_of : {a b c d : ℕ} → a ≡ b + c → c ≡ 0 → b ≡ d → a ≡ d
    sum_of p q r = omega arith

-- up to their end one article more is wanted
one_article : (wants : List Want) (start : ℕ) (of : ArticleWants) (article : ℕ) → AreInTurn wants → AreOfArticle wants start of
    → flag wants of.end article ≡ flag wants start article + (if article == of.article then 1 else 0)
one_article wants start of article turn is = elim (cases_eq article of.article) [
  | inl same ↦
      let one = cond-true {A = ℕ} (article == of.article) 1 0 (eq-eqb article of.article same) in
      let within : start < length wants = omega (arith, is.after, is.within) in
      let some : 0 < wanted_of wants of.article = omega (
        arith,
        wanted-one wants of.article start is.first is.there within (sym is.article)
            (All-at (λ (want : Want). 0 < want.quantity) wants start is.first turn.some is.there),
      ) in
      let now = cond-true {A = ℕ} (is_wanted (take of.end wants) article) 1 0
      (flag-wanted wants of.end article (omega (arith, ap (wanted_of (take of.end wants)) same, is.all, some))) in
      let before = cond-false {A = ℕ} (is_wanted (take start wants) article) 1 0
      (flag-unwanted wants start article (ap (wanted_of (take start wants)) same ∙ is.none)) in
      omega (arith, one, now, before)
  | inr other ↦
      let none = cond-false {A = ℕ} (article == of.article) 1 0 (ne_eqb article of.article other) in
      let same : wanted_of (take of.end wants) article ≡ wanted_of (take start wants) article =
      ap (λ m. wanted_of (take m wants) article) {x = of.end} {y = start + (of.end - start)} (omega (arith, is.after))
      ∙ others_same wants start of article (of.end - start) is other (omega (arith, is.after)) in
      omega (arith, none, ap (λ n. as_one (nat_lt 0 n)) same)
]
  where
    wanted-one : (wants : List Want) (article place : ℕ) (want : Want) → slice_get wants place ≡ Some want → place < length wants → want.article ≡ article
        → 0 < want.quantity → 0 < wanted_of wants article
    wanted-one wants article place want there within same some =
        omega (
          arith,
          wanted_more wants article place want there within,
          units_of-own article want same,
          sum_by-take-le (units_of article) wants (place + 1),
        )

-- an article's rows are counted
places_counted : (rows : List StockRow) (article : ℕ) → count_by (λ (row : StockRow). row.article == article) rows ≡ places_of rows article
places_counted [] article = refl
places_counted (row ∷ rows) article =
    omega (arith, sum_by-cons (λ (row : StockRow). if row.article == article then 1 else 0) row rows, places_counted rows article)

-- and so are those of one article more
pub places_more : (rows : List StockRow) (wants : List Want) (start : ℕ) (of : ArticleWants) → AreInTurn wants → AreOfArticle wants start of
    → wanted_places rows (take of.end wants) ≡ wanted_places rows (take start wants) + places_of rows of.article
places_more rows wants start of turn is =
    sum_by-plus (λ (r : StockRow). flag wants of.end r.article) (λ (r : StockRow). flag wants start r.article)
    (λ (r : StockRow). if r.article == of.article then 1 else 0) rows (λ r. one_article wants start of r.article turn is)
    ∙ ap (λ n. wanted_places rows (take start wants) + n) (places_counted rows of.article)

-- no rows at first
pub no_places : (rows : List StockRow) (wants : List Want) → wanted_places rows (take 0 wants) ≡ 0
no_places rows wants = sum_by-none (λ (r : StockRow). flag wants 0 r.article) rows
    (λ r. cond-false {A = ℕ} (is_wanted (take 0 wants) r.article) 1 0 (flag-unwanted wants 0 r.article refl))

-- no more rows than there are
pub places-le : (rows : List StockRow) (wants : List Want) → wanted_places rows wants ≤ length rows
places-le rows wants = count_by-le-length (λ (row : StockRow). is_wanted wants row.article) rows
