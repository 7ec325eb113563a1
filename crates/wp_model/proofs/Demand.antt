-- What orders want, and the first article that is short.
use Rattle.std.proofs.Common.{◌≡◌, ℕ, zero, suc, ◌+◌, ◌*◌, ◌<◌, ◌≤◌, List, [], ◌∷◌, length, slice_get, Option, Some, None, MatchOption, All, nat_lt, bytes_eq}
use Rattle.std.proofs.Common.{inl}
use Rattle.std.proofs.Common.{inr, refl, ap, arith, true, ◌==◌, ◌≢◌, eq-eqb}
use Rattle.std.proofs.lemmas.Bool.{both_ways, cases_eq, cases_lt, cond-true, cond_both, or_cases, ltb-true, ltb-false}
use Rattle.std.proofs.lemmas.Bool.Decides.{nat_tests}
use Rattle.std.proofs.lemmas.List.Elements.{All-nil, All-head, All-tail, All-weaker}
use Rattle.std.proofs.lemmas.List.Sums.{get_or-le-sum_by, sum_by-le}
use Rattle.std.proofs.lemmas.Option.{MatchOption-at_none, get_or_from_slice_get, slice_get_past}
use Rattle.std.specs.Option.{option_map_or}
use Rattle.wp_model.proofs.Elements.{All-at, within_some}
use Rattle.wp_model.proofs.Sums.{sum-zero}
use Rattle.wp_model.specs.Demand.{AreCovered, IsCovered, IsFirstShort, demand_at, first_short, free_units, order_demand, quantity_of, short_article}
use Rattle.wp_model.specs.Demand.{wave_demand}
use Rattle.wp_model.specs.Limits.{most_lines, most_quantity}
use Rattle.wp_model.specs.Opening.{IsLine, IsOpening, IsOrder, Opening, Order, is_known_order, line_units, lines_of, order_units}
use Rattle.wp_model.specs.declared.row.Line.{Line}
use Rattle.wp_model.specs.declared.row.Row.{Row}

-- what is covered, or short, after an article that is covered
one_covered : (wanted free : ℕ → ℕ) (from until : ℕ) → wanted from ≤ free from → AreCovered wanted free (from + 1) until → AreCovered wanted free from until
one_covered wanted free from until here rest k after within = elim (cases_eq k from) [
  | inl e ↦ omega (arith, ap wanted e, ap free e)
  | inr other ↦ rest k (omega arith) within
]

short_after_covered : (wanted free : ℕ → ℕ) (from until : ℕ) (found : Option ℕ) → wanted from ≤ free from
    → MatchOption found (AreCovered wanted free (from + 1) until) (IsFirstShort wanted free (from + 1) until)
    → MatchOption found (AreCovered wanted free from until) (IsFirstShort wanted free from until)
short_after_covered wanted free from until None here rest = one_covered wanted free from until here rest
short_after_covered wanted free from until (Some article) here rest = record {
  after = omega arith;
  within = rest.within;
  short = rest.short;
  before = one_covered wanted free from article here rest.before;
}

-- what the first short article is
pub first_short_is : (wanted free : ℕ → ℕ) (more from until : ℕ) → from + more ≡ until
    → MatchOption (first_short wanted free more from) (AreCovered wanted free from until) (IsFirstShort wanted free from until)
first_short_is wanted free zero from until e = λ k after within. absurd (omega arith)
first_short_is wanted free (suc more) from until e =
    let rest = first_short_is wanted free more (from + 1) until (omega arith) in
    cond_both (nat_lt (free from) (wanted from)) (Some from) (first_short wanted free more (from + 1))
    (λ found. MatchOption found (AreCovered wanted free from until) (IsFirstShort wanted free from until))
    (λ short. record { after = omega arith; within = omega arith; short = ltb-true _ _ short; before = λ k after within. absurd (omega arith) })
    (λ enough. short_after_covered wanted free from until _ (ltb-false _ _ enough) rest)

-- the lines of an order are of the stock's articles
pub lines_are : (articles : List (List ℕ)) (orders : List Order) (name : List ℕ) → All (IsOrder articles) orders → All (IsLine articles) (lines_of orders name)
lines_are articles [] name all = All-nil (IsLine articles)
lines_are articles (order ∷ orders) name all =
    let first : IsOrder articles order = All-head (IsOrder articles) order orders all in
    cond_both (bytes_eq order.name name) order.lines (lines_of orders name) (All (IsLine articles))
    (λ same. first.lines)
    (λ other. lines_are articles orders name (All-tail (IsOrder articles) order orders all))

-- an order hasn't too many lines
pub few_lines : (articles : List (List ℕ)) (orders : List Order) (name : List ℕ) → All (IsOrder articles) orders → length (lines_of orders name) ≤ most_lines
few_lines articles [] name all = omega arith
few_lines articles (order ∷ orders) name all =
    let first : IsOrder articles order = All-head (IsOrder articles) order orders all in
    cond_both (bytes_eq order.name name) order.lines (lines_of orders name) (λ lines. length lines ≤ most_lines)
    (λ same. first.most)
    (λ other. few_lines articles orders name (All-tail (IsOrder articles) order orders all))

-- the lines of an order are of no more units than as many full lines as it may have
pub few_units : (articles : List (List ℕ)) (lines : List Line) → All (IsLine articles) lines → length lines ≤ most_lines
    → line_units lines ≤ most_lines * most_quantity
few_units articles lines each few = omega (arith, sum_by-le (λ (line : Line). line.quantity) most_quantity lines (λ k d within. (each k d within).most))

-- and so is the order
pub few_order_units : (articles : List (List ℕ)) (orders : List Order) (name : List ℕ) → All (IsOrder articles) orders
    → order_units orders name ≤ most_lines * most_quantity
few_order_units articles orders name all =
    few_units articles (lines_of orders name) (lines_are articles orders name all) (few_lines articles orders name all)

-- nobody wants an article that the stock doesn't have
quantity_of-other : (articles : List (List ℕ)) (article : ℕ) (line : Line) → length articles ≤ article → IsLine articles line → quantity_of article line ≤ 0
quantity_of-other articles article line past is = let within = is.article in grind (arith, nat_tests)

order_demand-other : (opening : Opening) (order : List ℕ) (article : ℕ) → IsOpening opening → length opening.stock.articles ≤ article
    → order_demand opening order article ≡ 0
order_demand-other opening order article is past =
    let articles = opening.stock.articles in
    let lines = lines_of opening.orders order in
    let none = All-weaker (IsLine articles) (λ line. quantity_of article line ≤ 0) (λ line. quantity_of-other articles article line past) lines
    (lines_are articles opening.orders order is.orders) in
    omega (arith, sum_by-le (quantity_of article) 0 lines none)

option_map_or-zero : {X : Type 0} (f : X → ℕ) (found : Option X) → ((x : X) → f x ≡ 0) → option_map_or f found 0 ≡ 0
option_map_or-zero f None none = refl
option_map_or-zero f (Some x) none = none x

-- nothing is wanted of an article that the stock doesn't have
pub wave_demand-other : (opening : Opening) (orders : List (List ℕ)) (article : ℕ) → IsOpening opening → length opening.stock.articles ≤ article
    → wave_demand opening orders article ≡ 0
wave_demand-other opening orders article is past =
    sum-zero (length orders) (demand_at opening orders article)
    (λ place within. option_map_or-zero (λ order. order_demand opening order article) (slice_get orders place)
    (λ order. order_demand-other opening order article is past))

-- what the short article is
pub short_article_is : (opening : Opening) (rows : List Row) (orders : List (List ℕ)) (except : Option ℕ)
    → MatchOption (short_article opening rows orders except)
    (AreCovered (wave_demand opening orders) (λ article. free_units rows article except) 0 (length opening.stock.articles))
    (IsFirstShort (wave_demand opening orders) (λ article. free_units rows article except) 0 (length opening.stock.articles))
short_article_is opening rows orders except =
    first_short_is (wave_demand opening orders) (λ article. free_units rows article except) (length opening.stock.articles) 0 _ (omega arith)

-- where the articles of the stock are covered, all are
covered_from_listed : (opening : Opening) (rows : List Row) (orders : List (List ℕ)) (except : Option ℕ) → IsOpening opening
    → AreCovered (wave_demand opening orders) (λ article. free_units rows article except) 0 (length opening.stock.articles)
    → IsCovered opening rows orders except
covered_from_listed opening rows orders except is listed article = elim (cases_lt article (length opening.stock.articles)) [
  | inl within ↦ listed article (omega arith) within
  | inr past ↦ omega (arith, wave_demand-other opening orders article is past)
]

-- where all is covered, none is short
none_short : (wanted free : ℕ → ℕ) (until : ℕ) (found : Option ℕ) → ((k : ℕ) → wanted k ≤ free k)
    → MatchOption found (AreCovered wanted free 0 until) (IsFirstShort wanted free 0 until) → found ≡ None
none_short wanted free until None covered is = refl
none_short wanted free until (Some article) covered is = absurd (omega (arith, covered article, is.short))

-- no article is short exactly where all is covered
pub covered_from_none : (opening : Opening) (rows : List Row) (orders : List (List ℕ)) (except : Option ℕ) → IsOpening opening
    → short_article opening rows orders except ≡ None → IsCovered opening rows orders except
covered_from_none opening rows orders except is none =
    covered_from_listed opening rows orders except is (MatchOption-at_none _ _ none (short_article_is opening rows orders except))

-- where free stock covers what is wanted no article is short
pub none_from_covered : (opening : Opening) (rows : List Row) (orders : List (List ℕ)) (except : Option ℕ) → IsCovered opening rows orders except
    → short_article opening rows orders except ≡ None
none_from_covered opening rows orders except covered = none_short _ _ _ _ covered (short_article_is opening rows orders except)

-- a known order has a line
has_line : (articles : List (List ℕ)) (orders : List Order) (name : List ℕ) → All (IsOrder articles) orders → is_known_order orders name ≡ true
    → 0 < length (lines_of orders name)
has_line articles [] name all known = absurd (cc)
has_line articles (order ∷ orders) name all known =
    let first : IsOrder articles order = All-head (IsOrder articles) order orders all in
    cond_both (bytes_eq order.name name) order.lines (lines_of orders name) (λ lines. 0 < length lines)
    (λ same. first.some)
    (λ other. has_line articles orders name (All-tail (IsOrder articles) order orders all) (elim (or_cases (bytes_eq order.name name) _ known) [
      | inl same ↦ absurd (both_ways _ other same)
      | inr later ↦ later
    ]))

-- a known order wants something
pub wants_something : (opening : Opening) (name : List ℕ) → IsOpening opening → is_known_order opening.orders name ≡ true → (article : ℕ)
    × (0 < order_demand opening name article)
wants_something opening name is known =
    let articles = opening.stock.articles in
    let lines = lines_of opening.orders name in
    let some = has_line articles opening.orders name is.orders known in
    let found = within_some lines 0 some in
    let line = found.0 in
    let is_line = All-at (IsLine articles) lines 0 line (lines_are articles opening.orders name is.orders) found.1 in
    let here : quantity_of line.article line ≡ line.quantity = cond-true (line.article == line.article) _ _ (eq-eqb line.article line.article refl) in
    let within = get_or-le-sum_by (quantity_of line.article) lines 0 line some in
    let same = get_or_from_slice_get lines 0 line line found.1 in
    (line.article, omega (arith, ap (quantity_of line.article) same, is_line.quantity))

-- an order that wants something stands in the list
pub demand_at-some : (opening : Opening) (orders : List (List ℕ)) (article place : ℕ) → demand_at opening orders article place ≢ 0 → place < length orders
demand_at-some opening orders article place some = elim (cases_lt place (length orders)) [
  | inl within ↦ within
  | inr past ↦ absurd (some (ap (λ found. option_map_or (λ order. order_demand opening order article) found 0) (slice_get_past orders place past)))
]
