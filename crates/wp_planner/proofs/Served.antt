-- What a wave holds for an order is what the order's lines want together.
use Rattle.std.proofs.Common.{◌≡◌, ◌≢◌, ◌∙◌, ℕ, zero, suc, ◌+◌, ◌<◌, ◌≤◌, ◌==◌, if◌then◌else◌, List, [], ◌∷◌, Some, All, length, slice_get}
use Rattle.std.proofs.Common.{refl, sym, ap, subst, arith, inl, inr, ne_eqb, eq-eqb, sum_by}
use Rattle.std.proofs.lemmas.Bool.{cases_eq, cond-false, cond-true}
use Rattle.std.proofs.lemmas.List.Elements.{All-head, All-tail}
use Rattle.std.proofs.lemmas.List.Sums.{sum_by-append, sum_by-cons}
use Rattle.std.specs.Option.{option_map_or}
use Rattle.wp_model.proofs.Demand.{lines_are}
use Rattle.wp_model.proofs.Elements.{All-at, within_some}
use Rattle.wp_model.proofs.Sums.{sum-add, sum-agree, sum-zero}
use Rattle.wp_model.specs.Book.{held_list, hold_of_any, order_held_list}
use Rattle.wp_model.specs.Demand.{order_demand, quantity_of}
use Rattle.wp_model.specs.Opening.{IsLine, IsOpening, Opening, line_units, lines_of, order_units}
use Rattle.wp_model.specs.Sound.{HoldsItsDemand, order_held, units_of}
use Rattle.wp_model.specs.State.{State, Wave}
use Rattle.wp_model.specs.Sums.{sum_below}
use Rattle.wp_model.specs.declared.row.Line.{Line}
use Rattle.wp_model.specs.declared.row.Row.{Row}
use Rattle.wp_planner.specs.Loads.{load_for, units_for}

-- what holds of one order at one row load for it
any_load : (order row units : ℕ) → load_for (hold_of_any order row units) order ≡ units
any_load order row units = elim (cases_eq units 0) [
  | inl none ↦ grind (arith, none)
  | inr some ↦ grind (arith, some)
]

-- and for another
any_other_load : (order other row units : ℕ) → other ≢ order → load_for (hold_of_any other row units) order ≡ 0
any_other_load order other row units differs = grind (arith, ne_eqb other order differs)

-- the holds of an order load all its units for it
own_load : (order rows : ℕ) (units : ℕ → ℕ) → load_for (order_held_list order rows units) order ≡ sum_below rows units
own_load order zero units = refl
own_load order (suc row) units =
    let split = sum_by-append (units_for order) (order_held_list order row units) (hold_of_any order row (units row)) in
    omega (arith, split, own_load order row units, any_load order row (units row))

-- and nothing for another
other_load : (order other rows : ℕ) (units : ℕ → ℕ) → other ≢ order → load_for (order_held_list other rows units) order ≡ 0
other_load order other zero units differs = refl
other_load order other (suc row) units differs =
    let split = sum_by-append (units_for order) (order_held_list other row units) (hold_of_any other row (units row)) in
    omega (arith, split, other_load order other row units differs, any_other_load order other row (units row) differs)

-- the holds of the first orders load nothing for one past them
pub load_past : (orders rows : ℕ) (held : ℕ → ℕ → ℕ) (order : ℕ) → orders ≤ order → load_for (held_list orders rows held) order ≡ 0
load_past zero rows held order past = refl
load_past (suc last) rows held order past =
    let split = sum_by-append (units_for order) (held_list last rows held) (order_held_list last rows (held last)) in
    omega (arith, split, load_past last rows held order (omega (arith, past)), other_load order last rows (held last) (λ e. absurd (omega (arith, past, e))))

-- and for each of them all that is held for it
pub load_of_held : (orders rows : ℕ) (held : ℕ → ℕ → ℕ) (order : ℕ) → order < orders → load_for (held_list orders rows held) order ≡ sum_below rows (held order)
load_of_held zero rows held order below = absurd (omega arith)
load_of_held (suc last) rows held order below =
    let split = sum_by-append (units_for order) (held_list last rows held) (order_held_list last rows (held last)) in
    elim (cases_eq last order) [
      | inl here ↦
          let own = subst (λ (o : ℕ). load_for (order_held_list last rows (held last)) o ≡ sum_below rows (held o)) here (own_load last rows (held last)) in
          omega (arith, split, load_past last rows held order (omega (arith, here)), own)
      | inr other ↦
          omega (arith, split, load_of_held last rows held order (omega (arith, below, other)), other_load order last rows (held last) other)
    ]

-- a sum of terms of which one alone may be some
sum-one : (n at units : ℕ) → at < n → sum_below n (λ k. if at == k then units else 0) ≡ units
sum-one zero at units within = absurd (omega arith)
sum-one (suc n) at units within = elim (cases_eq at n) [
  | inl here ↦
      let before = sum-zero n (λ k. if at == k then units
      else 0) (λ k below. cond-false (at == k) units 0 (ne_eqb at k (λ e. absurd (omega (arith, here, e, below))))) in
      omega (arith, before, cond-true (at == n) units 0 (eq-eqb at n here))
  | inr other ↦ omega (arith, sum-one n at units (omega (arith, within, other)), cond-false (at == n) units 0 (ne_eqb at n other))
]

-- sums in the one order and in the other
sum-swap : (m n : ℕ) (f : ℕ → ℕ → ℕ) → sum_below m (λ k. sum_below n (f k)) ≡ sum_below n (λ a. sum_below m (λ k. f k a))
sum-swap zero n f = sym (sum-zero n (λ a. 0) (λ k below. refl))
sum-swap (suc m) n f = ap (λ s. s + sum_below n (f m)) (sum-swap m n f) ∙ sym (sum-add n (λ a. sum_below m (λ k. f k a)) (f m))

-- a row's units are those that it has of the articles
of_articles : (rows : List Row) (articles : ℕ) (units : ℕ → ℕ) (k : ℕ) (r : Row) → slice_get rows k ≡ Some r → r.article < articles
    → sum_below articles (λ article. units_of rows article units k) ≡ units k
of_articles rows articles units k r there within =
    sum-agree articles (λ article. units_of rows article units k) (λ article. if r.article == article then units k else 0)
    (λ article below. ap (λ found. option_map_or (λ (x : Row). if x.article == article then units k else 0) found 0) there)
    ∙ sum-one articles r.article (units k) within

-- units in rows are those of the articles that lie there
by_article : (rows : List Row) (articles : ℕ) (units : ℕ → ℕ) → All (λ r. r.article < articles) rows
    → sum_below (length rows) units ≡ sum_below articles (λ article. sum_below (length rows) (units_of rows article units))
by_article rows articles units all =
    sum-agree (length rows) units (λ k. sum_below articles (λ article. units_of rows article units k))
    (λ k below.
    let r = within_some rows k below in
    sym (of_articles rows articles units k r.0 r.1 (All-at (λ (x : Row). x.article < articles) rows k r.0 all r.1)))
    ∙ sum-swap (length rows) articles (λ k article. units_of rows article units k)

-- what lines want of the articles is all that they want
wanted_by_article : (articles : List (List ℕ)) (lines : List Line) → All (IsLine articles) lines
    → sum_below (length articles) (λ article. sum_by (quantity_of article) lines) ≡ line_units lines
wanted_by_article articles [] all = sum-zero (length articles) (λ article. 0) (λ k below. refl)
wanted_by_article articles (line ∷ lines) all =
    let first : IsLine articles line = All-head (IsLine articles) line lines all in
    let rest = wanted_by_article articles lines (All-tail (IsLine articles) line lines all) in
    let split = sum-agree (length articles) (λ article. sum_by (quantity_of article) (line ∷ lines))
    (λ article. quantity_of article line + sum_by (quantity_of article) lines)
    (λ article below. sum_by-cons (quantity_of article) line lines) in
    let both = sum-add (length articles) (λ article. quantity_of article line) (λ article. sum_by (quantity_of article) lines) in
    let own = sum-one (length articles) line.article line.quantity first.article in
    omega (arith, split, both, own, rest, sum_by-cons (λ (l : Line). l.quantity) line lines)

-- a wave that holds just its demand holds for each order what the order's lines want together
pub holds_what_is_wanted : (opening : Opening) (state : State) (number : ℕ) (w : Wave) (order : ℕ) (name : List ℕ) → IsOpening opening
    → All (λ r. r.article < length opening.stock.articles) state.rows → HoldsItsDemand opening state number w → slice_get w.orders order ≡ Some name
    → sum_below (length state.rows) (state.held number order) ≡ order_units opening.orders name
holds_what_is_wanted opening state number w order name is rows holds named =
    let articles = opening.stock.articles in
    by_article state.rows (length articles) (state.held number order) rows
    ∙ (sum-agree (length articles) (λ article. order_held state number article order) (order_demand opening name)
    (λ article below. holds order article ∙ ap (λ found. option_map_or (λ o. order_demand opening o article) found 0) named)
    ∙ wanted_by_article articles (lines_of opening.orders name) (lines_are articles opening.orders name is.orders))
