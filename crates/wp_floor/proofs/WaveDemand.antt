-- What a wave wants, by its wants and by its orders.
use Rattle.std.proofs.Common.{◌≡◌, ◌∙◌, refl, sym, ap, ℕ, ◌+◌, ◌≤◌, ◌==◌, ◌&&◌, Bool, true, false, inl, inr, List, [], ◌∷◌, length, Option, Some, None}
use Rattle.std.proofs.Common.{MatchOption, if◌then◌else◌, arith, eq-eqb, ne_eqb}
use Rattle.std.proofs.Math.Path.{fun_ext}
use Rattle.std.proofs.lemmas.Bool.{and_right, cases_lt, cond-false}
use Rattle.std.proofs.lemmas.List.Sums.{sum_by-cons}
use Rattle.std.proofs.lemmas.Option.{slice_get_past}
use Rattle.std.specs.Option.{option_map_or}
use Rattle.wp_allot.specs.Wants.{IsFirstShort, IsShort, WantsBelow, units_for, units_of, wanted_for, wanted_of}
use Rattle.wp_allot.specs.declared.want.Short.{Short}
use Rattle.wp_allot.specs.declared.want.Want.{Want}
use Rattle.wp_model.proofs.Demand.{none_from_covered, short_article_is, wave_demand-other}
use Rattle.wp_model.specs.Demand.{AreCovered}
use Rattle.wp_model.specs.Demand as model
use Rattle.wp_model.proofs.Sums.{sum-add, sum-agree, sum-one_changed, sum-zero}
use Rattle.wp_model.specs.Demand.{demand_at, free_units, order_demand, short_article, wave_demand}
use Rattle.wp_model.specs.Opening.{IsOpening, Opening}
use Rattle.wp_model.specs.Sums.{sum_below}
use Rattle.wp_model.specs.declared.row.Row.{Row}
use Rattle.wp_floor.specs.Floor.{AreWantsOf}

-- one want, counted at its order
one_want : (want : Want) (article bound : ℕ) → (bound ≤ want.order → units_of article want ≡ 0)
    → sum_below bound (λ order. units_for article order want) ≡ units_of article want
one_want want article bound past = elim (cases_lt want.order bound) [
  | inl within ↦
      let others = sum-one_changed bound (λ order. units_for article order want) (λ order. 0) want.order within (λ k other.
      cond-false ((want.article == article) && (want.order == k)) want.quantity 0 (and_right _ _ (ne_eqb want.order k (λ e. other (sym e))))) in
      let own = at_own (want.article == article) (want.order == want.order) want.quantity (eq-eqb want.order want.order refl) in
      omega (arith, others, own, sum-zero bound (λ order. 0) (λ k below. refl))
  | inr beyond ↦
      let none = past beyond in
      sum-zero bound (λ order. units_for article order want) (λ k below.
      cond-false ((want.article == article) && (want.order == k)) want.quantity 0 (and_right _ _ (ne_eqb want.order k (λ e. absurd (omega arith))))) ∙ sym none
]
  where
    at_own : (a b : Bool) (q : ℕ) → b ≡ true → (if a && b then q else 0) ≡ (if a then q else 0)
    at_own true b q e = ap (λ t. if t then q else 0) e
    at_own false b q e = refl

-- how much of an article is wanted in all is the sum of what is wanted for the orders
pub wanted_total : (wants : List Want) (article bound : ℕ) → WantsBelow wants bound → wanted_of wants article ≡ sum_below bound (wanted_for wants article)
wanted_total [] article bound below = sym (sum-zero bound (wanted_for [] article) (λ k within. refl))
wanted_total (want ∷ wants) article bound below =
    let parts : (a o : ℕ) → wanted_for (want ∷ wants) a o ≡ units_for a o want + wanted_for wants a o = λ a o. sum_by-cons (units_for a o) want wants in
    let rest = wanted_total wants article bound (λ a o past. omega (arith, below a o past, parts a o)) in
    let here = one_want want article bound (λ past. own past) in
    omega (
      arith,
      sum_by-cons (units_of article) want wants,
      sum-agree bound (wanted_for (want ∷ wants) article) (λ o. units_for article o want + wanted_for wants article o) (λ o within. parts article o),
      sum-add bound (λ o. units_for article o want) (wanted_for wants article),
      here,
      rest,
    )
  where
    own_if : (a b : Bool) (q : ℕ) → b ≡ true → (if a && b then q else 0) ≡ 0 → (if a then q else 0) ≡ 0
    own_if true b q e none = sym (ap (λ t. if t then q else 0) e) ∙ none
    own_if false b q e none = refl

    own : bound ≤ want.order → units_of article want ≡ 0
    own past =
        own_if (want.article == article) (want.order == want.order) want.quantity (eq-eqb want.order want.order refl)
        (omega (arith, below article want.order past, sum_by-cons (units_for article want.order) want wants))

-- the wants of orders want what the orders do
pub demand_is : (opening : Opening) (orders : List (List ℕ)) (wants : List Want) → AreWantsOf opening orders wants → wanted_for wants ≡ demand_at opening orders
demand_is opening orders wants are = fun_ext (λ article. fun_ext (λ place. are.demand article place))

-- the wants of orders want nothing for a place past the orders
pub wants_below : (opening : Opening) (orders : List (List ℕ)) (wants : List Want) → AreWantsOf opening orders wants → WantsBelow wants (length orders)
wants_below opening orders wants are article place past =
    are.demand article place ∙ ap (λ found. option_map_or (λ order. order_demand opening order article) found 0) (slice_get_past orders place past)

-- the wants of orders want as much of an article in all as the orders do
pub wanted_is : (opening : Opening) (orders : List (List ℕ)) (wants : List Want) (article : ℕ) → AreWantsOf opening orders wants
    → wanted_of wants article ≡ wave_demand opening orders article
wanted_is opening orders wants article are =
    wanted_total wants article (length orders) (wants_below opening orders wants are) ∙ sum-agree (length orders) _ _ (λ place within. are.demand article place)

-- nothing is wanted of an article that the stock doesn't have
abbrev pub NothingPast : Opening → List Want → Type 0
NothingPast opening wants = (article : ℕ) → length opening.stock.articles ≤ article → wanted_of wants article ≡ 0

-- the wants of orders want nothing of an article that the stock doesn't have
pub nothing_past : (opening : Opening) (orders : List (List ℕ)) (wants : List Want) → IsOpening opening → AreWantsOf opening orders wants
    → NothingPast opening wants
nothing_past opening orders wants is are article past = wanted_is opening orders wants article are ∙ wave_demand-other opening orders article is past

-- there is enough for the wants where there is for the orders
pub enough_for : (opening : Opening) (rows : List Row) (orders : List (List ℕ)) (wants : List Want) → AreWantsOf opening orders wants
    → IsShort rows wants None None → short_article opening rows orders None ≡ None
enough_for opening rows orders wants are enough =
    none_from_covered opening rows orders None (λ article. omega (arith, wanted_is opening orders wants article are, enough article))

-- what is found for the orders is the first article that is short for their wants
short_for : (opening : Opening) (rows : List Row) (orders : List (List ℕ)) (wants : List Want) (short : Short) (found : Option ℕ) → IsOpening opening
    → AreWantsOf opening orders wants → IsFirstShort rows wants None short
    → MatchOption found (AreCovered (wave_demand opening orders) (λ article. free_units rows article None) 0 (length opening.stock.articles))
    (model.IsFirstShort (wave_demand opening orders) (λ article. free_units rows article None) 0 (length opening.stock.articles))
    → found ≡ Some short.article
short_for opening rows orders wants short None is are first covered =
    let wanted = wanted_is opening orders wants short.article are in
    elim (cases_lt short.article (length opening.stock.articles)) [
      | inl within ↦ absurd (omega (arith, covered short.article (omega arith) within, wanted, first.wanted, first.free, first.less))
      | inr past ↦ absurd (omega (arith, wave_demand-other opening orders short.article is past, wanted, first.wanted, first.less))
    ]
short_for opening rows orders wants short (Some article) is are first found =
    let wanted = wanted_is opening orders wants short.article are in
    let other = wanted_is opening orders wants article are in
    elim (cases_lt article short.article) [
      | inl before ↦ absurd (omega (arith, first.first article before, other, found.short))
      | inr after ↦ elim (cases_lt short.article article) [
        | inl later ↦ absurd (omega (arith, found.before short.article (omega arith) later, wanted, first.wanted, first.free, first.less))
        | inr same ↦ ap Some (omega arith)
      ]
    ]

-- the first article that is short for the wants of orders is the first that is short for the orders
pub short_is : (opening : Opening) (rows : List Row) (orders : List (List ℕ)) (wants : List Want) (short : Short) → IsOpening opening
    → AreWantsOf opening orders wants → IsFirstShort rows wants None short
    → short_article opening rows orders None ≡ Some short.article
short_is opening rows orders wants short is are first = short_for opening rows orders wants short (short_article opening rows orders None) is are first
    (short_article_is opening rows orders None)
