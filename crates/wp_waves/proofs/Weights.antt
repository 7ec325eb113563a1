-- Open orders that are covered together are covered wave by wave.
use Rattle.std.proofs.Common.{◌≡◌, ◌∙◌, refl, sym, ap, ℕ, zero, suc, ◌+◌, ◌-◌, ◌<◌, ◌≤◌, inl, inr, List, [], ◌∷◌, ◌++◌, length, map, Option, Some, None, subst}
use Rattle.std.proofs.Common.{arith}
use Rattle.std.proofs.lemmas.Bool.{cases_lt}
use Rattle.std.proofs.lemmas.List.Sorted.{sum_by-IsPermutation}
use Rattle.std.proofs.lemmas.List.Sums.{sum_by-append, sum_by-cons}
use Rattle.std.specs.List.Sorted.{IsPermutation}
use Rattle.std.specs.Option.{MatchOption, option_map_or}
use Rattle.std.specs.Prelude.{option_map}
use Rattle.wp_model.proofs.Demand.{first_short_is, wave_demand-other}
use Rattle.wp_model.specs.Demand.{AreCovered, IsFirstShort, demand_at, first_short, order_demand, wave_demand}
use Rattle.wp_model.specs.Opening.{IsOpening, Opening}
use Rattle.wp_model.specs.Sums.{sum_below}
use Rattle.wp_waves.specs.OpenOrders.{order_of}
use Rattle.wp_waves.specs.Turns.{free_after, served_if, served_in, shortage_in, shortage_of, turns_of}
use Rattle.wp_waves.specs.Weights.{AreCoveredInTurn, all_of, wanted_by, wanted_together}
use Rattle.wp_waves.specs.declared.free_stock.Shortage.{Shortage}
use Rattle.wp_waves.specs.declared.open_orders.OpenOrder.{OpenOrder}

-- a sum begins with its first term
first_of_sum : (n : ℕ) (f : ℕ → ℕ) → sum_below (suc n) f ≡ f 0 + sum_below n (λ k. f (suc k))
first_of_sum zero f = omega arith
first_of_sum (suc n) f = omega (arith, first_of_sum n f)

-- what a wave wants is what its open orders want together
pub wave_wants : (opening : Opening) (wave : List OpenOrder) (article : ℕ) → wave_demand opening (map order_of wave) article
    ≡ wanted_together opening wave article
wave_wants opening [] article = refl
wave_wants opening (one ∷ wave) article =
    first_of_sum (length (map order_of wave)) (demand_at opening (map order_of (one ∷ wave)) article)
    ∙ (ap (λ n. order_demand opening one.order article + n) (wave_wants opening wave article) ∙ sym (sum_by-cons (wanted_by opening article) one wave))

-- an order wants nothing of an article that the stock doesn't have
wants_none : (opening : Opening) (order : List ℕ) (article : ℕ) → IsOpening opening → length opening.stock.articles ≤ article
    → order_demand opening order article ≡ 0
wants_none opening order article is past = omega (arith, wave_demand-other opening (order ∷ []) article is past)

-- an order that is short of nothing is covered
covers : (opening : Opening) (free : ℕ → ℕ) (order : List ℕ) (article : ℕ) (found : Option ℕ) → IsOpening opening
    → option_map (λ (a : ℕ). let s : Shortage = record { article = a; wanted = order_demand opening order a; free = free a } in s) found ≡ None
    → MatchOption found (AreCovered (order_demand opening order) free 0 (length opening.stock.articles))
    (IsFirstShort (order_demand opening order) free 0 (length opening.stock.articles))
    → order_demand opening order article ≤ free article
covers opening free order article (Some short) is none first = absurd (cc none)
covers opening free order article None is none covered = elim (cases_lt article (length opening.stock.articles)) [
  | inl below ↦ covered article (omega arith) below
  | inr past ↦ omega (arith, wants_none opening order article is (omega arith))
]

pub served_is_covered : (opening : Opening) (free : ℕ → ℕ) (order : List ℕ) (article : ℕ) → IsOpening opening → shortage_of opening free order ≡ None
    → order_demand opening order article ≤ free article
served_is_covered opening free order article is none =
    covers opening free order article (first_short (order_demand opening order) free (length opening.stock.articles) 0) is none
    (first_short_is (order_demand opening order) free (length opening.stock.articles) 0 _ (omega arith))

-- what is free after a turn that came to this
abbrev left_by : Opening → (ℕ → ℕ) → List ℕ → Option Shortage → ℕ → ℕ
left_by opening free order short = option_map_or (λ s. free) short (λ article. free article - order_demand opening order article)

covered_if : (opening : Opening) (free : ℕ → ℕ) (one : OpenOrder) (served : List OpenOrder) (article : ℕ) (short : Option Shortage)
    → (short ≡ None → order_demand opening one.order article ≤ free article)
    → wanted_together opening served article ≤ left_by opening free one.order short article
    → wanted_together opening (served_if short one served) article ≤ free article
covered_if opening free one served article None enough rest = omega (arith, sum_by-cons (wanted_by opening article) one served, enough refl, rest)
covered_if opening free one served article (Some short) enough rest = rest

-- the orders that are served want no more together than is free
pub served_are_covered : (opening : Opening) (free : ℕ → ℕ) (listed : List OpenOrder) (article : ℕ) → IsOpening opening
    → wanted_together opening (served_in (turns_of opening free listed)) article ≤ free article
served_are_covered opening free [] article is = omega arith
served_are_covered opening free (one ∷ others) article is =
    covered_if opening free one (served_in (turns_of opening (free_after opening free one.order) others)) article (shortage_of opening free one.order)
    (served_is_covered opening free one.order article is) (served_are_covered opening (free_after opening free one.order) others article is)

in_turn : (opening : Opening) (free : ℕ → ℕ) (waves : List (List OpenOrder)) → ((article : ℕ) → wanted_together opening (all_of waves) article ≤ free article)
    → AreCoveredInTurn opening free waves
in_turn opening free [] covered = tt
in_turn opening free (wave ∷ waves) covered = (
  λ article. omega (arith, wave_wants opening wave article, sum_by-append (wanted_by opening article) wave (all_of waves), covered article),
  in_turn opening (λ article. free article - wave_demand opening (map order_of wave) article) waves
      (λ article. omega (arith, wave_wants opening wave article, sum_by-append (wanted_by opening article) wave (all_of waves), covered article)),
)

-- open orders that are covered together are covered wave by wave, in whatever waves they go
pub covered_in_turn : (opening : Opening) (free : ℕ → ℕ) (listed : List OpenOrder) (waves : List (List OpenOrder)) → IsPermutation listed (all_of waves)
    → ((article : ℕ) → wanted_together opening listed article ≤ free article) → AreCoveredInTurn opening free waves
covered_in_turn opening free listed waves same covered =
    in_turn opening free waves (λ article. omega (arith, sum_by-IsPermutation (wanted_by opening article) listed (all_of waves) same, covered article))
