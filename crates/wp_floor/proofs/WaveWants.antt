-- The wants of a wave's orders, order by order.
use Rattle.std.proofs.Common.{◌≡◌, ◌∙◌, refl, sym, ap, ℕ, ◌+◌, ◌^◌, ◌<◌, ◌≤◌, ◌==◌, inl, inr, List, [], length, Some, All, slice_get, arith, eq-eqb}
use Rattle.std.proofs.Common.{ne_eqb}
use Rattle.std.proofs.lemmas.Bool.{cases_eq, cases_lt, cond-false, cond-true}
use Rattle.std.proofs.lemmas.List.Sorted.{All-permutation, length_permutation, sum_by-IsPermutation}
use Rattle.std.proofs.lemmas.Option.{slice_get_past}
use Rattle.std.specs.List.{sum_by}
use Rattle.std.specs.List.Sorted.{IsPermutation}
use Rattle.std.specs.Option.{option_map_or}
use Rattle.wp_allot.specs.Wants.{AreGathered, units_for, units_in, wanted_for}
use Rattle.wp_allot.specs.declared.want.Want.{Want}
use Rattle.wp_model.proofs.Demand.{few_units}
use Rattle.wp_model.specs.Demand.{demand_at, order_demand, quantity_of}
use Rattle.wp_model.specs.Opening.{IsLine, Opening, line_units, lines_of}
use Rattle.wp_model.specs.Limits.{most_lines, most_wave_orders}
use Rattle.wp_model.specs.declared.row.Line.{Line}
use Rattle.wp_floor.specs.Floor.{AreWantsOf}
use Rattle.wp_floor.specs.WantLists.{AreBefore, AreListedWants, AreWantsBefore, HaveAdded, KeepArticles}

-- the wants of no order
pub none_before : (opening : Opening) (orders : List (List ℕ)) → AreWantsBefore opening orders 0 []
none_before opening orders = record {
  before = record {
    orderly = record {
      ordered = λ i j v w earlier at_i at_j. absurd (cc);
      once = λ i j v w at_i at_j same_order same_article. absurd (cc);
      some = λ k d within. absurd (omega arith);
    };
    within = omega arith;
    before = λ k w there early. absurd (cc);
    from = λ k w there late. absurd (cc);
  };
  demand = λ article order early. absurd (omega arith);
  rest = λ article order late. refl;
  within = λ k d within. absurd (omega arith);
  units = omega arith;
  few = omega arith;
}

-- there is room for the units of one order more
pub fits_order : (opening : Opening) (orders : List (List ℕ)) (place : ℕ) (lines : List Line) (wants : List Want) → place < length orders
    → length orders ≤ most_wave_orders → All (IsLine opening.stock.articles) lines → length lines ≤ most_lines
    → AreWantsBefore opening orders place wants → units_in wants + line_units lines < 2 ^ 64
fits_order opening orders place lines wants within most each few are = omega (arith, are.units, few_units opening.stock.articles lines each few)

-- once an order has all its lines, the wants are those of one order more
pub order_more : (opening : Opening) (orders : List (List ℕ)) (place : ℕ) (order : List ℕ) (lines : List Line) (old new : List Want)
    → slice_get orders place ≡ Some order → lines ≡ lines_of opening.orders order
    → All (IsLine opening.stock.articles) lines → length lines ≤ most_lines → AreBefore (place + 1) new → HaveAdded place lines old new
    → KeepArticles lines old new → AreWantsBefore opening orders place old
    → AreWantsBefore opening orders (place + 1) new
order_more opening orders place order lines old new there is each few before added articles was = record {
  before = before;
  demand = λ article at early. elim (cases_eq at place) [
    | inl here ↦
        let own : sum_by (quantity_of article) lines ≡ demand_at opening orders article place =
        ap (sum_by (quantity_of article)) is ∙ sym (ap (λ found. option_map_or (λ name. order_demand opening name article) found 0) there) in
        omega (
          arith,
          added.wanted article place,
          was.rest article place (omega arith),
          cond-true (place == place) (sum_by (quantity_of article) lines) 0 (eq-eqb place place refl),
          own,
          ap (wanted_for new article) here,
          ap (demand_at opening orders article) here,
        )
    | inr other ↦
        omega (
          arith,
          added.wanted article at,
          was.demand article at (omega arith),
          cond-false (place == at) (sum_by (quantity_of article) lines) 0 (ne_eqb place at (λ e. other (sym e))),
        )
  ];
  rest = λ article at late.
      omega (
        arith,
        added.wanted article at,
        was.rest article at (omega arith),
        cond-false (place == at) (sum_by (quantity_of article) lines) 0 (ne_eqb place at (λ e. absurd (omega arith))),
      );
  within = articles (length opening.stock.articles) (λ k d within. (each k d within).article) was.within;
  units = omega (arith, added.units, was.units, few_units opening.stock.articles lines each few);
  few = omega (arith, added.few, was.few);
}

-- the wants of all orders of a wave are the wave's, order by order
pub are_wants : (opening : Opening) (orders : List (List ℕ)) (wants : List Want) → length orders ≤ most_wave_orders
    → AreWantsBefore opening orders (length orders) wants → AreListedWants opening orders wants
are_wants opening orders wants most are = record {
  demand = λ article place. elim (cases_lt place (length orders)) [
    | inl early ↦ are.demand article place early
    | inr past ↦ are.rest article place past ∙ sym (ap (λ found. option_map_or (λ name. order_demand opening name article) found 0)
        (slice_get_past orders place past))
  ];
  regular = record {
    ordered = are.before.orderly.ordered;
    once = are.before.orderly.once;
    some = are.before.orderly.some;
    small = omega (arith, are.units);
  };
  within = are.within;
  few = omega (arith, are.few);
}

-- and once they are gathered, article by article
pub are_gathered : (opening : Opening) (orders : List (List ℕ)) (old new : List Want) → AreListedWants opening orders old → IsPermutation old new
    → AreGathered new → AreWantsOf opening orders new
are_gathered opening orders old new are same gathered = record {
  demand = λ article place. sum_by-IsPermutation (units_for article place) old new same ∙ are.demand article place;
  gathered = gathered;
  within = All-permutation (λ (want : Want). want.article < length opening.stock.articles) old new same are.within;
  few = omega (arith, length_permutation old new same, are.few);
}
