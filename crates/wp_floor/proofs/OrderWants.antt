-- The wants of an order, line by line.
use Rattle.std.proofs.Common.{◌≡◌, refl, ℕ, zero, suc, ◌+◌, ◌^◌, ◌<◌, ◌≤◌, ◌==◌, Bool, true, false, inl, inr, List, [], ◌∷◌, length, take, get_or}
use Rattle.std.proofs.Common.{if◌then◌else◌, arith}
use Rattle.std.proofs.lemmas.Bool.{cases_lt}
use Rattle.std.proofs.lemmas.List.{length-take-le}
use Rattle.std.proofs.lemmas.List.Sums.{sum_by-take-le, sum_by_more}
use Rattle.std.proofs.lemmas.Option.{slice_get_within}
use Rattle.std.specs.List.{sum_by}
use Rattle.wp_allot.specs.Wants.{units_in, wanted_for}
use Rattle.wp_allot.specs.declared.want.Want.{Want}
use Rattle.wp_model.specs.Demand.{quantity_of}
use Rattle.wp_model.specs.Opening.{line_units}
use Rattle.wp_model.specs.declared.row.Line.{Line}
use Rattle.wp_floor.specs.WantLists.{AreBefore, AreSplit, HaveAdded, KeepArticles}

-- at first no line was added
pub added_none : (place : ℕ) (wants : List Want) → HaveAdded place [] wants wants
added_none place wants = record {
  wanted = λ article order. nothing (place == order) (wanted_for wants article order);
  units = omega arith;
  few = omega arith;
}
  where
    nothing : (b : Bool) (n : ℕ) → n ≡ n + (if b then 0 else 0)
    nothing true n = omega arith
    nothing false n = omega arith

-- one line more
joined : (b : Bool) (first next all : ℕ) → all ≡ first + next → (if b then first else 0) + (if b then 0 + next else 0) ≡ (if b then all else 0)
joined true first next all e = omega arith
joined false first next all e = refl

-- lines and then one more were added as lines of one order
pub added_more : (place : ℕ) (lines : List Line) (i : ℕ) (d : Line) (old now new : List Want) → i < length lines → HaveAdded place (take i lines) old now
    → HaveAdded place (get_or lines i d ∷ []) now new
    → HaveAdded place (take (i + 1) lines) old new
added_more place lines i d old now new within before one = record {
  wanted = λ article order.
      let more = joined (place == order) (sum_by (quantity_of article) (take i lines)) (quantity_of article (get_or lines i d))
      (sum_by (quantity_of article) (take (i + 1) lines))
      (sum_by_more (quantity_of article) lines i d within) in
      omega (arith, before.wanted article order, one.wanted article order, more);
  units = omega (arith, before.units, one.units, sum_by_more (λ (l : Line). l.quantity) lines i d within);
  few = omega (
    arith,
    before.few,
    one.few,
    length-take-le i lines (let le : i ≤ length lines = omega arith in le),
    length-take-le (i + 1) lines (let le : i + 1 ≤ length lines = omega arith in le),
  );
}

-- there is room for the units of one line more
pub fits_more : (place : ℕ) (lines : List Line) (i : ℕ) (d : Line) (old now : List Want) → i < length lines → units_in old + line_units lines < 2 ^ 64
    → HaveAdded place (take i lines) old now
    → units_in now + (get_or lines i d).quantity < 2 ^ 64
fits_more place lines i d old now within small before =
    omega (arith, before.units, sum_by_more (λ (l : Line). l.quantity) lines i d within, sum_by-take-le (λ (l : Line). l.quantity) lines (i + 1))

-- wants keep to the articles of all lines after one line more
pub articles_more : (lines : List Line) (i : ℕ) (d : Line) (old now new : List Want) → i < length lines → KeepArticles lines old now
    → KeepArticles (get_or lines i d ∷ []) now new → KeepArticles lines old new
articles_more lines i d old now new within before one articles each all = one articles (λ k e below. only k e below) (before articles each all)
  where
    only : (k : ℕ) (e : Line) → k < 1 → (get_or (get_or lines i d ∷ []) k e).article < articles
    only zero e below = each i d within
    only (suc k) e below = absurd (omega arith)

-- once an order has all its lines, its wants are before the next place
pub before_next : (start place : ℕ) (wants : List Want) → AreSplit start place wants → AreBefore (place + 1) wants
before_next start place wants split = record {
  orderly = split.orderly;
  within = omega arith;
  before = λ k w there within. elim (cases_lt k start) [
    | inl early ↦ omega (arith, split.before k w there early)
    | inr late ↦ omega (arith, split.from k w there late)
  ];
  from = λ k w there past. absurd (omega (arith, slice_get_within wants k w there));
}
