-- What a wave's orders want, gathered line by line.
use Rattle.std.specs.Prelude.{◌≡◌, ℕ, ◌+◌, ◌*◌, ◌<◌, ◌≤◌, ◌==◌, List, length, Some, if◌then◌else◌, slice_get}
use Rattle.std.specs.List.{All, sum_by}
use Rattle.wp_allot.specs.Wants.{AreRegular, units_in, wanted_for}
use Rattle.wp_allot.specs.declared.want.Want.{Want}
use Rattle.wp_model.specs.Demand.{demand_at, quantity_of}
use Rattle.wp_model.specs.Opening.{Opening, line_units}
use Rattle.wp_model.specs.Limits.{most_lines, most_quantity}
use Rattle.wp_model.specs.declared.row.Line.{Line}
use Rattle.wp_floor.specs.Floor.{most_wants}

-- each line is of at least one unit
abbrev pub AreSome : List Line → Type 0
AreSome lines = All (λ (line : Line). 0 < line.quantity) lines

-- wants go by their orders, no order has two of one article, and each is of at least one unit
pub record AreOrderly (wants : List Want) : Type 0 where
  pub ordered : (i j : ℕ) (v w : Want) → i < j → slice_get wants i ≡ Some v → slice_get wants j ≡ Some w
      → v.order ≤ w.order
  pub once : (i j : ℕ) (v w : Want) → slice_get wants i ≡ Some v → slice_get wants j ≡ Some w → v.order ≡ w.order
      → v.article ≡ w.article → i ≡ j
  pub some : All (λ (want : Want). 0 < want.quantity) wants

-- the wants before a start are for the orders before a place, and those from the start on for the order at the place
pub record AreSplit (start place : ℕ) (wants : List Want) : Type 0 where
  pub orderly : AreOrderly wants
  pub within : start ≤ length wants
  pub before : (k : ℕ) (w : Want) → slice_get wants k ≡ Some w → k < start → w.order < place
  pub from : (k : ℕ) (w : Want) → slice_get wants k ≡ Some w → start ≤ k → w.order ≡ place

-- all wants are for the orders before a place
abbrev pub AreBefore : ℕ → List Want → Type 0
AreBefore place wants = AreSplit (length wants) place wants

-- lines were added to what the order at a place wants
pub record HaveAdded (place : ℕ) (lines : List Line) (old new : List Want) : Type 0 where
  pub wanted : (article order : ℕ) → wanted_for new article order ≡ wanted_for old article order +
      (if place == order then sum_by (quantity_of article) lines else 0)
  pub units : units_in new ≡ units_in old + line_units lines
  pub few : length new ≤ length old + length lines

-- wants are of the articles that they and the lines were of
abbrev pub KeepArticles : List Line → List Want → List Want → Type 0
KeepArticles lines old new =
    (articles : ℕ) → All (λ (line : Line). line.article < articles) lines
    → All (λ (want : Want). want.article < articles) old
    → All (λ (want : Want). want.article < articles) new

-- wants are those of the orders before a place
pub record AreWantsBefore (opening : Opening) (orders : List (List ℕ)) (place : ℕ) (wants : List Want) : Type 0 where
  pub before : AreBefore place wants
  pub demand : (article order : ℕ) → order < place
      → wanted_for wants article order ≡ demand_at opening orders article order
  pub rest : (article order : ℕ) → place ≤ order → wanted_for wants article order ≡ 0
  pub within : All (λ (want : Want). want.article < length opening.stock.articles) wants
  pub units : units_in wants ≤ most_lines * most_quantity * place
  pub few : length wants ≤ most_lines * place

-- wants are those of orders, order by order
pub record AreListedWants (opening : Opening) (orders : List (List ℕ)) (wants : List Want) : Type 0 where
  pub demand : (article place : ℕ) → wanted_for wants article place ≡ demand_at opening orders article place
  pub regular : AreRegular wants
  pub within : All (λ (want : Want). want.article < length opening.stock.articles) wants
  pub few : length wants ≤ most_wants
