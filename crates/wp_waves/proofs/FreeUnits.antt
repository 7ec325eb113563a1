-- What is left of what is free once lines were taken from it.
use Rattle.std.proofs.Common.{◌≡◌, ◌≢◌, ◌∙◌, refl, sym, ap, ℕ, ◌+◌, ◌<◌, ◌≤◌, ◌==◌, inl, inr, List, length, take, slice_index, slice_index_or, slice_set, subst}
use Rattle.std.proofs.Common.{arith}
use Rattle.std.proofs.Common.{All, eq-eqb, ne_eqb, length-set, get_or-set_same, get_or-set_other}
use Rattle.std.proofs.lemmas.Bool.{cases_eq, cond-false, cond-true}
use Rattle.std.proofs.lemmas.List.{get_or_default, take_all}
use Rattle.std.proofs.lemmas.List.Sums.{sum_by_more, sum_by_more_le}
use Rattle.std.proofs.lemmas.Option.{slice_get-get_or}
use Rattle.wp_model.proofs.Elements.{All-at}
use Rattle.wp_model.specs.Demand.{quantity_of}
use Rattle.wp_model.specs.declared.row.Line.{Line}
use Rattle.wp_waves.specs.Shortages.{HaveTaken}
use Rattle.wp_waves.specs.Turns.{lines_demand}
use Rattle.wp_waves.specs.declared.free_stock.FreeStock.{FreeStock}

own_quantity : (line : Line) → quantity_of line.article line ≡ line.quantity
own_quantity line = cond-true (line.article == line.article) line.quantity 0 (eq-eqb line.article line.article refl)

other_quantity : (article : ℕ) (line : Line) → line.article ≢ article → quantity_of article line ≡ 0
other_quantity article line other = cond-false (line.article == article) line.quantity 0 (ne_eqb line.article article other)

-- so many of the lines were taken from these units
pub record AreTaken (lines : List Line) (i : ℕ) (old units : List ℕ) : Type 0 where
  pub count : length units ≡ length old
  pub taken : (article : ℕ) → slice_index units article + lines_demand (take i lines) article ≡ slice_index old article

abbrev pub no_line : Line
no_line = record { article = 0; quantity = 0 }

-- the units of a line's article that were read, where those before it were taken
pub record IsNextLine (lines : List Line) (i : ℕ) (old units : List ℕ) (line : Line) (value : ℕ) : Type 0 where
  pub taken : AreTaken lines i old units
  pub within : i < length lines
  pub is : line ≡ slice_index_or lines i no_line
  pub known : line.article < length units
  pub read : value ≡ slice_index units line.article

-- what was read of a line's article
pub next_line : (lines : List Line) (i : ℕ) (old units : List ℕ) (value : ℕ) → All (λ (line : Line). line.article < length old) lines
    → AreTaken lines i old units → i < length lines
    → value ≡ slice_index_or units (slice_index_or lines i no_line).article value
    → IsNextLine lines i old units (slice_index_or lines i no_line) value
next_line lines i old units value within taken below read =
    let line = slice_index_or lines i no_line in
    let there = slice_get-get_or lines i no_line below in
    let known : line.article < length units = omega (arith, All-at (λ (l : Line). l.article < length old) lines i line within there, taken.count) in
    record {
      taken = taken;
      within = below;
      is = refl;
      known = known;
      read = read ∙ get_or_default units line.article value 0 known;
    }

wanted_more : (lines : List Line) (i article : ℕ) → i < length lines → lines_demand (take (i + 1) lines) article
    ≡ lines_demand (take i lines) article + quantity_of article (slice_index_or lines i no_line)
wanted_more lines i article below = sum_by_more (quantity_of article) lines i no_line below

-- there is enough for the line
pub enough_left : (lines : List Line) (i : ℕ) (old units : List ℕ) (line : Line) (value : ℕ) → IsNextLine lines i old units line value
    → ((article : ℕ) → lines_demand lines article ≤ slice_index old article) → line.quantity ≤ value
enough_left lines i old units line value next covered =
    let article = line.article in
    let one : quantity_of article (slice_index_or lines i no_line) ≡ line.quantity = ap (quantity_of article) (sym next.is) ∙ own_quantity line in
    omega (arith, next.taken.taken article, covered article, next.read, one, sum_by_more_le (quantity_of article) lines i no_line next.within)

-- one line more is taken
pub taken_more : (lines : List Line) (i : ℕ) (old units : List ℕ) (line : Line) (value left : ℕ) → IsNextLine lines i old units line value
    → left + line.quantity ≡ value → AreTaken lines (i + 1) old (slice_set units line.article left)
taken_more lines i old units line value left next less = record {
  count = length-set units line.article left ∙ next.taken.count;
  taken = λ article. elim (cases_eq article line.article) [
    | inl own ↦
        let now : slice_index (slice_set units line.article left) article ≡ left =
        ap (λ a. slice_index (slice_set units line.article left) a) own ∙ get_or-set_same units line.article left 0 next.known in
        let one : quantity_of article (slice_index_or lines i no_line) ≡ line.quantity =
        ap (λ a. quantity_of a (slice_index_or lines i no_line)) own ∙ (ap (quantity_of line.article) (sym next.is) ∙ own_quantity line) in
        omega (arith, now, one, less, next.read, ap (slice_index units) own, wanted_more lines i article next.within, next.taken.taken article)
    | inr other ↦
        let none : quantity_of article (slice_index_or lines i no_line) ≡ 0 =
        ap (quantity_of article) (sym next.is) ∙ other_quantity article line (λ e. other (sym e)) in
        omega (
          arith,
          get_or-set_other units line.article article left 0 other,
          none,
          wanted_more lines i article next.within,
          next.taken.taken article,
        )
  ];
}

-- all lines were taken
pub all_taken : (lines : List Line) (i : ℕ) (old new : FreeStock) → length lines ≤ i → AreTaken lines i old.units.items new.units.items
    → HaveTaken lines old new
all_taken lines i old new past are = record {
  count = are.count;
  taken = λ article. subst (λ (ls : List Line). slice_index new.units.items article + lines_demand ls article ≡ slice_index old.units.items article)
      (take_all i lines past) (are.taken article);
}
