-- What an allotment leaves as it was: rows of which no order takes a unit.
use Rattle.std.proofs.Common.{◌≡◌, ◌∙◌, refl, ap, ℕ, ◌+◌, ◌-◌, inl, inr, List, Option, Some, None, option_map, slice_get, arith}
use Rattle.std.proofs.lemmas.Bool.{cases_eq}
use Rattle.std.proofs.lemmas.Bool.Decides.{nat_tests}
use Rattle.std.specs.Option.{option_map_or}
use Rattle.wp_model.proofs.Overlap.{overlap-le-demand, overlap-le-offer}
use Rattle.wp_model.proofs.Rows.{slice_get-change_rows}
use Rattle.wp_model.proofs.Share.{share-at, share-some}
use Rattle.wp_model.proofs.Sums.{sum-zero}
use Rattle.wp_model.specs.Book.{Book}
use Rattle.wp_model.specs.Change.{hold_units, share}
use Rattle.wp_model.specs.Demand.{offer_at, offer_of}
use Rattle.wp_model.specs.Sums.{sum_below}
use Rattle.wp_model.specs.declared.row.Row.{Row}
use Rattle.wp_allot.proofs.AllottedUnits.{past_all, past_all-is}
use Rattle.wp_allot.proofs.WantSums.{wanted_for-le}
use Rattle.wp_allot.specs.UntouchedStock.{KeepsExcepted, KeepsOtherArticles}
use Rattle.wp_allot.specs.Wants.{IsAllotted, wanted_for, wanted_of}
use Rattle.wp_allot.specs.declared.want.Want.{Want}

-- an order takes nothing from a row of an article of which no unit is wanted
none_from_unwanted : (rows : List Row) (wants : List Want) (except : Option ℕ) (order k : ℕ) (r : Row) → slice_get rows k ≡ Some r
    → wanted_of wants r.article ≡ 0 → share (wanted_for wants) rows except order k ≡ 0
none_from_unwanted rows wants except order k r there none =
    omega (
      arith,
      share-at (wanted_for wants) rows except order k r there,
      overlap-le-demand (wanted_for wants r.article) (offer_at rows r.article except) order k,
      wanted_for-le wants r.article order,
      none,
    )

-- the excepted row offers nothing
offer_excepted : (rows : List Row) (article row : ℕ) (r : Row) → slice_get rows row ≡ Some r → offer_at rows article (Some row) row ≡ 0
offer_excepted rows article row r there =
    let none : offer_of article (Some row) row r ≡ 0 = grind (arith, nat_tests) in
    ap (λ (found : Option Row). option_map_or (offer_of article (Some row) row) found 0) there ∙ none

-- an order takes nothing from the excepted row
pub none_from_excepted : (demand : ℕ → ℕ → ℕ) (rows : List Row) (order row : ℕ) → share demand rows (Some row) order row ≡ 0
none_from_excepted demand rows order row = elim (cases_eq (share demand rows (Some row) order row) 0) [
  | inl none ↦ none
  | inr some ↦
      let found = share-some demand rows (Some row) order row some in
      let r = found.0 in
      omega (
        arith,
        share-at demand rows (Some row) order row r found.1,
        overlap-le-offer (demand r.article) (offer_at rows r.article (Some row)) order row,
        offer_excepted rows r.article row r found.1,
      )
]

none_held : (units : ℕ) (r : Row) → units ≡ 0 → hold_units units r ≡ r
none_held units r none =
    let free : r.free - units ≡ r.free = omega (arith, none) in
    let held : r.held + units ≡ r.held = omega (arith, none) in
    rw (free, held) refl

-- the row at a place from which no order takes a unit is the same
same_row : (wave : ℕ) (wants : List Want) (except : Option ℕ) (old new : Book) (k : ℕ) → IsAllotted wave wants except old new
    → ((order : ℕ) → share (wanted_for wants) old.rows except order k ≡ 0) → slice_get new.rows k ≡ slice_get old.rows k
same_row wave wants except old new k is none =
    let orders = past_all wants in
    let units = λ (row : ℕ). sum_below orders (λ order. share (wanted_for wants) old.rows except order row) in
    let nothing : units k ≡ 0 = sum-zero orders (λ order. share (wanted_for wants) old.rows except order k) (λ order below. none order) in
    ap (λ (rows : List Row). slice_get rows k) (is.rows orders (past_all-is wants))
    ∙ (slice_get-change_rows (λ row. hold_units (units row)) old.rows k ∙ unchanged (slice_get old.rows k) (units k) nothing)
  where
    unchanged : (found : Option Row) (n : ℕ) → n ≡ 0 → option_map (hold_units n) found ≡ found
    unchanged None n zero = refl
    unchanged (Some r) n zero = ap Some (none_held n r zero)

-- rows of articles of which no unit is wanted are the same
pub keeps_other_articles : (wave : ℕ) (wants : List Want) (except : Option ℕ) (old new : Book) → IsAllotted wave wants except old new
    → KeepsOtherArticles wants old.rows new.rows
keeps_other_articles wave wants except old new is place row there none =
    same_row wave wants except old new place is (λ order. none_from_unwanted old.rows wants except order place row there none) ∙ there

-- and so is the excepted row
pub keeps_excepted : (wave : ℕ) (wants : List Want) (except : Option ℕ) (old new : Book) → IsAllotted wave wants except old new
    → KeepsExcepted except old.rows new.rows
keeps_excepted wave wants except old new is place same =
    same_row wave wants except old new place is (λ order. ap (λ (e : Option ℕ). share (wanted_for wants) old.rows e order place) same
    ∙ none_from_excepted (wanted_for wants) old.rows order place)
