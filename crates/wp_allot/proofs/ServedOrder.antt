-- An order that is served row by row.
use Rattle.std.proofs.Common.{◌≡◌, ◌∙◌, refl, sym, ap, subst, ℕ, suc, ◌+◌, ◌-◌, ◌<◌, ◌≤◌, ◌==◌, ◌&&◌, inl, inr, min, max, List, length}
use Rattle.std.proofs.Common.{Option, Some, slice_get, if◌then◌else◌, arith, eq-eqb, ne_eqb}
use Rattle.std.proofs.lemmas.Bool.{and_from, and_left, and_right, cases_eq, cases_lt, cond-false, cond-true}
use Rattle.wp_model.proofs.Sums.{sum-grows}
use Rattle.wp_model.specs.Book.{hold_for, units_for}
use Rattle.wp_model.specs.Demand.{offer_at}
use Rattle.wp_model.specs.Sums.{sum_below}
use Rattle.wp_model.specs.declared.row.Hold.{Hold}
use Rattle.wp_model.specs.declared.row.Row.{Row}
use Rattle.wp_book.specs.ArticleRows.{rows_of}
use Rattle.wp_book.specs.Room.{Content}
use Rattle.wp_allot.proofs.ArticleOffers.{is_place, offers_whole}
use Rattle.wp_allot.proofs.SingleHolds.{HasPut}
use Rattle.wp_allot.specs.DealtUnits.{CanServe, IsServed, offer_in, part, position, rows_from}
use Rattle.wp_allot.specs.declared.mark.Mark.{Mark}
use Rattle.wp_allot.specs.declared.want.Want.{Want}

-- a few units more, all of one row, are in that row's part of the interval alone
pub part_more : (offer : ℕ → ℕ) (from to units row k : ℕ) → from ≤ to → sum_below row offer ≤ to → to + units ≤ sum_below (suc row) offer
    → part offer from (to + units) k ≡ part offer from to k + (if k == row then units else 0)
part_more offer from to units row k past begun within = elim (cases_eq k row) [
  | inl here ↦
      let all = cond-true (k == row) units 0 (eq-eqb k row here) in
      omega (arith, all, ap (λ n. sum_below n offer) here, ap (λ n. sum_below (suc n) offer) here)
  | inr other ↦
      let none = cond-false (k == row) units 0 (ne_eqb k row other) in
      elim (cases_lt k row) [
        | inl before ↦ omega (arith, none, sum-grows (suc k) row offer (omega arith))
        | inr after ↦ omega (arith, none, sum-grows (suc row) k offer (omega arith), sum-grows row (suc row) offer (omega arith))
      ]
]

-- an order that still wants units comes to a row that has none of its holds
pub record IsServing (rows : List Row) (want : Want) (except : Option ℕ) (wanted : ℕ) (mark mark' : Mark) (room room' : Content) : Type 0 where
  pub served : IsServed rows want except wanted mark mark' room room'
  pub new_row : 0 < wanted → position (offer_in rows want.article except) mark' ≤ max (position (offer_in rows want.article except) mark)
      (sum_below mark'.place (offer_in rows want.article except))

-- the place that comes next has a row of the article
pub place_within : (rows : List Row) (want : Want) (except : Option ℕ) (wanted : ℕ) (mark mark' : Mark) (room room' : Content)
    → CanServe rows want except mark room → IsServing rows want except wanted mark mark' room room' → 0 < wanted
    → mark'.place < length (rows_of want.article rows)
place_within rows want except wanted mark mark' room room' can is some =
    let places = length (rows_of want.article rows) in
    elim (cases_lt mark'.place places) [
      | inl within ↦ within
      | inr past ↦
          absurd (omega (
            arith,
            is.served.dealt,
            can.enough,
            offers_whole rows want.article except,
            sum-grows places mark'.place (offer_in rows want.article except) past,
          ))
    ]

-- and the order has no hold there where the row offers units
pub none_there : (rows : List Row) (want : Want) (except : Option ℕ) (wanted row : ℕ) (mark mark' : Mark) (room room' : Content)
    → CanServe rows want except mark room → IsServing rows want except wanted mark mark' room room' → 0 < wanted
    → slice_get (rows_of want.article rows) mark'.place ≡ Some row → 0 < offer_at rows want.article except row
    → units_for room'.holds want.order row ≡ 0
none_there rows want except wanted row mark mark' room room' can is some there offered =
    let line = offer_in rows want.article except in
    let all = cond-true (want.order == want.order) (part (offer_at rows want.article except) (position line mark) (position line mark') row) 0
    (eq-eqb want.order want.order refl) in
    omega (
      arith,
      is.served.units want.order row,
      all,
      can.fresh row offered,
      is.new_row some,
      (is_place rows want.article except mark'.place row there).before,
    )

-- the mark after units of its row
abbrev pub passed : Mark → ℕ → ℕ → Mark
passed mark units left = if units == left then record { place = mark.place + 1; taken = 0 } else record mark { taken = mark.taken + units }

-- what is true of the mark that comes after units of its row were dealt, of which so many are still wanted
pub record HasPassed (offer : ℕ → ℕ) (mark mark' : Mark) (units wanted : ℕ) (rows : List Row) (article : ℕ) : Type 0 where
  pub taken : mark'.taken ≤ offer mark'.place
  pub moved : position offer mark' ≡ position offer mark + units
  pub begins : 0 < wanted → position offer mark' ≡ sum_below mark'.place offer
  pub space : rows_from rows article mark'.place + min 1 units + min 1 wanted ≤ rows_from rows article mark.place + 1

-- the mark is such where as many units were dealt as are wanted and left in its row
pub has_passed : (rows : List Row) (article : ℕ) (except : Option ℕ) (mark mark' : Mark) (wanted left units : ℕ)
    → mark.place < length (rows_of article rows) → 0 < wanted → mark.taken + left ≡ offer_in rows article except mark.place
    → units ≡ min wanted left → mark' ≡ passed mark units left → HasPassed (offer_in rows article except) mark mark' units (wanted - units) rows article
has_passed rows article except mark mark' wanted left units within some rest least e =
    let offer = offer_in rows article except in
    elim (cases_eq units left) [
      | inl all ↦
          let is : mark' ≡ (record { place = mark.place + 1; taken = 0 }) = e ∙ cond-true (units == left) _ _ (eq-eqb units left all) in
          let more : sum_below (mark.place + 1) offer ≡ sum_below mark.place offer + offer mark.place =
          ap (λ n. sum_below n offer) {x = mark.place + 1} {y = suc mark.place} (omega arith) in
          subst (λ (mark' : Mark). HasPassed offer mark mark' units (wanted - units) rows article) (sym is) (record {
            taken = omega arith;
            moved = omega (arith, more);
            begins = λ wants. omega arith;
            space = omega (arith, within);
          })
      | inr some_left ↦
          let is : mark' ≡ (record mark { taken = mark.taken + units }) = e ∙ cond-false (units == left) _ _ (ne_eqb units left some_left) in
          subst (λ (mark' : Mark). HasPassed offer mark mark' units (wanted - units) rows article) (sym is) (record {
            taken = omega arith;
            moved = omega arith;
            begins = λ wants. absurd (omega arith);
            space = omega arith;
          })
    ]

-- the units of a hold for the order
held_once : (order row : ℕ) (hold : Hold) → hold.order ≡ order → hold_for order row hold ≡ (if row == hold.row then hold.quantity else 0)
held_once order row hold same = elim (cases_eq row hold.row) [
  | inl here ↦
      cond-true ((hold.order == order) && (hold.row == row)) hold.quantity 0 (and_from _ _ (eq-eqb hold.order order same) (eq-eqb hold.row row (sym here)))
      ∙ sym (cond-true (row == hold.row) hold.quantity 0 (eq-eqb row hold.row here))
  | inr other ↦
      cond-false ((hold.order == order) && (hold.row == row)) hold.quantity 0 (and_right _ _ (ne_eqb hold.row row (λ e. other (sym e))))
      ∙ sym (cond-false (row == hold.row) hold.quantity 0 (ne_eqb row hold.row other))
]

-- the order was served with the units of one row more
pub serving_more : (rows : List Row) (want : Want) (except : Option ℕ) (wanted units row : ℕ) (mark mark' mark'' : Mark) (room room' room'' : Content)
    → CanServe rows want except mark room → IsServing rows want except wanted mark mark' room room' → 0 < wanted → units ≤ wanted
    → slice_get (rows_of want.article rows) mark'.place ≡ Some row → mark'.taken + units ≤ offer_at rows want.article except row
    → HasPut rows room' room'' (record { order = want.order; row = row; quantity = units })
    → HasPassed (offer_in rows want.article except) mark' mark'' units (wanted - units) rows want.article
    → IsServing rows want except (wanted - units) mark mark'' room room''
serving_more rows want except wanted units row mark mark' mark'' room room' room'' can is any upto there within put pass =
    record {
      served = record {
        most = omega (arith, is.served.most);
        taken = pass.taken;
        dealt = omega (arith, is.served.dealt, pass.moved);
        single = put.single;
        size = put.size ∙ is.served.size;
        space = omega (arith, is.served.space, put.long, pass.space);
        few = omega (arith, is.served.few, put.long);
        units = λ order at. units_more order at;
      };
      new_row = λ some. omega (arith, pass.begins some);
    }
  where
    units_more : (order at : ℕ) → units_for room''.holds order at ≡ units_for room.holds order at +
        (if order == want.order then part (offer_at rows want.article except) (position (offer_in rows want.article except) mark)
        (position (offer_in rows want.article except) mark'') at else 0)
    units_more order at =
        let offer = offer_at rows want.article except in
        let from = position (offer_in rows want.article except) mark in
        let to = position (offer_in rows want.article except) mark' in
        let hold : Hold = record { order = want.order; row = row; quantity = units } in
        let place = is_place rows want.article except mark'.place row there in
        elim (cases_eq order want.order) [
          | inl same ↦
              let more = part_more offer from to units row at (omega (arith, is.served.dealt, is.served.most)) (omega (arith, place.before))
              (omega (arith, within, place.before)) in
              let moved = ap (λ n. part offer from n at) pass.moved in
              let before = cond-true (order == want.order) (part offer from to at) 0 (eq-eqb order want.order same) in
              let after = cond-true (order == want.order) (part offer from (position (offer_in rows want.article except) mark'') at) 0
              (eq-eqb order want.order same) in
              let one : hold_for order at hold ≡ (if at == row then units else 0) = held_once order at hold (sym same) in
              omega (arith, is.served.units order at, put.units order at, more, moved, before, after, one)
          | inr other ↦
              let before = cond-false (order == want.order) (part offer from to at) 0 (ne_eqb order want.order other) in
              let after = cond-false (order == want.order) (part offer from (position (offer_in rows want.article except) mark'') at) 0
              (ne_eqb order want.order other) in
              let none = cond-false ((want.order == order) && (row == at)) units 0 (and_left _ _ (ne_eqb want.order order (λ e. other (sym e)))) in
              omega (arith, is.served.units order at, put.units order at, before, after, none)
        ]

-- fewer units are wanted, or fewer rows are left
pub fewer_left : (n : ℕ) (mark mark' : Mark) (wanted left units : ℕ) → mark.place < n → 0 < wanted → units ≡ min wanted left → mark' ≡ passed mark units left
    → wanted - units + (n - mark'.place) < wanted + (n - mark.place)
fewer_left n mark mark' wanted left units within some least e = elim (cases_eq units left) [
  | inl all ↦
      let next = ap (λ (m : Mark). m.place) (e ∙ cond-true (units == left) _ _ (eq-eqb units left all)) in
      omega (arith, next)
  | inr other ↦
      let next = ap (λ (m : Mark). m.place) (e ∙ cond-false (units == left) _ _ (ne_eqb units left other)) in
      omega (arith, next)
]
