-- An article that is dealt want by want.
use Rattle.std.proofs.Common.{◌≡◌, ◌≢◌, ◌∙◌, refl, sym, ap, subst, ℕ, suc, ◌+◌, ◌<◌, ◌≤◌, ◌==◌, inl, inr, min, List, length, take, Option, Some, slice_get}
use Rattle.std.proofs.Common.{if◌then◌else◌, arith, eq-eqb, ne_eqb}
use Rattle.std.proofs.lemmas.Bool.{cases_order, cond-false, cond-true}
use Rattle.std.proofs.lemmas.List.Sums.{sum_by-take-le, sum_by_more}
use Rattle.std.proofs.lemmas.Option.{get_or_from_slice_get}
use Rattle.wp_model.proofs.Sums.{sum-grows}
use Rattle.wp_model.specs.Book.{units_for}
use Rattle.wp_model.specs.Demand.{offer_at}
use Rattle.wp_model.specs.Sums.{sum_below}
use Rattle.wp_model.specs.declared.row.Row.{Row}
use Rattle.wp_book.specs.ArticleRows.{rows_of}
use Rattle.wp_book.specs.Room.{Content}
use Rattle.wp_allot.proofs.OrderIntervals.{demand-le-wanted, has_interval, units_of-other, wanted_more}
use Rattle.wp_allot.specs.DealtUnits.{AreSingle, CanDeal, CanServe, IsDealt, IsServed, offer_in, part, position, rows_from, wants_of}
use Rattle.wp_allot.specs.Wants.{units_of, wanted_for, wanted_of}
use Rattle.wp_allot.specs.declared.mark.Mark.{Mark}
use Rattle.wp_allot.specs.declared.want.Want.{Want}

-- how many units an order has from a row, where so many units of the line were dealt
abbrev pub dealt_to : (demand offer : ℕ → ℕ) → ℕ → ℕ → ℕ → ℕ
dealt_to demand offer dealt order row = part offer (sum_below order demand) (min dealt (sum_below (suc order) demand)) row

-- the article was dealt to the first wants
pub record IsDealing (rows : List Row) (wants : List Want) (article : ℕ) (except : Option ℕ) (count : ℕ) (mark : Mark) (room room' : Content) : Type 0 where
  pub taken : mark.taken ≤ offer_in rows article except mark.place
  pub dealt : position (offer_in rows article except) mark ≡ wanted_of (take count wants) article
  pub single : AreSingle rows room'.holds
  pub size : room'.size ≡ room.size
  pub space : length room'.holds + rows_from rows article mark.place ≤ length room.holds + length (rows_of article rows) + wants_of (take count wants) article
  pub few : length room'.holds ≤ length room.holds + wanted_of (take count wants) article
  pub units : (order row : ℕ) → units_for room'.holds order row
      ≡ units_for room.holds order row + dealt_to (wanted_for wants article) (offer_at rows article except)
      (position (offer_in rows article except) mark) order row

part-empty : (offer : ℕ → ℕ) (from to row : ℕ) → to ≤ from → part offer from to row ≡ 0
part-empty offer from to row none = omega arith

-- the interval of an order, as far as it was dealt
dealt_whole : (demand offer : ℕ → ℕ) (dealt order row : ℕ) → sum_below (suc order) demand ≤ dealt
    → dealt_to demand offer dealt order row ≡ part offer (sum_below order demand) (sum_below (suc order) demand) row
dealt_whole demand offer dealt order row past =
    let e : min dealt (sum_below (suc order) demand) ≡ sum_below (suc order) demand = omega arith in
    ap (λ n. part offer (sum_below order demand) n row) e

dealt_none : (demand offer : ℕ → ℕ) (dealt order row : ℕ) → dealt ≤ sum_below order demand → dealt_to demand offer dealt order row ≡ 0
dealt_none demand offer dealt order row before = part-empty offer (sum_below order demand) (min dealt (sum_below (suc order) demand)) row (omega arith)

-- what an order that is served has more
dealt_more : (demand offer : ℕ → ℕ) (from units at order row : ℕ) → sum_below at demand ≡ from → demand at ≡ units
    → dealt_to demand offer (from + units) order row ≡ dealt_to demand offer from order row + (if order == at then part offer from (from + units) row else 0)
dealt_more demand offer from units at order row start wants = elim (cases_order order at) [
  | inl here ↦
      let one = cond-true (order == at) (part offer from (from + units) row) 0 (eq-eqb order at here) in
      let begins : sum_below order demand ≡ from = ap (λ n. sum_below n demand) here ∙ start in
      let ends : sum_below (suc order) demand ≡ from + units = omega (arith, begins, ap demand here, wants) in
      dealt_whole demand offer (from + units) order row (omega (arith, ends))
      ∙ (ap (λ n. part offer n (sum_below (suc order) demand) row) begins ∙ ap (λ n. part offer from n row) ends
      ∙ omega_sum (dealt_none demand offer from order row (omega (arith, begins))) one)
  | inr other ↦ elim other [
    | inl before ↦
        let none = cond-false (order == at) (part offer from (from + units) row) 0 (ne_eqb order at (λ e. absurd (omega arith))) in
        let ended = sum-grows (suc order) at demand (omega arith) in
        let now = dealt_whole demand offer (from + units) order row (omega (arith, ended, start)) in
        let past = dealt_whole demand offer from order row (omega (arith, ended, start)) in
        now ∙ (sym past ∙ sym (omega_none none))
    | inr after ↦
        let none = cond-false (order == at) (part offer from (from + units) row) 0 (ne_eqb order at (λ e. absurd (omega arith))) in
        let begun = sum-grows (suc at) order demand (omega arith) in
        dealt_none demand offer (from + units) order row (omega (arith, begun, start, wants))
        ∙ sym (omega_none none ∙ dealt_none demand offer from order row (omega (arith, begun, start, wants)))
  ]
]
  where
    omega_sum : {a b c : ℕ} → a ≡ 0 → b ≡ c → c ≡ a + b
    omega_sum p q = omega arith

    omega_none : {a b : ℕ} → b ≡ 0 → a + b ≡ a
    omega_none p = omega arith

-- an article that can be dealt is dealt to none of its wants where none stands before a place
pub dealing_start : (rows : List Row) (wants : List Want) (article : ℕ) (except : Option ℕ) (place : ℕ) (room : Content) → CanDeal rows wants article except
    room
    → wanted_of (take place wants) article ≡ 0 → IsDealing rows wants article except place (record { place = 0; taken = 0 }) room room
dealing_start rows wants article except place room can none = record {
  taken = omega arith;
  dealt = omega (arith, none);
  single = can.single;
  size = refl;
  space = omega arith;
  few = omega arith;
  units = λ order row. omega arith;
}

-- how many wants are of the article
wants_more : (wants : List Want) (article place : ℕ) (want : Want) → slice_get wants place ≡ Some want → place < length wants
    → wants_of (take (place + 1) wants) article ≡ wants_of (take place wants) article + (if want.article == article then 1 else 0)
wants_more wants article place want there within =
    sum_by_more (λ (w : Want). if w.article == article then 1 else 0) wants place want within
    ∙ ap (λ (w : Want). wants_of (take place wants) article + (if w.article == article then 1 else 0)) (get_or_from_slice_get wants place want want there)

wants_all : (wants : List Want) (article place : ℕ) → wants_of (take place wants) article ≤ wants_of wants article
wants_all wants article place = sum_by-take-le (λ (w : Want). if w.article == article then 1 else 0) wants place

abbrev one_of : Want → ℕ
one_of want = if want.article == want.article then 1 else 0

one_more : (want : Want) → one_of want ≡ 1
one_more want = cond-true {A = ℕ} (want.article == want.article) 1 0 (eq-eqb want.article want.article refl)

-- a want of another article leaves what was dealt as it is
pub dealing_other : (rows : List Row) (wants : List Want) (article : ℕ) (except : Option ℕ) (count : ℕ) (want : Want) (mark : Mark) (room room' : Content)
    → slice_get wants count ≡ Some want → count < length wants → want.article ≢ article → IsDealing rows wants article except count mark room room'
    → IsDealing rows wants article except (count + 1) mark room room'
dealing_other rows wants article except count want mark room room' there within other is = record {
  taken = is.taken;
  dealt = omega (arith, is.dealt, wanted_more wants article count want there within, units_of-other article want other);
  single = is.single;
  size = is.size;
  space = omega (arith, is.space, wants_more wants article count want there within);
  few = omega (arith, is.few, wanted_more wants article count want there within);
  units = is.units;
}

-- one of the article can be served
can_serve : (rows : List Row) (wants : List Want) (except : Option ℕ) (count : ℕ) (want : Want) (mark : Mark) (room room' : Content)
    → CanDeal rows wants want.article except room → slice_get wants count ≡ Some want → count < length wants
    → IsDealing rows wants want.article except count mark room room' → CanServe rows want except mark room'
can_serve rows wants except count want mark room room' can there within is =
    let interval = has_interval wants want.article count want can.turn within there refl in
    let all = sum_by-take-le (units_of want.article) wants (count + 1) in
    let more = wants_more wants want.article count want there within in
    let most = wants_all wants want.article (count + 1) in
    record {
      taken = is.taken;
      enough = omega (arith, is.dealt, interval.next, all, can.enough);
      single = is.single;
      fresh = λ row offered. omega (arith, is.units want.order row, can.fresh want.order row offered, interval.start, is.dealt);
      space = omega (arith, is.space, more, most, can.space, is.size, one_more want, is.few, interval.next, all);
    }

-- and is dealt to then
dealing_more : (rows : List Row) (wants : List Want) (except : Option ℕ) (count : ℕ) (want : Want) (mark mark' : Mark) (room room' room'' : Content)
    → CanDeal rows wants want.article except room → slice_get wants count ≡ Some want → count < length wants
    → IsDealing rows wants want.article except count mark room room'
    → IsServed rows want except 0 mark mark' room' room'' → IsDealing rows wants want.article except (count + 1) mark' room room''
dealing_more rows wants except count want mark mark' room room' room'' can there within is served =
    let interval = has_interval wants want.article count want can.turn within there refl in
    let more = wants_more wants want.article count want there within in
    let offer = offer_at rows want.article except in
    let line = offer_in rows want.article except in
    let demand = wanted_for wants want.article in
    record {
      taken = served.taken;
      dealt = omega (arith, served.dealt, is.dealt, interval.next);
      single = served.single;
      size = served.size ∙ is.size;
      space = omega (arith, served.space, is.space, more, one_more want);
      few = omega (arith, served.few, is.few, interval.next);
      units = λ order row.
          let step = dealt_more demand offer (position line mark) want.quantity want.order order row
          (omega (arith, interval.start, is.dealt)) interval.units in
          let moved : position line mark' ≡ position line mark + want.quantity = omega (arith, served.dealt) in
          omega (
            arith,
            is.units order row,
            served.units order row,
            step,
            ap (λ n. dealt_to demand offer n order row) moved,
            ap (λ n. if order == want.order then part offer (position line mark) n row else 0) moved,
          );
    }

-- an article that was dealt to all its wants is dealt
pub all_dealt : (rows : List Row) (wants : List Want) (article : ℕ) (except : Option ℕ) (count : ℕ) (mark : Mark) (room room' : Content)
    → wanted_of (take count wants) article ≡ wanted_of wants article → IsDealing rows wants article except count mark room room' → IsDealt rows wants article
    except room room'
all_dealt rows wants article except count mark room room' all is = record {
  single = is.single;
  size = is.size;
  space = omega (arith, is.space, wants_all wants article count);
  few = omega (arith, is.few, all);
  units = λ order row.
      let offer = offer_at rows article except in
      let demand = wanted_for wants article in
      let line = offer_in rows article except in
      let wanted : position line mark ≡ wanted_of wants article = is.dealt ∙ all in
      is.units order row ∙ ap (λ n. units_for room.holds order row + n)
      (dealt_whole demand offer (position line mark) order row (omega (arith, wanted, demand-le-wanted wants article (suc order))));
}

-- the order of a want that is known to be of the article can be served
pub can_serve_of : (rows : List Row) (wants : List Want) (article : ℕ) (except : Option ℕ) (count : ℕ) (want : Want) (mark : Mark) (room room' : Content)
    → want.article ≡ article
    → CanDeal rows wants article except room → slice_get wants count ≡ Some want → count < length wants
    → IsDealing rows wants article except count mark room room' → CanServe rows want except mark room'
can_serve_of rows wants article except count want mark room room' same can there within is =
    can_serve rows wants except count want mark room room' (subst (λ a. CanDeal rows wants a except room) (sym same) can) there within
    (subst (λ a. IsDealing rows wants a except count mark room room') (sym same) is)

-- and once it was served, the article is dealt to one want more
pub dealing_more_of : (rows : List Row) (wants : List Want) (article : ℕ) (except : Option ℕ) (count : ℕ) (want : Want) (mark mark' : Mark)
    (room room' room'' : Content) → want.article ≡ article
    → CanDeal rows wants article except room → slice_get wants count ≡ Some want → count < length wants
    → IsDealing rows wants article except count mark room room'
    → IsServed rows want except 0 mark mark' room' room'' → IsDealing rows wants article except (count + 1) mark' room room''
dealing_more_of rows wants article except count want mark mark' room room' room'' same can there within is served =
    subst (λ a. IsDealing rows wants a except (count + 1) mark' room room'') same
    (dealing_more rows wants except count want mark mark' room room' room'' (subst (λ a. CanDeal rows wants a except room) (sym same) can) there within
    (subst (λ a. IsDealing rows wants a except count mark room room') (sym same) is) served)
