-- Articles that are dealt one after another.
use Rattle.std.proofs.Common.{◌≡◌, ◌≢◌, ◌∙◌, refl, sym, ap, ℕ, ◌+◌, ◌<◌, ◌≤◌, ◌==◌, nat_lt, Bool, true, false, inl, inr, List, length, take, Option, None}
use Rattle.std.proofs.Common.{Some, slice_get, if◌then◌else◌, arith, eq-eqb, ne_eqb}
use Rattle.std.proofs.lemmas.Bool.{cases_eq, cases_lt, cond-false, cond-true, le-ltb, lt-ltb}
use Rattle.std.proofs.lemmas.List.Sums.{count_by-le-length, sum_by-le-sum_by, sum_by-take-le}
use Rattle.std.proofs.lemmas.Option.{slice_get_cases}
use Rattle.std.specs.List.{count_by}
use Rattle.std.specs.Option.{option_map_or}
use Rattle.wp_model.proofs.Elements.{All-at}
use Rattle.wp_model.proofs.Overlap.{overlap-le-offer}
use Rattle.wp_model.specs.Demand.{offer_at, offer_of}
use Rattle.wp_model.specs.Overlap.{overlap}
use Rattle.wp_model.specs.declared.row.Row.{Row}
use Rattle.wp_book.proofs.Books.{sum_by-plus}
use Rattle.wp_book.proofs.HoldSums.{sum_by-same}
use Rattle.wp_book.specs.ArticleRows.{rows_of}
use Rattle.wp_book.specs.Room.{Content}
use Rattle.wp_allot.proofs.ArticleOffers.{offer-none, rows_counted}
use Rattle.wp_allot.proofs.OrderIntervals.{units_of-other, units_of-own, wanted_more}
use Rattle.wp_allot.specs.DealtUnits.{AreDealtUnits, CanDeal, IsDealt, share_among, units_among, wants_of}
use Rattle.wp_allot.specs.Wants.{AreInTurn, IsEnough, is_wanted, most_holds, units_in, units_of, wanted_for, wanted_of, wanted_rows}
use Rattle.wp_allot.specs.declared.want.Want.{Want}

-- the want at a place is the first of its article, or a later one
record IsFirst (wants : List Want) (place : ℕ) (want : Want) : Type 0 where
  there : slice_get wants place ≡ Some want
  within : place < length wants
  some : 0 < want.quantity
  first : wanted_of (take place wants) want.article ≡ 0

record IsLater (wants : List Want) (place : ℕ) (want : Want) : Type 0 where
  there : slice_get wants place ≡ Some want
  within : place < length wants
  later : wanted_of (take place wants) want.article ≢ 0

-- one where a test holds
abbrev pub as_one : Bool → ℕ
as_one b = if b then 1 else 0

-- 1 where the article is wanted by one of the first wants
abbrev pub flag : List Want → ℕ → ℕ → ℕ
flag wants count article = as_one (is_wanted (take count wants) article)

-- it is 1 where units of it are wanted
pub flag-wanted : (wants : List Want) (count article : ℕ) → 0 < wanted_of (take count wants) article → is_wanted (take count wants) article ≡ true
flag-wanted wants count article some = lt-ltb 0 (wanted_of (take count wants) article) some

-- and 0 where none are
pub flag-unwanted : (wants : List Want) (count article : ℕ) → wanted_of (take count wants) article ≡ 0 → is_wanted (take count wants) article ≡ false
flag-unwanted wants count article none = le-ltb 0 (wanted_of (take count wants) article) (omega (arith, none))

-- the articles of one more want
same_others : (wants : List Want) (place : ℕ) (want : Want) (article : ℕ) → slice_get wants place ≡ Some want → place < length wants → article ≢ want.article
    → is_wanted (take (place + 1) wants) article ≡ is_wanted (take place wants) article
same_others wants place want article there within other =
    let same : wanted_of (take (place + 1) wants) article ≡ wanted_of (take place wants) article =
    omega (arith, wanted_more wants article place want there within, units_of-other article want (λ e. other (sym e))) in
    ap (λ n. nat_lt 0 n) same

first_wanted : (wants : List Want) (place : ℕ) (want : Want) → IsFirst wants place want → is_wanted (take (place + 1) wants) want.article ≡ true
first_wanted wants place want is =
    flag-wanted wants (place + 1) want.article (omega (
      arith,
      wanted_more wants want.article place want is.there is.within,
      units_of-own want.article want refl,
      is.some,
    ))

flag_more : (wants : List Want) (place : ℕ) (want : Want) (article : ℕ) → IsFirst wants place want
    → flag wants (place + 1) article ≡ flag wants place article + (if article == want.article then 1 else 0)
flag_more wants place want article is = elim (cases_eq article want.article) [
  | inl same ↦
      let one = cond-true {A = ℕ} (article == want.article) 1 0 (eq-eqb article want.article same) in
      let now = cond-true {A = ℕ} (is_wanted (take (place + 1) wants) article) 1 0
      (ap (is_wanted (take (place + 1) wants)) same ∙ first_wanted wants place want is) in
      let before = cond-false {A = ℕ} (is_wanted (take place wants) article) 1 0
      (flag-unwanted wants place article (ap (wanted_of (take place wants)) same ∙ is.first)) in
      omega (arith, one, now, before)
  | inr other ↦
      let none = cond-false {A = ℕ} (article == want.article) 1 0 (ne_eqb article want.article other) in
      omega (arith, none, ap as_one (same_others wants place want article is.there is.within other))
]

later_same : (wants : List Want) (place : ℕ) (want : Want) (article : ℕ) → IsLater wants place want
    → is_wanted (take (place + 1) wants) article ≡ is_wanted (take place wants) article
later_same wants place want article is = elim (cases_eq article want.article) [
  | inl same ↦
      let some : 0 < wanted_of (take place wants) article = omega (arith, is.later, ap (wanted_of (take place wants)) same) in
      flag-wanted wants (place + 1) article (omega (arith, wanted_more wants article place want is.there is.within))
      ∙ sym (flag-wanted wants place article some)
  | inr other ↦ same_others wants place want article is.there is.within other
]

-- the wants of wanted articles
abbrev wanted_count : List Want → ℕ → ℕ
wanted_count wants count = count_by (λ (want : Want). is_wanted (take count wants) want.article) wants

rows_more : (rows : List Row) (wants : List Want) (place : ℕ) (want : Want) → IsFirst wants place want
    → wanted_rows rows (take (place + 1) wants) ≡ wanted_rows rows (take place wants) + length (rows_of want.article rows)
rows_more rows wants place want is =
    sum_by-plus (λ (r : Row). flag wants (place + 1) r.article) (λ (r : Row). flag wants place r.article)
    (λ (r : Row). if r.article == want.article then 1 else 0) rows (λ r. flag_more wants place want r.article is)
    ∙ ap (λ n. wanted_rows rows (take place wants) + n) (sym (rows_counted want.article rows))

count_more : (wants : List Want) (place : ℕ) (want : Want) → IsFirst wants place want
    → wanted_count wants (place + 1) ≡ wanted_count wants place + wants_of wants want.article
count_more wants place want is =
    sum_by-plus (λ (w : Want). flag wants (place + 1) w.article) (λ (w : Want). flag wants place w.article)
    (λ (w : Want). if w.article == want.article then 1 else 0) wants (λ w. flag_more wants place want w.article is)

units_more : (wants : List Want) (place : ℕ) (want : Want) → IsFirst wants place want
    → units_among wants (place + 1) ≡ units_among wants place + wanted_of wants want.article
units_more wants place want is =
    sum_by-plus (λ (w : Want). if is_wanted (take (place + 1) wants) w.article then w.quantity else 0)
    (λ (w : Want). if is_wanted (take place wants) w.article then w.quantity else 0) (units_of want.article) wants
    (λ w. split (is_wanted (take (place + 1) wants) w.article) (is_wanted (take place wants) w.article) (w.article == want.article) w.quantity
    (flag_more wants place want w.article is))
  where
    split : (a b c : Bool) (q : ℕ) → as_one a ≡ as_one b + as_one c → (if a then q else 0) ≡ (if b then q else 0) + (if c then q else 0)
    split true true true q e = absurd (omega arith)
    split true true false q e = omega arith
    split true false true q e = omega arith
    split true false false q e = absurd (omega arith)
    split false true c q e = absurd (omega arith)
    split false false true q e = absurd (omega arith)
    split false false false q e = omega arith

-- no more units than those of all wants
units-le : (wants : List Want) (count : ℕ) → units_among wants count ≤ units_in wants
units-le wants count = sum_by-le-sum_by (λ (w : Want). if is_wanted (take count wants) w.article then w.quantity else 0) (λ (w : Want). w.quantity) wants
    (λ w. at_most (is_wanted (take count wants) w.article) w.quantity)
  where
    at_most : (b : Bool) (q : ℕ) → (if b then q else 0) ≤ q
    at_most true q = omega arith
    at_most false q = omega arith

-- no more rows than those of all wants
flag-le : (wants : List Want) (count article : ℕ) → flag wants count article ≤ as_one (is_wanted wants article)
flag-le wants count article = elim (cases_lt 0 (wanted_of wants article)) [
  | inl some ↦ omega (
    arith,
    cond-true {A = ℕ} (is_wanted wants article) 1 0 (lt-ltb 0 (wanted_of wants article) some),
    at_most (is_wanted (take count wants) article),
  )
  | inr none ↦
      let less = sum_by-take-le (units_of article) wants count in
      omega (arith, cond-false {A = ℕ} (is_wanted (take count wants) article) 1 0 (flag-unwanted wants count article (omega (arith, less))))
]
  where
    at_most : (b : Bool) → as_one b ≤ 1
    at_most true = omega arith
    at_most false = omega arith

rows-le : (rows : List Row) (wants : List Want) (count : ℕ) → wanted_rows rows (take count wants) ≤ wanted_rows rows wants
rows-le rows wants count = sum_by-le-sum_by (λ (r : Row). flag wants count r.article) (λ (r : Row). as_one (is_wanted wants r.article)) rows
    (λ r. flag-le wants count r.article)

-- the first want of an article can be dealt
first_is : (wants : List Want) (place : ℕ) (want : Want) → AreInTurn wants → slice_get wants place ≡ Some want → place < length wants
    → wanted_of (take place wants) want.article ≡ 0 → IsFirst wants place want
first_is wants place want turn there within none = record
    { there = there; within = within; some = All-at (λ (w : Want). 0 < w.quantity) wants place want turn.some there; first = none }

-- what was dealt at a row
pub share_at : (rows : List Row) (wants : List Want) (except : Option ℕ) (count order k : ℕ) (r : Row) → slice_get rows k ≡ Some r
    → share_among rows wants except count order k ≡ (if is_wanted (take count wants) r.article then overlap (wanted_for wants r.article)
    (offer_at rows r.article except) order k else 0)
share_at rows wants except count order k r there =
    ap (λ found. option_map_or (λ (r : Row). if is_wanted (take count wants) r.article then overlap (wanted_for wants r.article)
    (offer_at rows r.article except) order k else 0) found 0) there

-- nothing was dealt at a place that is no row
pub share_past : (rows : List Row) (wants : List Want) (except : Option ℕ) (count order k : ℕ) → slice_get rows k ≡ None
    → share_among rows wants except count order k ≡ 0
share_past rows wants except count order k past =
    ap (λ found. option_map_or (λ (r : Row). if is_wanted (take count wants) r.article then overlap (wanted_for wants r.article)
    (offer_at rows r.article except) order k else 0) found 0) past

offer_past : (rows : List Row) (article : ℕ) (except : Option ℕ) (k : ℕ) → slice_get rows k ≡ None → offer_at rows article except k ≡ 0
offer_past rows article except k past = ap (λ found. option_map_or (offer_of article except k) found 0) past

-- nothing was dealt at rows of an article that none of the first wants is of
share_none : (rows : List Row) (wants : List Want) (except : Option ℕ) (count order k article : ℕ) → wanted_of (take count wants) article ≡ 0
    → 0 < offer_at rows article except k → share_among rows wants except count order k ≡ 0
share_none rows wants except count order k article none offered = elim (slice_get_cases rows k).1 [
  | inl found ↦
      let r = found.0 in
      elim (cases_eq r.article article) [
        | inl same ↦
            share_at rows wants except count order k r found.2
            ∙ cond-false (is_wanted (take count wants) r.article) _ _ (flag-unwanted wants count r.article (ap (wanted_of (take count wants)) same ∙ none))
        | inr other ↦ absurd (omega (arith, offer-none rows article except k r found.2 other))
      ]
  | inr past ↦ share_past rows wants except count order k past.1
]

-- the article of a want can be dealt where no want before it is of that article
pub can_deal : (rows : List Row) (wants : List Want) (except : Option ℕ) (place : ℕ) (want : Want) (room : Content) → AreInTurn wants
    → ((article : ℕ) → IsEnough rows wants except article) → AreDealtUnits rows wants except place room
    → slice_get wants place ≡ Some want → place < length wants → wanted_of (take place wants) want.article ≡ 0 → CanDeal rows wants want.article except room
can_deal rows wants except place want room turn enough is there within none =
    let first = first_is wants place want turn there within none in
    record {
      turn = turn;
      enough = enough want.article;
      single = is.single;
      fresh = λ order row offered. is.units order row ∙ share_none rows wants except place order row want.article none offered;
      space =
          omega (
            arith,
            is.space,
            is.size,
            rows_more rows wants place want first,
            count_more wants place want first,
            rows-le rows wants (place + 1),
            is.few,
            units_more wants place want first,
            units-le wants (place + 1),
            count_by-le-length (λ (w : Want). is_wanted (take (place + 1) wants) w.article) wants,
          );
    }

share_more : (rows : List Row) (wants : List Want) (except : Option ℕ) (place : ℕ) (want : Want) (order k : ℕ) → IsFirst wants place want
    → share_among rows wants except (place + 1) order k ≡ share_among rows wants except place order k + overlap (wanted_for wants want.article)
    (offer_at rows want.article except) order k
share_more rows wants except place want order k first = elim (slice_get_cases rows k).1 [
  | inl found ↦
      let r = found.0 in
      let now = share_at rows wants except (place + 1) order k r found.2 in
      let before = share_at rows wants except place order k r found.2 in
      let mine = overlap (wanted_for wants r.article) (offer_at rows r.article except) order k in
      elim (cases_eq r.article want.article) [
        | inl same ↦
            let one = cond-true (is_wanted (take (place + 1) wants) r.article) mine 0
            (ap (is_wanted (take (place + 1) wants)) same ∙ first_wanted wants place want first) in
            let none = cond-false (is_wanted (take place wants) r.article) mine 0
            (flag-unwanted wants place r.article (ap (wanted_of (take place wants)) same ∙ first.first)) in
            sum_of (now ∙ (one ∙ ap (λ a. overlap (wanted_for wants a) (offer_at rows a except) order k) same)) (before ∙ none)
        | inr other ↦
            let same = ap (λ b. if b then mine else 0) (same_others wants place want r.article first.there first.within other) in
            let none = offer-none rows want.article except k r found.2 other in
            sum_with (now ∙ (same ∙ sym before)) (le_none (overlap-le-offer (wanted_for wants want.article) (offer_at rows want.article except) order k) none)
      ]
  | inr past ↦
      sum_with (share_past rows wants except (place + 1) order k past.1 ∙ sym (share_past rows wants except place order k past.1))
      (le_none (overlap-le-offer (wanted_for wants want.article) (offer_at rows want.article except) order k) (offer_past rows want.article except k past.1))
]
  where
    sum_of : {a b c : ℕ} → a ≡ c → b ≡ 0 → a ≡ b + c
    sum_of p q = omega arith

    sum_with : {a b c : ℕ} → a ≡ b → c ≡ 0 → a ≡ b + c
    sum_with p q = omega arith

    le_none : {a b : ℕ} → a ≤ b → b ≡ 0 → a ≡ 0
    le_none p q = omega arith

-- and once it was dealt, the articles of one want more are dealt
pub first_dealt : (rows : List Row) (wants : List Want) (except : Option ℕ) (place : ℕ) (want : Want) (room room' : Content) → AreInTurn wants
    → AreDealtUnits rows wants except place room
    → slice_get wants place ≡ Some want → place < length wants → wanted_of (take place wants) want.article ≡ 0
    → IsDealt rows wants want.article except room room' → AreDealtUnits rows wants except (place + 1) room'
first_dealt rows wants except place want room room' turn is there within none dealt =
    let first = first_is wants place want turn there within none in
    record {
      single = dealt.single;
      size = omega (arith, is.size, dealt.size);
      space = omega (arith, is.space, dealt.space, rows_more rows wants place want first, count_more wants place want first);
      few = omega (arith, is.few, dealt.few, units_more wants place want first);
      units = λ order row. dealt.units order row ∙ (ap (λ n. n + overlap (wanted_for wants want.article) (offer_at rows want.article except) order row)
          (is.units order row) ∙ sym (share_more rows wants except place want order row first));
    }

-- where a want before it is of its article, the articles of one want more are dealt already
pub later_dealt : (rows : List Row) (wants : List Want) (except : Option ℕ) (place : ℕ) (want : Want) (room : Content)
    → AreDealtUnits rows wants except place room
    → slice_get wants place ≡ Some want → place < length wants → wanted_of (take place wants) want.article ≢ 0
    → AreDealtUnits rows wants except (place + 1) room
later_dealt rows wants except place want room is there within some =
    let later : IsLater wants place want = record { there = there; within = within; later = some } in
    let same = λ (article : ℕ). later_same wants place want article later in
    record {
      single = is.single;
      size = is.size;
      space = omega (
        arith,
        is.space,
        sum_by-same (λ (r : Row). flag wants (place + 1) r.article) (λ (r : Row). flag wants place r.article) rows (λ r. ap as_one (same r.article)),
        sum_by-same (λ (w : Want). flag wants (place + 1) w.article) (λ (w : Want). flag wants place w.article) wants (λ w. ap as_one (same w.article)),
      );
      few = omega (
        arith,
        is.few,
        sum_by-same (λ (w : Want). if is_wanted (take (place + 1) wants) w.article then w.quantity else 0)
            (λ (w : Want). if is_wanted (take place wants) w.article then w.quantity else 0) wants
            (λ w. ap (λ b. if b then w.quantity else 0) (same w.article)),
      );
      units = λ order row. is.units order row ∙ sym (share_same rows wants except place want order row later);
    }
  where
    share_same : (rows : List Row) (wants : List Want) (except : Option ℕ) (place : ℕ) (want : Want) (order k : ℕ) → IsLater wants place want
        → share_among rows wants except (place + 1) order k ≡ share_among rows wants except place order k
    share_same rows wants except place want order k later = elim (slice_get_cases rows k).1 [
      | inl found ↦
          let r = found.0 in
          share_at rows wants except (place + 1) order k r found.2
          ∙ (ap (λ b. if b then overlap (wanted_for wants r.article) (offer_at rows r.article except) order k else 0)
          (later_same wants place want r.article later) ∙ sym (share_at rows wants except place order k r found.2))
      | inr past ↦ share_past rows wants except (place + 1) order k past.1 ∙ sym (share_past rows wants except place order k past.1)
    ]

-- what was dealt is at most one hold a wanted row and one a want, and no more than one a unit
pub few_dealt : (rows : List Row) (wants : List Want) (except : Option ℕ) (count : ℕ) (room : Content) → AreDealtUnits rows wants except count room
    → length room.holds ≤ most_holds rows wants
few_dealt rows wants except count room is =
    omega (
      arith,
      is.space,
      is.few,
      rows-le rows wants count,
      count_by-le-length (λ (w : Want). is_wanted (take count wants) w.article) wants,
      units-le wants count,
    )
