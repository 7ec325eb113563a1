-- The wants of one article among gathered ones.
use Rattle.std.proofs.Common.{◌≡◌, ◌≢◌, ◌∙◌, refl, sym, ap, subst, ℕ, zero, suc, ◌+◌, ◌-◌, ◌<◌, ◌≤◌, inl, inr, List, [], ◌∷◌, length, take, Option, Some, None}
use Rattle.std.proofs.Common.{slice_get, arith}
use Rattle.std.proofs.lemmas.Bool.{cases_eq, cases_lt}
use Rattle.std.proofs.lemmas.List.Sums.{sum_by-cons}
use Rattle.std.proofs.lemmas.Option.{same_Some, slice_get_within}
use Rattle.wp_model.proofs.Elements.{All-at, within_some}
use Rattle.wp_model.specs.declared.row.Row.{Row}
use Rattle.wp_book.specs.Room.{Content}
use Rattle.wp_allot.proofs.FilledRoom.{first_dealt, later_dealt}
use Rattle.wp_allot.proofs.FirstShortArticle.{short_from_all}
use Rattle.wp_allot.proofs.OrderIntervals.{units_of-other, units_of-own, wanted_more}
use Rattle.wp_allot.specs.Cover.{IsFirstAmong, IsLess}
use Rattle.wp_allot.specs.DealtUnits.{AreDealtUnits, IsDealt}
use Rattle.wp_allot.specs.Gathered.{AreOfArticle, IsBorder}
use Rattle.wp_allot.specs.Wants.{AreGathered, AreInTurn, IsEnough, IsShort, units_of, wanted_of}
use Rattle.wp_allot.specs.declared.gathered.ArticleWants.{ArticleWants}
use Rattle.wp_allot.specs.declared.want.Short.{Short}
use Rattle.wp_allot.specs.declared.want.Want.{Want}

-- nothing of an article is wanted before a place where no want before it is of the article
pub none_before : (wants : List Want) (article place : ℕ) → ((k : ℕ) (w : Want) → k < place → slice_get wants k ≡ Some w → w.article ≢ article)
    → wanted_of (take place wants) article ≡ 0
none_before [] article zero never = refl
none_before [] article (suc place) never = refl
none_before (w ∷ wants) article zero never = refl
none_before (w ∷ wants) article (suc place) never =
    omega (
      arith,
      sum_by-cons (units_of article) w (take place wants),
      units_of-other article w (never 0 w (omega arith) refl),
      none_before wants article place (λ k v under there. never (suc k) v (omega arith) there),
    )

-- all that is wanted of it is wanted before a place where no want from it on is of the article
pub all_before : (wants : List Want) (article place : ℕ) → ((k : ℕ) (w : Want) → place ≤ k → slice_get wants k ≡ Some w → w.article ≢ article)
    → wanted_of (take place wants) article ≡ wanted_of wants article
all_before [] article zero never = refl
all_before [] article (suc place) never = refl
all_before (w ∷ wants) article zero never =
    omega (
      arith,
      sum_by-cons (units_of article) w wants,
      units_of-other article w (never 0 w (omega arith) refl),
      all_before wants article zero (λ k v upto there. never (suc k) v (omega arith) there),
    )
all_before (w ∷ wants) article (suc place) never =
    omega (
      arith,
      sum_by-cons (units_of article) w wants,
      sum_by-cons (units_of article) w (take place wants),
      all_before wants article place (λ k v upto there. never (suc k) v (omega arith) there),
    )

-- there is a border before all wants
pub border_first : (wants : List Want) → IsBorder wants 0
border_first wants i j v w under upto at there = absurd (omega arith)

-- so far the wants from a start on are of an article, of which there are none before it, and are counted
pub record AreCountedUpTo (wants : List Want) (start : ℕ) (counted sum end : ℕ) : Type 0 where
  pub first : Want
  pub there : slice_get wants start ≡ Some first
  pub article : counted ≡ first.article
  pub units : sum ≡ wanted_of (take end wants) first.article
  pub upto : start ≤ end
  pub within : end ≤ length wants
  pub own : (k : ℕ) (w : Want) → start ≤ k → k < end → slice_get wants k ≡ Some w → w.article ≡ first.article
  pub none : wanted_of (take start wants) first.article ≡ 0

-- none at first
pub none_counted : (wants : List Want) (start : ℕ) (first : Want) → IsBorder wants start → slice_get wants start ≡ Some first
    → AreCountedUpTo wants start first.article 0 start
none_counted wants start first border there =
    let none = none_before wants first.article start (λ k w under at e. absurd (omega (arith, border k start w first under (omega arith) at there, e))) in
    record {
      first = first;
      there = there;
      article = refl;
      units = sym none;
      upto = omega arith;
      within = omega (arith, slice_get_within wants start first there);
      own = λ k w upto under at. absurd (omega arith);
      none = none;
    }

-- one want of the article more
pub one_counted : (wants : List Want) (start article units end : ℕ) (want : Want) → AreCountedUpTo wants start article units end
    → slice_get wants end ≡ Some want → want.article ≡ article → AreCountedUpTo wants start article (units + want.quantity) (end + 1)
one_counted wants start article units end want is at same =
    let within = slice_get_within wants end want at in
    let own : want.article ≡ is.first.article = same ∙ is.article in
    record {
      first = is.first;
      there = is.there;
      article = is.article;
      units = omega (arith, is.units, wanted_more wants is.first.article end want at within, units_of-own is.first.article want own);
      upto = omega (arith, is.upto);
      within = omega (arith, within);
      own = λ k w upto under there. elim (cases_eq k end) [
        | inl here ↦ ap (λ (v : Want). v.article) (same_Some w want (sym there ∙ (ap (slice_get wants) here ∙ at))) ∙ own
        | inr other ↦ is.own k w upto (omega (arith, other, under)) there
      ];
      none = is.none;
    }

-- the wants from the end on are of later articles, where the one there is of another article
pub later_from : (wants : List Want) (start article units end k : ℕ) (w : Want) → AreGathered wants → AreCountedUpTo wants start article units end
    → start < end → ((v : Want) → slice_get wants end ≡ Some v → v.article ≢ article) → end ≤ k → slice_get wants k ≡ Some w → article < w.article
later_from wants start article units end k w gathered is some other upto there =
    let v = within_some wants end (omega (arith, slice_get_within wants k w there)) in
    let least : article ≤ v.0.article = omega (arith, is.article, gathered.articles start end is.first v.0 some is.there v.1) in
    elim (cases_eq k end) [
      | inl here ↦ omega (
        arith,
        least,
        other w (sym (ap (slice_get wants) here) ∙ there),
        ap (λ (x : Want). x.article)
            (same_Some w v.0 (sym there ∙ (ap (slice_get wants) here ∙ v.1))),
      )
      | inr past ↦ omega (arith, least, other v.0 v.1, gathered.articles end k v.0 w (omega (arith, upto, past)) v.1 there)
    ]

-- the first of them at least
pub some_counted : (wants : List Want) (start article units end : ℕ) → AreCountedUpTo wants start article units end
    → ((v : Want) → slice_get wants end ≡ Some v → v.article ≢ article) → start < end
some_counted wants start article units end is other = elim (cases_eq end start) [
  | inl same ↦ absurd (other is.first (ap (slice_get wants) same ∙ is.there) (sym is.article))
  | inr past ↦ omega (arith, is.upto, past)
]

-- then these are all wants of the article
pub all_counted : (wants : List Want) (start article units end : ℕ) → AreGathered wants → IsBorder wants start → AreCountedUpTo wants start article units end
    → ((v : Want) → slice_get wants end ≡ Some v → v.article ≢ article)
    → AreOfArticle wants start (record { article = article; units = units; end = end })
all_counted wants start article units end gathered border is other =
    let some = some_counted wants start article units end is other in
    let later = later_from wants start article units end in
    let all : wanted_of (take end wants) article ≡ wanted_of wants article =
    all_before wants article end (λ k w upto there e. absurd (omega (arith, later k w gathered is some other upto there, e))) in
    record {
      first = is.first;
      there = is.there;
      article = is.article;
      units = is.units ∙ (ap (wanted_of (take end wants)) (sym is.article) ∙ all);
      after = some;
      within = is.within;
      own = λ k w upto under there. is.own k w upto under there ∙ sym is.article;
      none = ap (wanted_of (take start wants)) is.article ∙ is.none;
      all = all;
      border = λ i j v w under upto at there. elim (cases_lt i start) [
        | inl before ↦ omega (
          arith,
          border i start v is.first before (omega arith) at is.there,
          is.article,
          later j w gathered is some other upto there,
        )
        | inr from ↦ omega (arith, is.own i v from under at, is.article, later j w gathered is some other upto there)
      ];
    }

-- of the articles of the wants before a start there is enough, and so there is of those before an end
pub enough_upto : (rows : List Row) (wants : List Want) (except : Option ℕ) (start : ℕ) (of : ArticleWants) → AreOfArticle wants start of
    → IsFirstAmong rows wants except start None → IsEnough rows wants except of.article → IsFirstAmong rows wants except of.end None
enough_upto rows wants except start of is each enough = λ k w under there. elim (cases_lt k start) [
  | inl before ↦ each k w before there
  | inr from ↦ subst (λ a. IsEnough rows wants except a) (sym (is.own k w from under there)) enough
]

-- and an article of which there isn't is the first short one
pub short_here : (rows : List Row) (wants : List Want) (except : Option ℕ) (start : ℕ) (of : ArticleWants) (short : Short) → AreGathered wants
    → AreOfArticle wants start of → IsFirstAmong rows wants except start None → short.article ≡ of.article → IsLess rows wants except short
    → IsShort rows wants except (Some short)
short_here rows wants except start of short gathered is each same less =
    short_from_all rows wants except (Some short) (
      less,
      λ k w within there earlier. elim (cases_lt k start) [
        | inl before ↦ each k w before there
        | inr from ↦ elim (cases_eq k start) [
          | inl here ↦ absurd (omega (
            arith,
            earlier,
            same,
            is.article,
            ap (λ (v : Want). v.article) (same_Some w is.first (sym there ∙ (ap (slice_get wants) here ∙ is.there))),
          ))
          | inr later ↦ absurd
              (omega (arith, earlier, same, is.article, gathered.articles start k is.first w (omega (arith, from, later)) is.there there))
        ]
      ],
    )

-- an article that was dealt is dealt for each of its wants
dealt_upto : (rows : List Row) (wants : List Want) (except : Option ℕ) (start : ℕ) (of : ArticleWants) (room : Content) (n : ℕ) → AreOfArticle wants start of
    → 0 < wanted_of (take (start + 1) wants) of.article → AreDealtUnits rows wants except (start + 1) room → start + 1 + n ≤ of.end
    → AreDealtUnits rows wants except (start + 1 + n) room × (0 < wanted_of (take (start + 1 + n) wants) of.article)
dealt_upto rows wants except start of room zero is some dealt within =
    subst (λ k. AreDealtUnits rows wants except k room × (0 < wanted_of (take k wants) of.article)) {x = start + 1} {y = start + 1 + 0} (omega arith)
    (dealt, some)
dealt_upto rows wants except start of room (suc n) is some dealt within =
    let before = dealt_upto rows wants except start of room n is some dealt (omega (arith, within)) in
    let place = start + 1 + n in
    let want = within_some wants place (omega (arith, within, is.within)) in
    let own : want.0.article ≡ of.article = is.own place want.0 (omega arith) (omega (arith, within)) want.1 in
    let known : 0 < wanted_of (take place wants) want.0.article = subst (λ a. 0 < wanted_of (take place wants) a) (sym own) before.1 in
    let more = wanted_more wants of.article place want.0 want.1 (omega (arith, within, is.within)) in
    subst (λ k. AreDealtUnits rows wants except k room × (0 < wanted_of (take k wants) of.article)) {x = place + 1} {y = start + 1 + suc n} (omega arith) (
      later_dealt rows wants except place want.0 room before.0 want.1 (omega (arith, within, is.within)) (λ e. absurd (omega (arith, known, e))),
      omega (arith, more, before.1),
    )

-- so the articles of the wants before the end are dealt
pub article_dealt : (rows : List Row) (wants : List Want) (except : Option ℕ) (start : ℕ) (of : ArticleWants) (room room' : Content) → AreInTurn wants
    → AreOfArticle wants start of → AreDealtUnits rows wants except start room → IsDealt rows wants of.article except room room'
    → AreDealtUnits rows wants except of.end room'
article_dealt rows wants except start of room room' turn is dealt now =
    let within : start < length wants = omega (arith, is.after, is.within) in
    let first = first_dealt rows wants except start is.first room room' turn dealt is.there within
    (ap (wanted_of (take start wants)) (sym is.article) ∙ is.none)
    (subst (λ a. IsDealt rows wants a except room room') is.article now) in
    let one = wanted_more wants of.article start is.first is.there within in
    let some : 0 < wanted_of (take (start + 1) wants) of.article =
    omega (
      arith,
      one,
      units_of-own of.article is.first (sym is.article),
      All-at (λ (want : Want). 0 < want.quantity) wants start is.first turn.some
          is.there,
    ) in
    subst (λ k. AreDealtUnits rows wants except k room') {x = start + 1 + (of.end - (start + 1))} {y = of.end} (omega (arith, is.after))
    (dealt_upto rows wants except start of room' (of.end - (start + 1)) is some first (omega (arith, is.after))).0
