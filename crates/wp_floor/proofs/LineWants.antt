-- What one line adds to the wants of its order.
use Rattle.std.proofs.Common.{◌≡◌, ◌≢◌, ◌∙◌, refl, sym, ap, ap₂, ℕ, ◌+◌, ◌<◌, ◌≤◌, ◌==◌, ◌&&◌, Bool, true, false, inl, inr, List, [], ◌∷◌, ◌++◌, length, Some}
use Rattle.std.proofs.Common.{slice_get, slice_set, if◌then◌else◌, arith, length-append, length-set}
use Rattle.std.proofs.lemmas.Bool.{cases_lt}
use Rattle.std.proofs.lemmas.List.Sums.{sum_by-set, sum_by_push}
use Rattle.std.proofs.lemmas.Option.{get_or_from_slice_get, slice_get_within}
use Rattle.std.specs.List.{sum_by}
use Rattle.wp_allot.specs.Wants.{units_for}
use Rattle.wp_allot.specs.declared.want.Want.{Want}
use Rattle.wp_model.proofs.Elements.{All-at, All-from_at, slice_get-push, slice_get-set}
use Rattle.wp_model.specs.Demand.{quantity_of}
use Rattle.wp_model.specs.declared.row.Line.{Line}
use Rattle.wp_floor.specs.WantLists.{AreSplit, HaveAdded, KeepArticles}

-- what a line adds to a want of its article for its order
more_units : (ours here : Bool) (q n : ℕ) → (if ours && here then q + n else 0) ≡ (if ours && here then q else 0) +
    (if here then 0 + (if ours then n else 0) else 0)
more_units true true q n = omega arith
more_units true false q n = refl
more_units false true q n = refl
more_units false false q n = refl

want_more : (place : ℕ) (line : Line) (want : Want) (quantity article order : ℕ) → want.order ≡ place → want.article ≡ line.article → quantity ≡ line.quantity
    → units_for article order (record want { quantity = want.quantity + quantity }) ≡ units_for article order want +
    (if place == order then sum_by (quantity_of article) (line ∷ []) else 0)
want_more place line want quantity article order here same units =
    more_units (want.article == article) (want.order == order) want.quantity quantity
    ∙ (ap₂ (λ (o a : ℕ). units_for article order want + (if o == order then 0 + (if a == article then quantity else 0) else 0)) here same
    ∙ ap (λ (q : ℕ). units_for article order want + (if place == order then 0 + (if line.article == article then q else 0) else 0)) units)

-- a line's units that go to the want of its article are added
pub added_to : (wants : List Want) (at place : ℕ) (line : Line) (want : Want) (quantity : ℕ) → slice_get wants at ≡ Some want → want.order ≡ place
    → want.article ≡ line.article → quantity ≡ line.quantity
    → HaveAdded place (line ∷ []) wants (slice_set wants at (record want { quantity = want.quantity + quantity }))
added_to wants at place line want quantity there here same units =
    let new : Want = record want { quantity = want.quantity + quantity } in
    let within = slice_get_within wants at want there in
    let was = get_or_from_slice_get wants at want want there in
    record {
      wanted = λ article order. omega (
        arith,
        sum_by-set (units_for article order) wants at new want within,
        ap (units_for article order) was,
        want_more place line want quantity article order here same units,
      );
      units = omega (arith, sum_by-set (λ (w : Want). w.quantity) wants at new want within, ap (λ (w : Want). w.quantity) was, units);
      few = omega (arith, length-set wants at new);
    }

-- or make a want of their own
new_units : (ours here : Bool) (n : ℕ) → (if ours && here then n else 0) ≡ (if here then 0 + (if ours then n else 0) else 0)
new_units true true n = omega arith
new_units true false n = refl
new_units false true n = refl
new_units false false n = refl

-- and so are a line's units that make a want of their own, the last
pub added_last : (wants : List Want) (place : ℕ) (line : Line) (quantity : ℕ) → quantity ≡ line.quantity
    → HaveAdded place (line ∷ []) wants (wants ++ record { order = place; article = line.article; quantity = quantity } ∷ [])
added_last wants place line quantity units =
    let new : Want = record { order = place; article = line.article; quantity = quantity } in
    record {
      wanted = λ article order.
          let own : units_for article order new ≡ (if place == order then sum_by (quantity_of article) (line ∷ []) else 0) =
          new_units (line.article == article) (place == order) quantity
          ∙ ap (λ (q : ℕ). if place == order then 0 + (if line.article == article then q else 0) else 0) units in
          omega (arith, sum_by_push (units_for article order) wants new, own);
      units = omega (arith, sum_by_push (λ (w : Want). w.quantity) wants new, units);
      few = omega (arith, length-append wants (new ∷ []));
    }

-- wants that are split at a start stay so with a want of a new article for the same order, the last
pub split_pushed : (wants : List Want) (start place : ℕ) (new : Want) → AreSplit start place wants → new.order ≡ place → 0 < new.quantity
    → ((k : ℕ) (w : Want) → slice_get wants k ≡ Some w → start ≤ k → w.article ≢ new.article)
    → AreSplit start place (wants ++ new ∷ [])
split_pushed wants start place new split here some other = record {
  orderly = record {
    ordered = λ i j v w earlier at_i at_j. elim (slice_get-push wants i v new at_i) [
      | inl early ↦ elim (slice_get-push wants j w new at_j) [
        | inl both ↦ split.orderly.ordered i j v w earlier early both
        | inr last ↦ omega (arith, upto i v early, ap (λ (x : Want). x.order) last.1, here)
      ]
      | inr last ↦ absurd (omega (arith, last.0, long, slice_get_within (wants ++ new ∷ []) j w at_j))
    ];
    once = λ i j v w at_i at_j same_order same_article. elim (slice_get-push wants i v new at_i) [
      | inl early ↦ elim (slice_get-push wants j w new at_j) [
        | inl both ↦ split.orderly.once i j v w early both same_order same_article
        | inr last ↦
            let o : v.order ≡ place = same_order ∙ (ap (λ (x : Want). x.order) last.1 ∙ here) in
            absurd (other i v early (late i v early o) (same_article ∙ ap (λ (x : Want). x.article) last.1))
      ]
      | inr first ↦ elim (slice_get-push wants j w new at_j) [
        | inl early ↦
            let o : w.order ≡ place = sym same_order ∙ (ap (λ (x : Want). x.order) first.1 ∙ here) in
            absurd (other j w early (late j w early o) (sym same_article ∙ ap (λ (x : Want). x.article) first.1))
        | inr last ↦ first.0 ∙ sym last.0
      ]
    ];
    some = All-from_at (λ (want : Want). 0 < want.quantity) (wants ++ new ∷ []) (λ k w at. elim (slice_get-push wants k w new at) [
      | inl early ↦ All-at (λ (want : Want). 0 < want.quantity) wants k w split.orderly.some early
      | inr last ↦ omega (arith, ap (λ (x : Want). x.quantity) last.1, some)
    ]);
  };
  within = omega (arith, long, split.within);
  before = λ k w at early. elim (slice_get-push wants k w new at) [
    | inl there ↦ split.before k w there early
    | inr last ↦ absurd (omega (arith, last.0, split.within))
  ];
  from = λ k w at late. elim (slice_get-push wants k w new at) [
    | inl there ↦ split.from k w there late
    | inr last ↦ ap (λ (x : Want). x.order) last.1 ∙ here
  ];
}
  where
    long : length (wants ++ new ∷ []) ≡ length wants + 1
    long = omega (arith, length-append wants (new ∷ []))

    upto : (k : ℕ) (w : Want) → slice_get wants k ≡ Some w → w.order ≤ place
    upto k w there = elim (cases_lt k start) [
      | inl early ↦ omega (arith, split.before k w there early)
      | inr past ↦ omega (arith, split.from k w there past)
    ]

    late : (k : ℕ) (w : Want) → slice_get wants k ≡ Some w → w.order ≡ place → start ≤ k
    late k w there same = elim (cases_lt k start) [
      | inl early ↦ absurd (omega (arith, split.before k w there early, same))
      | inr past ↦ past
    ]

-- wants keep to the articles where one of the line's article is written over another
pub articles_to : (wants : List Want) (at : ℕ) (line : Line) (new : Want) → new.article ≡ line.article → KeepArticles (line ∷ []) wants (slice_set wants at new)
articles_to wants at line new same articles lines old = All-from_at (λ (want : Want). want.article < articles) (slice_set wants at new)
    (λ k w there. elim (slice_get-set wants at k w new there) [
      | inl here ↦ omega (arith, All-at (λ (line : Line). line.article < articles) (line ∷ []) 0 line lines refl, same, ap (λ (x : Want). x.article) here.1)
      | inr away ↦ All-at (λ (want : Want). want.article < articles) wants k w old away.1
    ])

-- and where one of the line's article comes last
pub articles_last : (wants : List Want) (line : Line) (new : Want) → new.article ≡ line.article → KeepArticles (line ∷ []) wants (wants ++ new ∷ [])
articles_last wants line new same articles lines old = All-from_at (λ (want : Want). want.article < articles) (wants ++ new ∷ [])
    (λ k w there. elim (slice_get-push wants k w new there) [
      | inl early ↦ All-at (λ (want : Want). want.article < articles) wants k w old early
      | inr last ↦ omega (arith, All-at (λ (line : Line). line.article < articles) (line ∷ []) 0 line lines refl, same, ap (λ (x : Want). x.article) last.1)
    ])
