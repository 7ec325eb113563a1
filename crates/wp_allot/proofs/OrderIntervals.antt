-- Demands on the line of an article's units.
use Rattle.std.proofs.Common.{◌≡◌, ◌≢◌, ◌∙◌, refl, sym, ap, ℕ, zero, suc, ◌+◌, ◌<◌, ◌≤◌, ◌==◌, ◌&&◌, nat_lt, Bool, true, false, inl, inr, List, [], ◌∷◌}
use Rattle.std.proofs.Common.{length, take, Some, slice_get, if◌then◌else◌, arith, eq-eqb, ne_eqb}
use Rattle.std.proofs.lemmas.Bool.{and_left, and_right, and_from, cases_eq, cases_order, cond-false, cond-true, lt-ltb, le-ltb}
use Rattle.std.proofs.lemmas.Option.{get_or_from_slice_get, same_Some}
use Rattle.std.proofs.lemmas.List.Sums.{sum_by-cons, sum_by-le-sum_by, sum_by_more}
use Rattle.std.specs.List.{sum_by}
use Rattle.wp_model.specs.Sums.{sum_below}
use Rattle.wp_book.proofs.Books.{sum_by-plus}
use Rattle.wp_book.proofs.HoldSums.{sum_by-none}
use Rattle.wp_allot.specs.Wants.{AreInTurn, AreRegular, units_for, units_of, wanted_for, wanted_of}
use Rattle.wp_allot.specs.declared.want.Want.{Want}

-- the units of a want, where it is of the article and for an order below a number
abbrev pub units_below : ℕ → ℕ → Want → ℕ
units_below article orders want = if (want.article == article) && nat_lt want.order orders then want.quantity else 0

below-none : (article : ℕ) (want : Want) → units_below article 0 want ≡ 0
below-none article want = cond-false ((want.article == article) && nat_lt want.order 0) want.quantity 0 (and_right _ _ (le-ltb want.order 0 (omega arith)))

below-in : (article orders : ℕ) (want : Want) → (want.article ≡ article → want.order < orders) → units_below article orders want ≡ units_of article want
below-in article orders want within = elim (cases_eq want.article article) [
  | inl same ↦
      let is = eq-eqb want.article article same in
      cond-true ((want.article == article) && nat_lt want.order orders) want.quantity 0 (and_from _ _ is (lt-ltb want.order orders (within same)))
      ∙ sym (cond-true (want.article == article) want.quantity 0 is)
  | inr other ↦
      let isnt = ne_eqb want.article article other in
      cond-false ((want.article == article) && nat_lt want.order orders) want.quantity 0 (and_left _ _ isnt)
      ∙ sym (cond-false (want.article == article) want.quantity 0 isnt)
]

below-past : (article orders : ℕ) (want : Want) → (want.article ≡ article → orders ≤ want.order) → units_below article orders want ≡ 0
below-past article orders want past = elim (cases_eq want.article article) [
  | inl same ↦ cond-false ((want.article == article) && nat_lt want.order orders) want.quantity 0 (and_right _ _ (le-ltb want.order orders (past same)))
  | inr other ↦ cond-false ((want.article == article) && nat_lt want.order orders) want.quantity 0 (and_left _ _ (ne_eqb want.article article other))
]

below-more : (article orders : ℕ) (want : Want) → units_below article (suc orders) want ≡ units_below article orders want + units_for article orders want
below-more article orders want = elim (cases_order want.order orders) [
  | inl here ↦ last (want.article == article) want.quantity _ _ _ (lt-ltb want.order (suc orders) (omega arith)) (le-ltb want.order orders (omega arith))
      (eq-eqb want.order orders here)
  | inr other ↦ elim other [
    | inl under ↦ before (want.article == article) want.quantity _ _ _ (lt-ltb want.order (suc orders) (omega arith)) (lt-ltb want.order orders under)
        (ne_eqb want.order orders (λ e. absurd (omega arith)))
    | inr over ↦ past (want.article == article) want.quantity _ _ _ (le-ltb want.order (suc orders) (omega arith)) (le-ltb want.order orders (omega arith))
        (ne_eqb want.order orders (λ e. absurd (omega arith)))
  ]
]
  where
    last : (a : Bool) (q : ℕ) (m l e : Bool) → m ≡ true → l ≡ false → e ≡ true
        → (if a && m then q else 0) ≡ (if a && l then q else 0) + (if a && e then q else 0)
    last true q m l e p r t = rw (p, r, t) (omega arith)
    last false q m l e p r t = refl

    before : (a : Bool) (q : ℕ) (m l e : Bool) → m ≡ true → l ≡ true → e ≡ false
        → (if a && m then q else 0) ≡ (if a && l then q else 0) + (if a && e then q else 0)
    before true q m l e p r t = rw (p, r, t) (omega arith)
    before false q m l e p r t = refl

    past : (a : Bool) (q : ℕ) (m l e : Bool) → m ≡ false → l ≡ false → e ≡ false
        → (if a && m then q else 0) ≡ (if a && l then q else 0) + (if a && e then q else 0)
    past true q m l e p r t = rw (p, r, t) refl
    past false q m l e p r t = refl

-- what orders below a number want of an article
pub demand_below : (wants : List Want) (article orders : ℕ) → sum_below orders (wanted_for wants article) ≡ sum_by (units_below article orders) wants
demand_below wants article zero = sym (sum_by-none (units_below article 0) wants (below-none article))
demand_below wants article (suc orders) =
    let more = sum_by-plus (units_below article (suc orders)) (units_below article orders) (units_for article orders) wants (below-more article orders) in
    omega (arith, more, demand_below wants article orders)

-- the wants of the article that stand before a place are those for orders below a number
record AreParted (wants : List Want) (article place orders : ℕ) : Type 0 where
  before : (j : ℕ) (w : Want) → j < place → slice_get wants j ≡ Some w → w.article ≡ article → w.order < orders
  after : (j : ℕ) (w : Want) → place ≤ j → slice_get wants j ≡ Some w → w.article ≡ article → orders ≤ w.order

parted : (wants : List Want) (article place orders : ℕ) → AreParted wants article place orders
    → sum_by (units_below article orders) wants ≡ wanted_of (take place wants) article
parted [] article zero orders is = refl
parted [] article (suc place) orders is = refl
parted (w ∷ wants) article zero orders is =
    let rest = parted wants article 0 orders (record {
      before = λ j v under at same. absurd (omega arith);
      after = λ j v upto at same. is.after (suc j) v (omega arith) at same;
    }) in
    omega (arith, sum_by-cons (units_below article orders) w wants, rest, below-past article orders w (is.after 0 w (omega arith) refl))
parted (w ∷ wants) article (suc place) orders is =
    let rest = parted wants article place orders (record {
      before = λ j v under at same. is.before (suc j) v (omega arith) at same;
      after = λ j v upto at same. is.after (suc j) v (omega arith) at same;
    }) in
    omega (
      arith,
      sum_by-cons (units_below article orders) w wants,
      sum_by-cons (units_of article) w (take place wants),
      rest,
      below-in article orders w (is.before 0 w (omega arith) refl),
    )

-- a want has the interval of its order: from what is wanted before it to its own units more
pub record HasInterval (wants : List Want) (article place : ℕ) (want : Want) : Type 0 where
  pub start : sum_below want.order (wanted_for wants article) ≡ wanted_of (take place wants) article
  pub units : wanted_for wants article want.order ≡ want.quantity
  pub next : wanted_of (take (place + 1) wants) article ≡ wanted_of (take place wants) article + want.quantity

-- the want at a place is known
at_place : (wants : List Want) (j place : ℕ) (w want : Want) → j ≡ place → slice_get wants j ≡ Some w → slice_get wants place ≡ Some want → w ≡ want
at_place wants j place w want here at there = same_Some w want (sym at ∙ (ap (slice_get wants) here ∙ there))

begins_at : (wants : List Want) (article place : ℕ) (want : Want) → AreInTurn wants → slice_get wants place ≡ Some want → want.article ≡ article
    → AreParted wants article place want.order
begins_at wants article place want turn there same = record {
  before = λ j w under at of. turn.later j place w want under at there (of ∙ sym same);
  after = λ j w upto at of. elim (cases_eq j place) [
    | inl here ↦ omega (arith, ap (λ (w : Want). w.order) (at_place wants j place w want here at there))
    | inr other ↦ omega (arith, turn.later place j want w (omega arith) there at (same ∙ sym of))
  ];
}

ends_at : (wants : List Want) (article place : ℕ) (want : Want) → AreInTurn wants → slice_get wants place ≡ Some want → want.article ≡ article
    → AreParted wants article (place + 1) (suc want.order)
ends_at wants article place want turn there same = record {
  before = λ j w under at of. elim (cases_eq j place) [
    | inl here ↦ omega (arith, ap (λ (w : Want). w.order) (at_place wants j place w want here at there))
    | inr other ↦ omega (arith, turn.later j place w want (omega arith) at there (of ∙ sym same))
  ];
  after = λ j w upto at of. omega (arith, turn.later place j want w (omega arith) there at (same ∙ sym of));
}

-- one want more is wanted with its units, where it is of the article
pub wanted_more : (wants : List Want) (article place : ℕ) (want : Want) → slice_get wants place ≡ Some want → place < length wants
    → wanted_of (take (place + 1) wants) article ≡ wanted_of (take place wants) article + units_of article want
wanted_more wants article place want there within =
    sum_by_more (units_of article) wants place want within ∙ ap (λ (w : Want). wanted_of (take place wants) article + units_of article w)
    (get_or_from_slice_get wants place want want there)

-- a want has all its units of its own article
pub units_of-own : (article : ℕ) (want : Want) → want.article ≡ article → units_of article want ≡ want.quantity
units_of-own article want same = cond-true (want.article == article) want.quantity 0 (eq-eqb want.article article same)

-- and none of another article
pub units_of-other : (article : ℕ) (want : Want) → want.article ≢ article → units_of article want ≡ 0
units_of-other article want other = cond-false (want.article == article) want.quantity 0 (ne_eqb want.article article other)

-- each of wants in turn has the interval of its order
pub has_interval : (wants : List Want) (article place : ℕ) (want : Want) → AreInTurn wants → place < length wants → slice_get wants place ≡ Some want
    → want.article ≡ article → HasInterval wants article place want
has_interval wants article place want turn within there same =
    let begins : sum_below want.order (wanted_for wants article) ≡ wanted_of (take place wants) article
    = demand_below wants article want.order ∙ parted wants article place want.order (begins_at wants article place want turn there same) in
    let ends : sum_below (suc want.order) (wanted_for wants article) ≡ wanted_of (take (place + 1) wants) article
    = demand_below wants article (suc want.order) ∙ parted wants article (place + 1) (suc want.order) (ends_at wants article place want turn there same) in
    let more : wanted_of (take (place + 1) wants) article ≡ wanted_of (take place wants) article + want.quantity
    = omega (arith, wanted_more wants article place want there within, units_of-own article want same) in
    record { start = begins; units = omega (arith, begins, ends, more); next = more }

pick_below : (a b : Bool) (q : ℕ) → (if a && b then q else 0) ≤ (if a then q else 0)
pick_below true true q = omega arith
pick_below true false q = omega arith
pick_below false b q = omega arith

-- the first orders want no more than all
pub demand-le-wanted : (wants : List Want) (article orders : ℕ) → sum_below orders (wanted_for wants article) ≤ wanted_of wants article
demand-le-wanted wants article orders =
    let within = sum_by-le-sum_by (units_below article orders) (units_of article) wants
    (λ want. pick_below (want.article == article) (nat_lt want.order orders) want.quantity) in
    omega (arith, demand_below wants article orders, within)

-- regular wants are in turn
pub in_turn : (wants : List Want) → AreRegular wants → AreInTurn wants
in_turn wants regular = record {
  later = λ i j v w before at there same. elim (cases_eq v.order w.order) [
    | inl tie ↦ absurd (omega (arith, regular.once i j v w at there tie same))
    | inr other ↦ omega (arith, regular.ordered i j v w before at there)
  ];
  some = regular.some;
  small = regular.small;
}
