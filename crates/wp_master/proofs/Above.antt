-- Rows that are lexicographically above 0: a pivot by the least ratio keeps them so, and makes the last row rise.
use Rattle.std.proofs.Common.{◌≡◌, ◌≢◌, ◌⊎◌, ⊎_elim, ℕ, zero, suc, ◌+◌, ◌<◌, ◌≤◌, ℤ, pos, ◌-ℤ◌, ◌*ℤ◌, ◌<ℤ◌, ◌≤ℤ◌, List, inl, inr}
use Rattle.std.proofs.Common.{arith, ap, sym, subst, refl, ◌∙◌}
use Rattle.std.proofs.Math.IntN.{*ℤ_comm}
use Rattle.std.proofs.lemmas.Int.{by_lt_z, ints}
use Rattle.wp_master.proofs.Bases.{cancelled, none_stays}
use Rattle.wp_master.proofs.Choosing.{agree_more}
use Rattle.wp_master.proofs.Ratios.{less_over, less_times}
use Rattle.wp_master.specs.Bases.{IsBasis, basic_place}
use Rattle.wp_master.specs.Choices.{AgreeBefore, IsLeavingRow, Precedes, scaled_entry}
use Rattle.wp_master.specs.Pivots.{IsPivot, LastRowRises, Table, entry_of, last_row, places}
use Rattle.wp_master.specs.Pools.{ColumnPool}
use Rattle.wp_master.specs.Runs.{IsAbove}

-- a multiple by a number above 0 is above 0
pub above_times : (a b : ℤ) → pos 0 <ℤ a → pos 0 <ℤ b → pos 0 <ℤ (a *ℤ b)
above_times a b some more = let product = less_times b (pos 0) a more some in let none = *ℤ_comm (pos 0) b in omega (arith, ints, product, none)

-- where a multiple by a number above 0 is above 0, the other factor is
above_over : (d x : ℤ) → pos 0 <ℤ d → pos 0 <ℤ (d *ℤ x) → pos 0 <ℤ x
above_over d x some product = let none = *ℤ_comm (pos 0) d in let turned = *ℤ_comm d x in
    less_over d (pos 0) x some (omega (arith, ints, product, none, turned))

not_below_times : (a b : ℤ) → pos 0 ≤ℤ a → pos 0 <ℤ b → pos 0 ≤ℤ (a *ℤ b)
not_below_times a b most some = by_lt_z (pos 0) a (λ (l : pos 0 <ℤ a). let product = above_times a b l some in omega (arith, ints, product))
    (λ (m : a ≤ℤ pos 0). let none : a ≡ pos 0 = omega (arith, ints, m, most) in
    let product = ap (λ (t : ℤ). t *ℤ b) none in let turned = *ℤ_comm (pos 0) b in omega (arith, ints, product, turned))

below_times : (a b : ℤ) → a ≤ℤ pos 0 → pos 0 <ℤ b → (a *ℤ b) ≤ℤ pos 0
below_times a b most some = by_lt_z a (pos 0)
    (λ (l : a <ℤ pos 0). let product = less_times b a (pos 0) some l in let none = *ℤ_comm (pos 0) b in omega (arith, ints, product, none))
    (λ (m : pos 0 ≤ℤ a). let none : a ≡ pos 0 = omega (arith, ints, m, most) in
    let product = ap (λ (t : ℤ). t *ℤ b) none in let turned = *ℤ_comm (pos 0) b in omega (arith, ints, product, turned))

pub less_below_times : (a b : ℤ) → a <ℤ pos 0 → pos 0 <ℤ b → (a *ℤ b) <ℤ pos 0
less_below_times a b less some = let product = less_times b a (pos 0) some less in let none = *ℤ_comm (pos 0) b in omega (arith, ints, product, none)

-- an entry above 0 that a pivot makes: from one above 0, where what is taken isn't
raised : (d p next t beside above : ℤ) → pos 0 <ℤ d → pos 0 <ℤ p → d *ℤ next ≡ (p *ℤ t) -ℤ (beside *ℤ above) → pos 0 <ℤ t → (beside *ℤ above) ≤ℤ pos 0
    → pos 0 <ℤ next
raised d p next t beside above some pivot e more most = let product = above_times p t pivot more in
    above_over d next some (omega (arith, ints, product, e, most))

-- from 0, where what is taken is below 0
lifted : (d p next t beside above : ℤ) → pos 0 <ℤ d → d *ℤ next ≡ (p *ℤ t) -ℤ (beside *ℤ above) → t ≡ pos 0 → (beside *ℤ above) <ℤ pos 0
    → pos 0 <ℤ next
lifted d p next t beside above some e none less = let product = ap (λ (x : ℤ). p *ℤ x) none in
    above_over d next some (omega (arith, ints, product, e, less))

-- from an entry that is left 0 where nothing is taken
kept_none : (d p next t beside above : ℤ) → pos 0 <ℤ d → d *ℤ next ≡ (p *ℤ t) -ℤ (beside *ℤ above) → t ≡ pos 0 → beside ≡ pos 0 → next ≡ pos 0
kept_none d p next t beside above some e f g =
    let left = ap (λ (x : ℤ). p *ℤ x) f in
    let right = ap (λ (x : ℤ). x *ℤ above) g ∙ *ℤ_comm (pos 0) above in
    cancelled d next (pos 0) some (omega (arith, ints, e, left, right))

times_none : (a b : ℤ) → b ≡ pos 0 → (a *ℤ b) ≤ℤ pos 0
times_none a b e = let product = ap (λ (x : ℤ). a *ℤ x) e in omega (arith, ints, product)

none_times : (a b : ℤ) → a ≡ pos 0 → (a *ℤ b) ≤ℤ pos 0
none_times a b e = let product = ap (λ (x : ℤ). x *ℤ b) e ∙ *ℤ_comm (pos 0) b in omega (arith, ints, product)

-- what a pivot makes of an entry of another row
pub others_entry : (before after : Table) (row place i j : ℕ) → IsPivot row place before after → i < before.rows → j < before.width → i ≢ row
    → before.denominator *ℤ entry_of after i j ≡ (entry_of before row place *ℤ entry_of before i j) -ℤ (entry_of before i place *ℤ entry_of before row j)
others_entry before after row place i j pivot low in_row other = (pivot.entries i j low in_row).others other

lower_or_same : (i n : ℕ) → i ≤ n → (i < n) ⊎ (i ≡ n)
lower_or_same i n h = grind arith

-- a row whose entry at the pivot's place isn't above 0, and whose first entry above 0 comes no later than that of the pivot's row, stays above 0
above_by_own : (before after : Table) (row place i : ℕ) → pos 0 <ℤ before.denominator → IsPivot row place before after → i < before.rows → i ≢ row
    → (one : IsAbove before i) → (two : IsAbove before row) → entry_of before i place ≤ℤ pos 0 → one.at ≤ two.at → IsAbove after i
above_by_own before after row place i some pivot low other one two most early = record {
  at = one.at;
  within = omega (arith, one.within, pivot.width);
  before = λ j earlier. none_stays before.denominator (entry_of before row place) (entry_of after i j) (entry_of before i j) (entry_of before i place)
      (entry_of before row j) some
      (others_entry before after row place i j pivot low (omega (arith, earlier, one.within)) other) (one.before j earlier)
      (two.before j (omega (arith, earlier, early)));
  above = raised before.denominator (entry_of before row place) (entry_of after i one.at) (entry_of before i one.at) (entry_of before i place)
      (entry_of before row one.at) some pivot.above
      (others_entry before after row place i one.at pivot low one.within other) one.above
      (⊎_elim (λ (l : one.at < two.at). times_none (entry_of before i place) (entry_of before row one.at) (two.before one.at l))
      (λ (e : one.at ≡ two.at). below_times (entry_of before i place) (entry_of before row one.at) most
      (subst (λ (n : ℕ). pos 0 <ℤ entry_of before row n) (sym e) two.above))
      (lower_or_same one.at two.at early));
}

-- a row that has 0 at the pivot's place stays above 0
above_by_none : (before after : Table) (row place i : ℕ) → pos 0 <ℤ before.denominator → IsPivot row place before after → i < before.rows → i ≢ row
    → IsAbove before i → entry_of before i place ≡ pos 0 → IsAbove after i
above_by_none before after row place i some pivot low other one none = record {
  at = one.at;
  within = omega (arith, one.within, pivot.width);
  before = λ j earlier. kept_none before.denominator (entry_of before row place) (entry_of after i j) (entry_of before i j) (entry_of before i place)
      (entry_of before row j) some
      (others_entry before after row place i j pivot low (omega (arith, earlier, one.within)) other) (one.before j earlier) none;
  above = raised before.denominator (entry_of before row place) (entry_of after i one.at) (entry_of before i one.at) (entry_of before i place)
      (entry_of before row one.at) some pivot.above
      (others_entry before after row place i one.at pivot low one.within other) one.above
      (none_times (entry_of before i place) (entry_of before row one.at) none);
}

-- a row that is below 0 at the pivot's place, and whose first entry above 0 comes later than that of the pivot's row, stays above 0
above_by_row : (before after : Table) (row place i : ℕ) → pos 0 <ℤ before.denominator → IsPivot row place before after → i < before.rows → i ≢ row
    → (one : IsAbove before i) → (two : IsAbove before row) → entry_of before i place <ℤ pos 0 → two.at < one.at → IsAbove after i
above_by_row before after row place i some pivot low other one two less late = record {
  at = two.at;
  within = omega (arith, two.within, pivot.width);
  before = λ j earlier. none_stays before.denominator (entry_of before row place) (entry_of after i j) (entry_of before i j) (entry_of before i place)
      (entry_of before row j) some
      (others_entry before after row place i j pivot low (omega (arith, earlier, two.within)) other) (one.before j (omega (arith, earlier, late)))
      (two.before j earlier);
  above = lifted before.denominator (entry_of before row place) (entry_of after i two.at) (entry_of before i two.at) (entry_of before i place)
      (entry_of before row two.at) some
      (others_entry before after row place i two.at pivot low two.within other) (one.before two.at late)
      (less_below_times (entry_of before i place) (entry_of before row two.at) less two.above);
}

lower_or_higher : (m n : ℕ) → (m ≤ n) ⊎ (n < m)
lower_or_higher m n = grind arith

-- a row whose entry at the pivot's place isn't above 0 stays above 0
above_by_sign : (before after : Table) (row place i : ℕ) → pos 0 <ℤ before.denominator → IsPivot row place before after → i < before.rows → i ≢ row
    → IsAbove before i → IsAbove before row → entry_of before i place ≤ℤ pos 0 → IsAbove after i
above_by_sign before after row place i some pivot low other one two most = by_lt_z (entry_of before i place) (pos 0)
    (λ (less : entry_of before i place <ℤ pos 0). ⊎_elim (above_by_own before after row place i some pivot low other one two most)
    (above_by_row before after row place i some pivot low other one two less) (lower_or_higher one.at two.at))
    (λ (more : pos 0 ≤ℤ entry_of before i place). above_by_none before after row place i some pivot low other one (omega (arith, ints, most, more)))

more_raised : (d p next t beside above : ℤ) → pos 0 <ℤ d → d *ℤ next ≡ (p *ℤ t) -ℤ (beside *ℤ above) → (above *ℤ beside) <ℤ (t *ℤ p) → pos 0 <ℤ next
more_raised d p next t beside above some e less = above_over d next some (omega (arith, ints, e, less, *ℤ_comm above beside, *ℤ_comm t p))

same_left : (d p next t beside above : ℤ) → pos 0 <ℤ d → d *ℤ next ≡ (p *ℤ t) -ℤ (beside *ℤ above) → above *ℤ beside ≡ t *ℤ p → next ≡ pos 0
same_left d p next t beside above some e same =
    cancelled d next (pos 0) some (omega (arith, ints, e, same, *ℤ_comm above beside, *ℤ_comm t p))

-- a row that the pivot's row precedes over their entries at its place is above 0 after the pivot
above_by_ratio : (before after : Table) (row place i : ℕ) → pos 0 <ℤ before.denominator → IsPivot row place before after → i < before.rows → i ≢ row
    → Precedes before row i place → IsAbove after i
above_by_ratio before after row place i some pivot low other p = record {
  at = p.at;
  within = omega (arith, p.within, pivot.width);
  before = λ j earlier. same_left before.denominator (entry_of before row place) (entry_of after i j) (entry_of before i j) (entry_of before i place)
      (entry_of before row j) some
      (others_entry before after row place i j pivot low (omega (arith, earlier, p.within)) other) (p.equal j earlier);
  above = more_raised before.denominator (entry_of before row place) (entry_of after i p.at) (entry_of before i p.at) (entry_of before i place)
      (entry_of before row p.at) some
      (others_entry before after row place i p.at pivot low p.within other) p.less;
}

-- of two rows one precedes the other over their entries at a place, or they agree so far
compared : (table : Table) (row other place count : ℕ) → count ≤ table.width
    → Precedes table row other place ⊎ (Precedes table other row place ⊎ AgreeBefore table row other place count)
compared table row other place zero within = inr (inr (λ j early. absurd (omega (arith, early))))
compared table row other place (suc count) within = ⊎_elim (λ p. inl p)
    (λ (rest : Precedes table other row place ⊎ AgreeBefore table row other place count). ⊎_elim (λ p. inr (inl p))
    (λ (agree : AgreeBefore table row other place count).
    let left = scaled_entry table row count other place in
    let right = scaled_entry table other count row place in
    by_lt_z left right
    (λ (less : left <ℤ right). inl (record { at = count; within = omega (arith, within); equal = agree; less = less }))
    (λ (most : right ≤ℤ left). by_lt_z right left
    (λ (more : right <ℤ left). inr (inl (record { at = count; within = omega (arith, within); equal = λ j early. sym (agree j early); less = more })))
    (λ (least : left ≤ℤ right). inr (inr (λ j early. agree_more table row other place count left right agree refl refl (omega (arith, ints, most, least)) j
    (omega (arith, early)))))))
    rest) (compared table row other place count (omega (arith, within)))

apart_at : (d p t above beside : ℤ) → pos 0 <ℤ d → pos 0 <ℤ p → t ≡ d → above ≡ pos 0 → above *ℤ beside ≡ t *ℤ p → ⊥
apart_at d p t above beside some pivot own none same =
    let left = ap (λ (x : ℤ). x *ℤ beside) none ∙ *ℤ_comm (pos 0) beside in
    let right = ap (λ (x : ℤ). x *ℤ p) own in
    let product = above_times d p some pivot in
    omega (arith, ints, same, left, right, product)

-- a row whose entry at the pivot's place is above 0 stays above 0, where the pivot's row leaves
above_by_leaving : (pool : ColumnPool) (begun before after : Table) (basis : List ℕ) (row place i : ℕ) → before.rows ≡ last_row pool + 1
    → before.width ≡ places pool → pos 0 <ℤ before.denominator → IsBasis pool begun before basis → IsPivot row place before after
    → IsLeavingRow before place (last_row pool) row → i < last_row pool → i ≢ row → pos 0 <ℤ entry_of before i place → IsAbove after i
above_by_leaving pool begun before after basis row place i rows width some is pivot leaving low other more = ⊎_elim
    (above_by_ratio before after row place i some pivot (omega (arith, rows, low)) other)
    (λ (rest : Precedes before i row place ⊎ AgreeBefore before row i place before.width). ⊎_elim
    (λ p. absurd (leaving.first i low more p))
    (λ (agree : AgreeBefore before row i place before.width). absurd (apart_at before.denominator (entry_of before row place) _ _ _ some pivot.above
    (is.own i low) (is.others row i (omega (arith, leaving.known)) low (λ e. other (sym e)))
    (agree (basic_place basis i) (omega (arith, width, is.within i low))))) rest)
    (compared before row i place before.width (omega arith))

is_or_not : (k row : ℕ) → (k ≡ row) ⊎ (k ≢ row)
is_or_not k row = grind arith

-- the pivot's row stays as it is
row_stays_above : (before after : Table) (row place : ℕ) → IsPivot row place before after → IsAbove before row → IsAbove after row
row_stays_above before after row place pivot one =
    let same = λ (j : ℕ) (h : j < before.width). (pivot.entries row j (omega (arith, pivot.not_last)) h).stays refl in
    record {
      at = one.at;
      within = omega (arith, one.within, pivot.width);
      before = λ j early. same j (omega (arith, early, one.within)) ∙ one.before j early;
      above = subst (λ (x : ℤ). pos 0 <ℤ x) (sym (same one.at one.within)) one.above;
    }

-- a pivot in the row that leaves keeps the rows above 0
pub above_stays : (pool : ColumnPool) (begun before after : Table) (basis : List ℕ) (row place : ℕ) → before.rows ≡ last_row pool + 1
    → before.width ≡ places pool → pos 0 <ℤ before.denominator → IsBasis pool begun before basis → IsPivot row place before after
    → IsLeavingRow before place (last_row pool) row → ((i : ℕ) → i < last_row pool → IsAbove before i) → (i : ℕ) → i < last_row pool → IsAbove after i
above_stays pool begun before after basis row place rows width some is pivot leaving each i low = ⊎_elim
    (λ (here : i ≡ row). subst (IsAbove after) (sym here) (row_stays_above before after row place pivot (each row leaving.known)))
    (λ (other : i ≢ row). by_lt_z (pos 0) (entry_of before i place)
    (above_by_leaving pool begun before after basis row place i rows width some is pivot leaving low other)
    (above_by_sign before after row place i some pivot (omega (arith, rows, low)) other (each i low) (each row leaving.known)))
    (is_or_not i row)

risen_same : (d p next t beside above : ℤ) → d *ℤ next ≡ (p *ℤ t) -ℤ (beside *ℤ above) → above ≡ pos 0 → next *ℤ d ≡ t *ℤ p
risen_same d p next t beside above e none =
    let product = ap (λ (x : ℤ). beside *ℤ x) none in omega (arith, ints, e, product, *ℤ_comm d next, *ℤ_comm p t)

risen_more : (d p next t beside above : ℤ) → d *ℤ next ≡ (p *ℤ t) -ℤ (beside *ℤ above) → beside <ℤ pos 0 → pos 0 <ℤ above → (t *ℤ p) <ℤ (next *ℤ d)
risen_more d p next t beside above e less more =
    let product = less_below_times beside above less more in omega (arith, ints, e, product, *ℤ_comm d next, *ℤ_comm p t)

-- a pivot at a place where the last row is below 0 makes it rise
pub last_row_rises : (pool : ColumnPool) (before after : Table) (row place : ℕ) → before.rows ≡ last_row pool + 1 → IsPivot row place before after
    → row < last_row pool → entry_of before (last_row pool) place <ℤ pos 0 → IsAbove before row → LastRowRises before after
last_row_rises pool before after row place rows pivot low below one =
    let entry = λ (j : ℕ) (h : j < before.width). others_entry before after row place (last_row pool) j pivot (omega (arith, rows)) h
    (λ e. omega (arith, e, low)) in
    record {
      row = last_row pool;
      last = rows;
      place = one.at;
      within = one.within;
      equal = λ j early. risen_same before.denominator (entry_of before row place) (entry_of after (last_row pool) j) (entry_of before (last_row pool) j)
          (entry_of before (last_row pool) place) (entry_of before row j) (entry j (omega (arith, early, one.within))) (one.before j early)
          ∙ ap (λ (x : ℤ). entry_of before (last_row pool) j *ℤ x) (sym pivot.denominator);
      more = subst (λ (x : ℤ). (entry_of before (last_row pool) one.at *ℤ x) <ℤ (entry_of after (last_row pool) one.at *ℤ before.denominator))
          (sym pivot.denominator) (risen_more before.denominator (entry_of before row place) (entry_of after (last_row pool) one.at)
          (entry_of before (last_row pool) one.at) (entry_of before (last_row pool) place) (entry_of before row one.at)
          (entry one.at one.within) below one.above);
    }
