-- Rows over their entries at a place, compared place by place.
use Rattle.std.proofs.Common.{◌≡◌, ◌≢◌, ◌⊎◌, ⊎_elim, ℕ, ◌<◌, ◌≤◌, ℤ, ◌<ℤ◌, arith, sym, subst, ◌∙◌}
use Rattle.std.proofs.Common.{◌+◌, true, pos, ◌≤ℤ◌, Option, None, Some, IfSome, IfNone}
use Rattle.std.specs.Int.Signed.{lt_z}
use Rattle.std.proofs.lemmas.Int.{ints}
use Rattle.wp_master.specs.Choices.{AgreeBefore, HasRisen, IsRisingBefore, IsRisingPlace, Precedes, scaled_entry}
use Rattle.wp_master.specs.Pivots.{Table, entry_of}

pub order_of : (a b : ℕ) → (a < b) ⊎ ((b < a) ⊎ (a ≡ b))
order_of a b = grind arith

pub not_below_itself : (x y : ℤ) → x ≡ y → x <ℤ y → ⊥
not_below_itself x y e l = omega (arith, ints, e, l)

-- where two rows over their entries at a place differ first at a place, the one that has less there precedes
pub less_precedes : (table : Table) (row other place j : ℕ) (left right : ℤ) → AgreeBefore table row other place j → j < table.width
    → left ≡ scaled_entry table row j other place → right ≡ scaled_entry table other j row place → left <ℤ right → Precedes table row other place
less_precedes table row other place j left right agree within l r less = record {
  at = j;
  within = within;
  equal = agree;
  less = subst (λ (t : ℤ). t <ℤ scaled_entry table other j row place) l (subst (λ (t : ℤ). left <ℤ t) r less);
}

-- where it precedes, it has less there
pub precedes_less : (table : Table) (row other place j : ℕ) (left right : ℤ) → AgreeBefore table row other place j
    → left ≡ scaled_entry table row j other place → right ≡ scaled_entry table other j row place → left ≢ right → Precedes table row other place → left <ℤ right
precedes_less table row other place j left right agree l r differ p = ⊎_elim
    (λ (early : p.at < j). absurd (not_below_itself _ _ (agree p.at early) p.less))
    (λ (rest : (j < p.at) ⊎ (p.at ≡ j)). ⊎_elim (λ (late : j < p.at). absurd (differ (l ∙ p.equal j late ∙ sym r)))
    (λ (here : p.at ≡ j). subst (λ (t : ℤ). t <ℤ right) (sym l) (subst (λ (t : ℤ). scaled_entry table row j other place <ℤ t) (sym r)
    (subst (λ (n : ℕ). scaled_entry table row n other place <ℤ scaled_entry table other n row place) here p.less))) rest)
    (order_of p.at j)

-- rows that differ nowhere don't precede each other
pub agreeing_rows : (table : Table) (row other place before : ℕ) → AgreeBefore table row other place before → table.width ≤ before
    → Precedes table row other place → ⊥
agreeing_rows table row other place before agree all p = not_below_itself _ _ (agree p.at (omega (arith, p.within, all))) p.less

pub lower_or_here : (j k : ℕ) → j < k + 1 → (j < k) ⊎ (j ≡ k)
lower_or_here j k h = grind arith

-- rows that differ before no place, and not at it, differ before no place up to the next
pub agree_more : (table : Table) (row other place k : ℕ) (left right : ℤ) → AgreeBefore table row other place k
    → left ≡ scaled_entry table row k other place → right ≡ scaled_entry table other k row place → left ≡ right → AgreeBefore table row other place (k + 1)
agree_more table row other place k left right agree l r same = λ j low. ⊎_elim (agree j)
    (λ (here : j ≡ k). subst (λ (n : ℕ). scaled_entry table row n other place ≡ scaled_entry table other n row place) (sym here) (sym l ∙ same ∙ r))
    (lower_or_here j k low)

-- a test of two numbers that passed, and one that passes
pub tested_below : (a b : ℤ) → lt_z a b ≡ true → a <ℤ b
tested_below a b passed = omega (arith, ints, passed)

pub below_tests : (a b : ℤ) → a <ℤ b → lt_z a b ≡ true
below_tests a b less = grind (arith, ints)

-- the place that was found of all
pub rising_is_found : (table : Table) (last before : ℕ) (best : Option ℕ) → table.rows ≡ last + 1 → before ≡ table.width
    → IsRisingBefore table last before best
    → IfSome best (λ place. IsRisingPlace table place)
rising_is_found table last before None rows all is = tt
rising_is_found table last before (Some place) rows all is =
    record { row = last; last = rows; not_first = is.0; within = omega (arith, is.1, all); below = is.2 }

-- none was found
pub risen_is_found : (table : Table) (last before : ℕ) (best : Option ℕ) → table.rows ≡ last + 1 → before ≡ table.width
    → IsRisingBefore table last before best
    → IfNone best (HasRisen table)
risen_is_found table last before None rows all is = λ row place at some within.
    let same : last ≡ row = omega (arith, rows, at) in
    subst (λ (r : ℕ). pos 0 ≤ℤ entry_of table r place) same (is place some (omega (arith, within, all)))
risen_is_found table last before (Some place) rows all is = tt
