-- The row to leave: which rows precede which.
use Rattle.std.proofs.Common.{◌≡◌, ◌⊎◌, ⊎_elim, ℕ, ◌+◌, ◌<◌, Option, None, Some, ℤ, pos, ◌<ℤ◌, ◌≤ℤ◌, arith, refl, subst}
use Rattle.std.proofs.lemmas.Int.{ints}
use Rattle.wp_master.proofs.Choosing.{lower_or_here, not_below_itself, order_of}
use Rattle.wp_master.proofs.Ratios.{ratio_less, ratio_less_same, ratio_same, ratio_same_less}
use Rattle.wp_master.specs.Choices.{IsLeaving, IsLeavingRow, Precedes, scaled_entry}
use Rattle.wp_master.specs.Pivots.{Table, entry_of}

-- of rows with entries above 0 at a place, one that precedes a row that precedes a third precedes that one
pub precedes_through : (table : Table) (first second third place : ℕ) → pos 0 <ℤ entry_of table first place → pos 0 <ℤ entry_of table second place
    → pos 0 <ℤ entry_of table third place → Precedes table first second place → Precedes table second third place → Precedes table first third place
precedes_through table first second third place a b c p q = ⊎_elim
    (λ (early : p.at < q.at). record {
      at = p.at;
      within = p.within;
      equal = λ j low. ratio_same _ _ _ _ _ _ b (p.equal j low) (q.equal j (omega (arith, low, early)));
      less = ratio_less_same _ _ _ _ _ _ b c p.less (q.equal p.at early);
    })
    (λ (rest : (q.at < p.at) ⊎ (p.at ≡ q.at)). ⊎_elim
    (λ (late : q.at < p.at). record {
      at = q.at;
      within = q.within;
      equal = λ j low. ratio_same _ _ _ _ _ _ b (p.equal j (omega (arith, low, late))) (q.equal j low);
      less = ratio_same_less _ _ _ _ _ _ a b (p.equal q.at late) q.less;
    })
    (λ (both : p.at ≡ q.at). record {
      at = q.at;
      within = q.within;
      equal = λ j low. ratio_same _ _ _ _ _ _ b (p.equal j (omega (arith, low, both))) (q.equal j low);
      less = ratio_less _ _ _ _ _ _ a b c
          (subst (λ (n : ℕ). scaled_entry table first n second place <ℤ scaled_entry table second n first place) both p.less) q.less;
    }) rest) (order_of p.at q.at)

-- no row precedes itself
itself : (table : Table) (row place : ℕ) → Precedes table row row place → ⊥
itself table row place p = not_below_itself _ _ refl p.less

not_above : (x : ℤ) → x ≤ℤ pos 0 → pos 0 <ℤ x → ⊥
not_above x most some = omega (arith, ints, most, some)

-- a row whose entry isn't above 0 changes nothing
pub leaving_kept : (table : Table) (place row : ℕ) (best : Option ℕ) → entry_of table row place ≤ℤ pos 0 → IsLeaving table place row best
    → IsLeaving table place (row + 1) best
leaving_kept table place row None most none = λ k low some. ⊎_elim (λ l. none k l some)
    (λ (e : k ≡ row). not_above _ most (subst (λ (n : ℕ). pos 0 <ℤ entry_of table n place) e some)) (lower_or_here k row low)
leaving_kept table place row (Some known) most best = record {
  known = omega (arith, best.known);
  above = best.above;
  first = λ k low some p. ⊎_elim (λ l. best.first k l some p)
      (λ (e : k ≡ row). not_above _ most (subst (λ (n : ℕ). pos 0 <ℤ entry_of table n place) e some)) (lower_or_here k row low);
}

-- the first row whose entry is above 0
pub leaving_first : (table : Table) (place row : ℕ) → pos 0 <ℤ entry_of table row place → IsLeaving table place row None
    → IsLeavingRow table place (row + 1) row
leaving_first table place row above none = record {
  known = omega arith;
  above = above;
  first = λ k low some p. ⊎_elim (λ l. none k l some)
      (λ (e : k ≡ row). itself table row place (subst (λ (n : ℕ). Precedes table n row place) e p)) (lower_or_here k row low);
}

-- a row that precedes the one so far takes its place
pub leaving_taken : (table : Table) (place row known : ℕ) → pos 0 <ℤ entry_of table row place → IsLeavingRow table place row known
    → Precedes table row known place → IsLeavingRow table place (row + 1) row
leaving_taken table place row known above best before = record {
  known = omega arith;
  above = above;
  first = λ k low some p. ⊎_elim (λ l. best.first k l some (precedes_through table k row known place some above best.above p before))
      (λ (e : k ≡ row). itself table row place (subst (λ (n : ℕ). Precedes table n row place) e p)) (lower_or_here k row low);
}

-- a row that doesn't precede the one so far leaves it there
pub leaving_stays : (table : Table) (place row known : ℕ) → IsLeavingRow table place row known → (Precedes table row known place → ⊥)
    → IsLeavingRow table place (row + 1) known
leaving_stays table place row known best not_before = record {
  known = omega (arith, best.known);
  above = best.above;
  first = λ k low some p. ⊎_elim (λ l. best.first k l some p)
      (λ (e : k ≡ row). not_before (subst (λ (n : ℕ). Precedes table n known place) e p)) (lower_or_here k row low);
}
