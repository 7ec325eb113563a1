-- The greatest common divisor of a layout's moves, spacing after spacing.
use Rattle.std.proofs.Common.{◌≡◌, ◌≢◌, ℕ, zero, suc, ◌+◌, ◌*◌, ◌<◌, ◌≤◌, List, [], ◌∷◌, length, arith, refl, sym, subst, ⊎_elim, get_or}
use Rattle.std.specs.Int.{IsGcd, ◌∣◌}
use Rattle.std.specs.Prelude.{slice_index}
use Rattle.std.proofs.Math.Nat.{eq-zero_of_zero-dvd}
use Rattle.std.proofs.lemmas.Nat.Gcd.{dvd_refl, dvd-zero, dvd_trans, le_of_dvd}
use Rattle.std.proofs.lemmas.Bool.{cases_eq}
use Rattle.std.proofs.lemmas.List.{get_or_default}
use Rattle.wp_model.specs.Limits.{greatest_length}
use Rattle.wp_model.specs.Warehouse.{IsLayout, Layout, spacing_after}
use Rattle.wp_cuts.specs.Steps.{IsLayoutStep}

-- a number divides the lengths of moves within an aisle, and the spacings before an aisle
pub record DividesBefore (layout : Layout) (aisle divisor : ℕ) : Type 0 where
  pub clearance : divisor ∣ layout.clearance
  pub pitch : 2 ≤ layout.slots → divisor ∣ layout.pitch
  pub spacings : (k : ℕ) → k + 1 < aisle → divisor ∣ slice_index layout.spacings k

-- it does, and each number that does so divides it
pub record IsGreatestBefore (layout : Layout) (aisle divisor : ℕ) : Type 0 where
  pub divides : DividesBefore layout aisle divisor
  pub greatest : (other : ℕ) → DividesBefore layout aisle other → other ∣ divisor

-- the clearance alone, where an aisle has one slot
pub first_alone : (layout : Layout) (g : ℕ) → layout.slots < 2 → g ≡ layout.clearance → IsGreatestBefore layout 1 g
first_alone layout g few is = record {
  divides = record {
    clearance = subst (λ (n : ℕ). g ∣ n) is (dvd_refl g);
    pitch = λ more. absurd (omega (arith, few, more));
    spacings = λ k low. absurd (omega (arith, low));
  };
  greatest = λ other all. subst (λ (n : ℕ). other ∣ n) (sym is) all.clearance;
}

-- the clearance and the pitch, where it has more
pub first_both : (layout : Layout) (g : ℕ) → 2 ≤ layout.slots → IsGcd layout.pitch layout.clearance g → IsGreatestBefore layout 1 g
first_both layout g more is = record {
  divides = record { clearance = is.1; pitch = λ many. is.0; spacings = λ k low. absurd (omega (arith, low)) };
  greatest = λ other all. is.2 other (all.pitch more) all.clearance;
}

-- with one more spacing
pub next_greatest : (layout : Layout) (aisle g k : ℕ) → 1 ≤ aisle → IsGreatestBefore layout aisle g → IsGcd g (spacing_after layout aisle) k
    → IsGreatestBefore layout (aisle + 1) k
next_greatest layout zero g k some before is = absurd (omega arith)
next_greatest layout (suc aisle) g k some before is = record {
  divides = record {
    clearance = dvd_trans k is.0 before.divides.clearance;
    pitch = λ more. dvd_trans k is.0 (before.divides.pitch more);
    spacings = λ i low. ⊎_elim
        (λ (e : i ≡ aisle). subst (λ (n : ℕ). k ∣ slice_index layout.spacings n) (sym e) is.1)
        (λ (ne : i ≢ aisle). dvd_trans k is.0 (before.divides.spacings i (omega (arith, low, ne))))
        (cases_eq i aisle);
  };
  greatest = λ other all. is.2 other
      (before.greatest other (record { clearance = all.clearance; pitch = all.pitch; spacings = λ i low. all.spacings i (omega (arith, low)) }))
      (all.spacings aisle (omega arith));
}

-- behind the last aisle
pub greatest_is_step : (layout : Layout) (aisle g : ℕ) → IsLayout layout → layout.aisles ≤ aisle → IsGreatestBefore layout aisle g → IsLayoutStep layout (2 * g)
greatest_is_step layout aisle g valid last is = record {
  half = g;
  divides = record {
    clearance = is.divides.clearance;
    pitch = is.divides.pitch;
    spacings = λ k d low. subst (λ (n : ℕ). g ∣ n) (get_or_default layout.spacings k 0 d low)
        (is.divides.spacings k (omega (arith, low, valid.between, last)));
  };
  greatest = λ other all. is.greatest other (record {
    clearance = all.clearance;
    pitch = all.pitch;
    spacings = λ k low. entry_divided other layout.spacings k all.spacings;
  });
  twice = refl;
}
  where
    entry_divided : (other : ℕ) (xs : List ℕ) (k : ℕ) → ((i d : ℕ) → i < length xs → other ∣ get_or xs i d) → other ∣ slice_index xs k
    entry_divided other [] k each = dvd-zero other
    entry_divided other (x ∷ xs) zero each = each 0 0 (omega arith)
    entry_divided other (x ∷ xs) (suc k) each = entry_divided other xs k (λ i d low. each (suc i) d (omega (arith, low)))

-- such a divisor is at least 1 and no more than the clearance
divides_some : (g n : ℕ) → 1 ≤ n → g ∣ n → 1 ≤ g
divides_some zero n low divides = let none : n ≡ 0 = eq-zero_of_zero-dvd divides in omega (arith, low, none)
divides_some (suc g) n low divides = omega arith

pub divisor_some : (layout : Layout) (aisle g : ℕ) → IsLayout layout → DividesBefore layout aisle g → 1 ≤ g
divisor_some layout aisle g valid divides = divides_some g layout.clearance valid.clearance.0 divides.clearance

pub divisor_small : (layout : Layout) (aisle g : ℕ) → IsLayout layout → DividesBefore layout aisle g → g ≤ greatest_length
divisor_small layout aisle g valid divides =
    let within = le_of_dvd valid.clearance.0 divides.clearance in omega (arith, within, valid.clearance.1)
