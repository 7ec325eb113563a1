-- When numbers make a layout whose aisles lie equally far from each other.
use Rattle.std.proofs.Common.{◌≡◌, ℕ, ◌-◌, List, replicate, take, arith, sym, subst}
use Rattle.std.proofs.lemmas.List.{get_or-replicate, length-replicate, take-replicate}
use Rattle.wp_model.specs.Limits.{greatest_length, most_aisles, most_slots}
use Rattle.wp_model.specs.Warehouse.{IsLayout, IsUpTo, Layout, even_layout}
use Rattle.wp_model.specs.Warehouse.End.{at_front}

-- where each number is in its range
pub even_valid : (aisles slots pitch clearance spacing depot : ℕ) → IsUpTo most_aisles aisles → IsUpTo most_slots slots → IsUpTo greatest_length pitch →
    IsUpTo greatest_length clearance → IsUpTo greatest_length spacing → IsUpTo aisles depot → IsLayout (even_layout aisles slots pitch clearance spacing depot)
even_valid aisles slots pitch clearance spacing depot few short near clear apart home = record {
  aisles = few;
  slots = short;
  pitch = near;
  clearance = clear;
  between = let count = length-replicate (aisles - 1) spacing in omega (arith, count, few);
  spacings = λ k d low. let count = length-replicate (aisles - 1) spacing in
      subst (λ (n : ℕ). IsUpTo greatest_length n) (sym (get_or-replicate (aisles - 1) k spacing d (omega (arith, low, count)))) apart;
  depot = home;
}

-- the layout of these numbers with its depot in front
abbrev pub in_front : ℕ → ℕ → ℕ → ℕ → ℕ → List ℕ → Layout
in_front aisles slots pitch clearance depot spacings = record {
  aisles = aisles;
  slots = slots;
  pitch = pitch;
  clearance = clearance;
  spacings = spacings;
  depot = depot;
  end = at_front;
}

-- as many of some equal lengths as an even layout has
pub taken_even : (aisles spacing : ℕ) → IsUpTo most_aisles aisles → take (aisles - 1) (replicate 63 spacing) ≡ replicate (aisles - 1) spacing
taken_even aisles spacing few = take-replicate (aisles - 1) 63 spacing (omega (arith, few))
