-- Moves of one wave's units.
use Rattle.std.proofs.Common.{◌≡◌, ◌≢◌, ℕ, ◌<◌, ◌≤◌, length, Option, refl, ◌∙◌}
use Rattle.wp_model.proofs.Held.{with_held-other}
use Rattle.wp_model.proofs.Holds.{alike_changed, alike_itself, alike_then}
use Rattle.wp_model.proofs.Rows.{at_place-article}
use Rattle.wp_model.proofs.Stock.{give_back_keeps_stock, hold_keeps_stock, take_keeps_stock, taken}
use Rattle.wp_model.specs.StockMoves.{IsSoundStock}
use Rattle.wp_model.specs.Change.{give_back, hold, take, take_units}
use Rattle.wp_model.specs.Sound.{orders_in}
use Rattle.wp_model.specs.StockMoves.{IsMoved, IsSoundStock}
use Rattle.wp_model.specs.State.{State}

-- nothing moves
pub unmoved : (number : ℕ) (state : State) → IsSoundStock state → IsMoved number state state
unmoved number state sound = record { waves = refl; stock = sound; alike = alike_itself state.rows; others = λ w order row other. refl }

-- one move after another
pub moved_then : (number : ℕ) (a b c : State) → IsMoved number a b → IsMoved number b c → IsMoved number a c
moved_then number a b c first second = record {
  waves = second.waves ∙ first.waves;
  stock = second.stock;
  alike = alike_then a.rows b.rows c.rows first.alike second.alike;
  others = λ w order row other. second.others w order row other ∙ first.others w order row other;
}

-- stock is held for a wave, goes back from it, or is taken
pub hold_moves : (demand : ℕ → ℕ → ℕ) (except : Option ℕ) (number orders : ℕ) (state : State) → number < length state.waves → orders_in state number ≡ orders
    → ((article order : ℕ) → demand article order ≢ 0 → order < orders) → IsSoundStock state → IsMoved number state (hold demand except number orders state)
hold_moves demand except number orders state within e wanted sound = record {
  waves = refl;
  stock = hold_keeps_stock demand except number orders state within e wanted sound;
  alike = alike_changed _ state.rows (λ k r. refl);
  others = with_held-other state number _;
}

-- what a wave gives back moves units of this wave alone
pub give_back_moves : (number orders : ℕ) (state : State) → number < length state.waves → orders_in state number ≡ orders → IsSoundStock state
    → IsMoved number state (give_back number orders state)
give_back_moves number orders state within e sound = record {
  waves = refl;
  stock = give_back_keeps_stock number orders state within e sound;
  alike = alike_changed _ state.rows (λ k r. refl);
  others = with_held-other state number (λ order row. 0);
}

-- what is taken of a wave moves units of this wave alone
pub take_moves : (number order row units orders : ℕ) (state : State) → number < length state.waves → orders_in state number ≡ orders → order < orders
    → units ≤ state.held number order row
    → IsSoundStock state → IsMoved number state (take number order row units state)
take_moves number order row units orders state within e below enough sound = record {
  waves = refl;
  stock = take_keeps_stock number order row units orders state within e below enough sound;
  alike = alike_changed _ state.rows (λ k r. at_place-article row k (take_units units) r refl);
  others = with_held-other state number (taken state number order row units);
}
