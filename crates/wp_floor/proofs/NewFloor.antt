-- A floor on which all stock is free, and there is no wave.
use Rattle.std.proofs.Common.{◌≡◌, refl, ℕ, zero, suc, ◌<◌, [], length, replicate, Some, None, slice_get, arith}
use Rattle.std.proofs.lemmas.List.{length-replicate}
use Rattle.std.proofs.lemmas.Option.{slice_get_within}
use Rattle.wp_book.specs.Calls.{free_book}
use Rattle.wp_model.proofs.Sound.{opening_is_sound}
use Rattle.wp_model.specs.Opening.{Opening}
use Rattle.wp_model.specs.State.{opening_state}
use Rattle.wp_model.specs.Tables.{IsReadOpening}
use Rattle.wp_floor.specs.Floor.{AreTakers, IsFloor, state_of}
use Rattle.wp_floor.specs.Waves.{AreWaves, waves_of}
use Rattle.wp_floor.specs.declared.floor.Floor.{Floor}
use Rattle.wp_floor.proofs.Floors.{is_opening}
use Rattle.wp_floor.proofs.SameRows.{opening_same_rows}

-- a replicated item stands everywhere
everywhere : {A : Type 0} (n i : ℕ) (a : A) → i < n → slice_get (replicate n a) i ≡ Some a
everywhere zero i a within = absurd (omega arith)
everywhere (suc n) zero a within = refl
everywhere (suc n) (suc i) a within = everywhere n i a (omega arith)

-- nobody has an order yet
no_takers : (opening : Opening) → AreTakers opening [] (replicate (length opening.orders) None)
no_takers opening = record {
  count = length-replicate (length opening.orders) None;
  each = λ i order there. everywhere (length opening.orders) i None (slice_get_within opening.orders i order there);
}

-- what is kept of an opening
pub floor_opens : (opening : Opening) (floor : Floor) → IsReadOpening opening → floor.book ≡ free_book opening.stock
    → AreWaves floor.waves → waves_of floor.waves ≡ []
    → floor.takers.items ≡ replicate (length opening.orders) None
    → IsFloor opening floor
floor_opens opening floor read book chains waves takers =
    let state : state_of floor ≡ opening_state opening = rw (book, waves) refl in
    record {
      read = read;
      sound = rw state (opening_is_sound opening (is_opening opening read));
      rows = rw book (opening_same_rows opening);
      chains = chains;
      waves = λ number. rw waves tt;
      takers = rw (waves, takers) (no_takers opening);
    }
