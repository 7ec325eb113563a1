-- Waves that are changed, and new ones.
use Rattle.std.proofs.Common.{◌≡◌, ℕ, ◌<◌, ◌≤◌, inl, inr, List, length, slice_get, slice_set, Some, IsTrue, Bool, All, refl, sym, ap, ◌∙◌, subst, subst₂}
use Rattle.std.proofs.Common.{arith, ◌==◌, length-set}
use Rattle.std.proofs.lemmas.Bool.{cases_eq, cond_both, eqb-false, eqb-true}
use Rattle.std.proofs.lemmas.Option.{slice_get_within}
use Rattle.std.specs.Option.{option_map_or}
use Rattle.wp_model.proofs.Held.{orders_in-at}
use Rattle.wp_model.proofs.Holds.{HoldsAs-same, alike_itself}
use Rattle.wp_model.specs.StockMoves.{IsMoved}
use Rattle.wp_model.proofs.Elements.{at_some, if_some, if_some_then, slice_get-set, slice_get-set_other, slice_get-set_same}
use Rattle.wp_model.specs.StockMoves.{IsSoundStock}
use Rattle.wp_model.proofs.Sums.{sum-agree}
use Rattle.wp_model.specs.Change.{put_wave, settle}
use Rattle.wp_model.specs.Opening.{Opening, is_known_order}
use Rattle.wp_model.specs.Limits.{most_wave_orders}
use Rattle.wp_model.specs.Sound.{AreDifferent, FitsCart, HoldsAs, IsSound, IsSoundWave, PickedAs, held_at, orders_in}
use Rattle.wp_model.specs.State.{State, Wave, wave_held, wave_held_at}
use Rattle.wp_model.specs.Step.{is_live}
use Rattle.wp_model.specs.Sums.{sum_below}
use Rattle.wp_model.specs.declared.reply.WaveState.{WaveState}
use Rattle.wp_model.specs.declared.reply.WaveState.TheVariants as wave

-- the rows' side of a sound state
pub stock_of : (opening : Opening) (state : State) → IsSound opening state → IsSoundStock state
stock_of opening state sound = record { rows = sound.rows; held = sound.held; nowhere_else = sound.nowhere_else }

-- what a wave of a sound state is
pub wave_at : (opening : Opening) (state : State) (number : ℕ) (w : Wave) → IsSound opening state → slice_get state.waves number ≡ Some w
    → IsSoundWave opening state number w
wave_at opening state number w sound there = at_some (slice_get state.waves number) (IsSoundWave opening state number) w there (sound.waves number)

-- a wave with as many orders as before is put in its place
orders_in-put : (state : State) (number : ℕ) (v w : Wave) → slice_get state.waves number ≡ Some v → length w.orders ≡ length v.orders → (n : ℕ)
    → orders_in (put_wave number w state) n ≡ orders_in state n
orders_in-put state number v w is e n = elim (cases_eq n number) [
  | inl here ↦
      let now = slice_get-set_same state.waves number w (slice_get_within state.waves number v is) in
      ap (orders_in (put_wave number w state)) here ∙ orders_in-at (put_wave number w state) number w now ∙ e ∙ sym (orders_in-at state number v is)
      ∙ sym (ap (orders_in state) here)
  | inr other ↦ ap (λ found. option_map_or (λ v. length v.orders) found 0) (slice_get-set_other state.waves number n w other)
]

held_at-put : (state : State) (number : ℕ) (v w : Wave) → slice_get state.waves number ≡ Some v → length w.orders ≡ length v.orders → (row : ℕ)
    → held_at (put_wave number w state) row ≡ held_at state row
held_at-put state number v w is e row =
    ap (λ n. sum_below n (λ wave. wave_held_at state wave (orders_in (put_wave number w state) wave) row)) (length-set state.waves number w)
    ∙ sum-agree (length state.waves) _ _ (λ wave within. ap (λ orders. wave_held_at state wave orders row) (orders_in-put state number v w is e wave))

put_wave_keeps_stock : (state : State) (number : ℕ) (v w : Wave) → slice_get state.waves number ≡ Some v → length w.orders ≡ length v.orders
    → IsSoundStock state → IsSoundStock (put_wave number w state)
put_wave_keeps_stock state number v w is e sound = record {
  rows = sound.rows;
  held = λ row. if_some_then (slice_get state.rows row) (λ r. r.held ≡ held_at state row) (λ r. r.held ≡ held_at (put_wave number w state) row)
      (λ r is_held. is_held ∙ sym (held_at-put state number v w is e row)) (sound.held row);
  nowhere_else = λ n order row some. let place = sound.nowhere_else n order row some in
      (omega (arith, place.0, orders_in-put state number v w is e n), place.1);
}

-- a wave of a sound state, where it holds and has picked what its state allows in another state
pub still_sound : (opening : Opening) (old new : State) (n : ℕ) (v w : Wave) → w.orders ≡ v.orders → IsSoundWave opening old n v
    → HoldsAs w.state opening new n w → PickedAs w.state w.picked → IsSoundWave opening new n w
still_sound opening old new n v w e sound holds picked = record {
  some = subst (λ orders. 0 < length orders) (sym e) sound.some;
  most = subst (λ orders. length orders ≤ most_wave_orders) (sym e) sound.most;
  different = subst AreDifferent (sym e) sound.different;
  known = subst (All (λ order. IsTrue (is_known_order opening.orders order))) (sym e) sound.known;
  fits = subst (All (FitsCart opening)) (sym e) sound.fits;
  holds = holds;
  picked = picked;
}

-- a wave in a list, after one of it is put in another state
record WasWave (waves : List Wave) (n : ℕ) (v : Wave) : Type 0 where
  was : Wave
  there : slice_get waves n ≡ Some was
  name : v.name ≡ was.name
  orders : v.orders ≡ was.orders
  live : IsTrue (is_live v.state) → IsTrue (is_live was.state)

was_wave : (waves : List Wave) (number : ℕ) (w : Wave) (next : WaveState) (picked : Bool) → slice_get waves number ≡ Some w
    → (IsTrue (is_live next) → IsTrue (is_live w.state))
    → (n : ℕ) (v : Wave) → slice_get (slice_set waves number (record w { state = next; picked = picked })) n ≡ Some v → WasWave waves n v
was_wave waves number w next picked is live n v there = elim (slice_get-set waves number n v _ there) [
  | inl here ↦ record {
    was = w;
    there = ap (slice_get waves) here.0 ∙ is;
    name = ap (λ (v : Wave). v.name) here.1;
    orders = ap (λ (v : Wave). v.orders) here.1;
    live = λ lives. live (subst (λ (v : Wave). IsTrue (is_live v.state)) here.1 lives);
  }
  | inr other ↦ record { was = v; there = other.1; name = refl; orders = refl; live = λ lives. lives }
]

-- the waves after one of them is put in another state
waves_after_put : (opening : Opening) (old new : State) (number : ℕ) (w : Wave) (next : WaveState) (picked : Bool) → slice_get old.waves number ≡ Some w
    → IsSound opening old → IsMoved number old new
    → HoldsAs next opening new number w → PickedAs next picked
    → (n : ℕ) (v : Wave) → slice_get (slice_set new.waves number (record w { state = next; picked = picked })) n ≡ Some v
    → IsSoundWave opening (put_wave number (record w { state = next; picked = picked }) new) n v
waves_after_put opening old new number w next picked is sound moved holds picks n v there =
    let put : Wave = record w { state = next; picked = picked } in
    let after = put_wave number put new in
    elim (slice_get-set new.waves number n v put there) [
      | inl here ↦
          let before = wave_at opening old number w sound is in
          let same = HoldsAs-same next opening new after number w put refl (alike_itself new.rows) (λ order k. refl) holds in
          subst₂ (IsSoundWave opening after) (sym here.0) (sym here.1) (still_sound opening old after number w put refl before same picks)
      | inr other ↦
          let before = wave_at opening old n v sound (ap (λ waves. slice_get waves n) (sym moved.waves) ∙ other.1) in
          let same = HoldsAs-same v.state opening old after n v v refl moved.alike (λ order k. moved.others n order k other.0) before.holds in
          still_sound opening old after n v v refl before same before.picked
    ]

-- a state stays sound where a wave's units are moved and the wave is put in a state in which it holds what it does
pub put_wave_keeps_sound : (opening : Opening) (old new : State) (number : ℕ) (w : Wave) (next : WaveState) (picked : Bool)
    → slice_get old.waves number ≡ Some w → IsSound opening old → IsMoved number old new
    → (IsTrue (is_live next) → IsTrue (is_live w.state)) → HoldsAs next opening new number w → PickedAs next picked
    → IsSound opening (put_wave number (record w { state = next; picked = picked }) new)
put_wave_keeps_sound opening old new number w next picked is sound moved live holds picks =
    let put : Wave = record w { state = next; picked = picked } in
    let now = ap (λ waves. slice_get waves number) moved.waves ∙ is in
    let stock = put_wave_keeps_stock new number w put now refl moved.stock in
    let was = was_wave new.waves number w next picked now live in
    let old_at = λ (n : ℕ) (v : Wave) (there : slice_get new.waves n ≡ Some v). ap (λ waves. slice_get waves n) (sym moved.waves) ∙ there in
    record {
      rows = stock.rows;
      held = stock.held;
      nowhere_else = stock.nowhere_else;
      waves = λ n. if_some (slice_get (slice_set new.waves number put) n) (IsSoundWave opening (put_wave number put new) n)
          (waves_after_put opening old new number w next picked is sound moved holds picks n);
      names = λ i j u v at_i at_j same.
          let a = was i u at_i in
          let b = was j v at_j in
          sound.names i j a.was b.was (old_at i a.was a.there) (old_at j b.was b.there) (sym a.name ∙ same ∙ b.name);
      once = λ i j u v k l order at_i at_j live_i live_j in_i in_j.
          let a = was i u at_i in
          let b = was j v at_j in
          sound.once i j a.was b.was k l order (old_at i a.was a.there) (old_at j b.was b.there) (a.live live_i) (b.live live_j)
          (ap (λ orders. slice_get orders k) (sym a.orders) ∙ in_i) (ap (λ orders. slice_get orders l) (sym b.orders) ∙ in_j);
    }

-- a released wave of which units moved is done where it holds nothing more
pub settle_keeps_sound : (opening : Opening) (old new : State) (number : ℕ) (w : Wave) (picked : Bool) → slice_get old.waves number ≡ Some w
    → w.state ≡ wave.Released → IsSound opening old → IsMoved number old new
    → IsSound opening (settle number (record w { picked = picked }) new)
settle_keeps_sound opening old new number w picked there released sound moved =
    let held = wave_held new number (length w.orders) in
    cond_both (held == 0) (record w { state = wave.Done; picked = picked }) (record w { picked = picked }) (λ put. IsSound opening (put_wave number put new))
    (λ none. put_wave_keeps_sound opening old new number w wave.Done picked there sound moved (λ live. ap is_live released) (eqb-true _ _ none) tt)
    (λ some.
    let not_none : held ≡ 0 → ⊥ = eqb-false held 0 some in
    let holds : 0 < held = omega arith in
    put_wave_keeps_sound opening old new number w w.state picked there sound moved (λ live. live)
    (subst (λ s. HoldsAs s opening new number w) (sym released) holds) (subst (λ s. PickedAs s picked) (sym released) tt))
