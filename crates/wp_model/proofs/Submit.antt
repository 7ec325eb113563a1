-- Submit keeps a state sound.
use Rattle.std.proofs.Common.{◌≡◌, ◌≢◌, ℕ, suc, ◌<◌, ◌≤◌, inl, inr, List, [], ◌∷◌, ◌++◌, length, slice_get, Some, None, IsTrue, true, false, All, option_map}
use Rattle.std.proofs.Common.{◌==◌, nat_lt, refl, sym, ap, ◌∙◌, subst₂, arith, le_refl}
use Rattle.std.proofs.lemmas.Bool.{cases_eq, cases_lt, eqb-false, ltb-false}
use Rattle.std.proofs.lemmas.List.{length_push}
use Rattle.std.proofs.lemmas.Option.{slice_get_past}
use Rattle.std.specs.Option.{option_map_or}
use Rattle.wp_model.proofs.Faults.{free_from_no_fault, if-none, option_map-none, option_or-none, unnamed, untaken}
use Rattle.wp_model.proofs.Found.{option_map_or-both}
use Rattle.wp_model.proofs.Holds.{HoldsAs-same, alike_itself}
use Rattle.wp_model.proofs.Elements.{All-from_at, if_some, if_some_then, slice_get-push, slice_get-push_before}
use Rattle.wp_model.specs.StockMoves.{IsSoundStock}
use Rattle.wp_model.proofs.Sums.{sum-agree, sum-zero}
use Rattle.wp_model.proofs.Waves.{still_sound, stock_of, wave_at}
use Rattle.wp_model.specs.Opening.{Opening, is_known_order}
use Rattle.wp_model.specs.Limits.{most_wave_orders}
use Rattle.wp_model.specs.Sound.{AreDifferent, FitsCart, IsSound, IsSoundWave, held_at, orders_in}
use Rattle.wp_model.specs.State.{State, Wave, wave_held_at}
use Rattle.wp_model.specs.Step.{Stepped, add_wave, first_order_fault, is_live, refuse, submit, submit_fault, wave_from}
use Rattle.wp_model.specs.Sums.{sum_below}
use Rattle.wp_model.specs.declared.reply.Reply.TheVariants as reply
use Rattle.wp_model.specs.declared.reply.WaveState.TheVariants as wave

-- what a new wave's name and orders have to be
record CanJoin (opening : Opening) (state : State) (name : List ℕ) (orders : List (List ℕ)) : Type 0 where
  some : 0 < length orders
  most : length orders ≤ most_wave_orders
  unnamed : (i : ℕ) (v : Wave) → slice_get state.waves i ≡ Some v → v.name ≢ name
  different : AreDifferent orders
  known : All (λ order. IsTrue (is_known_order opening.orders order)) orders
  fits : All (FitsCart opening) orders
  untaken : (i : ℕ) (v : Wave) (k l : ℕ) (order : List ℕ) → slice_get state.waves i ≡ Some v → is_live v.state ≡ true → slice_get v.orders k ≡ Some order
      → slice_get orders l ≡ Some order → ⊥

-- a wave without a fault can join
can_join : (opening : Opening) (state : State) (name : List ℕ) (orders : List (List ℕ)) → submit_fault opening state name orders ≡ None
    → CanJoin opening state name orders
can_join opening state name orders none =
    let some = if-none (length orders == 0) reply.NoOrders _ none in
    let most = if-none (nat_lt most_wave_orders (length orders)) (reply.WaveFull (length orders)) _ some.1 in
    let faults = option_or-none (option_map (λ found. reply.KnownWave) (wave_from 0 state.waves name))
    (first_order_fault opening state.waves [] orders) most.1 in
    let free = free_from_no_fault opening state.waves [] orders faults.1 in
    record {
      some = let no : length orders ≡ 0 → ⊥ = eqb-false _ _ some.0 in omega arith;
      most = ltb-false _ _ most.0;
      unnamed = unnamed 0 state.waves name (option_map-none _ _ faults.0);
      different = free.different;
      known = All-from_at _ orders free.known;
      fits = All-from_at (FitsCart opening) orders free.fits;
      untaken = λ i v k l order is live has in_new. untaken state.waves order (free.free l order in_new) i v k is live has;
    }

-- the wave that is added
abbrev new_wave : List ℕ → List (List ℕ) → Wave
new_wave name orders = record { name = name; orders = orders; state = wave.Submitted; picked = false }

-- past the waves nothing is held
orders_in-past : (state : State) (n : ℕ) → length state.waves ≤ n → orders_in state n ≡ 0
orders_in-past state n past = ap (λ found. option_map_or (λ w. length w.orders) found 0) (slice_get_past state.waves n past)

nothing_past : (state : State) (n : ℕ) → length state.waves ≤ n → IsSoundStock state → (order row : ℕ) → state.held n order row ≡ 0
nothing_past state n past sound order row = elim (cases_eq (state.held n order row) 0) [
  | inl none ↦ none
  | inr some ↦ absurd (omega (arith, (sound.nowhere_else n order row some).0, orders_in-past state n past))
]

-- the orders of a wave that was there
orders_in-add : (state : State) (name : List ℕ) (orders : List (List ℕ)) (n : ℕ) → n < length state.waves
    → orders_in (add_wave name orders state) n ≡ orders_in state n
orders_in-add state name orders n within = ap (λ found. option_map_or (λ w. length w.orders) found 0) (slice_get-push_before state.waves n _ within)

held_at-add : (state : State) (name : List ℕ) (orders : List (List ℕ)) (row : ℕ) → IsSoundStock state
    → held_at (add_wave name orders state) row ≡ held_at state row
held_at-add state name orders row sound =
    let after = add_wave name orders state in
    let one_more : length after.waves ≡ suc (length state.waves) = omega (arith, length_push state.waves (new_wave name orders)) in
    let before : sum_below (length state.waves) (λ n. wave_held_at state n (orders_in after n) row) ≡ held_at state row
    = sum-agree (length state.waves) _ _ (λ n within. ap (λ orders. wave_held_at state n orders row) (orders_in-add state name orders n within)) in
    let last : wave_held_at state (length state.waves) (orders_in after (length state.waves)) row ≡ 0
    = sum-zero _ _ (λ order below. nothing_past state (length state.waves) (le_refl _) sound order row) in
    ap (λ n. sum_below n (λ n. wave_held_at state n (orders_in after n) row)) one_more ∙ omega (arith, before, last)

add_wave_keeps_stock : (state : State) (name : List ℕ) (orders : List (List ℕ)) → IsSoundStock state → IsSoundStock (add_wave name orders state)
add_wave_keeps_stock state name orders sound = record {
  rows = sound.rows;
  held = λ row. if_some_then (slice_get state.rows row) (λ r. r.held ≡ held_at state row) (λ r. r.held ≡ held_at (add_wave name orders state) row)
      (λ r is_held. is_held ∙ sym (held_at-add state name orders row sound)) (sound.held row);
  nowhere_else = λ n order row some. elim (cases_lt n (length state.waves)) [
    | inl within ↦ let place = sound.nowhere_else n order row some in (omega (arith, place.0, orders_in-add state name orders n within), place.1)
    | inr past ↦ absurd (some (nothing_past state n past sound order row))
  ];
}

-- the waves after one more
waves_after_add : (opening : Opening) (state : State) (name : List ℕ) (orders : List (List ℕ)) → IsSound opening state → CanJoin opening state name orders
    → (n : ℕ) (v : Wave) → slice_get (add_wave name orders state).waves n ≡ Some v → IsSoundWave opening (add_wave name orders state) n v
waves_after_add opening state name orders sound can n v there =
    let after = add_wave name orders state in
    elim (slice_get-push state.waves n v (new_wave name orders) there) [
      | inl before ↦
          let was = wave_at opening state n v sound before in
          let same = HoldsAs-same v.state opening state after n v v refl (alike_itself state.rows) (λ order k. refl) was.holds in
          still_sound opening state after n v v refl was same was.picked
      | inr last ↦
          let none = sum-zero _ _ (λ row within. sum-zero _ _
          (λ order below. nothing_past state (length state.waves) (le_refl _) (stock_of opening state sound) order row)) in
          subst₂ (IsSoundWave opening after) (sym last.0) (sym last.1)
          (record { some = can.some; most = can.most; different = can.different; known = can.known; fits = can.fits; holds = none; picked = refl })
    ]

add_wave_keeps_sound : (opening : Opening) (state : State) (name : List ℕ) (orders : List (List ℕ)) → IsSound opening state
    → CanJoin opening state name orders → IsSound opening (add_wave name orders state)
add_wave_keeps_sound opening state name orders sound can =
    let stock = add_wave_keeps_stock state name orders (stock_of opening state sound) in
    let new = new_wave name orders in
    let place = slice_get-push state.waves in
    record {
      rows = stock.rows;
      held = stock.held;
      nowhere_else = stock.nowhere_else;
      waves = λ n. if_some (slice_get (state.waves ++ new ∷ []) n) (IsSoundWave opening (add_wave name orders state) n)
          (waves_after_add opening state name orders sound can n);
      names = λ i j u v at_i at_j same. elim (place i u new at_i) [
        | inl a ↦ elim (place j v new at_j) [
          | inl b ↦ sound.names i j u v a b same
          | inr b ↦ absurd (can.unnamed i u a (same ∙ ap (λ (v : Wave). v.name) b.1))
        ]
        | inr a ↦ elim (place j v new at_j) [
          | inl b ↦ absurd (can.unnamed j v b (sym same ∙ ap (λ (v : Wave). v.name) a.1))
          | inr b ↦ a.0 ∙ sym b.0
        ]
      ];
      once = λ i j u v k l order at_i at_j live_i live_j in_i in_j. elim (place i u new at_i) [
        | inl a ↦ elim (place j v new at_j) [
          | inl b ↦ sound.once i j u v k l order a b live_i live_j in_i in_j
          | inr b ↦ absurd (can.untaken i u k l order a live_i in_i (ap (λ (v : Wave). slice_get v.orders l) (sym b.1) ∙ in_j))
        ]
        | inr a ↦ elim (place j v new at_j) [
          | inl b ↦ absurd (can.untaken j v l k order b live_j in_j (ap (λ (v : Wave). slice_get v.orders k) (sym a.1) ∙ in_i))
          | inr b ↦ a.0 ∙ sym b.0
        ]
      ];
    }

-- a submit keeps a state sound
pub submit_keeps_sound : (opening : Opening) (state : State) (name : List ℕ) (orders : List (List ℕ)) → IsSound opening state
    → IsSound opening (submit opening state name orders).state
submit_keeps_sound opening state name orders sound =
    option_map_or-both (λ (stepped : Stepped). IsSound opening stepped.state) (refuse state) (submit_fault opening state name orders) _
    (λ fault is. sound)
    (λ none. add_wave_keeps_sound opening state name orders sound (can_join opening state name orders none))
