-- Waves that are submitted, or refused.
use Rattle.std.proofs.Common.{◌≡◌, ◌∙◌, refl, sym, ap, ap₂, subst, ℕ, ◌+◌, ◌<◌, ◌≤◌, ◌==◌, ◌&&◌, nat_lt, Bool, true, false, inl, inr, List, [], ◌∷◌, ◌++◌}
use Rattle.std.proofs.Common.{length, map, Option, Some, None, IfSome, slice_get, option_map, bytes_eq, if◌then◌else◌, arith, length-append}
use Rattle.std.proofs.lemmas.Bool.{or_cases}
use Rattle.std.proofs.lemmas.Bool.Decides.{nat_tests}
use Rattle.std.specs.List.{list_any}
use Rattle.std.specs.Option.{option_map_or, option_or}
use Rattle.wp_model.proofs.Elements.{at_some, if_some, slice_get-push}
use Rattle.wp_model.proofs.Faults.{free_from_no_fault}
use Rattle.wp_model.proofs.Sound.{step_keeps_sound}
use Rattle.wp_model.specs.Book.{Book}
use Rattle.wp_model.specs.Opening.{Opening}
use Rattle.wp_model.specs.Limits.{most_wave_orders}
use Rattle.wp_model.specs.Sound.{IsSound}
use Rattle.wp_model.specs.State.{State, Wave}
use Rattle.wp_model.specs.Step.{Stepped, add_wave, first_order_fault, is_among, is_live, refuse, step, submit_fault, taker_of, wave_from}
use Rattle.wp_model.specs.declared.command.Command.{Command}
use Rattle.wp_model.specs.declared.command.Command.TheVariants as command
use Rattle.wp_model.specs.declared.reply.Reply.{Reply}
use Rattle.wp_model.specs.declared.reply.Reply.TheVariants as reply
use Rattle.wp_model.specs.declared.reply.WaveState.TheVariants as wave
use Rattle.wp_floor.specs.Floor.{AreSameRows, AreTakers, HasPapers, HasStepped, IsFloor, IsKeptWave, state_at, state_in, state_of, wave_of}
use Rattle.wp_floor.specs.NewWaves.{IsNewWave}
use Rattle.wp_floor.specs.Takers.{HasPut}
use Rattle.wp_floor.specs.Waves.{AreWaves, has_name, waves_of}
use Rattle.wp_floor.specs.declared.floor.Floor.{Floor}
use Rattle.wp_floor.specs.declared.waves.KeptWave.{KeptWave}
use Rattle.wp_floor.specs.declared.waves.Stage.{Stage}
use Rattle.wp_floor.proofs.Floors.{is_opening, member, none_by}
use Rattle.wp_floor.proofs.SameRows.{step_keeps_rows}

-- a refusal leaves all as it is
pub refused_same : (opening : Opening) (command : Command) (old : Floor) (answer : Reply) → IsFloor opening old
    → step opening (state_of old) command ≡ refuse (state_of old) answer → HasStepped opening command old old answer
refused_same opening command old answer floor is = record { is = is; floor = floor; most = omega arith }

-- some wave has a name that one of the kept ones has
pub some_by : (kepts : List KeptWave) (name : List ℕ) (n : ℕ) → list_any (has_name name) kepts ≡ true → (f : ℕ × Wave)
    × (wave_from n (map wave_of kepts) name ≡ Some f)
some_by [] name n some = absurd (cc)
some_by (kept ∷ kepts) name n some = by (bytes_eq kept.name name) refl (λ later. some_by kepts name (n + 1) later)
  where
    by : (b : Bool) → bytes_eq kept.name name ≡ b → (list_any (has_name name) kepts ≡ true → (f : ℕ × Wave) ×
        (wave_from (n + 1) (map wave_of kepts) name ≡ Some f)) → (f : ℕ × Wave) × (wave_from n (map wave_of (kept ∷ kepts)) name ≡ Some f)
    by true e later = ((n, wave_of kept), ap (λ t. if t then Some (n, wave_of kept) else wave_from (n + 1) (map wave_of kepts) name) e)
    by false e later = elim (or_cases (bytes_eq kept.name name) (list_any (has_name name) kepts) some) [
      | inl here ↦ let c : true ≡ false = sym here ∙ e in absurd (cc)
      | inr has ↦ let rest = later has in
          (rest.0, ap (λ t. if t then Some (n, wave_of kept) else wave_from (n + 1) (map wave_of kepts) name) e ∙ rest.1)
    ]

-- why a wave of some orders and not too many can't be submitted
fault_is : (opening : Opening) (state : State) (name : List ℕ) (orders : List (List ℕ)) (known : Option (ℕ × Wave)) (fault : Option Reply) → 0 < length orders
    → length orders ≤ most_wave_orders
    → wave_from 0 state.waves name ≡ known → first_order_fault opening state.waves [] orders ≡ fault
    → submit_fault opening state name orders ≡ option_or (option_map (λ (f : ℕ × Wave). reply.KnownWave) known) fault
fault_is opening state name orders known fault some most found first =
    let any : (length orders == 0) ≡ false = grind (arith, nat_tests) in
    let few : nat_lt most_wave_orders (length orders) ≡ false = grind (arith, nat_tests) in
    ap₂ (λ a b. if a then Some reply.NoOrders else if b then Some (reply.WaveFull (length orders))
    else option_or (option_map (λ (f : ℕ × Wave). reply.KnownWave) (wave_from 0 state.waves name)) (first_order_fault opening state.waves [] orders)) any few
    ∙ ap₂ (λ (k : Option (ℕ × Wave)) (f : Option Reply). option_or (option_map (λ (f : ℕ × Wave). reply.KnownWave) k) f) found first

answer_is : (opening : Opening) (state : State) (name : List ℕ) (orders : List (List ℕ)) (fault : Option Reply) → submit_fault opening state name orders ≡ fault
    → step opening state (command.Submit name orders) ≡ option_map_or (refuse state) fault
    (record { reply = reply.Submitted; state = add_wave name orders state })
answer_is opening state name orders fault is = ap (λ (f : Option Reply). option_map_or (refuse state) f
    (record { reply = reply.Submitted; state = add_wave name orders state })) is

-- a name that a wave has
pub known : (opening : Opening) (old : Floor) (kept : KeptWave) → IsFloor opening old → IsNewWave opening kept
    → list_any (has_name kept.name) (waves_of old.waves) ≡ true
    → HasStepped opening (command.Submit kept.name kept.orders) old old reply.KnownWave
known opening old kept floor new has =
    let found = some_by (waves_of old.waves) kept.name 0 has in
    refused_same opening (command.Submit kept.name kept.orders) old reply.KnownWave floor
    (answer_is opening (state_of old) kept.name kept.orders (Some reply.KnownWave)
    (fault_is opening (state_of old) kept.name kept.orders (Some found.0) _ new.some new.most found.1 refl))

-- orders that can't make a wave
pub faulted : (opening : Opening) (old : Floor) (kept : KeptWave) (fault : Reply) → IsFloor opening old → IsNewWave opening kept
    → list_any (has_name kept.name) (waves_of old.waves) ≡ false
    → first_order_fault opening (map wave_of (waves_of old.waves)) [] kept.orders ≡ Some fault
    → HasStepped opening (command.Submit kept.name kept.orders) old old fault
faulted opening old kept fault floor new none first =
    refused_same opening (command.Submit kept.name kept.orders) old fault floor
    (answer_is opening (state_of old) kept.name kept.orders (Some fault)
    (fault_is opening (state_of old) kept.name kept.orders None (Some fault) new.some new.most (none_by (waves_of old.waves) kept.name 0 none) first))

-- who has an order once one more wave is the last
taker-push : (waves : List Wave) (w : Wave) (order : List ℕ) (before : Option (List ℕ)) → taker_of waves order ≡ before
    → taker_of (waves ++ w ∷ []) order ≡ option_or before (if is_live w.state && is_among w.orders order then Some w.name else None)
taker-push [] w order before is = ap (λ (b : Option (List ℕ)). option_or b (if is_live w.state && is_among w.orders order then Some w.name else None)) is
taker-push (v ∷ waves) w order before is = by (is_live v.state && is_among v.orders order) refl (λ e. taker-push waves w order before e)
  where
    own : Option (List ℕ)
    own = if is_live w.state && is_among w.orders order then Some w.name else None

    by : (b : Bool) → (is_live v.state && is_among v.orders order) ≡ b
        → (taker_of waves order ≡ before → taker_of (waves ++ w ∷ []) order ≡ option_or before own)
        → taker_of (v ∷ waves ++ w ∷ []) order ≡ option_or before own
    by true e rest =
        let here : Some v.name ≡ before = sym (ap (λ b. if b then Some v.name else taker_of waves order) e) ∙ is in
        ap (λ b. if b then Some v.name else taker_of (waves ++ w ∷ []) order) e ∙ ap (λ (b : Option (List ℕ)). option_or b own) here
    by false e rest =
        ap (λ b. if b then Some v.name else taker_of (waves ++ w ∷ []) order) e
        ∙ rest (sym (ap (λ b. if b then Some v.name else taker_of waves order) e) ∙ is)

none-own : (o : Option (List ℕ)) → option_or o None ≡ o
none-own None = refl
none-own (Some x) = refl

map-push : (kepts : List KeptWave) (kept : KeptWave) → map wave_of (kepts ++ kept ∷ []) ≡ map wave_of kepts ++ wave_of kept ∷ []
map-push [] kept = refl
map-push (k ∷ kepts) kept = ap (λ ws. wave_of k ∷ ws) (map-push kepts kept)

-- who has the orders then
takers_put : (opening : Opening) (old : Floor) (kept : KeptWave) (takers : List (Option (List ℕ))) → IsFloor opening old → IsNewWave opening kept
    → first_order_fault opening (map wave_of (waves_of old.waves)) [] kept.orders ≡ None → HasPut opening kept.orders (Some kept.name) old.takers.items takers
    → AreTakers opening (map wave_of (waves_of old.waves ++ kept ∷ [])) takers
takers_put opening old kept takers floor new first put =
    let waves = map wave_of (waves_of old.waves) in
    let free = free_from_no_fault opening waves [] kept.orders first in
    record {
      count = put.count ∙ floor.takers.count;
      each = λ i order there.
          let was = floor.takers.each i order there in
          let pushed = ap (λ (ws : List Wave). taker_of ws order.name) (map-push (waves_of old.waves) kept) in
          put.each i order there ∙ by order.name (is_among kept.orders order.name) refl (slice_get old.takers.items i) was
          (λ has. let at = member kept.orders order.name has in free.free at.0 order.name at.1)
          ∙ ap Some (sym pushed);
    }
  where
    by : (order : List ℕ) (b : Bool) → is_among kept.orders order ≡ b → (before : Option (Option (List ℕ)))
        → before ≡ Some (taker_of (map wave_of (waves_of old.waves)) order)
        → (is_among kept.orders order ≡ true → taker_of (map wave_of (waves_of old.waves)) order ≡ None)
        → (if is_among kept.orders order then Some (Some kept.name) else before) ≡ Some (taker_of (map wave_of (waves_of old.waves) ++ wave_of kept ∷ []) order)
    by order true e before was free =
        ap (λ t. if t then Some (Some kept.name) else before) e
        ∙ ap Some (sym (taker-push (map wave_of (waves_of old.waves)) (wave_of kept) order None (free e)
        ∙ ap₂ (λ a b. if a && b then Some kept.name else None) (ap (λ (s : Stage). is_live (state_in s)) new.submitted) e))
    by order false e before was free =
        ap (λ t. if t then Some (Some kept.name) else before) e ∙ (was
        ∙ ap Some (sym (taker-push (map wave_of (waves_of old.waves)) (wave_of kept) order (taker_of (map wave_of (waves_of old.waves)) order) refl
        ∙ (ap₂ (λ a b. option_or (taker_of (map wave_of (waves_of old.waves)) order) (if a && b then Some kept.name else None))
        (ap (λ (s : Stage). is_live (state_in s)) new.submitted) e
        ∙ none-own (taker_of (map wave_of (waves_of old.waves)) order)))))

-- the wave is the last of all
pub submitted : (opening : Opening) (old new : Floor) (kept : KeptWave) → IsFloor opening old → IsNewWave opening kept
    → list_any (has_name kept.name) (waves_of old.waves) ≡ false
    → first_order_fault opening (map wave_of (waves_of old.waves)) [] kept.orders ≡ None → new.book ≡ old.book → AreWaves new.waves
    → waves_of new.waves ≡ waves_of old.waves ++ kept ∷ []
    → HasPut opening kept.orders (Some kept.name) old.takers.items new.takers.items
    → HasStepped opening (command.Submit kept.name kept.orders) old new reply.Submitted
submitted opening old new kept floor is none first book chains waves put =
    let command = command.Submit kept.name kept.orders in
    let last : wave_of kept ≡ record { name = kept.name; orders = kept.orders; state = wave.Submitted; picked = false } =
    ap₂ (λ s p. let w : Wave = record { name = kept.name; orders = kept.orders; state = s; picked = p } in w) (ap state_in is.submitted) is.unpicked in
    let after_is : state_of new ≡ add_wave kept.name kept.orders (state_of old) =
    ap₂ (λ (b : Book) (ws : List Wave). state_at b ws) book (ap (map wave_of) waves
    ∙ (map-push (waves_of old.waves) kept ∙ ap (λ w. map wave_of (waves_of old.waves) ++ w ∷ []) last)) in
    let all : step opening (state_of old) command ≡ record { reply = reply.Submitted; state = state_of new } =
    answer_is opening (state_of old) kept.name kept.orders None
    (fault_is opening (state_of old) kept.name kept.orders None None is.some is.most (none_by (waves_of old.waves) kept.name 0 none) first)
    ∙ ap (λ (s : State). let stepped : Stepped = record { reply = reply.Submitted; state = s } in stepped) (sym after_is) in
    let after : (step opening (state_of old) command).state ≡ state_of new = ap (λ (s : Stepped). s.state) all in
    record {
      is = all;
      floor = record {
        read = floor.read;
        sound = subst (IsSound opening) after (step_keeps_sound opening (state_of old) command (is_opening opening floor.read) floor.sound);
        rows = subst (λ (s : State). AreSameRows opening s.rows) after (step_keeps_rows opening (state_of old) command floor.rows);
        chains = chains;
        waves = λ n. subst (λ (b : Book). IfSome (slice_get (waves_of new.waves) n) (IsKeptWave opening b n)) (sym book)
            (subst (λ (ws : List KeptWave). IfSome (slice_get ws n) (IsKeptWave opening old.book n)) (sym waves)
            (if_some (slice_get (waves_of old.waves ++ kept ∷ []) n) (IsKeptWave opening old.book n)
            (λ k there. elim (slice_get-push (waves_of old.waves) n k kept there) [
              | inl before ↦ at_some (slice_get (waves_of old.waves) n) (IsKeptWave opening old.book n) k before (floor.waves n)
              | inr here ↦ subst (IsKeptWave opening old.book n) (sym here.1) (new_kept n)
            ])));
        takers = subst (λ (ws : List KeptWave). AreTakers opening (map wave_of ws) new.takers.items) (sym waves)
            (takers_put opening old kept new.takers.items floor is first put);
      };
      most = omega (arith, ap length waves, length-append (waves_of old.waves) (kept ∷ []));
    }
  where
    new_kept : (n : ℕ) → IsKeptWave opening old.book n kept
    new_kept n = record { numbered = is.numbered; papers = subst (λ (s : Stage). HasPapers opening s old.book n kept) (sym is.submitted) is.has }
