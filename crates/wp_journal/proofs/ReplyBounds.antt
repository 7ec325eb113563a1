-- The replies to a day's commands are within the bounds of a journal's.
use Rattle.std.proofs.Common.{◌≡◌, ℕ, ◌+◌, ◌<◌, ◌≤◌, ◌^◌, ◌==◌, true, List, length, slice_get, Option, Some, None, refl}
use Rattle.std.proofs.Common.{subst, arith, lit<, nat_le, nat_lt, not, bytes_eq, leb-true}
use Rattle.std.specs.Prelude.{IsTrue, if◌then◌else◌}
use Rattle.std.specs.List.{list_all}
use Rattle.std.proofs.lemmas.Bool.{cond_both, lt-ltb}
use Rattle.std.proofs.lemmas.Option.{same_Some, slice_get_within}
use Rattle.wp_model.proofs.Elements.{All-at, at_some}
use Rattle.wp_model.proofs.Found.{option_map_or-both, place_found, row_found, wave_found}
use Rattle.wp_model.proofs.Held.{orders_in-at, wave_held_at-le}
use Rattle.wp_model.proofs.Rows.{at_place-article}
use Rattle.wp_model.proofs.Sums.{term-le-sum}
use Rattle.wp_model.proofs.Waves.{wave_at}
use Rattle.wp_model.specs.Change.{give_back, hold, receive_units, take, take_units}
use Rattle.wp_model.specs.Demand.{demand_at, free_units, short_article}
use Rattle.wp_model.specs.Name.{is_name}
use Rattle.wp_model.specs.Opening.{IsOpening, Opening, article_name}
use Rattle.wp_model.specs.Limits.{most_on_hand}
use Rattle.wp_model.specs.Plain.{is_plain, is_plain_location, is_plain_quantity}
use Rattle.wp_model.specs.Sound.{IsBalanced, IsSound, held_at}
use Rattle.wp_model.specs.State.{State, Wave, wave_held_at}
use Rattle.wp_model.specs.Step.{Held, Stepped, allot, any_held, at_held, at_released, at_wave, cancel, give_up, held_for, hold_for, one_demand, pick}
use Rattle.wp_model.specs.Step.{place_from, receive_at, refuse, refuse_short, release, row_from, step, submit_fault, wave_from, write_off}
use Rattle.wp_model.specs.declared.command.Command.{Command}
use Rattle.wp_model.specs.declared.command.Command.TheVariants as command
use Rattle.wp_model.specs.declared.location.Location.{Location}
use Rattle.wp_model.specs.declared.reply.Reply.{Reply}
use Rattle.wp_model.specs.declared.reply.Reply.TheVariants as reply
use Rattle.wp_model.specs.declared.reply.WaveState.{WaveState}
use Rattle.wp_model.specs.declared.reply.WaveState.TheVariants as wave
use Rattle.wp_model.specs.declared.row.Row.{Row}
use Rattle.wp_journal.specs.Grammar.{is_line_reply}
use Rattle.wp_model.specs.Plain.{has_names}
use Rattle.wp_journal.proofs.DemandBounds.{short_is}
use Rattle.wp_journal.proofs.NamedStates.{AreArticlesNamed, HasName, IsNamed, add_named, article_named, put_named, row_of_stock, rows_of_stock, settle_named}
use Rattle.wp_journal.proofs.NamedStates.{wave_named}
use Rattle.wp_journal.proofs.Phrases.{both}
use Rattle.wp_journal.proofs.SubmitFaults.{submit_line}
use Rattle.wp_journal.proofs.WordBytes.{and_true}

-- a step leads to a reply of a journal, and to a state of names
pub record Fits (opening : Opening) (stepped : Stepped) : Type 0 where
  pub reply : IsTrue (is_line_reply stepped.reply)
  pub named : IsNamed opening stepped.state

refused : (opening : Opening) (state : State) (why : Reply) → IsNamed opening state → IsTrue (is_line_reply why) → Fits opening (refuse state why)
refused opening state why named is = record { reply = is; named = named }

units_u32 : (n : ℕ) → n ≤ most_on_hand → nat_lt n (2 ^ 32) ≡ true
units_u32 n few = let numeral : most_on_hand < 2 ^ 32 = lit< tt in lt-ltb n (2 ^ 32) (omega arith)

submit_fits : (opening : Opening) (state : State) (name : List ℕ) (orders : List (List ℕ)) → IsOpening opening → IsNamed opening state
    → length orders ≤ 100 → is_name name ≡ true → list_all is_name orders ≡ true → Fits opening (step opening state (command.Submit name orders))
submit_fits opening state name orders is_opening named few is are =
    option_map_or-both (Fits opening) (refuse state) (submit_fault opening state name orders) _
    (λ why found. refused opening state why named
    (at_some (submit_fault opening state name orders) (λ why. IsTrue (is_line_reply why)) why found
    (submit_line opening state name orders is_opening named few are)))
    (λ none. record { reply = refl; named = add_named opening state name orders named is })

-- a command on a wave, where it fits at the wave with a number
at_wave_fits : (opening : Opening) (state : State) (name : List ℕ) (change : ℕ → Wave → Stepped) → IsNamed opening state
    → ((number : ℕ) (w : Wave) → slice_get state.waves number ≡ Some w → Fits opening (change number w)) → Fits opening (at_wave state name change)
at_wave_fits opening state name change named each =
    option_map_or-both (Fits opening) (λ (found : ℕ × Wave). change found.0 found.1) (wave_from 0 state.waves name) _
    (λ found is. each found.0 found.1 (wave_found state.waves name found is))
    (λ none. refused opening state reply.UnknownWave named refl)

-- what is true of the opening and of each state of a day
pub record IsDayState (opening : Opening) (state : State) : Type 0 where
  pub is : IsOpening opening
  pub articles : AreArticlesNamed opening
  pub sound : IsSound opening state
  pub named : IsNamed opening state

hold_for_fits : (opening : Opening) (state : State) (next : WaveState) (done : Reply) (number : ℕ) (w : Wave) → IsDayState opening state
    → slice_get state.waves number ≡ Some w → is_line_reply done ≡ true → Fits opening (hold_for opening state next done number w)
hold_for_fits opening state next done number w day there is_line =
    let orders = length w.orders in
    let held = hold (demand_at opening w.orders) None number orders state in
    let has = wave_named opening state number w day.named there in
    option_map_or-both (Fits opening) (refuse_short opening state w) (short_article opening state.rows w.orders None) _
    (λ article short. refused opening state _ day.named
    (short_is opening state.rows w.orders article day.is day.articles (wave_at opening state number w day.sound there).most short))
    (λ none. record {
      reply = is_line;
      named = put_named opening held number (record w { state = next })
          (record { waves = day.named.waves; rows = rows_of_stock opening state.rows _ (λ k r. refl) day.named.rows }) has;
    })

allot_fits : (opening : Opening) (state : State) (number : ℕ) (w : Wave) (s : WaveState) → IsDayState opening state
    → slice_get state.waves number ≡ Some w → Fits opening (allot opening state number w s)
allot_fits opening state number w wave.Submitted day there = hold_for_fits opening state wave.Allotted reply.Allotted number w day there refl
allot_fits opening state number w wave.Allotted day there = refused opening state _ day.named refl
allot_fits opening state number w wave.Released day there = refused opening state _ day.named refl
allot_fits opening state number w wave.Cancelled day there = refused opening state _ day.named refl
allot_fits opening state number w wave.Done day there = refused opening state _ day.named refl

release_fits : (opening : Opening) (state : State) (number : ℕ) (w : Wave) (s : WaveState) → IsDayState opening state
    → slice_get state.waves number ≡ Some w → Fits opening (release opening state number w s)
release_fits opening state number w wave.Submitted day there = hold_for_fits opening state wave.Released reply.Released number w day there refl
release_fits opening state number w wave.Allotted day there =
    record { reply = refl; named = put_named opening state number _ day.named (wave_named opening state number w day.named there) }
release_fits opening state number w wave.Released day there = refused opening state _ day.named refl
release_fits opening state number w wave.Cancelled day there = refused opening state _ day.named refl
release_fits opening state number w wave.Done day there = refused opening state _ day.named refl

give_up_fits : (opening : Opening) (state : State) (number : ℕ) (w : Wave) → IsNamed opening state → slice_get state.waves number ≡ Some w
    → Fits opening (give_up state number w)
give_up_fits opening state number w named there = record {
  reply = refl;
  named = put_named opening (give_back number (length w.orders) state) number (record w { state = wave.Cancelled })
      (record { waves = named.waves; rows = rows_of_stock opening state.rows _ (λ k r. refl) named.rows }) (wave_named opening state number w named there);
}

cancel_fits : (opening : Opening) (state : State) (number : ℕ) (w : Wave) (s : WaveState) → IsNamed opening state
    → slice_get state.waves number ≡ Some w → Fits opening (cancel state number w s)
cancel_fits opening state number w wave.Submitted named there = give_up_fits opening state number w named there
cancel_fits opening state number w wave.Allotted named there = give_up_fits opening state number w named there
cancel_fits opening state number w wave.Released named there =
    cond_both w.picked (refuse state reply.Picking) (give_up state number w) (Fits opening)
    (λ picked. refused opening state reply.Picking named refl) (λ unpicked. give_up_fits opening state number w named there)
cancel_fits opening state number w wave.Cancelled named there = refused opening state _ named refl
cancel_fits opening state number w wave.Done named there = refused opening state _ named refl

-- units that a wave holds: at most those of a row, and of an article of the stock
record AreHeld (opening : Opening) (held : Held) : Type 0 where
  units : held.units ≤ most_on_hand
  article : held.article < length opening.stock.articles

any_held-same : (a b : Held) → any_held a ≡ Some b → a ≡ b
any_held-same a b is =
    cond_both (a.units == 0) None (Some a) (λ (found : Option Held). found ≡ Some b → a ≡ b) (λ none e. absurd (cc)) (λ some e. same_Some a b e) is

units_few : (opening : Opening) (state : State) (number : ℕ) (w : Wave) (place row : ℕ) (r : Row) → IsSound opening state
    → slice_get state.waves number ≡ Some w → place < length w.orders → slice_get state.rows row ≡ Some r → state.held number place row ≤ most_on_hand
units_few opening state number w place row r sound there within is_row =
    let balanced : IsBalanced r = All-at IsBalanced state.rows row r sound.rows is_row in
    let held : r.held ≡ held_at state row = at_some (slice_get state.rows row) (λ r. r.held ≡ held_at state row) r is_row (sound.held row) in
    let one : state.held number place row ≤ wave_held_at state number (length w.orders) row
    = term-le-sum (length w.orders) (λ order. state.held number order row) place within in
    let all = wave_held_at-le state number (length w.orders) row (slice_get_within state.waves number w there) (orders_in-at state number w there) in
    omega (arith, one, all, held, balanced.sum, balanced.most)

held_for-are : (opening : Opening) (state : State) (number : ℕ) (w : Wave) (order : List ℕ) (location : Location) (held : Held) → IsDayState opening state
    → slice_get state.waves number ≡ Some w → held_for state number w order location ≡ Some held → AreHeld opening held
held_for-are opening state number w order location held day there is =
    option_map_or-both (λ (found : Option Held). found ≡ Some held → AreHeld opening held) _ (place_from 0 w.orders order) None
    (λ place at. option_map_or-both (λ (found : Option Held). found ≡ Some held → AreHeld opening held) _ (row_from 0 state.rows location) None
    (λ found lies same.
    let is_row = row_found state.rows location found lies in
    subst (AreHeld opening) (any_held-same _ held same) (record {
      units = units_few opening state number w place found.0 found.1 day.sound there (place_found w.orders order place at) is_row;
      article = row_of_stock opening state found.0 found.1 day.named is_row;
    }))
    (λ none same. absurd (cc)))
    (λ none same. absurd (cc))
    is

at_held_fits : (opening : Opening) (state : State) (number : ℕ) (w : Wave) (order : List ℕ) (location : Location) (quantity : ℕ) (change : Held → Stepped)
    → IsDayState opening state → slice_get state.waves number ≡ Some w → is_plain_location location ≡ true
    → ((held : Held) → AreHeld opening held → Fits opening (change held)) → Fits opening (at_held state number w order location quantity change)
at_held_fits opening state number w order location quantity change day there plain each =
    option_map_or-both (Fits opening) (λ held. if nat_lt held.units quantity then refuse state (reply.TooMuch held.units) else change held)
    (held_for state number w order location) (refuse state (reply.NotHeld location))
    (λ held is.
    let are = held_for-are opening state number w order location held day there is in
    cond_both (nat_lt held.units quantity) (refuse state (reply.TooMuch held.units)) (change held) (Fits opening)
    (λ much. refused opening state (reply.TooMuch held.units) day.named (units_u32 held.units are.units)) (λ enough. each held are))
    (λ none. refused opening state (reply.NotHeld location) day.named plain)

at_released_fits : (opening : Opening) (state : State) (number : ℕ) (w : Wave) (order : List ℕ) (location : Location) (quantity : ℕ)
    (change : Held → Stepped) (s : WaveState) → IsDayState opening state → slice_get state.waves number ≡ Some w → is_plain_location location ≡ true
    → ((held : Held) → AreHeld opening held → Fits opening (change held)) → Fits opening (at_released state number w order location quantity change s)
at_released_fits opening state number w order location quantity change wave.Released day there plain each =
    at_held_fits opening state number w order location quantity change day there plain each
at_released_fits opening state number w order location quantity change wave.Submitted day there plain each = refused opening state _ day.named refl
at_released_fits opening state number w order location quantity change wave.Allotted day there plain each = refused opening state _ day.named refl
at_released_fits opening state number w order location quantity change wave.Cancelled day there plain each = refused opening state _ day.named refl
at_released_fits opening state number w order location quantity change wave.Done day there plain each = refused opening state _ day.named refl

take_named : (opening : Opening) (state : State) (number order row units : ℕ) → IsNamed opening state → IsNamed opening (take number order row units state)
take_named opening state number order row units named = record {
  waves = named.waves;
  rows = rows_of_stock opening state.rows _ (λ k r. at_place-article row k (take_units units) r refl) named.rows;
}

pick_fits : (opening : Opening) (state : State) (number : ℕ) (w : Wave) (quantity : ℕ) (held : Held) → IsNamed opening state → HasName w
    → Fits opening (pick state number w quantity held)
pick_fits opening state number w quantity held named has = record {
  reply = refl;
  named = settle_named opening (take number held.order held.row quantity state) number (record w { picked = true })
      (take_named opening state number held.order held.row quantity named) has;
}

write_off_fits : (opening : Opening) (state : State) (number : ℕ) (w : Wave) (quantity : ℕ) (held : Held) → IsDayState opening state → HasName w
    → is_plain_quantity quantity ≡ true → AreHeld opening held → Fits opening (write_off opening state number w quantity held)
write_off_fits opening state number w quantity held day has plain are =
    let taken = take number held.order held.row quantity state in
    let named = take_named opening state number held.order held.row quantity day.named in
    let refilled = hold (one_demand held.order held.article quantity) (Some held.row) number (length w.orders) taken in
    cond_both (nat_le quantity (free_units taken.rows held.article (Some held.row))) _ _ (Fits opening)
    (λ enough. record {
      reply = plain;
      named = settle_named opening refilled number w
          (record { waves = named.waves; rows = rows_of_stock opening taken.rows _ (λ k r. refl) named.rows }) has;
    })
    (λ short. record {
      reply = and_true _ _ (article_named opening held.article day.articles are.article) plain;
      named = settle_named opening taken number w named has;
    })

receive_fits : (opening : Opening) (state : State) (article : List ℕ) (quantity number : ℕ) (row : Row) → IsDayState opening state
    → slice_get state.rows number ≡ Some row → Fits opening (receive_at opening state article quantity number row)
receive_fits opening state article quantity number row day there =
    let balanced : IsBalanced row = All-at IsBalanced state.rows number row day.sound.rows there in
    cond_both (not (bytes_eq (article_name opening row.article) article)) _ _ (Fits opening)
    (λ other. refused opening state _ day.named
    (article_named opening row.article day.articles (row_of_stock opening state number row day.named there)))
    (λ same. cond_both (nat_lt most_on_hand (row.on_hand + quantity)) _ _ (Fits opening)
    (λ many. refused opening state _ day.named (units_u32 row.on_hand balanced.most))
    (λ few. record {
      reply = refl;
      named = record {
        waves = day.named.waves;
        rows = rows_of_stock opening state.rows _ (λ k r. at_place-article number k (receive_units quantity) r refl) day.named.rows;
      };
    }))

-- a plain command that names names is answered by a reply of a journal, and leads to a state of names
pub step_fits : (opening : Opening) (state : State) (c : Command) → IsDayState opening state → is_plain c ≡ true → has_names c ≡ true
    → Fits opening (step opening state c)
step_fits opening state (command.Submit name orders) day plain names =
    let parts = both (is_name name) (list_all is_name orders) names in
    submit_fits opening state name orders day.is day.named (leb-true (length orders) 100 plain) parts.0 parts.1
step_fits opening state (command.Allot name) day plain names =
    at_wave_fits opening state name _ day.named (λ number w there. allot_fits opening state number w w.state day there)
step_fits opening state (command.Release name) day plain names =
    at_wave_fits opening state name _ day.named (λ number w there. release_fits opening state number w w.state day there)
step_fits opening state (command.Cancel name) day plain names =
    at_wave_fits opening state name _ day.named (λ number w there. cancel_fits opening state number w w.state day.named there)
step_fits opening state (command.Pick name order location quantity) day plain names =
    let bounds = both (is_plain_location location) (is_plain_quantity quantity) plain in
    at_wave_fits opening state name _ day.named (λ number w there.
    at_released_fits opening state number w order location quantity (pick state number w quantity) w.state day there bounds.0
    (λ held are. pick_fits opening state number w quantity held day.named (wave_named opening state number w day.named there)))
step_fits opening state (command.Missing name order location quantity) day plain names =
    let bounds = both (is_plain_location location) (is_plain_quantity quantity) plain in
    at_wave_fits opening state name _ day.named (λ number w there.
    at_released_fits opening state number w order location quantity (write_off opening state number w quantity) w.state day there bounds.0
    (λ held are. write_off_fits opening state number w quantity held day (wave_named opening state number w day.named there) bounds.1 are))
step_fits opening state (command.Receive location article quantity) day plain names =
    option_map_or-both (Fits opening) (λ (found : ℕ × Row). receive_at opening state article quantity found.0 found.1) (row_from 0 state.rows location) _
    (λ found is. receive_fits opening state article quantity found.0 found.1 day (row_found state.rows location found is))
    (λ none. refused opening state reply.NoRow day.named refl)
