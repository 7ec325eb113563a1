-- Waves that go out, as the whole floor answers them.
use Rattle.std.proofs.Common.{◌≡◌, ◌∙◌, refl, sym, ap, subst, ℕ, ◌+◌, List, length, map, Option, Some}
use Rattle.std.proofs.Common.{arith}
use Rattle.wp_model.specs.Book.{held_for, held_list}
use Rattle.wp_model.specs.Opening.{Opening}
use Rattle.wp_model.specs.State.{Wave}
use Rattle.wp_model.specs.Step.{Stepped, at_wave, is_live, release, step, wave_from}
use Rattle.wp_model.specs.declared.command.Command.{Command}
use Rattle.wp_model.specs.declared.command.Command.TheVariants as command
use Rattle.wp_model.specs.declared.reply.Reply.{Reply}
use Rattle.wp_model.specs.declared.reply.Reply.TheVariants as reply
use Rattle.wp_floor.specs.Floor.{AreTakers, HasAnswered, HasStepped, IsAt, IsFloor, state_at, state_in, state_of, wave_of}
use Rattle.wp_floor.specs.ReleasedWaves.{HasReleased, IfOut, IfRefused, TellsHolds}
use Rattle.wp_floor.specs.Waves.{IsFound, IsReturned, waves_of}
use Rattle.wp_floor.specs.declared.floor.Floor.{Floor}
use Rattle.wp_floor.specs.declared.releasing.Released.{Released}
use Rattle.wp_floor.specs.declared.releasing.Released.TheVariants as released
use Rattle.wp_floor.specs.declared.waves.Found.{Found}
use Rattle.wp_floor.specs.declared.waves.KeptWave.{KeptWave}
use Rattle.wp_floor.specs.declared.waves.HeldOrders.{HeldOrders}
use Rattle.wp_floor.specs.declared.waves.Waves.{Waves}
use Rattle.wp_floor.proofs.Floors.{answered, back_there, found_at, takers_same, wave_by}

-- a wave was taken out, and is put back as it is now; its orders stay where they are
pub record IsPutBack (opening : Opening) (name : List ℕ) (old : Floor) (rest : Waves) (found : Found) (new : Floor) (left : KeptWave) : Type 0 where
  pub floor : IsFloor opening old
  pub is_found : IsFound name old.waves rest found
  pub waves : IsReturned rest (record found { wave = left }) new.waves
  pub takers : new.takers.items ≡ old.takers.items
  pub live : is_live (state_in left.stage) ≡ is_live (state_in found.wave.stage)

-- the floor has stepped as the wave has answered
pub stepped_at : (opening : Opening) (command : Command) (name : List ℕ) (change : ℕ → Wave → Stepped) (old : Floor) (rest : Waves) (found : Found)
    (new : Floor) (left : KeptWave) (answer : Reply)
    → step opening (state_of old) command ≡ at_wave (state_of old) name change → IsPutBack opening name old rest found new left
    → HasAnswered opening (change found.number (wave_of found.wave)) old.book new.book (map wave_of (waves_of old.waves)) found.number found.wave left answer
    → HasStepped opening command old new answer
stepped_at opening command name change old rest found new left answer is put answers =
    answered opening command name change old rest found new left answer is
    (record {
      floor = put.floor;
      is_found = put.is_found;
      answers = answers;
      waves = put.waves;
      takers = subst (λ (ts : List (Option (List ℕ))). AreTakers opening (map wave_of (waves_of new.waves)) ts) (sym put.takers)
          (takers_same opening name old new.waves rest found left put.floor put.is_found put.waves answers.name answers.orders put.live);
    })

-- the wave that was put back is the one of its name
pub found_after : (opening : Opening) (name : List ℕ) (old : Floor) (rest : Waves) (found : Found) (new : Floor) (left : KeptWave)
    → IsPutBack opening name old rest found new left → IsFloor opening new → left.name ≡ found.wave.name
    → wave_from 0 (state_of new).waves name ≡ Some (found.number, wave_of left)
found_after opening name old rest found new left put floor named =
    let there = back_there opening name old new.waves rest found left put.floor put.is_found named put.waves in
    let zero : 0 + found.number ≡ found.number = omega arith in
    wave_by (map wave_of (waves_of new.waves)) name 0 found.number (wave_of left) there (named ∙ put.is_found.named) floor.sound.names
    ∙ ap (λ (n : ℕ). Some (n, wave_of left)) zero

-- a wave that went out
pub went_out : (opening : Opening) (name : List ℕ) (old : Floor) (rest : Waves) (found : Found) (new : Floor) (left : KeptWave) (sheet : HeldOrders)
    → IsPutBack opening name old rest found new left
    → HasReleased opening old.book new.book (map wave_of (waves_of old.waves)) found.number found.wave left sheet
    → HasStepped opening (command.Release name) old new reply.Released × TellsHolds (state_of new) name sheet
went_out opening name old rest found new left sheet put out =
    let stepped = stepped_at opening (command.Release name) name
    (λ number w. release opening (state_of old) number w w.state) old rest found new left reply.Released refl put out.answers in
    let orders : left.orders ≡ found.wave.orders = out.answers.orders in (
      stepped,
      (
        (found.number, wave_of left),
        found_after opening name old rest found new left put stepped.floor out.answers.name,
        out.copied ∙ sym orders,
        out.listed ∙ ap (λ (os : List (List ℕ)). held_list (length os) (length new.book.rows) (held_for new.book found.number)) (sym orders),
      ),
    )

-- where the wave goes out, the floor answers that it is released
pub release_out : (opening : Opening) (name : List ℕ) (old : Floor) (rest : Waves) (found : Found) (new : Floor) (left : KeptWave)
    (done : Released)
    → IsPutBack opening name old rest found new left
    → IfOut done (λ sheet. (waves : List Wave) → IsAt opening old.book waves found.number found.wave
    → HasReleased opening old.book new.book waves found.number found.wave left sheet)
    → IfOut done (λ sheet. HasStepped opening (command.Release name) old new reply.Released)
release_out opening name old rest found new left (released.Out sheet) put out =
    (went_out opening name old rest found new left sheet put (out (map wave_of (waves_of old.waves))
    (found_at opening name old rest found put.floor put.is_found))).0
release_out opening name old rest found new left (released.Refused why) put out = tt

-- and tells a sheet of all that the wave holds
pub release_told : (opening : Opening) (name : List ℕ) (old : Floor) (rest : Waves) (found : Found) (new : Floor) (left : KeptWave)
    (done : Released)
    → IsPutBack opening name old rest found new left
    → IfOut done (λ sheet. (waves : List Wave) → IsAt opening old.book waves found.number found.wave
    → HasReleased opening old.book new.book waves found.number found.wave left sheet)
    → IfOut done (λ sheet. TellsHolds (state_of new) name sheet)
release_told opening name old rest found new left (released.Out sheet) put out =
    (went_out opening name old rest found new left sheet put (out (map wave_of (waves_of old.waves))
    (found_at opening name old rest found put.floor put.is_found))).1
release_told opening name old rest found new left (released.Refused why) put out = tt

-- where the wave refuses, the floor answers what it answers
pub release_refused : (opening : Opening) (name : List ℕ) (old : Floor) (rest : Waves) (found : Found) (new : Floor) (left : KeptWave)
    (done : Released)
    → IsPutBack opening name old rest found new left
    → IfRefused done (λ why. (waves : List Wave) → IsAt opening old.book waves found.number found.wave
    → HasAnswered opening (release opening (state_at old.book waves) found.number (wave_of found.wave) (state_in found.wave.stage))
    old.book new.book waves found.number
    found.wave left why)
    → IfRefused done (λ why. HasStepped opening (command.Release name) old new why)
release_refused opening name old rest found new left (released.Out sheet) put refused = tt
release_refused opening name old rest found new left (released.Refused why) put refused =
    stepped_at opening (command.Release name) name (λ number w. release opening (state_of old) number w w.state) old rest found new left why refl put
    (refused (map wave_of (waves_of old.waves)) (found_at opening name old rest found put.floor put.is_found))
