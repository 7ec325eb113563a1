-- Units that a desk claims: those that are held, or why the claim is refused.
use Rattle.std.proofs.Common.{◌≡◌, ◌∙◌, refl, sym, ap, subst, ℕ, ◌<◌, ◌==◌, nat_lt, true, false, List, length, Option, Some, None, Result, Ok, Err, IfOk}
use Rattle.std.proofs.Common.{option_map}
use Rattle.std.proofs.Common.{IfErr, slice_get, if◌then◌else◌, arith}
use Rattle.std.proofs.lemmas.Bool.{cond_both}
use Rattle.std.proofs.lemmas.Bool.Decides.{nat_tests}
use Rattle.std.specs.Option.{option_map_or}
use Rattle.wp_model.proofs.Found.{option_map_or-both, place_found, row_found}
use Rattle.wp_model.specs.Book.{Book, held_for}
use Rattle.wp_model.specs.State.{Wave}
use Rattle.wp_model.specs.Step as step
use Rattle.wp_model.specs.declared.location.Location.{Location}
use Rattle.wp_model.specs.declared.reply.Reply.{Reply}
use Rattle.wp_model.specs.declared.reply.Reply.TheVariants as reply
use Rattle.wp_model.specs.declared.reply.WaveState.{WaveState}
use Rattle.wp_model.specs.declared.reply.WaveState.TheVariants as wave
use Rattle.wp_model.specs.declared.row.Row.{Row}
use Rattle.wp_floor.specs.Floor.{state_at, state_in, wave_of}
use Rattle.wp_floor.specs.HeldUnits.{IsClaimRefused, IsClaimed, IsEnoughHeld, held_of, held_there, unless_released}
use Rattle.wp_floor.specs.declared.held.HeldUnits.{HeldUnits}
use Rattle.wp_floor.specs.declared.waves.KeptWave.{KeptWave}

wrong_by : (book : Book) (waves : List Wave) (number : ℕ) (kept : KeptWave) (order : List ℕ) (location : Location) (quantity : ℕ) (answer : Reply)
    (change : step.Held → step.Stepped) (s : WaveState) → unless_released s ≡ Some answer
    → step.at_released (state_at book waves) number (wave_of kept) order location quantity change s ≡ step.refuse (state_at book waves) answer
wrong_by book waves number kept order location quantity answer change wave.Released is = absurd (cc)
wrong_by book waves number kept order location quantity answer change wave.Submitted is = ap (step.refuse (state_at book waves)) (cc)
wrong_by book waves number kept order location quantity answer change wave.Allotted is = ap (step.refuse (state_at book waves)) (cc)
wrong_by book waves number kept order location quantity answer change wave.Cancelled is = ap (step.refuse (state_at book waves)) (cc)
wrong_by book waves number kept order location quantity answer change wave.Done is = ap (step.refuse (state_at book waves)) (cc)

-- a wave that isn't released refuses every claim
pub wrong_state : (book : Book) (number : ℕ) (kept : KeptWave) (order : List ℕ) (location : Location) (quantity : ℕ) (answer : Reply)
    → unless_released (state_in kept.stage) ≡ Some answer → IsClaimRefused book number kept order location quantity answer
wrong_state book number kept order location quantity answer is waves change =
    wrong_by book waves number kept order location quantity answer change (state_in kept.stage) is

-- a wave whose state is no ground to refuse is released
pub is_released : (s : WaveState) → unless_released s ≡ None → s ≡ wave.Released
is_released wave.Released is = refl
is_released wave.Submitted is = absurd (cc)
is_released wave.Allotted is = absurd (cc)
is_released wave.Cancelled is = absurd (cc)
is_released wave.Done is = absurd (cc)

-- a released wave does at its location what is done at what is held there
at_held_by : (book : Book) (waves : List Wave) (number : ℕ) (kept : KeptWave) (order : List ℕ) (location : Location) (quantity : ℕ)
    (change : step.Held → step.Stepped) → state_in kept.stage ≡ wave.Released
    → step.at_released (state_at book waves) number (wave_of kept) order location quantity change (state_in kept.stage)
    ≡ step.at_held (state_at book waves) number (wave_of kept) order location quantity change
at_held_by book waves number kept order location quantity change released =
    ap (step.at_released (state_at book waves) number (wave_of kept) order location quantity change) released

-- a released wave that holds enough where a claim says does what is claimed
pub enough_by : (book : Book) (waves : List Wave) (number : ℕ) (kept : KeptWave) (order : List ℕ) (location : Location) (quantity : ℕ)
    (change : step.Held → step.Stepped) (found : HeldUnits) → IsClaimed book number kept order location quantity found
    → step.at_released (state_at book waves) number (wave_of kept) order location quantity change (state_in kept.stage) ≡ change (held_of found)
enough_by book waves number kept order location quantity change found is =
    let state = state_at book waves in
    let less : nat_lt found.units quantity ≡ false = let e = is.enough in grind (arith, nat_tests) in
    at_held_by book waves number kept order location quantity change is.released
    ∙ (ap (λ held. option_map_or (λ (h : step.Held). if nat_lt h.units quantity then step.refuse state (reply.TooMuch h.units) else change h) held
    (step.refuse state (reply.NotHeld location))) is.held
    ∙ ap (λ b. if b then step.refuse state (reply.TooMuch found.units) else change (held_of found)) less)

not_enough : (book : Book) (waves : List Wave) (quantity : ℕ) (location : Location) (answer : Reply) (change : step.Held → step.Stepped)
    (held : Option step.Held) → IsEnoughHeld held location quantity (Err answer)
    → option_map_or (λ (h : step.Held). if nat_lt h.units quantity then step.refuse (state_at book waves) (reply.TooMuch h.units) else change h) held
    (step.refuse (state_at book waves) (reply.NotHeld location)) ≡ step.refuse (state_at book waves) answer
not_enough book waves quantity location answer change None is = ap (step.refuse (state_at book waves)) (sym is)
not_enough book waves quantity location answer change (Some h) is =
    let less : nat_lt h.units quantity ≡ true = let e = is.1 in grind (arith, nat_tests) in
    ap (λ b. if b then step.refuse (state_at book waves) (reply.TooMuch h.units) else change h) less ∙ ap (step.refuse (state_at book waves)) (sym is.0)

-- and one that doesn't hold enough there refuses
pub refused_by : (book : Book) (number : ℕ) (kept : KeptWave) (order : List ℕ) (location : Location) (quantity : ℕ) (answer : Reply)
    → state_in kept.stage ≡ wave.Released
    → IsEnoughHeld (held_there book number kept order location) location quantity (Err answer) → IsClaimRefused book number kept order location quantity answer
refused_by book number kept order location quantity answer released is waves change =
    at_held_by book waves number kept order location quantity change released
    ∙ not_enough book waves quantity location answer change (held_there book number kept order location) is

-- held units are of an order of the wave, at the row of a location, as many as are held there, and of the row's article
pub record IsHolder (book : Book) (number orders : ℕ) (location : Location) (held : step.Held) : Type 0 where
  pub order : held.order < orders
  pub units : held.units ≡ held_for book number held.order held.row
  pub row : Row
  pub at : option_map (λ (found : ℕ × Row). found.0) (step.row_from 0 book.rows location) ≡ Some held.row
  pub there : slice_get book.rows held.row ≡ Some row
  pub article : held.article ≡ row.article

any_same : (a b : step.Held) → step.any_held a ≡ Some b → a ≡ b
any_same a b is = cond_both (a.units == 0) None (Some a) (λ (found : Option step.Held). found ≡ Some b → a ≡ b) (λ none e. absurd (cc))
    (λ some e. let same : Some a ≡ Some b = e in cc) is

-- what is held where a claim says is held for an order of the wave, at a row of its article
pub holder : (book : Book) (number : ℕ) (kept : KeptWave) (order : List ℕ) (location : Location) (held : step.Held)
    → held_there book number kept order location ≡ Some held → IsHolder book number (length kept.orders) location held
holder book number kept order location held is =
    option_map_or-both (λ (found : Option step.Held). found ≡ Some held → IsHolder book number (length kept.orders) location held) _
    (step.place_from 0 kept.orders order) None
    (λ place at. option_map_or-both (λ (found : Option step.Held). found ≡ Some held → IsHolder book number (length kept.orders) location held) _
    (step.row_from 0 book.rows location) None
    (λ found there same. subst (IsHolder book number (length kept.orders) location) (any_same _ held same)
    (record {
      order = place_found kept.orders order place at;
      units = refl;
      row = found.1;
      at = ap (option_map (λ (found : ℕ × Row). found.0)) there;
      there = row_found book.rows location found there;
      article = refl;
    }))
    (λ none same. absurd (cc)))
    (λ none same. absurd (cc))
    is

-- so a released wave finds what is claimed, or refuses it
pub claimed_is : (book : Book) (number : ℕ) (kept : KeptWave) (order : List ℕ) (location : Location) (quantity : ℕ) (result : Result HeldUnits Reply)
    → state_in kept.stage ≡ wave.Released
    → IsEnoughHeld (held_there book number kept order location) location quantity result
    → IfOk result (IsClaimed book number kept order location quantity) × IfErr result (IsClaimRefused book number kept order location quantity)
claimed_is book number kept order location quantity (Ok found) released is = (record { released = released; held = is.0; enough = is.1 }, tt)
claimed_is book number kept order location quantity (Err answer) released is = (tt, refused_by book number kept order location quantity answer released is)
