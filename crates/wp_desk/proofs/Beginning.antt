-- Desks at the opening, and what a day has once they are back.
use Rattle.std.proofs.Common.{◌≡◌, ◌≤◌, ℕ, zero, suc, List, length, All, Result, Ok, Err, IfOk, ◌∙◌, map, refl, reverse, ap, subst, sym, true≢false}
use Rattle.std.proofs.Common.{arith}
use Rattle.wp_desk.specs.Days.{HasDay}
use Rattle.wp_desk.specs.Work.{AreOfDesks, IsFresh, Seen, desks_of}
use Rattle.wp_desk.specs.declared.day_run.DayRun.{DayRun}
use Rattle.wp_desk.specs.declared.shared.Shared.{Shared}
use Rattle.wp_desk.specs.declared.told.Told.{Told}
use Rattle.wp_machine.specs.declared.outcome.WaveHolds.{WaveHolds}
use Rattle.wp_model.specs.History.{History, Script}
use Rattle.wp_model.specs.declared.memory.Memory.{Memory}
use Rattle.wp_turn.proofs.Closing.{all_snoc}
use Rattle.wp_turn.specs.Promises.{new_pass, new_passes}
use Rattle.wp_turn.specs.Promises.{Opening as Begun}

-- desks at the opening have seen nothing yet, and each has its script
pub new_fresh : (turn : Begun Shared) (scripts : List Script) (n : ℕ) → n ≤ length scripts → All (IsFresh turn scripts) (new_passes turn n)
new_fresh turn scripts zero few k d inside = absurd (omega (arith, inside))
new_fresh turn scripts (suc n) few k d inside =
    all_snoc (IsFresh turn scripts) (new_passes turn n) (new_pass turn (suc n)) (new_fresh turn scripts n (omega (arith, few)))
    (record {
      of_desk = record { own = (refl, refl); desk_is = refl; alone = refl };
      nothing = refl;
      first = omega arith;
      last = few;
    }) k d inside

-- the desks that are back are those of the turn
pub all_back : (turn : Begun Shared) (first back : List Seen) (n : ℕ) → first ≡ new_passes turn n → turn.made ≡ n
    → AreOfDesks turn (reverse (map (λ (p : Seen). p.caller) first)) back → AreOfDesks turn (desks_of turn) back
all_back turn first back n are made own =
    subst (λ desks. AreOfDesks turn desks back) (ap (λ list. reverse (map (λ (p : Seen). p.caller) list)) are
    ∙ ap (λ n. reverse (map (λ (p : Seen). p.caller) (new_passes turn n))) (sym made)) own

module _ {T : Type 0} where
  -- what holds of the history of a machine holds of that of the day that keeps the machine
  pub day_keeps : (P : History → Type 0) (history : History) (day : Result (DayRun T) Memory) (told : Result (Told T) Memory) (Done : Told T → Type 0)
      (Plans : WaveHolds → T → Type 0)
      → IfOk day (HasDay Plans history told) → IfOk told Done → ((some : Told T) → Done some → P history)
      → IfOk day (λ d. P d.machine)
  day_keeps P history (Err lack) told Done Plans is done gives = tt
  day_keeps P history (Ok day) (Err lack) Done Plans is done gives = absurd (true≢false (sym is.there))
  day_keeps P history (Ok day) (Ok told) Done Plans is done gives = subst P (sym is.machine) (gives told done)
