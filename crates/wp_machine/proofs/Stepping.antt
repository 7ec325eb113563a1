-- A machine, as it is opened and after each step.
use Rattle.std.proofs.Common.{◌≡◌, ◌∙◌, refl, sym, ap, subst, ℕ, ◌<◌, [], ◌∷◌, length, arith, length-append}
use Rattle.wp_model.proofs.Histories.{answered_is_legal, state_after-answered}
use Rattle.wp_model.specs.History.{History, answered, next_entry, opened, state_after}
use Rattle.wp_model.specs.Opening.{Opening}
use Rattle.wp_model.specs.State.{State, opening_state}
use Rattle.wp_model.specs.Step.{Stepped, step}
use Rattle.wp_model.specs.declared.command.Command.{Command}
use Rattle.wp_model.specs.declared.entry.Entry.{Entry}
use Rattle.wp_machine.specs.Answering.{IsAnswer, IsMachine}
use Rattle.wp_floor.specs.Floor.{IsFloor, state_of, wave_count}
use Rattle.wp_machine.specs.Outcome.{outcome_of}
use Rattle.wp_floor.specs.declared.floor.Floor.{Floor}
use Rattle.wp_machine.specs.declared.outcome.Answer.{Answer}

-- a machine that was opened
pub machine_opens : (opening : Opening) (floor : Floor) → IsFloor opening floor → state_of floor ≡ opening_state opening → wave_count floor ≡ 0
    → IsMachine (opened opening) floor
machine_opens opening floor is state none = record {
  legal = tt;
  floor = is;
  state = state;
  waves = omega (arith, none);
  few = omega arith;
}

-- a command that was asked, by the machine of a history that is few enough to take one more
pub record IsAsked (h : History) (desk : ℕ) (command : Command) (old new : Floor) (answer : Answer) : Type 0 where
  pub machine : IsMachine h old
  pub few : length h.entries < 4294967295
  pub answers : IsAnswer h.opening (length h.entries) command old new answer

-- the reply of the step is that of the state after the history
pub reply_is : (h : History) (desk : ℕ) (command : Command) (old new : Floor) (answer : Answer) → IsAsked h desk command old new answer
    → answer.reply ≡ (step h.opening (state_after h) command).reply
reply_is h desk command old new answer asked =
    sym (ap (λ (s : Stepped). s.reply) asked.answers.stepped.is) ∙ ap (λ (s : State). (step h.opening s command).reply) asked.machine.state

-- and so is what it tells
pub outcome_is : (h : History) (desk : ℕ) (command : Command) (old new : Floor) (answer : Answer) → IsAsked h desk command old new answer
    → answer.outcome ≡ outcome_of (length h.entries) (state_after h) command (step h.opening (state_after h) command)
outcome_is h desk command old new answer asked =
    asked.answers.outcome ∙ ap (λ (s : State). outcome_of (length h.entries) s command (step h.opening s command)) asked.machine.state

-- a machine that has answered one more command
pub machine_steps : (h : History) (desk : ℕ) (command : Command) (old new : Floor) (answer : Answer) → IsAsked h desk command old new answer
    → IsMachine (answered h desk command) new
machine_steps h desk command old new answer asked =
    let more = length-append h.entries (next_entry h desk command ∷ []) in
    record {
      legal = answered_is_legal h desk command asked.machine.legal;
      floor = asked.answers.stepped.floor;
      state = sym (ap (λ (s : Stepped). s.state) asked.answers.stepped.is)
          ∙ (ap (λ (s : State). (step h.opening s command).state) asked.machine.state ∙ sym (state_after-answered h desk command));
      waves = omega (arith, asked.answers.stepped.most, asked.machine.waves, more);
      few = omega (arith, asked.few, more);
    }

-- the entry of an answer
pub entry_is : (h : History) (desk : ℕ) (command : Command) (old new : Floor) (answer : Answer) → IsAsked h desk command old new answer
    → (number : ℕ) → number ≡ length h.entries
    → (let entry : Entry = record { number = number; desk = desk; command = command; reply = answer.reply } in entry) ≡ next_entry h desk command
entry_is h desk command old new answer asked number numbered = rw (numbered, reply_is h desk command old new answer asked) refl

-- what a machine asks of its floor
pub asked_of : (h : History) (count desk : ℕ) (command : Command) (old new : Floor) (answer : Answer) → count ≡ length h.entries → length h.entries < 4294967295
    → IsMachine h old → IsAnswer h.opening count command old new answer → IsAsked h desk command old new answer
asked_of h count desk command old new answer counted few machine answers = record {
  machine = machine;
  few = few;
  answers = subst (λ (n : ℕ). IsAnswer h.opening n command old new answer) counted answers;
}
