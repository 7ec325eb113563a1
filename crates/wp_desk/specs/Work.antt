-- What desks have done, after the history with which their turn began.
use Rattle.std.specs.Prelude.{◌≡◌, ◌≤◌, ℕ, List, [], ◌∷◌, ◌++◌, length, map, reverse, IfOk}
use Rattle.std.specs.List.{All, flat_map}
use Rattle.wp_desk.specs.Parts.{HasAsked, history_of, refills_by, waves_by}
use Rattle.wp_desk.specs.declared.day_run.Planned.{Planned}
use Rattle.wp_desk.specs.declared.desk.DeskWork.{DeskWork}
use Rattle.wp_desk.specs.declared.desks.DesksWork.{DesksWork}
use Rattle.wp_desk.specs.declared.shared.Shared.{Shared}
use Rattle.wp_desk.specs.declared.told.Told.{Told}
use Rattle.wp_machine.specs.Outcome.{outcome_of, refill_in, released_in}
use Rattle.wp_machine.specs.declared.outcome.Outcome.{Outcome}
use Rattle.wp_machine.specs.declared.outcome.WaveHolds.{WaveHolds}
use Rattle.wp_model.specs.History.{History, Script, next_entry, script_of, state_after}
use Rattle.wp_model.specs.Opening.{Opening}
use Rattle.wp_model.specs.Step.{step}
use Rattle.wp_model.specs.declared.command.Command.{Command}
use Rattle.wp_model.specs.declared.entry.Entry.{Entry}
use Rattle.wp_turn.specs.Calls.{IsAmong, calls_of}
use Rattle.wp_turn.specs.Promises.{Follow, IsOf, Known, callers_of, new_passes, seeing}
use Rattle.wp_turn.specs.Promises.{Opening as Begun}

-- what a desk has seen of the calls of all
abbrev pub Seen : Type 0
Seen = Known Shared Entry

-- the history with which a turn began: what its machine had answered by then
abbrev pub start_of : Begun Shared → History
start_of turn = turn.start.machine

-- the turn began with a machine of this opening
abbrev pub BeginsAt : Opening → Begun Shared → Type 0
BeginsAt opening turn = (start_of turn).opening ≡ opening

-- a pass of the turn, which stands for this desk alone
pub record IsOfDesk (turn : Begun Shared) (desk : ℕ) (pass : Seen) : Type 0 where
  pub own : IsOf turn pass
  pub desk_is : pass.caller ≡ desk
  pub alone : pass.callers ≡ desk ∷ []

-- passes of these desks, one of each, in order
abbrev pub AreOfDesks : Begun Shared → List ℕ → List Seen → Type 0
AreOfDesks turn desks passes = (map (λ pass. pass.caller) passes ≡ desks)
    × All (λ pass. IsOfDesk turn pass.caller pass) passes

-- the desks of a turn, in the opposite order
abbrev pub desks_of : Begun Shared → List ℕ
desks_of turn = reverse (map (λ (pass : Seen). pass.caller) (new_passes turn turn.made))

-- a desk that has seen nothing yet and has one of the scripts
pub record IsFresh (turn : Begun Shared) (scripts : List Script) (pass : Seen) : Type 0 where
  pub of_desk : IsOfDesk turn pass.caller pass
  pub nothing : pass.calls ≡ []
  pub first : 1 ≤ pass.caller
  pub last : pass.caller ≤ length scripts

-- a desk's command was answered: after the calls that it had seen, with no other of its own between, and this is what
-- the step told
pub record IsAnswered (start : History) (pass after : Seen) (command : Command) (told : Outcome) : Type 0 where
  pub before : List (ℕ × Entry)
  pub follow : Follow pass before
  pub last : after ≡ seeing (before ++ (pass.caller, next_entry (history_of start before) pass.caller command) ∷ [])
      pass
  pub tells : told ≡ outcome_of (length (history_of start before).entries)
      (state_after (history_of start before)) command
      (step start.opening (state_after (history_of start before)) command)

module _ {T : Type 0} where
  -- the waves of plans
  abbrev pub planned_waves : List (Planned T) → List WaveHolds
  planned_waves plans = map (λ planned. planned.wave) plans

  -- each plan is related to its wave so
  abbrev pub ArePlanned : (WaveHolds → T → Type 0) → List (Planned T) → Type 0
  ArePlanned Plans plans = All (λ planned. Plans planned.wave planned.plan) plans

  -- what a step told was kept, with a plan for a wave that went out
  pub record IsToldWithPlans (Plans : WaveHolds → T → Type 0) (old new : Told T) (told : Outcome) : Type 0 where
    pub waves : planned_waves new.plans.items ≡ planned_waves old.plans.items ++ released_in told
    pub refills : new.refills.items ≡ old.refills.items ++ refill_in told
    pub planned : ArePlanned Plans new.plans.items

  -- a desk has asked for these commands, and what their steps told is kept
  pub record HasDone (start : History) (commands : List Command) (pass : Seen) (told : Told T) : Type 0 where
    pub asked : HasAsked pass.calls pass.caller commands
    pub waves : planned_waves told.plans.items ≡ waves_by start pass.calls pass.caller
    pub refills : told.refills.items ≡ refills_by start pass.calls pass.caller

  -- desks have asked for all commands of their scripts, and what their steps told is kept
  pub record HaveDone (start : History) (scripts : List Script) (passes : List Seen) (told : Told T) : Type 0 where
    pub asked : All (λ pass. HasAsked pass.calls pass.caller (script_of scripts pass.caller)) passes
    pub waves : planned_waves told.plans.items ≡ flat_map (λ pass. waves_by start pass.calls pass.caller) passes
    pub refills : told.refills.items ≡ flat_map (λ pass. refills_by start pass.calls pass.caller) passes

  -- what a desk comes back with after these commands: its pass and, where there was memory for it, all that it asked
  -- for and was told
  pub record IsScriptWork (turn : Begun Shared) (commands : List Command) (Plans : WaveHolds → T → Type 0) (desk : ℕ)
      (work : DeskWork T) :
      Type 0 where
    pub own : IsOfDesk turn desk work.desk.pass
    pub done : IfOk work.told (HasDone (start_of turn) commands work.desk.pass)
    pub planned : IfOk work.told (λ told. ArePlanned Plans told.plans.items)

  -- what a desk comes back with after its script
  abbrev pub IsDeskWork : Begun Shared → List Script → (WaveHolds → T → Type 0) → ℕ → DeskWork T → Type 0
  IsDeskWork turn scripts Plans desk work = IsScriptWork turn (script_of scripts desk) Plans desk work

  -- what desks come back with
  pub record IsDesksWork (turn : Begun Shared) (scripts : List Script) (Plans : WaveHolds → T → Type 0) (desks : List ℕ)
      (work : DesksWork T) : Type 0 where
    pub own : AreOfDesks turn desks work.desks.passes.list
    pub done : IfOk work.told (HaveDone (start_of turn) scripts work.desks.passes.list)
    pub planned : IfOk work.told (λ told. ArePlanned Plans told.plans.items)

-- the turn has ended with this history: after the one to begin with it has all that each of these desks has done, and
-- nothing else
pub record EndsWith (start : History) (passes : List Seen) (history : History) : Type 0 where
  pub calls : List (ℕ × Entry)
  pub is : history ≡ history_of start calls
  pub follow : All (λ pass. Follow pass calls) passes
  pub no_others : (desk : ℕ) → ¬ IsAmong desk (callers_of passes) → calls_of desk calls ≡ []
