-- The waves that went out in a day, and their plans.
use Rattle.std.proofs.Common.{◌≡◌, ℕ, refl, sym, ap, subst, List, [], ◌∷◌, ◌++◌, Option, Some, None, Result, Ok, Err, Contains}
use Rattle.std.proofs.lemmas.List.Concat.{flat_map-cons}
use Rattle.std.proofs.lemmas.List.Elements.{All-append, All-cons, All-contains_itself, All-head, All-nil, All-tail, All-weaker}
use Rattle.std.specs.List.{All, flat_map}
use Rattle.std.specs.Prelude.{IfOk}
use Rattle.wp_desk.proofs.GoingOn.{told_apart}
use Rattle.wp_desk.specs.GoingOn.{GoesOnFrom, new_entries, released_after, told_after}
use Rattle.wp_desk.specs.declared.day_run.DayRun.{DayRun}
use Rattle.wp_floor.proofs.Floors.{is_opening}
use Rattle.wp_machine.specs.Outcome.{released_in}
use Rattle.wp_machine.specs.declared.outcome.Outcome.{Outcome}
use Rattle.wp_machine.specs.declared.outcome.Outcome.TheVariants as outcome
use Rattle.wp_machine.specs.declared.outcome.WaveHolds.{WaveHolds}
use Rattle.wp_model.proofs.Served.{stock_goes_where_it_covers}
use Rattle.wp_model.specs.History.{History, IsLegal, Script, opened, part_of, script_of}
use Rattle.wp_model.specs.Opening.{Opening}
use Rattle.wp_model.specs.Sound.{EachStateIsSound}
use Rattle.wp_model.specs.Tables.{IsReadOpening}
use Rattle.wp_model.specs.Warehouse.{Layout}
use Rattle.wp_model.specs.declared.memory.Memory.{Memory}
use Rattle.wp_planner.proofs.Outgoing.{each_wave_out_is_filled}
use Rattle.wp_planner.specs.Plans.{IsPlanFor}
use Rattle.wp_planner.specs.Released.{IsReleased}
use Rattle.wp_planner.specs.Terms.{Terms}
use Rattle.wp_planner.specs.declared.planner.WavePlan.{WavePlan}
use Rattle.wp_planner.specs.Sent.{ArePlanned, IsPlanned, Sent, sent_waves}
use Rattle.wp_top.specs.Planned.{AreMadeBy, IsToldOf}
use Rattle.wp_top.specs.Runs.{IsHistoryOf}
use Rattle.wp_top.specs.Sections.{refills_told}

-- one more
pub one_wave_more : (sent : List Sent) (one : Sent) → sent_waves (sent ++ one ∷ []) ≡ sent_waves sent ++ one.wave ∷ []
one_wave_more [] one = refl
one_wave_more (first ∷ sent) one = ap (λ waves. first.wave ∷ waves) (one_wave_more sent one)

-- where a step sends a wave out, that wave goes out filled
sent_filled : (opening : Opening) (told : Outcome) → ((out : WaveHolds) → told ≡ outcome.Released out → IsReleased opening out)
    → All (IsReleased opening) (released_in told)
sent_filled opening outcome.Plain filled = All-nil (IsReleased opening)
sent_filled opening (outcome.Refilled refill) filled = All-nil (IsReleased opening)
sent_filled opening (outcome.Released out) filled = All-cons (IsReleased opening) out [] (filled out refl) (All-nil (IsReleased opening))

-- so it is with each that steps send out
each_filled : (opening : Opening) (outcomes : List Outcome) → All (λ told. All (IsReleased opening) (released_in told)) outcomes
    → All (IsReleased opening) (flat_map released_in outcomes)
each_filled opening [] all = All-nil (IsReleased opening)
each_filled opening (told ∷ more) all =
    let P : Outcome → Type 0 = λ told. All (IsReleased opening) (released_in told) in
    subst (All (IsReleased opening)) (sym (flat_map-cons released_in told more))
    (All-append (IsReleased opening) (released_in told) (flat_map released_in more) (All-head P told more all)
    (each_filled opening more (All-tail P told more all)))

-- what holds of each of a list holds of each of its end
each_later : {A : Type 0} (P : A → Type 0) (xs ys : List A) → All P (xs ++ ys) → All P ys
each_later P [] ys all = all
each_later P (x ∷ xs) ys all = each_later P xs ys (All-tail P x (xs ++ ys) all)

-- each wave that a new entry sends out goes out filled, where a history goes on from another
pub released_each : (start history : History) → IsReadOpening history.opening → GoesOnFrom start history
    → All (IsReleased history.opening) (released_after start (new_entries start history))
released_each start history read goes_on =
    let P : Outcome → Type 0 = λ told. All (IsReleased history.opening) (released_in told) in
    let outcomes = told_after (opened history.opening) history.entries in
    let new = new_entries start history in
    let all : All P outcomes = All-weaker (Contains outcomes) P (λ told among.
    sent_filled history.opening told (λ out is. (each_wave_out_is_filled history out read (subst (Contains outcomes) is among)).released))
    outcomes (All-contains_itself outcomes) in
    let apart = subst (All P) (told_apart start new) (subst (λ (h : History). All P (told_after (opened h.opening) h.entries)) goes_on all) in
    each_filled history.opening (told_after start new) (each_later P (told_after (opened start.opening) start.entries) (told_after start new) apart)

-- a wave that went out filled has a plan
one_planned : (layout : Layout) (opening : Opening) (terms : Terms) (sent : Sent) (plan : Option WavePlan) → sent.plan ≡ plan
    → IsPlanFor layout opening terms sent.wave plan → IsReleased opening sent.wave → IsPlanned layout opening terms sent
one_planned layout opening terms sent (Some plan) same is released = record { released = released; plan = plan; there = same; good = is.good }
one_planned layout opening terms sent None same is released = absurd (cc (is.there.1 released))

-- so it is with each
each_planned : (layout : Layout) (opening : Opening) (terms : Terms) (sent : List Sent) → All (λ s. IsPlanFor layout opening terms s.wave s.plan) sent
    → All (IsReleased opening) (sent_waves sent) → ArePlanned layout opening terms sent
each_planned layout opening terms [] plans released = All-nil (IsPlanned layout opening terms)
each_planned layout opening terms (one ∷ sent) plans released =
    let P : Sent → Type 0 = λ s. IsPlanFor layout opening terms s.wave s.plan in
    let R : WaveHolds → Type 0 = IsReleased opening in
    All-cons (IsPlanned layout opening terms) one sent
    (one_planned layout opening terms one one.plan refl (All-head P one sent plans) (All-head R one.wave (sent_waves sent) released))
    (each_planned layout opening terms sent (All-tail P one sent plans) (All-tail R one.wave (sent_waves sent) released))

-- what the desks of an opening that was read answer is its day's history
pub history_of : (opening : Opening) (scripts : List Script) (start : History) (result : Result (DayRun (Option WavePlan)) Memory)
    → IfOk result (λ day. day.machine.opening ≡ opening) → IfOk result (λ day. GoesOnFrom start day.machine) → IfOk result (λ day. IsLegal day.machine)
    → IfOk result (λ day. (desk : ℕ) → part_of desk (new_entries start day.machine) ≡ script_of scripts desk)
    → IfOk result (λ day. EachStateIsSound day.machine) → IsReadOpening opening → IfOk result (λ day. IsHistoryOf opening scripts start day.machine)
history_of opening scripts start (Err lack) starts goes_on legal parts sound read = tt
history_of opening scripts start (Ok day) starts goes_on legal parts sound read = record {
  starts = starts;
  legal = legal;
  goes_on = goes_on;
  parts = parts;
  sound = sound;
  stock = stock_goes_where_it_covers day.machine (is_opening day.machine.opening (subst IsReadOpening (sym starts) read));
}

-- a day of an opening that was read tells what the steps of its history tell, where whatever may be made of a wave is a plan for it
pub told_as : (layout : Layout) (terms : Terms) (opening : Opening) (scripts : List Script) (start : History) (makes : WaveHolds → Option WavePlan → Type 0)
    (result : Result (DayRun (Option WavePlan)) Memory) → IsReadOpening opening → IfOk result (λ day. IsHistoryOf opening scripts start day.machine)
    → IfOk result (λ day. sent_waves day.plans.items ≡ released_after start (new_entries start day.machine))
    → IfOk result (λ day. day.refills.items ≡ refills_told start day.machine)
    → IfOk result (λ day. AreMadeBy makes day.plans.items)
    → ((wave : WaveHolds) (plan : Option WavePlan) → makes wave plan → IsPlanFor layout opening terms wave plan)
    → IfOk result (IsToldOf layout terms start)
told_as layout terms opening scripts start makes (Err lack) read history waves refills plans good = tt
told_as layout terms opening scripts start makes (Ok day) read history waves refills plans good =
    let begun = day.machine.opening in
    let P : Opening → Sent → Type 0 = λ o sent. IsPlanFor layout o terms sent.wave sent.plan in
    let plans_for : All (P opening) day.plans.items
    = All-weaker (λ sent. makes sent.wave sent.plan) (P opening) (λ sent. good sent.wave sent.plan) day.plans.items plans.each in
    record {
      goes_on = history.goes_on;
      waves = waves;
      planned = each_planned layout begun terms day.plans.items (subst (λ (o : Opening). All (P o) day.plans.items) (sym history.starts) plans_for)
          (subst (All (IsReleased begun)) (sym waves) (released_each start day.machine (subst IsReadOpening (sym history.starts) read) history.goes_on));
      refills = refills;
    }
