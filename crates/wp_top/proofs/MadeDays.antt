-- What a made day comes to.
use Rattle.std.proofs.Common.{◌≡◌, ◌∙◌, refl, sym, ap, ap₂, subst, ℕ, ◌+◌, Bool, List, [], ◌∷◌, ◌++◌, length, length-append, Option, Some}
use Rattle.std.specs.Prelude.{if◌then◌else◌, count_by, take, slice_get}
use Rattle.std.specs.List.{All, flat_map}
use Rattle.std.proofs.lemmas.List.Concat.{flat_map-cons}
use Rattle.std.proofs.lemmas.List.Elements.{All-cons, All-head, All-nil, All-tail, filter_map-append}
use Rattle.std.proofs.lemmas.List.Sums.{sum_by-append, sum_by-cons}
use Rattle.wp_desk.specs.declared.day_run.DayRun.{DayRun}
use Rattle.wp_machine.proofs.Outcomes.{holds_come_with_released}
use Rattle.wp_machine.specs.Outcome.{outcome_of, outcomes_from, released_in, released_of, tells_holds}
use Rattle.wp_machine.specs.declared.outcome.Outcome.{Outcome}
use Rattle.wp_machine.specs.declared.outcome.Outcome.TheVariants as outcome
use Rattle.wp_machine.specs.declared.outcome.WaveHolds.{WaveHolds}
use Rattle.wp_model.specs.History.{History, IsLegal, IsLegalFrom}
use Rattle.wp_model.specs.Opening.{Opening}
use Rattle.wp_model.specs.State.{State, opening_state}
use Rattle.wp_model.specs.Step.{says_released, step}
use Rattle.wp_model.specs.Warehouse.{Layout}
use Rattle.wp_model.specs.declared.entry.Entry.{Entry}
use Rattle.wp_planner.specs.Roots.{IsRootFor}
use Rattle.wp_planner.specs.Terms.{Terms}
use Rattle.wp_planner.specs.Sent.{ArePlanned, IsPlanned, Sent, plans_of, sent_waves}
use Rattle.wp_top.specs.Summaries.{AreGoodPlans, AreWholePlans, is_proven, proven_plans, releases, total_bound, total_cost}
use Rattle.wp_planner.specs.declared.planner.WavePlan.{WavePlan}
use Rattle.wp_top.specs.Planned.{IsToldOf}
use Rattle.wp_top.specs.Sections.{waves_out}
use Rattle.wp_top.proofs.WavesOut.{waves_are}
use Rattle.wp_top.proofs.Writing.{take_more}

-- a step tells one wave that goes out, or none
one_or_none : (told : Outcome) → length (released_in told) ≡ (if tells_holds told then 1 else 0)
one_or_none outcome.Plain = refl
one_or_none (outcome.Released released) = refl
one_or_none (outcome.Refilled refill) = refl

one_more : {A : Type 0} (p : A → Bool) (x : A) (xs : List A) → count_by p (x ∷ xs) ≡ (if p x then 1 else 0) + count_by p xs
one_more p x xs = sum_by-cons (λ y. if p y then 1 else 0) x xs

released_from : (opening : Opening) (number : ℕ) (state : State) (entries : List Entry) → IsLegalFrom opening number state entries
    → length (flat_map released_in (outcomes_from opening number state entries)) ≡ releases entries
released_from opening number state [] legal = refl
released_from opening number state (entry ∷ entries) legal =
    let stepped = step opening state entry.command in
    let told = outcome_of number state entry.command stepped in
    let later = outcomes_from opening (number + 1) stepped.state entries in
    let says : tells_holds told ≡ says_released entry.reply =
    holds_come_with_released opening number state entry.command ∙ ap says_released (sym legal.1) in
    let here : length (released_in told) ≡ (if says_released entry.reply then 1 else 0) =
    one_or_none told ∙ ap (λ (b : Bool). if b then 1 else 0) says in
    ap length (flat_map-cons released_in told later) ∙ (length-append (released_in told) (flat_map released_in later)
    ∙ (ap₂ (λ (a b : ℕ). a + b) here (released_from opening (number + 1) stepped.state entries legal.2)
    ∙ sym (one_more (λ (e : Entry). says_released e.reply) entry entries)))

-- as many waves go out in a legal history as it has releases
pub released_count : (history : History) → IsLegal history → length (released_of history) ≡ releases history.entries
released_count history legal = released_from history.opening 0 (opening_state history.opening) history.entries legal

-- the plans of waves that went out, each with a whole one
pub whole_plans : (layout : Layout) (opening : Opening) (terms : Terms) (sent : List Sent) → ArePlanned layout opening terms sent
    → AreWholePlans layout opening terms (sent_waves sent) (plans_of sent)
whole_plans layout opening terms [] planned = tt
whole_plans layout opening terms (one ∷ sent) planned =
    let P : Sent → Type 0 = IsPlanned layout opening terms in
    let first = All-head P one sent planned in
    rw first.there (first.good, whole_plans layout opening terms sent (All-tail P one sent planned))

-- each of them has a bracket where the terms ask for one
pub any_brackets : (layout : Layout) (opening : Opening) (terms : Terms) (sent : List Sent) → ArePlanned layout opening terms sent
    → All (λ (plan : WavePlan). IsRootFor terms plan.wave plan.root) (plans_of sent)
any_brackets layout opening terms [] planned = All-nil (λ (plan : WavePlan). IsRootFor terms plan.wave plan.root)
any_brackets layout opening terms (one ∷ sent) planned =
    let P : Sent → Type 0 = IsPlanned layout opening terms in
    let first = All-head P one sent planned in
    rw first.there (All-cons (λ (plan : WavePlan). IsRootFor terms plan.wave plan.root) first.plan (plans_of sent) first.good.root
    (any_brackets layout opening terms sent (All-tail P one sent planned)))

-- whole plans are good ones
good_from_whole : (layout : Layout) (opening : Opening) (terms : Terms) (waves : List WaveHolds) (plans : List WavePlan)
    → AreWholePlans layout opening terms waves plans → AreGoodPlans layout opening terms waves plans
good_from_whole layout opening terms [] [] are = tt
good_from_whole layout opening terms [] (plan ∷ plans) are = absurd are
good_from_whole layout opening terms (wave ∷ waves) [] are = absurd are
good_from_whole layout opening terms (wave ∷ waves) (plan ∷ plans) (first, others)
    = ((first.wave, first.good), good_from_whole layout opening terms waves plans others)

-- the plans of a day's waves are good ones
pub good_plans : (layout : Layout) (terms : Terms) (start : History) (day : DayRun (Option WavePlan)) → IsToldOf layout terms start day
    → AreGoodPlans layout day.machine.opening terms (waves_out start day.machine) (plans_of day.plans.items)
good_plans layout terms start day told =
    good_from_whole layout day.machine.opening terms (waves_out start day.machine) (plans_of day.plans.items)
    (subst (λ (waves : List WaveHolds). AreWholePlans layout day.machine.opening terms waves (plans_of day.plans.items))
    (told.waves ∙ waves_are start day.machine)
    (whole_plans layout day.machine.opening terms day.plans.items told.planned))

-- the plans up to the next wave
pub plans_more : (sent : List Sent) (i : ℕ) (one : Sent) → slice_get sent i ≡ Some one
    → plans_of (take (i + 1) sent) ≡ plans_of (take i sent) ++ plans_of (one ∷ [])
plans_more sent i one is = ap plans_of (take_more sent i one is) ∙ filter_map-append (λ (s : Sent). s.plan) (take i sent) (one ∷ [])

-- and what they come to
pub total_cost_more : (sent : List Sent) (i : ℕ) (one : Sent) → slice_get sent i ≡ Some one
    → total_cost (plans_of (take (i + 1) sent)) ≡ total_cost (plans_of (take i sent)) + total_cost (plans_of (one ∷ []))
total_cost_more sent i one is = ap total_cost (plans_more sent i one is) ∙ sum_by-append (λ p. p.planned.cost) (plans_of (take i sent)) (plans_of (one ∷ []))

pub total_bound_more : (sent : List Sent) (i : ℕ) (one : Sent) → slice_get sent i ≡ Some one
    → total_bound (plans_of (take (i + 1) sent)) ≡ total_bound (plans_of (take i sent)) + total_bound (plans_of (one ∷ []))
total_bound_more sent i one is = ap total_bound (plans_more sent i one is) ∙ sum_by-append (λ p. p.planned.bound) (plans_of (take i sent)) (plans_of (one ∷ []))

pub proven_more : (sent : List Sent) (i : ℕ) (one : Sent) → slice_get sent i ≡ Some one
    → proven_plans (plans_of (take (i + 1) sent)) ≡ proven_plans (plans_of (take i sent)) + proven_plans (plans_of (one ∷ []))
proven_more sent i one is =
    ap proven_plans (plans_more sent i one is)
    ∙ sum_by-append (λ p. if is_proven p.planned.state then 1 else 0) (plans_of (take i sent)) (plans_of (one ∷ []))
