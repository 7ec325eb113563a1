-- Waves are sent out, one after the other.
use Rattle.std.proofs.Common.{◌≡◌, ◌∙◌, refl, sym, ap, ap₂, subst, ℕ, ◌+◌, ◌*◌, ◌<◌, ◌≤◌, List, [], ◌∷◌, ◌++◌}
use Rattle.std.proofs.Common.{append_assoc, length, map, drop, get_or, arith, Vec, true}
use Rattle.std.proofs.lemmas.List.{append-nil, drop_all, length-append}
use Rattle.std.specs.declared.alloc.Global.{Global}
use Rattle.wp_machine.proofs.Outcomes.{holds_come_with_released}
use Rattle.wp_machine.specs.Outcome.{outcome_of, released_in, tells_holds}
use Rattle.wp_machine.specs.declared.outcome.WaveHolds.{WaveHolds}
use Rattle.wp_model.proofs.Histories.{state_after-answered}
use Rattle.wp_model.proofs.Places.{drop_at}
use Rattle.wp_model.specs.History.{History, answered, next_entry, state_after}
use Rattle.wp_model.specs.State.{State}
use Rattle.wp_model.specs.Step.{says_released, step}
use Rattle.wp_model.specs.declared.command.Command.{Command}
use Rattle.wp_model.specs.declared.command.Command.TheVariants as command
use Rattle.wp_outgoing.specs.Sending.{AreDone, orders_of, sending_of, sendings_of}
use Rattle.wp_sending.specs.Sent.{asked_after, sent_after, sent_from}
use Rattle.wp_waves.specs.Filling.{waves_kept}
use Rattle.wp_waves.specs.OpenOrders.{order_of}
use Rattle.wp_waves.specs.declared.open_orders.OpenOrder.{OpenOrder}

-- the state after a wave was sent out
pub state_sent : (h : History) (desk : ℕ) (name : List ℕ) (orders : List (List ℕ))
    → state_after (asked_after h desk (sending_of name orders))
    ≡ (step h.opening (step h.opening (state_after h) (command.Submit name orders)).state (command.Release name)).state
state_sent h desk name orders =
    state_after-answered (answered h desk (command.Submit name orders)) desk (command.Release name)
    ∙ ap (λ (s : State). (step h.opening s (command.Release name)).state) (state_after-answered h desk (command.Submit name orders))

-- there is one entry more for each answer
pub one_more : (h : History) (desk : ℕ) (asked : Command) → length (answered h desk asked).entries ≡ length h.entries + 1
one_more h desk asked = length-append h.entries (next_entry h desk asked ∷ [])

pub two_more : (h : History) (desk : ℕ) (name : List ℕ) (orders : List (List ℕ))
    → length (asked_after h desk (sending_of name orders)).entries ≡ (length h.entries + 1) + 1
two_more h desk name orders =
    one_more (answered h desk (command.Submit name orders)) desk (command.Release name) ∙ ap (λ n. n + 1) (one_more h desk (command.Submit name orders))

-- the commands that come after those of a wave are done after it
pub done_more : (h : History) (desk : ℕ) (name : List ℕ) (orders : List (List ℕ)) (rest : List Command)
    → AreDone h.opening (state_after h) (sending_of name orders ++ rest)
    → AreDone h.opening (state_after (asked_after h desk (sending_of name orders))) rest
done_more h desk name orders rest done = subst (λ (s : State). AreDone h.opening s rest) (sym (state_sent h desk name orders)) done.1.1

-- and they send out what they do after it
pub sent_more : (h : History) (desk : ℕ) (name : List ℕ) (orders : List (List ℕ)) (rest : List Command) (wave : WaveHolds)
    → sent_after h (sending_of name orders) ≡ wave ∷ []
    → sent_after h (sending_of name orders ++ rest) ≡ wave ∷ sent_after (asked_after h desk (sending_of name orders)) rest
sent_more h desk name orders rest wave sent =
    let middle = (step h.opening (state_after h) (command.Submit name orders)).state in
    let last = step h.opening middle (command.Release name) in
    let told = released_in (outcome_of (length h.entries + 1) middle (command.Release name) last) in
    let one : told ≡ wave ∷ [] = sym (append-nil told) ∙ sent in
    ap (λ (l : List WaveHolds). l ++ sent_from h.opening ((length h.entries + 1) + 1) last.state rest) one
    ∙ ap₂ (λ (n : ℕ) (s : State). wave ∷ sent_from h.opening n s rest) (sym (two_more h desk name orders)) (sym (state_sent h desk name orders))

-- what is told of a release that is done
pub told_of_release : (h : History) (desk : ℕ) (name : List ℕ) (orders : List (List ℕ)) → AreDone h.opening (state_after h) (sending_of name orders)
    → tells_holds (outcome_of (length (answered h desk (command.Submit name orders)).entries) (state_after (answered h desk (command.Submit name orders)))
    (command.Release name) (step h.opening (state_after (answered h desk (command.Submit name orders))) (command.Release name))) ≡ true
told_of_release h desk name orders done =
    let now = answered h desk (command.Submit name orders) in
    holds_come_with_released h.opening (length now.entries) (state_after now) (command.Release name)
    ∙ (ap (λ (s : State). says_released (step h.opening s (command.Release name)).reply) (state_after-answered h desk (command.Submit name orders))
    ∙ ap says_released done.1.0)

-- what a wave sends out that holds this
pub sent_one : (h : History) (desk : ℕ) (name : List ℕ) (orders : List (List ℕ)) (wave : WaveHolds)
    → released_in (outcome_of (length (answered h desk (command.Submit name orders)).entries)
    (state_after (answered h desk (command.Submit name orders))) (command.Release name)
    (step h.opening (state_after (answered h desk (command.Submit name orders))) (command.Release name))) ≡ wave ∷ []
    → sent_after h (sending_of name orders) ≡ wave ∷ []
sent_one h desk name orders wave told =
    let now = answered h desk (command.Submit name orders) in
    let middle = (step h.opening (state_after h) (command.Submit name orders)).state in
    let at = λ (n : ℕ) (s : State). released_in (outcome_of n s (command.Release name) (step h.opening s (command.Release name))) in
    append-nil (at (length h.entries + 1) middle)
    ∙ (ap₂ at (sym (one_more h desk (command.Submit name orders))) (sym (state_after-answered h desk (command.Submit name orders))) ∙ told)

-- the commands of the waves from a place on
abbrev pub commands_from : List (List ℕ) → List (Vec OpenOrder Global) → ℕ → List Command
commands_from names waves place = sendings_of (drop place names) (orders_of (waves_kept (drop place waves)))

-- the wave at a place, and its name
pub record IsWaveAt (names : List (List ℕ)) (waves : List (Vec OpenOrder Global)) (place : ℕ) (name : List ℕ)
    (wave : Vec OpenOrder Global) : Type 0 where
  pub named : place < length names
  pub there : place < length waves
  pub name_at : name ≡ get_or names place name
  pub wave_at : wave ≡ get_or waves place wave

pub commands_at : (names : List (List ℕ)) (waves : List (Vec OpenOrder Global)) (place : ℕ) (name : List ℕ) (wave : Vec OpenOrder Global)
    → IsWaveAt names waves place name wave
    → commands_from names waves place ≡ sending_of name (map order_of wave.items) ++ commands_from names waves (place + 1)
commands_at names waves place name wave is =
    ap₂ (λ (ns : List (List ℕ)) (ws : List (Vec OpenOrder Global)). sendings_of ns (orders_of (waves_kept ws)))
    (drop_at names place name is.named is.name_at) (drop_at waves place wave is.there is.wave_at)

-- The waves before a place were sent out, after a history; the commands of the others are done, and send out what is
-- left.
pub record AreSentBefore (start now : History) (desk : ℕ) (names : List (List ℕ)) (waves : List (Vec OpenOrder Global))
    (sent : List WaveHolds) (place : ℕ) : Type 0 where
  pub history : asked_after now desk (commands_from names waves place) ≡ asked_after start desk (commands_from names waves 0)
  pub done : AreDone now.opening (state_after now) (commands_from names waves place)
  pub out : sent ++ sent_after now (commands_from names waves place) ≡ sent_after start (commands_from names waves 0)
  pub room : length now.entries ≡ length start.entries + 2 * place
  pub count : length sent ≡ place

-- one more is sent out
pub sent_before_next : (start now next : History) (desk : ℕ) (names : List (List ℕ)) (waves : List (Vec OpenOrder Global)) (sent : List WaveHolds)
    (place : ℕ) (name : List ℕ) (wave : Vec OpenOrder Global) (holds : WaveHolds) → IsWaveAt names waves place name wave
    → next ≡ asked_after now desk (sending_of name (map order_of wave.items))
    → sent_after now (sending_of name (map order_of wave.items)) ≡ holds ∷ [] → AreSentBefore start now desk names waves sent place
    → AreSentBefore start next desk names waves (sent ++ holds ∷ []) (place + 1)
sent_before_next start now next desk names waves sent place name wave holds is asked told before =
    let orders = map order_of wave.items in
    let rest = commands_from names waves (place + 1) in
    let left = commands_at names waves place name wave is in
    subst (λ (h : History). AreSentBefore start h desk names waves (sent ++ holds ∷ []) (place + 1)) (sym asked) (record {
      history = ap (asked_after now desk) (sym left) ∙ before.history;
      done = done_more now desk name orders rest (subst (AreDone now.opening (state_after now)) left before.done);
      out = append_assoc sent (holds ∷ []) (sent_after (asked_after now desk (sending_of name orders)) rest)
          ∙ (ap (λ (l : List WaveHolds). sent ++ l) (sym (sent_more now desk name orders rest holds told))
          ∙ (ap (λ (l : List Command). sent ++ sent_after now l) (sym left) ∙ before.out));
      room = omega (arith, two_more now desk name orders, before.room);
      count = omega (arith, length-append sent (holds ∷ []), before.count);
    })

-- before any is sent out
pub none_sent : (start : History) (desk : ℕ) (names : List (List ℕ)) (waves : List (Vec OpenOrder Global))
    → AreDone start.opening (state_after start) (sendings_of names (orders_of (waves_kept waves))) → AreSentBefore start start desk names waves [] 0
none_sent start desk names waves done = record {
  history = refl;
  done = done;
  out = refl;
  room = omega arith;
  count = refl;
}

-- nothing is left behind the last wave
pub none_left : (names : List (List ℕ)) (waves : List (Vec OpenOrder Global)) (place : ℕ) → length names ≡ length waves → length waves ≤ place
    → commands_from names waves place ≡ []
none_left names waves place count past =
    ap (λ (ns : List (List ℕ)). sendings_of ns (orders_of (waves_kept (drop place waves)))) (drop_all place names (omega arith))

-- all were sent out
pub all_sent : (start now : History) (desk : ℕ) (names : List (List ℕ)) (waves : List (Vec OpenOrder Global)) (sent : List WaveHolds) (place : ℕ)
    → length names ≡ length waves → length waves ≤ place → AreSentBefore start now desk names waves sent place
    → (now ≡ asked_after start desk (commands_from names waves 0)) × (sent ≡ sent_after start (commands_from names waves 0))
all_sent start now desk names waves sent place count past before =
    let none = none_left names waves place count past in (
      ap (asked_after now desk) (sym none) ∙ before.history,
      sym (append-nil sent) ∙ (ap (λ (l : List Command). sent ++ sent_after now l) (sym none) ∙ before.out),
    )
