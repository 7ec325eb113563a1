use Rattle.std.proofs.Common.{◌≡◌, ◌∙◌, ◌∷◌, [], sym, ap, subst, ℕ, length, map, List}
use Rattle.wp_machine.specs.Outcome.{outcome_of, released_in, tells_holds}
use Rattle.wp_machine.specs.declared.outcome.Outcome.{Outcome}
use Rattle.wp_model.specs.History.{History, answered, state_after}
use Rattle.wp_model.specs.Step.{step}
use Rattle.wp_model.specs.declared.command.Command.TheVariants as command
use Rattle.wp_sending.proofs.SentWaves.{sent_one, told_of_release}
use Rattle.wp_waves.specs.OpenOrders.{order_of}
use Rattle.wp_sending.proofs.sending.send_wave.Goals as goal

-- what a release of the name tells after a history
abbrev told_after : List ℕ → History → Outcome
told_after name h =
    outcome_of (length h.entries) (state_after h) (command.Release name) (step h.opening (state_after h) (command.Release name))

pub wave_of-requires : goal.wave_of-requires
wave_of-requires c =
    let h = c.args.machine.now in
    let name = c.args.name.now in
    let now : c.ask.new.self ≡ answered h c.args.desk (command.Submit name (map order_of c.args.orders.now)) =
    c.in_ok-ask.ensures.history ∙ ap (λ (os : List (List ℕ)). answered h c.args.desk (command.Submit name os)) c.in_ok-orders.ensures in
    ap tells_holds c.in_ok-answer.ensures.outcome
    ∙ (ap (λ (m : History). tells_holds (told_after name m)) now
    ∙ told_of_release h c.args.desk name (map order_of c.args.orders.now) c.requires.done)

pub returns-clause-sent : goal.returns-clause-sent
returns-clause-sent c =
    let h = c.args.machine.now in
    let name = c.args.name.now in
    let now : c.ask.new.self ≡ answered h c.args.desk (command.Submit name (map order_of c.args.orders.now)) =
    c.in_ok-ask.ensures.history ∙ ap (λ (os : List (List ℕ)). answered h c.args.desk (command.Submit name os)) c.in_ok-orders.ensures in
    let told : released_in (told_after name (answered h c.args.desk (command.Submit name (map order_of c.args.orders.now)))) ≡ c.wave_of.result ∷ [] =
    subst (λ (m : History). released_in (told_after name m) ≡ c.wave_of.result ∷ []) now
    (sym (ap released_in c.in_ok-answer.ensures.outcome) ∙ c.wave_of.ensures) in
    sent_one h c.args.desk name (map order_of c.args.orders.now) c.wave_of.result told
