use Rattle.std.proofs.Common.{◌≡◌, ◌∙◌, sym, ap, subst, true, false, if◌then◌else◌}
use Rattle.wp_model.specs.Step.{Stepped, cancel, give_up, is_live, refuse}
use Rattle.wp_model.specs.declared.reply.Reply.TheVariants as reply
use Rattle.wp_model.specs.declared.reply.WaveState.{WaveState}
use Rattle.wp_floor.specs.Floor.{HasAnswered, state_at, state_in, wave_of}
use Rattle.wp_floor.proofs.BookStates.{refused}
use Rattle.wp_floor.proofs.cancelling.cancel_wave.Goals as goal

pub returns-then-wave-clause-answered : goal.returns-then-wave-clause-answered
returns-then-wave-clause-answered c opening waves at =
    let state = state_at c.args.book.now waves in
    refused opening c.args.book.now waves c.args.number c.args.wave.now _ reply.Picking at
    (ap (cancel state c.args.number (wave_of c.args.wave.now)) (sym c.state.ensures ∙ c.in-Released.is)
    ∙ ap (λ b. if b then refuse state reply.Picking else give_up state c.args.number (wave_of c.args.wave.now)) c.if-wave.true)

pub returns-in-Cancelled-clause-answered : goal.returns-in-Cancelled-clause-answered
returns-in-Cancelled-clause-answered c opening waves at =
    refused opening c.args.book.now waves c.args.number c.args.wave.now _ _ at
    (ap (cancel (state_at c.args.book.now waves) c.args.number (wave_of c.args.wave.now)) (sym c.state.ensures ∙ c.in-Cancelled.is))

pub returns-in-Done-clause-answered : goal.returns-in-Done-clause-answered
returns-in-Done-clause-answered c opening waves at =
    refused opening c.args.book.now waves c.args.number c.args.wave.now _ _ at
    (ap (cancel (state_at c.args.book.now waves) c.args.number (wave_of c.args.wave.now)) (sym c.state.ensures ∙ c.in-Done.is))

pub returns-in-Submitted-clause-same : goal.returns-in-Submitted-clause-same
returns-in-Submitted-clause-same c not_freed = let both : true ≡ false = sym c.give_up.ensures.cancelled.0 ∙ not_freed in absurd (cc)

pub returns-in-Submitted-clause-cancelled : goal.returns-in-Submitted-clause-cancelled
returns-in-Submitted-clause-cancelled c freed = (ap is_live (sym c.state.ensures ∙ c.in-Submitted.is), c.give_up.ensures.cancelled.1)

pub returns-in-Allotted-clause-same : goal.returns-in-Allotted-clause-same
returns-in-Allotted-clause-same c not_freed = let both : true ≡ false = sym c.give_up-in-Allotted.ensures.cancelled.0 ∙ not_freed in absurd (cc)

pub returns-in-Allotted-clause-cancelled : goal.returns-in-Allotted-clause-cancelled
returns-in-Allotted-clause-cancelled c freed = (ap is_live (sym c.state.ensures ∙ c.in-Allotted.is), c.give_up-in-Allotted.ensures.cancelled.1)

pub returns-else-wave-clause-same : goal.returns-else-wave-clause-same
returns-else-wave-clause-same c not_freed = let both : true ≡ false = sym c.give_up-else-wave.ensures.cancelled.0 ∙ not_freed in absurd (cc)

pub returns-else-wave-clause-cancelled : goal.returns-else-wave-clause-cancelled
returns-else-wave-clause-cancelled c freed = (ap is_live (sym c.state.ensures ∙ c.in-Released.is), c.give_up-else-wave.ensures.cancelled.1)

pub returns-in-Submitted-clause-answered : goal.returns-in-Submitted-clause-answered
returns-in-Submitted-clause-answered c opening waves at =
    subst (λ (s : WaveState). HasAnswered opening (cancel (state_at c.args.book.now waves) c.args.number (wave_of c.args.wave.now) s) c.args.book.now
    c.give_up.new.book waves c.args.number c.args.wave.now c.give_up.new.wave c.give_up.result) (sym (sym c.state.ensures ∙ c.in-Submitted.is))
    (c.give_up.ensures.answered opening waves at)

pub returns-in-Allotted-clause-answered : goal.returns-in-Allotted-clause-answered
returns-in-Allotted-clause-answered c opening waves at =
    subst (λ (s : WaveState). HasAnswered opening (cancel (state_at c.args.book.now waves) c.args.number (wave_of c.args.wave.now) s) c.args.book.now
    c.give_up-in-Allotted.new.book waves c.args.number c.args.wave.now c.give_up-in-Allotted.new.wave c.give_up-in-Allotted.result)
    (sym (sym c.state.ensures ∙ c.in-Allotted.is)) (c.give_up-in-Allotted.ensures.answered opening waves at)

pub returns-else-wave-clause-answered : goal.returns-else-wave-clause-answered
returns-else-wave-clause-answered c opening waves at =
    let state = state_at c.args.book.now waves in
    let w = wave_of c.args.wave.now in
    let is : cancel state c.args.number w (state_in c.args.wave.now.stage) ≡ give_up state c.args.number w =
    ap (cancel state c.args.number w) (sym c.state.ensures ∙ c.in-Released.is)
    ∙ ap (λ b. if b then refuse state reply.Picking else give_up state c.args.number w) c.if-wave.false in
    subst (λ (s : Stepped). HasAnswered opening s c.args.book.now c.give_up-else-wave.new.book waves c.args.number c.args.wave.now
    c.give_up-else-wave.new.wave c.give_up-else-wave.result) (sym is) (c.give_up-else-wave.ensures.answered opening waves at)
