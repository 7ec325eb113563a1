use Rattle.std.proofs.Common.{◌∙◌, sym, ap}
use Rattle.wp_model.specs.Step.{allot, is_live, refuse}
use Rattle.wp_model.specs.declared.reply.Reply.TheVariants as reply
use Rattle.wp_model.specs.declared.reply.WaveState.{WaveState}
use Rattle.wp_model.specs.declared.reply.WaveState.TheVariants as wave
use Rattle.wp_floor.specs.Floor.{state_at, state_in, wave_of}
use Rattle.wp_floor.specs.declared.waves.Stage.{Stage}
use Rattle.wp_floor.proofs.WaveStock.{allot_wrong, allotted, refused_at, short_at}
use Rattle.wp_floor.proofs.allotting.allot_wave.Goals as goal

pub returns-in-Ok-clause-answered : goal.returns-in-Ok-clause-answered
returns-in-Ok-clause-answered c waves at =
    allotted c.args.opening.now c.args.book.now c.hold_stock.new.book waves c.args.number c.args.wave.now c.in-Submitted.needs c.in-Ok.sheet at
    (record { stage = sym c.in-Submitted.ensures.value; held = c.in-Ok.ensures.held; orders = c.in-Ok.ensures.orders })

pub returns-in-Err-clause-answered : goal.returns-in-Err-clause-answered
returns-in-Err-clause-answered c waves at =
    short_at c.args.opening.now c.args.book.now c.hold_stock.new.book waves c.args.number c.args.wave.now c.in-Submitted.needs _ wave.Allotted
    reply.Allotted _ _ at (sym c.in-Submitted.ensures.value) c.in-Err.ensures.back
    (ap (λ (s : Stage). allot c.args.opening.now (state_at c.args.book.now waves) c.args.number (wave_of c.args.wave.now) (state_in s))
    (sym c.in-Submitted.ensures.value)) c.in-Err.ensures.short

pub returns-in_default : goal.returns-in_default
returns-in_default c =
    let same = c.replace.ensures.value in
    record {
      live = ap (λ (s : Stage). is_live (state_in s)) same;
      answered = λ waves at.
          let state = state_at c.args.book.now waves in
          refused_at c.args.opening.now c.args.book.now waves c.args.number c.args.wave.now c.replace.result _ _ at same
          (ap (λ (s : Stage). allot c.args.opening.now state c.args.number (wave_of c.args.wave.now) (state_in s)) (sym same)
          ∙ (allot_wrong c.args.opening.now state c.args.number (wave_of c.args.wave.now) c.replace.result c.in_default.not-Submitted
          ∙ ap (λ (s : WaveState). refuse state (reply.WrongState s)) (sym c.state-state.ensures)));
    }
