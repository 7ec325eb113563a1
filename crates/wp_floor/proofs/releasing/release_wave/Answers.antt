use Rattle.std.proofs.Common.{◌∙◌, refl, sym, ap, subst}
use Rattle.wp_model.specs.Step.{is_live, refuse, release}
use Rattle.wp_model.specs.declared.reply.Reply.TheVariants as reply
use Rattle.wp_model.specs.declared.reply.WaveState.{WaveState}
use Rattle.wp_model.specs.declared.reply.WaveState.TheVariants as wave
use Rattle.wp_floor.specs.Floor.{state_at, state_in, wave_of}
use Rattle.wp_floor.specs.ReleasedWaves.{HasReleased}
use Rattle.wp_floor.specs.declared.waves.Stage.{Stage}
use Rattle.wp_floor.proofs.WaveStock.{refused_at, release_wrong, short_at, submitted_out}
use Rattle.wp_floor.proofs.releasing.release_wave.Goals as goal

pub returns-in-Ok-clause-out : goal.returns-in-Ok-clause-out
returns-in-Ok-clause-out c waves at =
    subst (λ (s : Stage). HasReleased c.args.opening.now c.args.book.now c.hold_stock.new.book waves c.args.number c.args.wave.now
    (record c.args.wave.now { stage = s }) c.in-Ok.sheet) (sym c.replace.ensures.after)
    (submitted_out c.args.opening.now c.args.book.now c.hold_stock.new.book waves c.args.number c.args.wave.now c.in-Submitted.needs c.in-Ok.sheet at
    (record { stage = sym c.in-Submitted.ensures.value; held = c.in-Ok.ensures.held; orders = c.in-Ok.ensures.orders }))

pub returns-in-Err-clause-refused : goal.returns-in-Err-clause-refused
returns-in-Err-clause-refused c waves at =
    short_at c.args.opening.now c.args.book.now c.hold_stock.new.book waves c.args.number c.args.wave.now c.in-Submitted.needs _ wave.Released
    reply.Released _ _ at (sym c.in-Submitted.ensures.value) c.in-Err.ensures.back
    (ap (λ (s : Stage). release c.args.opening.now (state_at c.args.book.now waves) c.args.number (wave_of c.args.wave.now) (state_in s))
    (sym c.in-Submitted.ensures.value)) c.in-Err.ensures.short

pub returns-in_default : goal.returns-in_default
returns-in_default c =
    let same = c.replace.ensures.value in
    record {
      live = ap (λ (s : Stage). is_live (state_in s)) same;
      out = tt;
      stays = refl;
      refused = λ waves at.
          let state = state_at c.args.book.now waves in
          refused_at c.args.opening.now c.args.book.now waves c.args.number c.args.wave.now c.replace.result _ _ at same
          (ap (λ (s : Stage). release c.args.opening.now state c.args.number (wave_of c.args.wave.now) (state_in s)) (sym same)
          ∙ (release_wrong c.args.opening.now state c.args.number (wave_of c.args.wave.now) c.replace.result c.in_default.not-Submitted
          c.in_default.not-Allotted
          ∙ ap (λ (s : WaveState). refuse state (reply.WrongState s)) (sym c.state-state.ensures)));
    }
