use Rattle.std.proofs.Common.{◌≡◌, Err, List, ℕ, refl, subst, sym}
use Rattle.wp_journal.proofs.Replayed.{lines_lead_on}
use Rattle.wp_journal.specs.Journals.{IsMisanswered, IsNotNext}
use Rattle.wp_journal.specs.Replays.{Replays}
use Rattle.wp_journal.specs.declared.verdict.ReplayFault.{ReplayFault}
use Rattle.wp_journal.specs.declared.verdict.ReplayFault.TheVariants as fault
use Rattle.wp_model.specs.History.{History}
use Rattle.wp_model.specs.declared.reply.Reply.{Reply}
use Rattle.wp_top.proofs.store.replay_record.Goals as goal
use Rattle.wp_top.specs.Stops.{StopsFor, of_records}
use Rattle.wp_top.specs.declared.complaint.StoreFinding.TheVariants as store_finding

-- what the two faults of a replay say of its line
not_next : (U : Type 0) (before after : History) (body : List ℕ) (why : ReplayFault) → why ≡ fault.NotNext → Replays {U = U} before body after (Err why)
    → IsNotNext before body
not_next U before after body why is replays = (subst (λ (w : ReplayFault). Replays {U = U} before body after (Err w)) is replays).1

wrong_reply : (U : Type 0) (before after : History) (body : List ℕ) (why : ReplayFault) (number : ℕ) (printed right : Reply)
    → why ≡ fault.WrongReply number printed right → Replays {U = U} before body after (Err why) → IsMisanswered before body number printed right
wrong_reply U before after body why number printed right is replays =
    subst (λ (w : ReplayFault). Replays {U = U} before body after (Err w)) is replays

pub returns-in-Ok-clause-leads : goal.returns-in-Ok-clause-leads
returns-in-Ok-clause-leads c = λ lines others begins.
    let before = c.args.machine.now in
    let (desk, command, is, grown) = c.in-Ok.ensures.replays in
    lines_lead_on before.opening lines before c.replay_line.new.machine c.args.body.now others begins desk command is grown

pub returns-in-Err-NotNext-clause-stops : goal.returns-in-Err-NotNext-clause-stops
returns-in-Err-NotNext-clause-stops c = λ lines others commands begins.
    let before = c.args.machine.now in
    subst (StopsFor (of_records before.opening lines commands)) (sym c.refused_store.ensures) (
      store_finding.Record c.count-place.result,
      refl,
      record {
        history = before;
        next = c.args.body.now;
        others = others;
        begins = begins;
        bad = not_next Unit before c.replay_line.new.machine c.args.body.now c.in-Err-NotNext.field-0 c.in-Err-NotNext.field-0-is
            c.in-Err-NotNext.ensures.replays;
        numbered = c.count-place.ensures.count;
      },
    )

pub returns-in-Err-WrongReply-clause-stops : goal.returns-in-Err-WrongReply-clause-stops
returns-in-Err-WrongReply-clause-stops c = λ lines others commands begins.
    let before = c.args.machine.now in
    let wrong = c.in-Err-WrongReply in
    let misanswered = wrong_reply Unit before c.replay_line.new.machine c.args.body.now wrong.field-0 wrong.number wrong.printed wrong.right wrong.field-0-is
    wrong.ensures.replays in
    subst (StopsFor (of_records before.opening lines commands)) (sym c.refused_store-in-Err-WrongReply.ensures) (
      store_finding.Entry wrong.number wrong.printed wrong.right,
      refl,
      record { history = before; next = c.args.body.now; others = others; begins = begins; misanswered = misanswered },
    )
