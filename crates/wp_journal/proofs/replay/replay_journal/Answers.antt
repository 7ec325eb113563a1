use Rattle.std.proofs.Common.{subst}
use Rattle.wp_journal.specs.Auditing.{Restores}
use Rattle.wp_journal.proofs.OneFinding.{restores_it, restores_one}
use Rattle.wp_journal.proofs.replay.replay_journal.Goals as goal

pub returns-clause-exact : goal.returns-clause-exact
returns-clause-exact c = λ found shows.
    restores_it c.args.opening.now c.args.text.now.items c.replay_text.result found
    (subst (λ t. Restores c.args.opening.now t c.replay_text.result) c.as_slice.ensures.value c.replay_text.ensures) shows

pub returns-clause-history : goal.returns-clause-history
returns-clause-history c = λ history is.
    restores_one c.args.opening.now c.args.text.now.items c.replay_text.result history
    (subst (λ t. Restores c.args.opening.now t c.replay_text.result) c.as_slice.ensures.value c.replay_text.ensures) is
