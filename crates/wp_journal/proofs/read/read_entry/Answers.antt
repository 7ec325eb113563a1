use Rattle.wp_journal.proofs.Candidates.{one_reading}
use Rattle.wp_journal.proofs.read.read_entry.Goals as goal

pub returns-clause-exact : goal.returns-clause-exact
returns-clause-exact c = λ entry is.
    one_reading c.args.line.now c.entry_of_line.result c.entry_of_line.ensures.only c.entry_of_line.ensures.refusal entry is
