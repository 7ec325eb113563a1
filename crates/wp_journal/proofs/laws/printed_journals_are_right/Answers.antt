use Rattle.wp_journal.proofs.DayEntries.{day_entries}
use Rattle.wp_journal.proofs.DayJournals.{day_journal}
use Rattle.wp_journal.proofs.laws.printed_journals_are_right.Goals as goal

pub returns-clause-entries : goal.returns-clause-entries
returns-clause-entries c = day_entries

pub returns-clause-journal : goal.returns-clause-journal
returns-clause-journal c = day_journal
