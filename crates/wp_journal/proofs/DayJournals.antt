-- The journal of a day is right.
use Rattle.std.proofs.Common.{refl, ℕ, List, ◌++◌, length}
use Rattle.std.specs.Prelude.{codes}
use Rattle.wp_journal.proofs.DayEntries.{day_entries}
use Rattle.wp_journal.proofs.JournalLines.{lines_of_journal}
use Rattle.wp_journal.specs.Days.{IsDay}
use Rattle.wp_journal.specs.Journals.{IsJournalOf, lines_of}
use Rattle.wp_model.specs.History.{History}
use Rattle.wp_model.specs.Journal.{journal, line}

-- the journal of a day is right, whatever text follows it
pub day_journal : (history : History) (more : List ℕ) → IsDay history
    → IsJournalOf history.opening (journal history.entries ++ more) (length history.entries)
day_journal history more day =
    let within = day_entries history day in
    record {
      history = history;
      last = line (codes "end journal");
      others = lines_of more;
      begins = record { starts = refl; legal = day.legal; within = within; lines = lines_of_journal history.entries more within };
      ends = refl;
      counted = refl;
    }
