-- The histories of a day, within the bounds of a journal.
use Rattle.std.specs.Prelude.{◌≤◌, IsTrue, length}
use Rattle.std.specs.List.{All}
use Rattle.wp_model.specs.History.{History, IsLegal}
use Rattle.wp_model.specs.Name.{is_name}
use Rattle.wp_model.specs.Opening.{IsOpening}
use Rattle.wp_model.specs.Plain.{is_plain}
use Rattle.wp_model.specs.Limits.{greatest_desk, most_entries}
use Rattle.wp_model.specs.Warehouse.{IsUpTo}
use Rattle.wp_model.specs.declared.entry.Entry.{Entry}
use Rattle.wp_model.specs.Plain.{has_names}

-- an entry answers what a desk may ask: the desk is one that may be, the command is plain, and what it names are names
pub record IsAsked (entry : Entry) : Type 0 where
  pub desk : IsUpTo greatest_desk entry.desk
  pub plain : IsTrue (is_plain entry.command)
  pub names : IsTrue (has_names entry.command)

-- the legal history of a day: its opening is one as it is read, whose articles have names, and it has no more
-- entries than a journal may have, each of which answers what a desk may ask
pub record IsDay (history : History) : Type 0 where
  pub opening : IsOpening history.opening
  pub articles : All (λ article. IsTrue (is_name article)) history.opening.stock.articles
  pub legal : IsLegal history
  pub few : length history.entries ≤ most_entries
  pub asked : All IsAsked history.entries
