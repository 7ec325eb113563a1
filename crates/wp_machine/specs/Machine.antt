-- What a machine is asked, and what its histories keep.
use Rattle.std.specs.Prelude.{List, [], ◌∷◌}
use Rattle.wp_model.specs.History.{History, answered}
use Rattle.wp_model.specs.Opening.{Opening}
use Rattle.wp_model.specs.declared.command.Command.{Command}
use Rattle.wp_model.specs.declared.entry.Entry.{Entry}
use Rattle.wp_machine.specs.declared.asking.Asking.{Asking}

-- a command that was prepared for an opening
pub record Asked : Type 0 where
  pub opening : Opening
  pub command : Command

-- the history in which desks ask for this, one after the other, after another history
abbrev pub asked_all : History → List Asking → History
asked_all history [] = history
asked_all history (asking ∷ more) = asked_all (answered history asking.desk asking.command) more

-- what was asked for by the desk of an entry
abbrev pub asking_of : Entry → Asking
asking_of entry = record { desk = entry.desk; command = entry.command }
