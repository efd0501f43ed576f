use Rattle.calls_directories.proofs.GuardLists.{entries_in_turn, entries_of_image, entries_outside}
use Rattle.pe_c.proofs.Cited.{give_lists, directory_number}
use Rattle.pe_c.proofs.laws.directories.walks_give_the_guard_entries.Goals as goal
use Rattle.calls_directories.specs.GuardTables.{StepsGuardEntries}

pub returns : goal.returns
returns c = record {
  of_image = λ table b image sections walk config left items is. entries_of_image table b image sections walk config left items is.started is.config is.read;
  entries = entries_in_turn;
  outside = entries_outside;
  lists = λ b. give_lists directory_number (StepsGuardEntries b);
}
