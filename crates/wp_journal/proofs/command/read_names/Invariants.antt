use Rattle.std.proofs.Common.{◌≡◌, drop, vec_len}
use Rattle.wp_journal.specs.Commands.{names_in}
use Rattle.wp_journal.specs.Splits.{words_now}
use Rattle.wp_journal.proofs.NameLists.{names_then}
use Rattle.wp_journal.proofs.command.read_names.Given as goal

-- the names so far go before those of the words that are left
abbrev pub invariant-loop-word : goal.invariant-loop-word
invariant-loop-word l = (names_in (words_now l.words) ≡ names_then l.names.items (names_in (words_now (drop l.word-index l.words))))
    × (vec_len l.names ≡ l.word-index)
