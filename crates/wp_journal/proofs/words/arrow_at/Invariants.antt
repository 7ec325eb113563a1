use Rattle.std.proofs.Common.{◌≡◌, ◌+◌, drop}
use Rattle.std.specs.List.{position_or_len}
use Rattle.wp_journal.specs.Splits.{is_arrow, words_now}
use Rattle.wp_journal.proofs.words.arrow_at.Given as goal

-- the arrow isn't among the words so far
abbrev pub invariant-loop-at : goal.invariant-loop-at
invariant-loop-at l = position_or_len is_arrow (words_now l.words) ≡ l.at + position_or_len is_arrow (words_now (drop l.at l.words))
