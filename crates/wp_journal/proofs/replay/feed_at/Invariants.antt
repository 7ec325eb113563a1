use Rattle.std.proofs.Common.{◌≡◌, ◌+◌, drop}
use Rattle.std.specs.List.{position_or_len}
use Rattle.wp_journal.specs.Journals.{is_feed}
use Rattle.wp_journal.proofs.replay.feed_at.Given as goal

-- no line feed is among the bytes so far
abbrev pub invariant-loop-at : goal.invariant-loop-at
invariant-loop-at l = position_or_len is_feed l.text ≡ l.at + position_or_len is_feed (drop l.at l.text)
