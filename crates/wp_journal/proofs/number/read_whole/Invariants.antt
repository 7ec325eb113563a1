use Rattle.std.proofs.Common.{◌≡◌, drop}
use Rattle.wp_journal.specs.Numbers.{whole_after}
use Rattle.wp_journal.proofs.number.read_whole.Given as goal

-- the digits that are left make of the number so far what all digits make
abbrev pub invariant-loop-byte : goal.invariant-loop-byte
invariant-loop-byte l = whole_after 0 l.word ≡ whole_after l.number (drop l.byte-index l.word)
