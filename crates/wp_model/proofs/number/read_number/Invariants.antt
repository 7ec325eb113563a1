use Rattle.std.proofs.Common.{◌≡◌, ◌<◌, ◌≤◌, ◌^◌, drop, length}
use Rattle.std.specs.List.{list_all}
use Rattle.std.specs.Char.{is_ascii_digit}
use Rattle.wp_model.specs.Number.{number_after}
use Rattle.wp_model.proofs.number.read_number.Given as goal

-- the digits so far are digits and write the number, which has no more digits than were read
abbrev pub invariant-loop-byte : goal.invariant-loop-byte
invariant-loop-byte l =
    (list_all is_ascii_digit l.text ≡ list_all is_ascii_digit (drop l.byte-index l.text))
    × (number_after 0 l.text ≡ number_after l.number (drop l.byte-index l.text))
    × (l.number < 10 ^ l.byte-index)
    × (0 < length l.text)
    × (length l.text ≤ l.most)
