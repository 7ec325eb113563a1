use Rattle.std.proofs.Common.{◌≡◌, string_bytes}
use Rattle.std.specs.List.{list_all}
use Rattle.serde_json.specs.View.{members_view}
use Rattle.wp_layout.specs.LayoutFile.{is_key, names_of}
use Rattle.wp_layout.proofs.reading.are_keys.Given as goal

abbrev pub invariant-loop-name : goal.invariant-loop-name
invariant-loop-name l =
    (goal.iterator-loop-name).can_next l.name-iterator
    × (goal.iterator-loop-name).is_finite l.name-iterator
    × (list_all (is_key l.fn.keys) (names_of (members_view l.fn.members.entries)) ≡ list_all (λ name. is_key l.fn.keys (string_bytes name)) l.name-iterator)
