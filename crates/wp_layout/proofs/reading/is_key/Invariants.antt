use Rattle.std.proofs.Common.{◌≡◌, false, take, bytes_eq}
use Rattle.std.specs.List.{list_any}
use Rattle.wp_layout.specs.Keys.{key_text}
use Rattle.wp_layout.proofs.reading.is_key.Given as goal

abbrev pub invariant-loop-key : goal.invariant-loop-key
invariant-loop-key l = list_any (λ key. bytes_eq l.fn.name (key_text key)) (take l.key-index l.fn.keys) ≡ false
