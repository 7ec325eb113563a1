use Rattle.std.proofs.Common.{◌≡◌, map, string_bytes, take}
use Rattle.wp_cert.specs.TextData.{mark_code}
use Rattle.wp_cert.proofs.text.to_json.marks_json.Given as goal

abbrev pub invariant-loop-place : goal.invariant-loop-place
invariant-loop-place l = string_bytes l.text ≡ map mark_code (take l.place l.fn.marks)
