use Rattle.std.proofs.Common.{◌≡◌, Some, take}
use Rattle.wp_cert.specs.Text.{each_of, mark_said}
use Rattle.wp_cert.proofs.text.node.read_marks.Given as goal

abbrev pub invariant-loop-code : goal.invariant-loop-code
invariant-loop-code l = (l.code-items ≡ l.fn.text) × (each_of mark_said (take l.code-index l.code-items) ≡ Some l.marks)
