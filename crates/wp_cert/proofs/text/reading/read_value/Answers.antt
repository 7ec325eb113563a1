use Rattle.std.proofs.Common.{true≢false, sym, ◌∙◌}
use Rattle.wp_cert.proofs.TextJson.{value_read-none, value_read-text}
use Rattle.wp_cert.proofs.text.reading.read_value.Goals as goal

pub returns-in-Ok-clause-value : goal.returns-in-Ok-clause-value
returns-in-Ok-clause-value c =
    let said = c.in-Ok.ensures.ok in
    value_read-text _ _ (rw c.deref.ensures.value at said)

pub returns-else-is_memory-clause-refusal : goal.returns-else-is_memory-clause-refusal
returns-else-is_memory-clause-refusal c other =
    let none = c.in-Err.ensures.err (λ memory. true≢false (sym (c.is_memory.ensures.1 memory) ∙ c.if-is_memory.false)) in
    value_read-none _ (rw c.deref.ensures.value at none)
