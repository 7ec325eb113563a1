use Rattle.std.proofs.Common.{◌∙◌, ap, sym, length, ◌∷◌, List, ℕ}
use Rattle.std.specs.Prelude.{codes}
use Rattle.wp_model.specs.Journal.{line}
use Rattle.wp_journal.specs.Auditing.{after_line, first_line, is_head}
use Rattle.wp_journal.specs.Journals.{lines_of}
use Rattle.wp_journal.proofs.Findings.{head_is, no_head_shows}
use Rattle.wp_journal.proofs.Lines.{first_of_lines, some_bytes}
use Rattle.wp_journal.proofs.replay.replay_text.Goals as goal

pub returns-then-is_head : goal.returns-then-is_head
returns-then-is_head c =
    let text = c.args.text.now in
    let some = some_bytes (length text) c.is_empty.result c.is_empty.ensures c.if-is_empty.false in
    let head = ap is_head (sym c.split_line.ensures.first) ∙ (sym c.is_head.ensures ∙ c.if-is_head.true) in
    c.replay_entries.ensures text
    (first_of_lines text some
    ∙ ap (λ (first : List ℕ). first ∷ lines_of (after_line text)) (head_is (first_line text) head)
    ∙ ap (λ (more : List ℕ). line (codes "journal") ∷ lines_of more) (sym c.split_line.ensures.after))

pub returns-else-is_head : goal.returns-else-is_head
returns-else-is_head c =
    let text = c.args.text.now in
    let some = some_bytes (length text) c.is_empty.result c.is_empty.ensures c.if-is_empty.false in
    let head = ap is_head (sym c.split_line.ensures.first) ∙ (sym c.is_head.ensures ∙ c.if-is_head.false) in
    no_head_shows c.args.opening.now text (first_line text) (lines_of (after_line text)) (first_of_lines text some) head
