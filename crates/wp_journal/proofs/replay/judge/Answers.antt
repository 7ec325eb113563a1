use Rattle.std.proofs.Common.{◌∙◌, ap, sym}
use Rattle.wp_model.specs.History.{History, next_entry}
use Rattle.wp_journal.proofs.Candidates.{is_line}
use Rattle.wp_journal.proofs.replay.judge.Goals as goal

pub returns-then-is_right-clause-replays : goal.returns-then-is_right-clause-replays
returns-then-is_right-clause-replays c =
    let before = c.args.machine.now in
    let entry = next_entry before c.args.entry.desk c.args.entry.command in
    let entries = ap (λ (h : History). h.entries) c.in_ok-right.ensures.history in (
      c.args.entry.desk,
      c.args.entry.command,
      is_line c.args.line.now entry (sym (c.in_ok-is_right.ensures before.entries entry entries) ∙ c.if-is_right.true),
      c.in_ok-right.ensures.history,
    )
