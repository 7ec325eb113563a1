use Rattle.std.proofs.Common.{map, sym}
use Rattle.std.proofs.lemmas.List.{length-map}
use Rattle.std.proofs.lemmas.Result.{IfErr-weaker, IfOk-weaker, err_from_is_err_and}
use Rattle.wp_top.proofs.DayWriting.{day_fails, day_then, day_then_fails}
use Rattle.wp_top.proofs.written.write_entries.Goals as goal

pub returns-in_err-write_section-clause-fails : goal.returns-in_err-write_section-clause-fails
returns-in_err-write_section-clause-fails g c = λ layout start told.
    let p = err_from_is_err_and c.from_residual.result c.from_residual.ensures.1 in
    rw (p.1, p.2)
    (day_fails layout c.args.day.now.terms.now start c.args.day.now.run.now c.args.day.now.crew.now
    (map (λ entry. entry.now) c.args.entries.now) _ c.args.waiting.now.items _ _ _ told c.requires.dealt
    c.requires.all (sym (length-map c.args.entries.now _)) c.requires.none c.in_err-write_section.ensures.fails)

pub returns-clause-writes : goal.returns-clause-writes
returns-clause-writes g c = λ layout start told. IfOk-weaker c.write_sheets.result _ _
    (λ done rest. day_then layout c.args.day.now.terms.now start c.args.day.now.run.now c.args.day.now.crew.now
    (map (λ entry. entry.now) c.args.entries.now) _ c.args.waiting.now.items _ _ _ _
    told c.requires.dealt c.requires.all (sym (length-map c.args.entries.now _)) c.requires.none c.in_ok-write_section.ensures.writes rest)
    c.write_sheets.ensures.writes

pub returns-clause-fails : goal.returns-clause-fails
returns-clause-fails g c = λ layout start told. IfErr-weaker c.write_sheets.result _ _
    (λ fault rest. day_then_fails layout c.args.day.now.terms.now start c.args.day.now.run.now c.args.day.now.crew.now
    (map (λ entry. entry.now) c.args.entries.now) _
    c.args.waiting.now.items _ _ _ _ _ told c.requires.dealt c.requires.all
    (sym (length-map c.args.entries.now _)) c.requires.none c.in_ok-write_section.ensures.writes rest)
    c.write_sheets.ensures.fails
