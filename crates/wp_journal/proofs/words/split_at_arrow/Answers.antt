use Rattle.std.proofs.Common.{◌∙◌, ◌+◌, sym, ap, take, drop}
use Rattle.std.proofs.Math.Seq.{take-length}
use Rattle.std.proofs.lemmas.List.{drop-map, length-drop, take-map}
use Rattle.wp_journal.specs.Splits.{words_now}
use Rattle.wp_journal.proofs.words.split_at_arrow.Goals as goal

pub returns-then-at-words-clause-before : goal.returns-then-at-words-clause-before
returns-then-at-words-clause-before c =
    let words = c.args.words.now in
    sym (take-map (λ word. word.now) c.arrow_at-at.result words) ∙ ap (λ n. take n (words_now words)) c.arrow_at-at.ensures

pub returns-then-at-words-clause-after : goal.returns-then-at-words-clause-after
returns-then-at-words-clause-after c =
    let words = c.args.words.now in
    let at = c.arrow_at-at.result in
    let rest = drop (at + 1) words in
    ap words_now (ap (λ n. take n rest) (sym (length-drop (at + 1) words)) ∙ take-length rest)
    ∙ (sym (drop-map (λ word. word.now) (at + 1) words) ∙ ap (λ n. drop (n + 1) (words_now words)) c.arrow_at-at.ensures)
