use Rattle.std.proofs.Common.{◌≡◌, ◌∙◌, ap, ℕ, List, [], ◌∷◌, ◌++◌, append_assoc}
use Rattle.std.specs.Fmt.{decimal}
use Rattle.wp_model.specs.Journal.{location_text}
use Rattle.wp_sheets.specs.StockLines.{article_line}
use Rattle.wp_sheets.proofs.Written.{told}
use Rattle.wp_sheets.proofs.stock_lines.append_row.Goals as goal

-- five words after a text, the same text between each two, and an end
words : (old new between a b c d e last : List ℕ) → new ≡ old ++ (a ++ (between ++ (b ++ (between ++ (c ++ (between ++ (d ++ (between ++ (e ++ last)))))))))
    → new ≡ old ++ ((a ++ (between ++ b) ++ (between ++ c) ++ (between ++ d) ++ (between ++ e)) ++ last)
words old new between a b c d e last is = is ∙ simp append_assoc

pub returns : goal.returns
returns c =
    let row = c.args.row.now in
    let old = c.args.text.now.items in
    told c.writeln.result _ c.or.result c.or.ensures c.writeln.ensures.bytes (λ is.
    words old c.writeln.new.self.items (32 ∷ []) (location_text row.location) c.article_at-article.result
    (decimal row.on_hand) (decimal row.free) (decimal row.held) (10 ∷ []) is
    ∙ ap (λ (article : List ℕ). old ++ article_line article row) c.article_at-article.ensures)
