use Rattle.std.proofs.Common.{sym, []}
use Rattle.std.proofs.lemmas.Option.{get_or_from_slice_get}
use Rattle.wp_sheets.proofs.stock_lines.article_at.Goals as goal

pub returns : goal.returns
returns c = sym (get_or_from_slice_get c.args.stock.now.articles c.args.article c.article.result [] c.article.ensures)
