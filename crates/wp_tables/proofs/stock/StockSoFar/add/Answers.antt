use Rattle.std.proofs.Common.{◌∙◌, ap, ap₂, subst, sym, map}
use Rattle.wp_model.specs.Opening.{Stock}
use Rattle.wp_model.proofs.NameEq.{joins, number_joined, number_of_name}
use Rattle.wp_model.proofs.ReadStock.{kept_by_line}
use Rattle.wp_tables.specs.Stock.{IsKeptStock}
use Rattle.wp_model.proofs.LocationOrder.{cmp_is}
use Rattle.wp_tables.proofs.ByLocation.{kept_by_location, put_by_location, rows_back}
use Rattle.wp_tables.proofs.Places.{places_joined}
use Rattle.wp_tables.proofs.stock.StockSoFar.add.Goals as goal

pub invariant_of-result : goal.invariant_of-result
invariant_of-result c =
    let may = rw (← c.self.view_is) at c.requires in
    let entries = rw c.self.invariant.0 at c.in_ok-insert.ensures.entries in
    let put = entries ∙ put_by_location _ cmp_is _ (map (λ e. e.1) c.self.inside.rows.entries) may.free in
    let rows = ap (map (λ e. e.1)) put ∙ rows_back _ in
    let names = c.in_ok-article.ensures.keys ∙ joins c.args.line.article c.self.inside.articles.keys in
    let place = c.in_ok-article.ensures.index ∙ number_of_name c.args.line.article c.self.inside.articles.keys in
    let number = place ∙ sym (number_joined c.args.line.article c.self.inside.articles.keys) in
    let made = ap₂ (λ r a. record { rows = r; articles = a }) (rw number at rows) names in
    let kept = c.self.invariant.1 in (
      kept_by_location _ _ put,
      subst (λ (s : Stock). IsKeptStock s c.count_at.new.counts.items) (sym made) (record {
        read = kept_by_line _ c.args.line kept.read may;
        counted = places_joined _ c.args.line c.self.inside.places.items c.count_at.new.counts.items c.in_ok-article.article kept.counted place
            c.in_ok-count_at.ensures.counts c.in_ok-count_at.ensures.length;
      }),
    )

pub returns-clause-made : goal.returns-clause-made
returns-clause-made c =
    let may = rw (← c.self.view_is) at c.requires in
    let entries = rw c.self.invariant.0 at c.in_ok-insert.ensures.entries in
    let put = entries ∙ put_by_location _ cmp_is _ (map (λ e. e.1) c.self.inside.rows.entries) may.free in
    let rows = ap (map (λ e. e.1)) put ∙ rows_back _ in
    let names = c.in_ok-article.ensures.keys ∙ joins c.args.line.article c.self.inside.articles.keys in
    let number = c.in_ok-article.ensures.index ∙ number_of_name c.args.line.article c.self.inside.articles.keys
    ∙ sym (number_joined c.args.line.article c.self.inside.articles.keys) in
    rw (← c.self.view_is) (ap₂ (λ r a. record { rows = r; articles = a }) (rw number at rows) names)
