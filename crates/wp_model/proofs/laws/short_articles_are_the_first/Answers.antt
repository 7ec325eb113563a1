use Rattle.std.proofs.Common.{length, arith}
use Rattle.std.proofs.lemmas.Option.{MatchOption-at_some}
use Rattle.wp_model.proofs.Demand.{covered_from_none, none_from_covered, short_article_is}
use Rattle.wp_model.specs.Demand.{IsFirstShort}
use Rattle.wp_model.specs.Demand.{free_units, wave_demand}
use Rattle.wp_model.proofs.laws.short_articles_are_the_first.Goals as goal

pub returns-clause-covered : goal.returns-clause-covered
returns-clause-covered c opening rows orders except is =
    (covered_from_none opening rows orders except is, none_from_covered opening rows orders except)

pub returns-clause-short : goal.returns-clause-short
returns-clause-short c opening rows orders except article found =
    let is : IsFirstShort (wave_demand opening orders) (λ article. free_units rows article except) 0 (length opening.stock.articles) article
    = MatchOption-at_some _ _ article found (short_article_is opening rows orders except) in
    (is.within, is.short, λ before. is.before before (omega arith))
