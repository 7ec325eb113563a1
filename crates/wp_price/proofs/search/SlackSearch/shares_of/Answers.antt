use Rattle.std.proofs.Common.{arith, inl, inr, ⊎_elim}
use Rattle.wp_pairs.proofs.KeptPairs.{in_or_not}
use Rattle.wp_price.proofs.Options.{ok_so}
use Rattle.wp_price.proofs.search.SlackSearch.shares_of.Goals as goal

pub returns-clause-all : goal.returns-clause-all
returns-clause-all g c = ok_so c.deal.result _ _ (λ shares dealt order known. ⊎_elim
    (λ has. inl (dealt order (omega (arith, known, c.orders.ensures.value)) has))
    (λ none. inr (c.first_items-firsts.ensures order known none)) (in_or_not c.first_items-firsts.result order)) c.deal.ensures.dealt
