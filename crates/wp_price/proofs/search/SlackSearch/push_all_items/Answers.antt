use Rattle.std.proofs.Common.{List, ℕ, subst, sym}
use Rattle.wp_price.specs.Searches.{AreSharesOf}
use Rattle.wp_price.proofs.search.SlackSearch.push_all_items.Goals as goal

pub push_items-requires-clause-all : goal.push_items-requires-clause-all
push_items-requires-clause-all g c =
    subst (λ (shares : List (List ℕ)). AreSharesOf c.args.self.now _ shares) (sym c.as_slice-2.ensures.value)
    (subst (λ (place : List ℕ). AreSharesOf c.args.self.now place c.in_ok-shares.shares.items) c.root.ensures.batch c.in_ok-shares.ensures.all)
