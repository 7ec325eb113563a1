use Rattle.std.proofs.Common.{◌≡◌, ◌<◌, ℕ, List, arith, subst, ⊎_elim, length, Contains}
use Rattle.wp_lengths.proofs.ShareSums.{one_order}
use Rattle.wp_lengths.proofs.Unions.{all_from_contained}
use Rattle.wp_lengths.specs.Lengths.{IsLengthOf}
use Rattle.wp_pairs.proofs.Members.{contains_none}
use Rattle.wp_lp.proofs.wide.alone.Goals as goal

pub batch_length-requires : goal.batch_length-requires
batch_length-requires c = all_from_contained (λ (o : ℕ). o < length c.args.given.now.wave.now.orders) c.with.result
    (λ p has. ⊎_elim (λ l. absurd (contains_none p (subst (λ (xs : List ℕ). Contains xs p) c.empty.ensures l)))
    (λ (e : p ≡ c.args.order). omega (arith, e, c.requires)) ((c.with.ensures.orders p).0 has))

pub returns-clause-is : goal.returns-clause-is
returns-clause-is c =
    let one = one_order c.empty.result c.with.result c.args.order c.empty.ensures c.with.ensures.valid.ascending c.with.ensures.orders in
    subst (λ (xs : List ℕ). IsLengthOf c.args.given.now.wave.now xs c.batch_length.result) one c.batch_length.ensures.is
