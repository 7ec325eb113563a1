-- What a node has of its own breaks a rule.
use Rattle.std.proofs.Common.{◌≡◌, ℕ, ◌+◌, ◌*◌, ◌≤◌, List, arith, subst, sym, ⊎_elim}
use Rattle.wp_pairs.specs.Permitted.{Pairing}
use Rattle.wp_lengths.specs.Duals.{duals_of}
use Rattle.wp_lengths.specs.Lengths.{IsLengthOf}
use Rattle.wp_lengths.proofs.FewerOrders.{same_length}
use Rattle.wp_cuts.specs.Prices.{ArePlain, taken_off}
use Rattle.wp_cert.specs.declared.tree.CertWhy.{CertWhy}
use Rattle.wp_cert.specs.declared.tree.CertWhy.TheVariants as why
use Rattle.wp_cert.specs.declared.tree.Own.{Own}
use Rattle.wp_cert.specs.MarkTests.{IsBrokenTest, PaysItsLength}
use Rattle.wp_cert.specs.Refusals.{IsBrokenOwn, decided, marks, not_tight}
use Rattle.wp_cert.specs.Terms.{Terms, net_of, prices_of}
use Rattle.wp_cert.specs.Trees.{ArePricesAllowed, HasAll, IsDecided}

-- prices where all is decided
pub decided_prices : {terms : Terms} {pairing : Pairing} {above : ℕ} {own : Own} → HasAll terms pairing own → IsDecided pairing
    → (ArePlain (prices_of own) → ⊥) → IsBrokenOwn terms pairing above own why.DecidedPrices
decided_prices all is priced = decided all is priced

-- marks that are refused, or a batch that isn't tight
pub broken_test : (terms : Terms) (pairing : Pairing) (above : ℕ) (own : Own) (fault : CertWhy) → HasAll terms pairing own → ArePricesAllowed pairing own
    → above ≤ net_of terms own → IsBrokenTest terms pairing own fault → IsBrokenOwn terms pairing above own fault
broken_test terms pairing above own fault all allowed raised broken = ⊎_elim
    (λ refused. marks all allowed raised refused)
    (λ slack. subst (λ (w : CertWhy). IsBrokenOwn terms pairing above own w) (sym slack.1.2) (not_tight all allowed raised slack.0 slack.1.1))
    broken

-- a batch pays just its length
pub pays_exactly : (terms : Terms) (own : Own) (batch : List ℕ) (total : ℕ) → IsLengthOf terms.wave batch total
    → duals_of own.duals batch + own.count ≡ 60 * total + taken_off terms.cuts own.prices batch → PaysItsLength terms own batch
pays_exactly terms own batch total long equal = (total, long, equal)

-- where it does, this is so for the length that it has
pub pays_only : (terms : Terms) (own : Own) (batch : List ℕ) (total : ℕ) → IsLengthOf terms.wave batch total → PaysItsLength terms own batch
    → duals_of own.duals batch + own.count ≡ 60 * total + taken_off terms.cuts own.prices batch
pays_only terms own batch total long pays = omega (arith, pays.2, same_length terms.wave batch total pays.0 long pays.1)
