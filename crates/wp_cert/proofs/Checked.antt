-- The terms of a tree that is checked, its bound, and what breaks a rule before its nodes.
use Rattle.std.proofs.Common.{◌≡◌, ◌∙◌, ℕ, List, [], length, ap, ap₂, subst, sym}
use Rattle.std.specs.Prelude.{Option, Some, None}
use Rattle.wp_lengths.specs.Batchings.{no_pairs}
use Rattle.wp_lengths.specs.Duals.{IsSumOfShares}
use Rattle.wp_lengths.specs.Waves.{IsWave, WavePicks}
use Rattle.wp_cuts.specs.Counts.{least_batches}
use Rattle.wp_cuts.specs.Cuts.{CutParts}
use Rattle.wp_cuts.specs.Steps.{IsLayoutStep}
use Rattle.wp_cert.specs.declared.tree.CertFault.{CertFault}
use Rattle.wp_cert.specs.declared.tree.CertWhy.{CertWhy}
use Rattle.wp_cert.specs.declared.tree.Tree.{Tree}
use Rattle.wp_cert.specs.Refusals.{IsBadCuts, IsFirstBroken, bad_cuts}
use Rattle.wp_cert.specs.Terms.{AreCuts, AreTermsFor, Terms, cuts_in, terms_of}
use Rattle.wp_cert.specs.Trees.{IsBoundOf, IsRight}

-- terms are those of a tree
pub record AreOf (wave : WavePicks) (capacity : ℕ) (given : Option (List CutParts)) (terms : Terms) : Type 0 where
  pub right : AreTermsFor wave given terms.step
  pub are : terms ≡ terms_of wave capacity given terms.step

-- without cuts
pub plain_are : (wave : WavePicks) (capacity : ℕ) (given : Option (List CutParts)) (cuts : List CutParts) (terms : Terms) → given ≡ None → cuts ≡ cuts_in given
    → terms ≡ record { wave = wave; step = 1; cuts = cuts; batches = 0 } → AreOf wave capacity given terms
plain_are wave capacity None cuts terms none same is =
    let one = ap (λ (t : Terms). t.step) is in record {
      right = one;
      are = is ∙ ap₂ (λ (s : ℕ) (cs : List CutParts). record { wave = wave; step = s; cuts = cs; batches = 0 }) (sym one) same;
    }
plain_are wave capacity (Some written) cuts terms none same is = absurd (cc none)

-- with cuts
pub sharp_are : (wave : WavePicks) (capacity step least : ℕ) (given : Option (List CutParts)) (written cuts : List CutParts) (terms : Terms)
    → given ≡ Some written → IsWave wave → AreCuts (length wave.orders) (cuts_in given) → IsLayoutStep wave.layout step → least ≡ least_batches wave capacity
    → cuts ≡ cuts_in given → terms ≡ record { wave = wave; step = step; cuts = cuts; batches = least } → AreOf wave capacity given terms
sharp_are wave capacity step least None written cuts terms some valid are steps counted same is = absurd (cc some)
sharp_are wave capacity step least (Some others) written cuts terms some valid are steps counted same is =
    let one = ap (λ (t : Terms). t.step) is in record {
      right = (valid, are, subst (λ (s : ℕ). IsLayoutStep wave.layout s) (sym one) steps);
      are = is ∙ (ap (λ (n : ℕ). record { wave = wave; step = step; cuts = cuts; batches = n }) counted
          ∙ ap₂ (λ (s : ℕ) (cs : List CutParts). record { wave = wave; step = s; cuts = cs; batches = least_batches wave capacity }) (sym one) same);
    }

-- the bound of a tree that is right on its terms
pub bound_of : (wave : WavePicks) (capacity shares bound : ℕ) (tree : Tree) (terms : Terms) → AreTermsFor wave tree.cuts terms.step
    → terms ≡ terms_of wave capacity tree.cuts terms.step → IsSumOfShares wave capacity shares
    → IsRight terms (no_pairs terms.wave capacity) shares tree.nodes [] (Some bound) → IsBoundOf wave capacity tree bound
bound_of wave capacity shares bound tree terms right are sums is = (
  terms.step,
  shares,
  right,
  sums,
  subst (λ (t : Terms). IsRight t (no_pairs t.wave capacity) shares tree.nodes [] (Some bound)) are is,
)

-- cuts that aren't cuts of the wave's orders are the first broken rule
pub cuts_broken : (wave : WavePicks) (capacity count : ℕ) (tree : Tree) (fault : CertFault) (found : CertWhy) → count ≡ length wave.orders
    → IsBadCuts count tree.cuts found → fault.node ≡ 0 → fault.why ≡ found → IsFirstBroken wave capacity tree fault
cuts_broken wave capacity count tree fault found many bad at because = bad_cuts
    (subst (λ (n : ℕ). IsBadCuts n tree.cuts fault.why) many (subst (λ (w : CertWhy). IsBadCuts count tree.cuts w) (sym because) bad)) at
