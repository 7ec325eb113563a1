-- Whole trees: the first broken rule, and the bound.
use Rattle.std.proofs.Common.{◌≡◌, ℕ, ◌<◌, ◌≤◌, ⊎_elim, List, [], length, drop, arith, refl, subst, length-drop}
use Rattle.std.specs.Prelude.{IsSome, Option, Some, None}
use Rattle.std.proofs.lemmas.List.{drop_all}
use Rattle.wp_lengths.specs.Batchings.{no_pairs}
use Rattle.wp_lengths.specs.Waves.{IsWave, WavePicks}
use Rattle.wp_lengths.specs.Duals.{IsSumOfShares}
use Rattle.wp_cert.specs.declared.tree.CertFault.{CertFault}
use Rattle.wp_cert.specs.declared.tree.CertWhy.TheVariants as why
use Rattle.wp_cert.specs.declared.tree.Node.{Node}
use Rattle.wp_cert.specs.declared.tree.Tree.{Tree}
use Rattle.wp_cert.specs.Paths.{IsLeftOver, IsRefusedWhole, pairing_of}
use Rattle.wp_cert.specs.Refusals.{IsFirstBroken, in_tree, nodes_left}
use Rattle.wp_cert.specs.Terms.{AreTermsFor, Terms, terms_of}
use Rattle.wp_cert.specs.Trees.{IsRight}
use Rattle.wp_cert.proofs.Alive.{right_has_bound}

module _ (terms : Terms) (capacity shares : ℕ) (nodes : List Node) where
  -- nodes that are left after the tree are a broken rule
  pub left_over : (next : ℕ) (bound : Option ℕ) (fault : CertFault) → next < length nodes
      → IsRight terms (pairing_of terms.wave capacity []) shares nodes (drop next nodes) bound → fault.node ≡ next → fault.why ≡ why.Cut
      → IsLeftOver terms (pairing_of terms.wave capacity []) shares nodes fault
  left_over next bound fault within right numbered because =
      let left = length-drop next nodes in record {
        left = drop next nodes;
        bound = bound;
        right = right;
        some = omega (arith, left, within);
        at = omega (arith, left, within, numbered);
        because = because;
      }

  -- a right tree has a bound
  pub root_bound : (rest : List Node) (bound : Option ℕ) → IsWave terms.wave → 1 ≤ capacity
      → IsRight terms (pairing_of terms.wave capacity []) shares nodes rest bound → IsSome bound
  root_bound rest None is some right = absurd (right_has_bound terms capacity shares nodes rest None is some right)
  root_bound rest (Some bound) is some right = refl

  -- where no node is left, this is the bound of the whole tree
  pub whole_bound : (next bound : ℕ) (shown : Option ℕ) → length nodes ≤ next → shown ≡ Some bound
      → IsRight terms (pairing_of terms.wave capacity []) shares nodes (drop next nodes) shown
      → IsRight terms (pairing_of terms.wave capacity []) shares nodes [] (Some bound)
  whole_bound next bound shown end is right =
      subst (λ (b : Option ℕ). IsRight terms (pairing_of terms.wave capacity []) shares nodes [] b) is
      (subst (λ (ns : List Node). IsRight terms (pairing_of terms.wave capacity []) shares nodes ns shown) (drop_all next nodes end) right)

-- what is refused of the nodes is the first broken rule of a tree
pub first_broken : (wave : WavePicks) (capacity shares step : ℕ) (tree : Tree) (terms : Terms) (fault : CertFault)
    → terms ≡ terms_of wave capacity tree.cuts step → AreTermsFor wave tree.cuts step → IsSumOfShares wave capacity shares
    → IsRefusedWhole terms (pairing_of terms.wave capacity []) shares tree.nodes fault
    → (fault.why ≡ why.Memory → ⊥) → IsFirstBroken wave capacity tree fault
first_broken wave capacity shares step tree terms fault same right are refused named =
    ⊎_elim (λ r. let broken = r named in in_tree {left = broken.0} right are broken.1 broken.2)
    (λ (l : IsLeftOver (terms_of wave capacity tree.cuts step) (no_pairs wave capacity) shares tree.nodes fault).
    nodes_left {left = l.left} right are l.right l.some l.at l.because)
    (subst (λ (t : Terms). IsRefusedWhole t (pairing_of t.wave capacity []) shares tree.nodes fault) same refused named)
