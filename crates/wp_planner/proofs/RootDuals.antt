-- The duals of its own that the root of a right tree has.
use Rattle.std.proofs.Common.{◌≡◌, ◌∙◌, ℕ, Bool, false, List, [], Option, Some, None, arith, length, refl, subst, sym}
use Rattle.std.specs.Prelude.{is_some}
use Rattle.std.proofs.lemmas.Bool.{false≢true}
use Rattle.wp_lengths.specs.Batchings.{no_pairs}
use Rattle.wp_lengths.specs.Duals.{AreFeasible}
use Rattle.wp_lengths.specs.Waves.{WavePicks}
use Rattle.wp_pairs.specs.Permitted.{Pairing}
use Rattle.wp_cuts.specs.Cuts.{CutParts}
use Rattle.wp_cert.specs.declared.tree.Tree.{Tree}
use Rattle.wp_cert.specs.Terms.{AreTermsFor, plain_terms, terms_of}
use Rattle.wp_cert.specs.Trees.{IsBoundOf, IsRight}
use Rattle.wp_cert.specs.Trees.IsRight.{dead, kept, leaf, split}
use Rattle.wp_cert.specs.declared.tree.Node.{Node}
use Rattle.wp_planner.specs.Roots.{root_duals}

-- they are feasible where the tree has no cuts and its batches no price, one for each order
pub root_feasible : (wave : WavePicks) (pairing : Pairing) (above : ℕ) (nodes rest : List Node) (bound : Option ℕ) (duals : List ℕ)
    → IsRight (plain_terms wave) pairing above nodes rest bound → root_duals nodes ≡ Some duals
    → AreFeasible wave pairing duals × (length duals ≡ pairing.orders)
root_feasible wave pairing above _ rest _ duals (kept rounded) e = absurd (cc e)
root_feasible wave pairing above _ rest _ duals (leaf {own = own} right rounded) e =
    let same : own.duals ≡ duals = cc e in (
      subst (AreFeasible wave pairing) same (λ batch total permitted long. omega (arith, right.feasible batch total permitted long)),
      subst (λ (ds : List ℕ). length ds ≡ pairing.orders) same right.all.duals,
    )
root_feasible wave pairing above _ rest _ duals (dead is) e = absurd (cc e)
root_feasible wave pairing above _ rest _ duals (split {own = own} right undecided left other) e =
    let same : own.duals ≡ duals = cc e in (
      subst (AreFeasible wave pairing) same (λ batch total permitted long. omega (arith, right.feasible batch total permitted long)),
      subst (λ (ds : List ℕ). length ds ≡ pairing.orders) same right.all.duals,
    )

-- a tree that isn't said to have cuts has none
pub no_cuts : (cuts : Option (List CutParts)) {said : Bool} → said ≡ is_some cuts → said ≡ false → cuts ≡ None
no_cuts None is none = refl
no_cuts (Some cuts) is none = absurd (false≢true (sym none ∙ is))

-- so are those of a tree without cuts that shows a bound
pub bound_feasible : (wave : WavePicks) (capacity bound : ℕ) (tree : Tree) (duals : List ℕ) → tree.cuts ≡ None
    → IsBoundOf wave capacity tree bound → root_duals tree.nodes ≡ Some duals
    → AreFeasible wave (no_pairs wave capacity) duals × (length duals ≡ length wave.orders)
bound_feasible wave capacity bound tree duals none of is =
    let step = subst (λ (cuts : Option (List CutParts)). AreTermsFor wave cuts of.0) none of.2 in
    let right = subst (λ (cuts : Option (List CutParts)). IsRight (terms_of wave capacity cuts of.0) (no_pairs wave capacity) of.1 tree.nodes [] (Some bound))
    none of.4 in
    root_feasible wave (no_pairs wave capacity) of.1 tree.nodes [] (Some bound) duals
    (subst (λ (n : ℕ). IsRight (terms_of wave capacity None n) (no_pairs wave capacity) of.1 tree.nodes [] (Some bound)) step right) is
