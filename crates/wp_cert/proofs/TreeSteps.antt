-- Trees that begin at a place of the list of nodes: what follows for them from the node there and from its subtrees.
use Rattle.std.proofs.Common.{◌≡◌, ℕ, suc, ◌+◌, ◌≤◌, true, false, List, [], ◌∷◌, length, drop, arith, ap, sym, ◌∙◌, subst, length-drop}
use Rattle.std.specs.Prelude.{Option, Some, slice_get}
use Rattle.std.proofs.Math.Seq.{drop-cons}
use Rattle.std.proofs.lemmas.List.{drop_all}
use Rattle.std.proofs.lemmas.Option.{get_or_from_slice_get, slice_get_within}
use Rattle.wp_pairs.specs.Permitted.{Pairing}
use Rattle.wp_cert.specs.declared.tree.CertFault.{CertFault}
use Rattle.wp_cert.specs.declared.tree.CertWhy.{CertWhy}
use Rattle.wp_cert.specs.declared.tree.CertWhy.TheVariants as why
use Rattle.wp_cert.specs.declared.tree.Node.{Node}
use Rattle.wp_cert.specs.declared.tree.Node.TheVariants as node
use Rattle.wp_cert.specs.declared.tree.Own.{Own}
use Rattle.wp_cert.specs.Paths.{ButForMemory, IsBrokenHere, IsRefusedFrom, IsRightSplit}
use Rattle.wp_cert.specs.Refusals.{IsBroken, apart, cut, together}
use Rattle.wp_cert.specs.Terms.{Terms}
use Rattle.wp_cert.specs.Trees.{IsRight, lower_of, split, with_pair}

-- the nodes from a place on begin with the node there
pub node_first : (nodes : List Node) (at : ℕ) (here : Node) → slice_get nodes at ≡ Some here → drop at nodes ≡ here ∷ drop (at + 1) nodes
node_first nodes at here is =
    let within = slice_get_within nodes at here is in
    let e : suc at ≡ at + 1 = omega arith in
    drop-cons nodes at here within
    ∙ (ap (λ (n : Node). n ∷ drop (suc at) nodes) (get_or_from_slice_get nodes at here here is) ∙ ap (λ (k : ℕ). here ∷ drop k nodes) e)

-- how many nodes are left from a place on
left_from : (nodes : List Node) (at : ℕ) → at ≤ length nodes → at + length (drop at nodes) ≡ length nodes
left_from nodes at within = omega (arith, length-drop at nodes)

-- a node that breaks a rule is refused
pub here_refused : (terms : Terms) (pairing : Pairing) (above : ℕ) (nodes : List Node) (at : ℕ) (here : Node) (fault : CertWhy) (result : CertFault)
    → slice_get nodes at ≡ Some here → ButForMemory (IsBrokenHere terms pairing above here) fault → result.node ≡ at → result.why ≡ fault
    → IsRefusedFrom terms pairing above nodes at result
here_refused terms pairing above nodes at here fault result is broken numbered because = λ named. (
  drop at nodes,
  subst (λ (w : CertWhy). IsBroken terms pairing above (drop at nodes) (drop at nodes) w) (sym because)
      (subst (λ (ns : List Node). IsBroken terms pairing above ns ns fault) (sym (node_first nodes at here is))
      (broken (λ e. named (because ∙ e)) (drop (at + 1) nodes))),
  omega (arith, numbered, left_from nodes at (omega (arith, slice_get_within nodes at here is))),
)

-- a list that ends where a node is due is cut
pub cut_refused : (terms : Terms) (pairing : Pairing) (above : ℕ) (nodes : List Node) (at : ℕ) (result : CertFault) → at ≡ length nodes
    → result.node ≡ at → result.why ≡ why.Cut → IsRefusedFrom terms pairing above nodes at result
cut_refused terms pairing above nodes at result end numbered because = λ _.
    let none : drop at nodes ≡ [] = drop_all at nodes (omega (arith, end)) in (
      [],
      subst (λ (w : CertWhy). IsBroken terms pairing above (drop at nodes) [] w) (sym because)
          (subst (λ (ns : List Node). IsBroken terms pairing above ns [] why.Cut) (sym none) cut),
      omega (arith, numbered, end),
    )

-- a leaf that is right
pub right_here : (terms : Terms) (pairing : Pairing) (above : ℕ) (nodes : List Node) (at : ℕ) (here : Node) (bound : Option ℕ)
    → slice_get nodes at ≡ Some here → ((rest : List Node) → IsRight terms pairing above (here ∷ rest) rest bound)
    → IsRight terms pairing above (drop at nodes) (drop (at + 1) nodes) bound
right_here terms pairing above nodes at here bound is right =
    subst (λ (ns : List Node). IsRight terms pairing above ns (drop (at + 1) nodes) bound) (sym (node_first nodes at here is)) (right (drop (at + 1) nodes))

module _ (terms : Terms) (pairing : Pairing) (above first second total at : ℕ) (given : Option Own) (nodes : List Node)
    (is : slice_get nodes at ≡ Some (node.Split first second given)) (s : IsRightSplit terms pairing above first second given total) where
  begins : drop at nodes ≡ node.Split first second (Some s.own) ∷ drop (at + 1) nodes
  begins = node_first nodes at (node.Split first second given) is ∙ ap (λ (g : Option Own). node.Split first second g ∷ drop (at + 1) nodes) s.is

  -- a split whose subtrees are right
  pub split_right : (between rest : ℕ) (left right bound : Option ℕ)
      → IsRight terms (with_pair pairing first second true) total (drop (at + 1) nodes) (drop between nodes) left
      → IsRight terms (with_pair pairing first second false) total (drop between nodes) (drop rest nodes) right → bound ≡ lower_of left right
      → IsRight terms pairing above (drop at nodes) (drop rest nodes) bound
  split_right between rest left right bound l r lower =
      subst (λ (ns : List Node). IsRight terms pairing above ns (drop rest nodes) bound) (sym begins)
      (subst (λ (b : Option ℕ). IsRight terms pairing above (node.Split first second (Some s.own) ∷ drop (at + 1) nodes) (drop rest nodes) b) (sym lower)
      (split s.right s.parts
      (subst (λ (t : ℕ). IsRight terms (with_pair pairing first second true) t (drop (at + 1) nodes) (drop between nodes) left) s.sums l)
      (subst (λ (t : ℕ). IsRight terms (with_pair pairing first second false) t (drop between nodes) (drop rest nodes) right) s.sums r)))

  -- a split whose first subtree is refused
  pub together_refused : (result : CertFault) → IsRefusedFrom terms (with_pair pairing first second true) total nodes (at + 1) result
      → IsRefusedFrom terms pairing above nodes at result
  together_refused result refused = λ named. let r = refused named in (
    r.0,
    subst (λ (ns : List Node). IsBroken terms pairing above ns r.0 result.why) (sym begins)
        (together s.right s.parts
        (subst (λ (t : ℕ). IsBroken terms (with_pair pairing first second true) t (drop (at + 1) nodes) r.0 result.why) s.sums r.1)),
    r.2,
  )

  -- a split whose second subtree is refused
  pub apart_refused : (between : ℕ) (left : Option ℕ) (result : CertFault)
      → IsRight terms (with_pair pairing first second true) total (drop (at + 1) nodes) (drop between nodes) left
      → IsRefusedFrom terms (with_pair pairing first second false) total nodes between result → IsRefusedFrom terms pairing above nodes at result
  apart_refused between left result l refused = λ named. let r = refused named in (
    r.0,
    subst (λ (ns : List Node). IsBroken terms pairing above ns r.0 result.why) (sym begins)
        (apart s.right s.parts
        (subst (λ (t : ℕ). IsRight terms (with_pair pairing first second true) t (drop (at + 1) nodes) (drop between nodes) left) s.sums l)
        (subst (λ (t : ℕ). IsBroken terms (with_pair pairing first second false) t (drop between nodes) r.0 result.why) s.sums r.1)),
    r.2,
  )
