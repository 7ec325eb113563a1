-- Single nodes: dead orders, leaves and splits, whatever nodes follow.
use Rattle.std.proofs.Common.{◌≡◌, ℕ, ◌<◌, ◌↔◌, ◌⊎◌, List, [], ◌∷◌, sym, subst, inl, inr, ⊎_elim, Contains}
use Rattle.std.specs.Prelude.{Option, Some, None}
use Rattle.std.specs.List.Sorted.{IsStrictlyIncreasing}
use Rattle.wp_pairs.specs.Permitted.{AreJoined, AreUndecided, IsDead, IsPermitted, Pairing, itself}
use Rattle.wp_pairs.proofs.Members.{contains_none}
use Rattle.wp_cert.specs.declared.tree.CertWhy.{CertWhy}
use Rattle.wp_cert.specs.declared.tree.CertWhy.TheVariants as why
use Rattle.wp_cert.specs.declared.tree.Node.{Node}
use Rattle.wp_cert.specs.declared.tree.Node.TheVariants as node
use Rattle.wp_cert.specs.declared.tree.Own.{Own}
use Rattle.wp_cuts.specs.Steps.{IsRoundedUp}
use Rattle.wp_cert.specs.Terms.{Terms, net_of}
use Rattle.wp_cert.specs.Paths.{IsBrokenHere}
use Rattle.wp_cert.specs.Refusals.{IsBroken, IsBrokenOwn, bad_pair, kept_split, own_leaf, own_split}
use Rattle.wp_cert.specs.Trees.{IsRight, IsRightOwn, kept, leaf}
use Rattle.wp_lengths.specs.Visits.{AddsItem}
use Rattle.wp_lengths.proofs.Visits.{empty_place, union_permitted}

-- the orders that are joined to one, as they were added to no order
pub adds_to_empty : (pairing : Pairing) (empty class union : List ℕ) (order : ℕ) → empty ≡ [] → IsStrictlyIncreasing union
    → ((p : ℕ) → Contains union p ↔ (Contains empty p ⊎ Contains class p)) → ((p : ℕ) → Contains class p ↔ AreJoined pairing.pairs order p)
    → AddsItem pairing [] order union
adds_to_empty pairing empty class union order none up both is = record {
  ascending = up;
  orders = λ p. (
    λ has. ⊎_elim (λ l. inl (subst (λ (xs : List ℕ). Contains xs p) none l)) (λ r. inr ((is p).0 r)) ((both p).0 has),
    λ e. ⊎_elim (λ l. absurd (contains_none p l)) (λ r. (both p).1 (inr ((is p).1 r))) e,
  );
}

-- an order is dead where the orders that are joined to it make no permitted batch
pub dead_from : (pairing : Pairing) (union : List ℕ) (order : ℕ) → order < pairing.orders → AddsItem pairing [] order union
    → (IsPermitted pairing union → ⊥) → IsDead pairing order
dead_from pairing union order known adds never = record {
  known = known;
  unheld = λ batch permitted has. never (union_permitted pairing [] batch union order (empty_place pairing) permitted
      (λ o none. absurd (contains_none o none)) has adds);
}

-- where they make one, it isn't
pub not_dead_from : (pairing : Pairing) (union : List ℕ) (order : ℕ) → AddsItem pairing [] order union → IsPermitted pairing union → IsDead pairing order → ⊥
not_dead_from pairing union order adds permitted is = is.unheld union permitted ((adds.orders order).1 (inr itself))

-- a leaf with right prices of its own
pub leaf_right : (terms : Terms) (built pairing : Pairing) (above bound total : ℕ) (own : Own) (given : Option Own) → built ≡ pairing → given ≡ Some own
    → IsRightOwn terms built above own → total ≡ net_of terms own → IsRoundedUp terms.step total bound → (rest : List Node)
    → IsRight terms pairing above (node.Leaf given ∷ rest) rest (Some bound)
leaf_right terms built pairing above bound total own given same is right net rounded = λ rest.
    subst (λ (g : Option Own). IsRight terms pairing above (node.Leaf g ∷ rest) rest (Some bound)) (sym is)
    (leaf (subst (λ (p : Pairing). IsRightOwn terms p above own) same right) (subst (λ (n : ℕ). IsRoundedUp terms.step n bound) net rounded))

-- a kept leaf
pub kept_right : (terms : Terms) (pairing : Pairing) (above bound : ℕ) (given : Option Own) → given ≡ None → IsRoundedUp terms.step above bound
    → (rest : List Node) → IsRight terms pairing above (node.Leaf given ∷ rest) rest (Some bound)
kept_right terms pairing above bound given is rounded = λ rest.
    subst (λ (g : Option Own). IsRight terms pairing above (node.Leaf g ∷ rest) rest (Some bound)) (sym is) (kept rounded)

-- a leaf whose own duals break a rule
pub leaf_broken : (terms : Terms) (built pairing : Pairing) (above : ℕ) (own : Own) (given : Option Own) (fault : CertWhy) → built ≡ pairing
    → given ≡ Some own → IsBrokenOwn terms built above own fault → IsBrokenHere terms pairing above (node.Leaf given) fault
leaf_broken terms built pairing above own given fault same is broken = λ rest.
    subst (λ (g : Option Own). IsBroken terms pairing above (node.Leaf g ∷ rest) (node.Leaf g ∷ rest) fault) (sym is)
    (own_leaf (subst (λ (p : Pairing). IsBrokenOwn terms p above own fault) same broken))

-- a split whose own duals break a rule
pub split_broken : (terms : Terms) (built pairing : Pairing) (above first second : ℕ) (own : Own) (given : Option Own) (fault : CertWhy) → built ≡ pairing
    → given ≡ Some own → IsBrokenOwn terms built above own fault → IsBrokenHere terms pairing above (node.Split first second given) fault
split_broken terms built pairing above first second own given fault same is broken = λ rest.
    subst (λ (g : Option Own). IsBroken terms pairing above (node.Split first second g ∷ rest) (node.Split first second g ∷ rest) fault) (sym is)
    (own_split (subst (λ (p : Pairing). IsBrokenOwn terms p above own fault) same broken))

-- a split without duals of its own
pub split_kept : (terms : Terms) (pairing : Pairing) (above first second : ℕ) (given : Option Own) → given ≡ None
    → IsBrokenHere terms pairing above (node.Split first second given) why.SplitKept
split_kept terms pairing above first second given is = λ rest.
    subst (λ (g : Option Own). IsBroken terms pairing above (node.Split first second g ∷ rest) (node.Split first second g ∷ rest) why.SplitKept)
    (sym is) kept_split

-- a split on no undecided pair
pub split_decided : (terms : Terms) (built pairing : Pairing) (above first second : ℕ) (own : Own) (given : Option Own) → built ≡ pairing
    → given ≡ Some own → IsRightOwn terms built above own → (AreUndecided built first second → ⊥)
    → IsBrokenHere terms pairing above (node.Split first second given) why.BadPair
split_decided terms built pairing above first second own given same is right never = λ rest.
    subst (λ (g : Option Own). IsBroken terms pairing above (node.Split first second g ∷ rest) (node.Split first second g ∷ rest) why.BadPair) (sym is)
    (bad_pair (subst (λ (p : Pairing). IsRightOwn terms p above own) same right)
    (subst (λ (p : Pairing). AreUndecided p first second → ⊥) same never))
