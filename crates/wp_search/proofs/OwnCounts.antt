-- How many nodes of a right tree have duals of their own: fewer than a power of two, and so a budget that is large enough pays for all of them.
use Rattle.std.proofs.Common.{◌≡◌, ℕ, zero, suc, ◌+◌, ◌-◌, ◌*◌, ◌/◌, ◌^◌, ◌<◌, ◌≤◌, Bool, true, false, cond, List, [], ◌∷◌, ◌++◌, length, arith, ap, refl}
use Rattle.std.proofs.Common.{subst}
use Rattle.std.proofs.Common.{length-append, mul-le-mul_right}
use Rattle.std.specs.Prelude.{Option, Some, None}
use Rattle.std.proofs.Math.Nat.{two-pow-succ}
use Rattle.std.proofs.lemmas.List.Sums.{sum_by-append, sum_by-cons}
use Rattle.std.proofs.lemmas.Nat.{pow_pos}
use Rattle.wp_pairs.specs.declared.pair.OrderPair.{OrderPair}
use Rattle.wp_pairs.specs.Permitted.{AreUndecided, Pairing}
use Rattle.wp_lengths.specs.Batchings.{no_pairs}
use Rattle.wp_lengths.specs.Waves.{WavePicks}
use Rattle.wp_cert.specs.Paths.{IsPath, pairing_of}
use Rattle.wp_cert.specs.Terms.{plain_terms, terms_of}
use Rattle.wp_cert.specs.Trees.{IsBoundOf, IsRight, dead, kept, leaf, plain_tree, split, with_pair}
use Rattle.wp_cert.specs.declared.tree.Node.{Node}
use Rattle.wp_cert.specs.declared.tree.Node.TheVariants as node
use Rattle.wp_search.specs.Counts.{has_own, own_nodes}
use Rattle.wp_node.specs.Prices.{full, price}
use Rattle.wp_cert.proofs.PathSteps.{empty_path, longer_path}
use Rattle.wp_search.proofs.PathLengths.{paths_are_short}

-- one node and those that follow
pub own_first : (here : Node) (rest : List Node) → own_nodes (here ∷ rest) ≡ cond (has_own here) 1 0 + own_nodes rest
own_first here rest = sum_by-cons (λ (n : Node). cond (has_own n) 1 0) here rest

-- some nodes and others behind them
pub own_both : (before behind : List Node) → own_nodes (before ++ behind) ≡ own_nodes before + own_nodes behind
own_both before behind = sum_by-append (λ (n : Node). cond (has_own n) 1 0) before behind

-- the pairs of a wave with those of a path, to which so many can still be added
pub record HasLeft (wave : WavePicks) (pairing : Pairing) (left : ℕ) : Type 0 where
  pub capacity : ℕ
  pub is : pairing ≡ pairing_of wave capacity pairing.pairs
  pub path : IsPath wave capacity pairing.pairs
  pub all : length pairing.pairs + left ≡ length wave.orders * (length wave.orders - 1) / 2

-- at the root no pair was added
pub root_left : (wave : WavePicks) (capacity : ℕ) → HasLeft wave (no_pairs wave capacity) (length wave.orders * (length wave.orders - 1) / 2)
root_left wave capacity = record { capacity = capacity; is = refl; path = empty_path wave capacity; all = omega arith }

-- an undecided pair makes the path longer
longer : (wave : WavePicks) (pairing : Pairing) (first second left : ℕ) (together : Bool) (has : HasLeft wave pairing left)
    → AreUndecided pairing first second → IsPath wave has.capacity (with_pair pairing first second together).pairs
longer wave pairing first second left together has undecided =
    longer_path wave has.capacity pairing.pairs first second together has.path
    (subst (λ (p : Pairing). AreUndecided p first second) has.is undecided)

-- a path to which an undecided pair is added has one left before
none_left : (wave : WavePicks) (pairing : Pairing) (first second : ℕ) → HasLeft wave pairing 0 → AreUndecided pairing first second → ⊥
none_left wave pairing first second has undecided =
    let new : OrderPair = record { first = first; second = second; together = true } in
    let short = paths_are_short wave has.capacity (pairing.pairs ++ new ∷ []) (longer wave pairing first second 0 true has undecided) in
    omega (arith, short, has.all, length-append pairing.pairs (new ∷ []))

one_less : (wave : WavePicks) (pairing : Pairing) (first second left : ℕ) (together : Bool) → HasLeft wave pairing (suc left)
    → AreUndecided pairing first second → HasLeft wave (with_pair pairing first second together) left
one_less wave pairing first second left together has undecided =
    let new : OrderPair = record { first = first; second = second; together = together } in record {
      capacity = has.capacity;
      is = ap (λ (p : Pairing). with_pair p first second together) has.is;
      path = longer wave pairing first second (suc left) together has undecided;
      all = omega (arith, has.all, length-append pairing.pairs (new ∷ []));
    }

-- a right tree has fewer nodes with duals of their own than this power of two
pub few_own : (wave : WavePicks) (pairing : Pairing) (above left : ℕ) (nodes rest : List Node) (bound : Option ℕ) → HasLeft wave pairing left
    → IsRight (plain_terms wave) pairing above nodes rest bound → own_nodes nodes + 1 ≤ own_nodes rest + 2 ^ (left + 1)
few_own wave pairing above left _ rest _ has (kept rounded) = omega (arith, own_first (node.Leaf None) rest, pow_pos (left + 1))
few_own wave pairing above left _ rest _ has (leaf {own} right rounded) =
    let e : left + 1 ≡ suc left = omega arith in
    omega (arith, own_first (node.Leaf (Some own)) rest, ap (λ (k : ℕ). 2 ^ k) e, two-pow-succ left, pow_pos left)
few_own wave pairing above left _ rest _ has (dead {order} is_dead) = omega (arith, own_first (node.Dead order) rest, pow_pos (left + 1))
few_own wave pairing above zero _ rest _ has (split {first} {second} {own} {nodes} {between} {left} {right} own_right parted l r) =
    absurd (none_left wave pairing first second has parted)
few_own wave pairing above (suc less) _ rest _ has (split {first} {second} {own} {nodes} {between} {left} {right} own_right parted l r) =
    let one = few_own wave (with_pair pairing first second true) _ less nodes between left (one_less wave pairing first second less true has parted) l in
    let other = few_own wave (with_pair pairing first second false) _ less between rest right (one_less wave pairing first second less false has parted) r in
    let e : suc less + 1 ≡ suc (less + 1) = omega arith in
    omega (
      arith,
      own_first (node.Split first second (Some own)) nodes,
      one,
      other,
      ap (λ (k : ℕ). 2 ^ k) e,
      two-pow-succ (less + 1),
    )

-- so has a whole tree
pub few_own_in_all : (wave : WavePicks) (capacity : ℕ) (nodes : List Node) (bound : ℕ) → IsBoundOf wave capacity (plain_tree nodes) bound
    → own_nodes nodes + 1 ≤ 2 ^ (length wave.orders * (length wave.orders - 1) / 2 + 1)
few_own_in_all wave capacity nodes bound right =
    let orders = length wave.orders in
    let few = few_own wave (no_pairs wave capacity) right.1 (orders * (orders - 1) / 2) nodes [] (Some bound) (root_left wave capacity)
    (subst (λ (step : ℕ). IsRight (terms_of wave capacity None step) (no_pairs wave capacity) right.1 nodes [] (Some bound)) right.2 right.4) in
    omega (arith, few)

-- a full budget isn't spent: where less than the price of a node is left after a right tree, the budget isn't full
pub full_not_spent : (wave : WavePicks) (capacity : ℕ) (nodes : List Node) (bound budget left : ℕ) → IsBoundOf wave capacity (plain_tree nodes) bound
    → own_nodes nodes * price (length wave.orders) capacity + left ≡ budget → left < price (length wave.orders) capacity
    → full (length wave.orders) capacity ≤ budget → ⊥
full_not_spent wave capacity nodes bound budget left right paid short enough =
    let orders = length wave.orders in
    let cost = price orders capacity in
    let few = mul-le-mul_right cost (few_own_in_all wave capacity nodes bound right) in
    omega (arith, few, paid, short, enough)
