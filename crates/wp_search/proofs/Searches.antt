-- Searches: what their trees show, and what a turn makes of them.
use Rattle.std.proofs.Common.{◌≡◌, ℕ, ◌+◌, ◌-◌, ◌*◌, ◌<◌, ◌≤◌, ◌⊎◌, ◌↔◌, Bool, true, false, List, [], ◌∷◌, ◌++◌, length, arith, refl, ap, sym, ◌∙◌, subst, inl}
use Rattle.std.proofs.Common.{inr, ⊎_elim}
use Rattle.std.proofs.Math.Nat.{mul-le-mul_left}
use Rattle.std.proofs.lemmas.List.{append-nil, append_assoc}
use Rattle.std.proofs.lemmas.List.Elements.{All-append, All-cons, All-nil}
use Rattle.std.proofs.lemmas.List.Folds.{list_all-append}
use Rattle.std.proofs.lemmas.Bool.{false≢true}
use Rattle.std.specs.Prelude.{◌&&◌, All, IsTrue, Option, Some, None, IsSome, sum}
use Rattle.wp_model.proofs.Sums.{term-le-sum}
use Rattle.wp_pairs.specs.Permitted.{Pairing}
use Rattle.wp_lengths.specs.Batchings.{no_pairs}
use Rattle.wp_lengths.specs.Waves.{IsWave, WavePicks}
use Rattle.wp_cert.specs.Text.{is_node_within}
use Rattle.wp_cert.specs.TextData.{HaveDualsWithin}
use Rattle.wp_cuts.specs.Steps.{IsRoundedUp}
use Rattle.wp_cuts.proofs.Rounding.{rounded_to_units}
use Rattle.wp_cert.specs.Terms.{plain_terms}
use Rattle.wp_cert.specs.Trees.{IsBoundOf, IsRight, dead, kept, leaf, lower_of, plain_tree, split, with_pair}
use Rattle.wp_cert.specs.declared.tree.Node.{Node}
use Rattle.wp_cert.specs.declared.tree.Node.TheVariants as node
use Rattle.wp_cert.proofs.Alive.{HasBound as IsThere, right_has_bound}
use Rattle.wp_cert.proofs.BoundsHold.{bounds_hold}
use Rattle.wp_lengths.specs.Duals.{AreShares, units_of}
use Rattle.wp_search.specs.Branches.{AreCutsWithin, HasBound, IsBranch, bound_of, nodes_of, own_bound, own_count, turns_left}
use Rattle.wp_search.specs.Counts.{own_nodes}
use Rattle.wp_search.specs.Plans.{HasShortMarks, IsSplitWithin}
use Rattle.wp_search.specs.Plans.{kept as kept_marks, leaf as leaf_marks, dead as dead_marks, split as split_marks}
use Rattle.wp_node.specs.Prices.{choose, price}
use Rattle.wp_search.specs.Searches.{HasEnded, IsBest, IsOnward, IsSearch}
use Rattle.wp_batch.proofs.Costs.{one_cost}
use Rattle.wp_search.proofs.OptimalJoins.{optimal_joins}
use Rattle.wp_search.specs.Turns.{IsProper, IsSettled, IsTurned, LeavesBound, made_by}
use Rattle.wp_search.specs.declared.best.BestBatching.{BestBatching}
use Rattle.wp_search.specs.declared.branch.Branch.{Branch}
use Rattle.wp_search.specs.declared.branch.Branch.TheVariants.{Leaf, Dead, Split'}
use Rattle.wp_search.specs.declared.search.TreeSearch.{TreeSearch}
use Rattle.wp_search.specs.declared.turn.LeafTurn.{LeafTurn}
use Rattle.wp_search.specs.declared.turn.LeafTurn.TheVariants.{Onward, Settled, Spent, Worked as Made}
use Rattle.wp_search.proofs.OwnCounts.{own_both, own_first}
use Rattle.wp_node.specs.Owns.{as_own}
use Rattle.wp_node.proofs.Owns.{own_within, plain_net}

-- a subtree's nodes are a right tree, whatever nodes follow
pub right_nodes : (wave : WavePicks) (pairing : Pairing) (above : ℕ) (branch : Branch) → IsBranch wave pairing above branch → (rest : List Node)
    → IsRight (plain_terms wave) pairing above (nodes_of branch ++ rest) rest (bound_of (units_of above) branch)
right_nodes wave pairing above (Leaf None) is rest = kept ((rounded_to_units above (units_of above)).1 refl)
right_nodes wave pairing above (Leaf (Some worked)) is rest =
    leaf is.right (subst (λ (n : ℕ). IsRoundedUp 1 n (own_bound worked)) (sym (plain_net wave worked.own))
    ((rounded_to_units (sum worked.own.duals) (own_bound worked)).1 refl))
right_nodes wave pairing above (Dead order) is rest = dead is
right_nodes wave pairing above (Split' cut p together q apart) is rest =
    let net = sym (plain_net wave cut.worked.own) in
    subst (λ (nodes : List Node). IsRight (plain_terms wave) pairing above (node.Split cut.first cut.second (Some (as_own cut.worked.own)) ∷ nodes) rest
    (lower_of (bound_of (own_bound cut.worked) together) (bound_of (own_bound cut.worked) apart)))
    (sym (append_assoc (nodes_of together) (nodes_of apart) rest)) (split is.0.worked.right is.0.parts
    (subst (λ (n : ℕ). IsRight (plain_terms wave) (with_pair pairing cut.first cut.second true) n (nodes_of together ++ (nodes_of apart ++ rest))
    (nodes_of apart ++ rest) (bound_of (own_bound cut.worked) together)) net
    (right_nodes wave (with_pair pairing cut.first cut.second true) (sum cut.worked.own.duals) together is.2 (nodes_of apart ++ rest)))
    (subst (λ (n : ℕ). IsRight (plain_terms wave) (with_pair pairing cut.first cut.second false) n (nodes_of apart ++ rest) rest
    (bound_of (own_bound cut.worked) apart)) net
    (right_nodes wave (with_pair pairing cut.first cut.second false) (sum cut.worked.own.duals) apart is.3 rest)))

-- as many of them have duals of their own as are counted
pub own_listed : (branch : Branch) → own_nodes (nodes_of branch) ≡ own_count branch
own_listed (Leaf None) = refl
own_listed (Leaf (Some worked)) = refl
own_listed (Dead order) = refl
own_listed (Split' cut p together q apart) = omega (
  arith,
  own_first (node.Split cut.first cut.second (Some (as_own cut.worked.own))) (nodes_of together ++ nodes_of apart),
  own_both (nodes_of together) (nodes_of apart),
  own_listed together,
  own_listed apart,
)

-- nothing is said of no node
nothing : (bound : ℕ) → All (IsSplitWithin bound) []
nothing bound = All-nil (IsSplitWithin bound)

-- the splits among them are within a bound where those of the subtree are
pub splits_listed : (bound : ℕ) (branch : Branch) → AreCutsWithin bound branch → All (IsSplitWithin bound) (nodes_of branch)
splits_listed bound (Leaf None) within = All-cons (IsSplitWithin bound) (node.Leaf None) [] _ (nothing bound)
splits_listed bound (Leaf (Some worked)) within = All-cons (IsSplitWithin bound) (node.Leaf (Some (as_own worked.own))) [] _ (nothing bound)
splits_listed bound (Dead order) within = All-cons (IsSplitWithin bound) (node.Dead order) [] _ (nothing bound)
splits_listed bound (Split' cut p together q apart) within =
    All-cons (IsSplitWithin bound) (node.Split cut.first cut.second (Some (as_own cut.worked.own))) (nodes_of together ++ nodes_of apart) within.0
    (All-append (IsSplitWithin bound) (nodes_of together) (nodes_of apart) (splits_listed bound together within.1) (splits_listed bound apart within.2))

-- and their duals are within their range
pub duals_listed : (wave : WavePicks) (pairing : Pairing) (above : ℕ) (branch : Branch) → IsBranch wave pairing above branch
    → HaveDualsWithin (plain_tree (nodes_of branch))
duals_listed wave pairing above (Leaf None) is = refl
duals_listed wave pairing above (Leaf (Some worked)) is = own_within worked.own is.duals
duals_listed wave pairing above (Dead order) is = refl
duals_listed wave pairing above (Split' cut p together q apart) is =
    list_all-append (is_node_within false) (node.Split cut.first cut.second (Some (as_own cut.worked.own)) ∷ []) (nodes_of together ++ nodes_of apart)
    ∙ both (own_within cut.worked.own is.0.worked.duals) (list_all-append (is_node_within false) (nodes_of together) (nodes_of apart)
    ∙ both (duals_listed wave (with_pair pairing cut.first cut.second true) (sum cut.worked.own.duals) together is.2)
    (duals_listed wave (with_pair pairing cut.first cut.second false) (sum cut.worked.own.duals) apart is.3))
  where
    both : {a b : Bool} → a ≡ true → b ≡ true → (a && b) ≡ true
    both one two = rw (one, two) refl

-- the marks of its nodes are the short ones, whatever nodes follow
pub short_listed : (wave : WavePicks) (pairing : Pairing) (above : ℕ) (branch : Branch) → IsBranch wave pairing above branch → (rest : List Node)
    → HasShortMarks wave pairing (nodes_of branch ++ rest) rest
short_listed wave pairing above (Leaf None) is rest = kept_marks
short_listed wave pairing above (Leaf (Some worked)) is rest = leaf_marks is.short
short_listed wave pairing above (Dead order) is rest = dead_marks
short_listed wave pairing above (Split' cut p together q apart) is rest =
    subst (λ (nodes : List Node). HasShortMarks wave pairing (node.Split cut.first cut.second (Some (as_own cut.worked.own)) ∷ nodes) rest)
    (sym (append_assoc (nodes_of together) (nodes_of apart) rest)) (split_marks is.0.worked.short
    (short_listed wave (with_pair pairing cut.first cut.second true) (sum cut.worked.own.duals) together is.2 (nodes_of apart ++ rest))
    (short_listed wave (with_pair pairing cut.first cut.second false) (sum cut.worked.own.duals) apart is.3 rest))

-- so are those of a whole tree
pub search_short : (wave : WavePicks) (pairing : Pairing) (above : ℕ) (branch : Branch) → IsBranch wave pairing above branch
    → HasShortMarks wave pairing (nodes_of branch) []
search_short wave pairing above branch is =
    subst (λ (nodes : List Node). HasShortMarks wave pairing nodes []) (append-nil (nodes_of branch)) (short_listed wave pairing above branch is [])

-- what is within a bound is within a higher one
pub cuts_rise : (low high : ℕ) (branch : Branch) → low ≤ high → AreCutsWithin low branch → AreCutsWithin high branch
cuts_rise low high (Leaf own) up within = _
cuts_rise low high (Dead order) up within = _
cuts_rise low high (Split' cut p together q apart) up within =
    (omega (arith, within.0, up), cuts_rise low high together up within.1, cuts_rise low high apart up within.2)

-- a right tree has a bound that can be told
pub bound_kept : (wave : WavePicks) (pairing : Pairing) (above : ℕ) (branch : Branch) → IsBranch wave pairing above branch → HasBound branch
bound_kept wave pairing above (Leaf own) is = _
bound_kept wave pairing above (Dead order) is = _
bound_kept wave pairing above (Split' cut p together q apart) is = is.1

-- where a budget doesn't pay, it is below the price
pub not_paid : (pays : Bool) (asked left : ℕ) → pays ≡ false → (IsTrue pays ↔ (asked ≤ left)) → left < asked
not_paid pays asked left unpaid both = ⊎_elim (λ (enough : asked ≤ left). absurd (false≢true (sym unpaid ∙ both.1 enough))) (λ (short : left < asked). short)
    (enough_or_not asked left)
  where
    enough_or_not : (a b : ℕ) → (a ≤ b) ⊎ (b < a)
    enough_or_not a b = grind arith

-- there is one set of no thing
choose_none : (things : ℕ) → choose things 0 ≡ 1
unfolding choose
choose_none things = refl

-- a node has a price
pub price_above : (orders capacity : ℕ) → 1 ≤ price orders capacity
price_above orders capacity = omega (
  arith,
  mul-le-mul_left (4 * orders + 4) (term-le-sum (capacity + 1) (choose orders) 0 (omega arith)),
  choose_none orders,
)

-- the tree of a search is right, and has this bound
pub search_bound : (wave : WavePicks) (capacity bound : ℕ) (shares : List ℕ) (branch : Branch) → AreShares wave capacity shares
    → IsBranch wave (no_pairs wave capacity) (sum shares) branch → bound_of (units_of (sum shares)) branch ≡ Some bound
    → IsBoundOf wave capacity (plain_tree (nodes_of branch)) bound
search_bound wave capacity bound shares branch are is at = (
  1,
  sum shares,
  refl,
  (shares, are, refl),
  subst (λ (b : Option ℕ). IsRight (plain_terms wave) (no_pairs wave capacity) (sum shares) (nodes_of branch) [] b) at
      (subst (λ (nodes : List Node). IsRight (plain_terms wave) (no_pairs wave capacity) (sum shares) nodes [] (bound_of (units_of (sum shares)) branch))
      (append-nil (nodes_of branch)) (right_nodes wave (no_pairs wave capacity) (sum shares) branch is [])),
)

-- so it has a bound
pub search_has_bound : (wave : WavePicks) (capacity shares : ℕ) (branch : Branch) → IsWave wave → 1 ≤ capacity
    → IsBranch wave (no_pairs wave capacity) shares branch → IsSome (bound_of (units_of shares) branch)
search_has_bound wave capacity shares branch valid some is =
    is_some (bound_of (units_of shares) branch) (right_has_bound (plain_terms wave) capacity shares (nodes_of branch ++ []) []
    (bound_of (units_of shares) branch) valid some (right_nodes wave (no_pairs wave capacity) shares branch is []))
  where
    is_some : (bound : Option ℕ) → IsThere bound → IsSome bound
    is_some None there = absurd there
    is_some (Some bound) there = refl

-- a search that begins with one leaf, which keeps the share duals, and has spent nothing
pub start_search : (wave : WavePicks) (capacity budget shares : ℕ) (best : BestBatching) → IsBest wave capacity best
    → IsSearch wave capacity shares (record { tree = Leaf None; best = best; budget = budget; spent = 0 })
start_search wave capacity budget shares best is = record {
  best = is;
  right = _;
  paid = omega arith;
  within = omega arith;
  cuts = λ bound at. _;
}

-- a search whose best batching costs no more than the tree's bound has ended
pub cost_reached : (wave : WavePicks) (capacity bound : ℕ) (shares : List ℕ) (search : TreeSearch) → 1 ≤ capacity → AreShares wave capacity shares
    → IsSearch wave capacity (sum shares) search → bound_of (units_of (sum shares)) search.tree ≡ Some bound → search.best.cost ≤ bound
    → HasEnded wave capacity (sum shares) search
cost_reached wave capacity bound shares search some are is at low =
    let least = bounds_hold wave capacity (plain_tree (nodes_of search.tree)) bound some
    (search_bound wave capacity bound shares search.tree are is.right at) in
    let same : bound ≡ search.best.cost = omega (
      arith,
      low,
      least search.best.batching search.best.cost is.best.proper.batching is.best.cost,
    ) in
    inr (at ∙ ap (λ (k : ℕ). Some k) same)

module _ (wave : WavePicks) (capacity shares bound : ℕ) (pays : Bool) (before : TreeSearch) (tree : Branch) (turn : LeafTurn)
    (is : IsSearch wave capacity shares before)
    (at : bound_of (units_of shares) before.tree ≡ Some bound)
    (turned : IsTurned wave (no_pairs wave capacity) shares pays bound before.tree tree turn) where
  cuts_after : (new : ℕ) → bound_of (units_of shares) tree ≡ Some new → AreCutsWithin new tree
  cuts_after new is_new =
      let up : bound ≤ new = rw (at, is_new) at turned.risen in
      turned.cuts new up (cuts_rise bound new before.tree up (is.cuts bound at))

  -- after a turn the tree is right, and what it has spent is the price of its nodes
  search_after : (after : TreeSearch) → after.tree ≡ tree → IsBest wave capacity after.best
      → after.spent ≡ before.spent + made_by turn * price (length wave.orders) capacity → after.spent ≤ before.budget → after.budget ≡ before.budget
      → IsSearch wave capacity shares after
  search_after after same best spent within budget = record {
    best = best;
    right = rw same turned.right;
    paid = rw same (omega (
      arith,
      spent,
      is.paid,
      ap (λ (k : ℕ). k * price (length wave.orders) capacity) turned.made,
    ));
    within = omega (arith, within, budget);
    cuts = λ new is_new. rw same (cuts_after new (rw same at is_new));
  }

  -- a turn that gave a node duals of its own
  pub paid_onward : (after : TreeSearch) (found : Option (List (List ℕ))) → turn ≡ Made found → after.tree ≡ tree → IsBest wave capacity after.best
      → after.spent ≡ before.spent + price (length wave.orders) capacity → before.spent + price (length wave.orders) capacity ≤ before.budget
      → after.budget ≡ before.budget → IsOnward wave capacity shares before after true
  paid_onward after found made same best spent enough budget =
      let reason = rw made at turned.reason in
      let one : made_by turn ≡ 1 = ap made_by made in record {
        search = search_after after same best (omega (arith, spent, ap (λ (k : ℕ). k * price (length wave.orders) capacity) one)) (omega (arith, spent, enough))
            budget;
        budget = budget;
        fewer = λ _. omega (
          arith,
          spent,
          enough,
          budget,
          price_above (length wave.orders) capacity,
          reason.2,
          ap turns_left same,
        );
        ended = λ no. absurd (cc);
      }

  -- a turn that split a leaf, or found it dead
  pub split_onward : (after : TreeSearch) → turn ≡ Onward → after.tree ≡ tree → IsBest wave capacity after.best → after.spent ≡ before.spent
      → after.budget ≡ before.budget → IsOnward wave capacity shares before after true
  split_onward after made same best spent budget =
      let reason = rw made at turned.reason in
      let none : made_by turn ≡ 0 = ap made_by made in record {
        search = search_after after same best (omega (arith, spent, ap (λ (k : ℕ). k * price (length wave.orders) capacity) none))
            (omega (arith, spent, is.within)) budget;
        budget = budget;
        fewer = λ _. omega (arith, spent, budget, reason, ap turns_left same);
        ended = λ no. absurd (cc);
      }

  -- a turn at a leaf for which the budget doesn't pay
  pub spent_ended : (after : TreeSearch) → turn ≡ Spent → after.tree ≡ tree → IsBest wave capacity after.best → after.spent ≡ before.spent
      → after.budget ≡ before.budget → before.budget - before.spent < price (length wave.orders) capacity
      → IsOnward wave capacity shares before after false
  spent_ended after made same best spent budget short =
      let none : made_by turn ≡ 0 = ap made_by made in record {
        search = search_after after same best (omega (arith, spent, ap (λ (k : ℕ). k * price (length wave.orders) capacity) none))
            (omega (arith, spent, is.within)) budget;
        budget = budget;
        fewer = λ no. absurd (cc);
        ended = λ _. inl (omega (arith, spent, budget, short));
      }

  -- a turn at a leaf where all pairs are decided
  pub settled_ended : (after : TreeSearch) (batching : List (List ℕ)) → turn ≡ Settled batching → after.tree ≡ tree → IsBest wave capacity after.best
      → after.best.batching ≡ batching → after.spent ≡ before.spent → after.budget ≡ before.budget → IsOnward wave capacity shares before after false
  settled_ended after batching made same best taken spent budget =
      let reason = rw made at turned.reason in
      let none : made_by turn ≡ 0 = ap made_by made in
      let leaves : LeavesBound turn = rw made tt in record {
        search = search_after after same best (omega (arith, spent, ap (λ (k : ℕ). k * price (length wave.orders) capacity) none))
            (omega (arith, spent, is.within)) budget;
        budget = budget;
        fewer = λ no. absurd (cc);
        ended = λ _. inr (rw same (turned.still leaves ∙ (at ∙ ap (λ (k : ℕ). Some k)
            (one_cost wave batching bound after.best.cost reason.cost (rw taken at best.cost)))));
      }

-- a batching that costs the bound of a search's tree gains by no join
pub settled_proper : (wave : WavePicks) (capacity bound : ℕ) (shares : List ℕ) (tree : Branch) (batching : List (List ℕ)) → IsWave wave → 1 ≤ capacity
    → AreShares wave capacity shares → IsBranch wave (no_pairs wave capacity) (sum shares) tree
    → bound_of (units_of (sum shares)) tree ≡ Some bound → IsSettled wave capacity bound batching → IsProper wave capacity batching
settled_proper wave capacity bound shares tree batching valid some are is at settled = record {
  batching = settled.batching;
  listed = settled.listed;
  joined = optimal_joins wave capacity batching bound valid settled.batching settled.cost
      (bounds_hold wave capacity (plain_tree (nodes_of tree)) bound some (search_bound wave capacity bound shares tree are is at));
}

-- a batching that costs the bound of a search's tree is cheaper than one that costs more
pub settled_cheaper : (wave : WavePicks) (capacity bound cost : ℕ) (best : BestBatching) (batching : List (List ℕ)) → IsSettled wave capacity bound batching
    → IsBest wave capacity best → best.batching ≡ batching → bound < cost → best.cost < cost
settled_cheaper wave capacity bound cost best batching settled is taken dearer =
    omega (arith, dearer, one_cost wave batching bound best.cost settled.cost (rw taken at is.cost))
