-- Turns at leaves and at nodes that are split.
use Rattle.std.proofs.Common.{◌≡◌, ℕ, ◌+◌, ◌≤◌, ◌⊎◌, Bool, true, false, List, [], ◌∷◌, ◌++◌, length, arith, refl, ap, sym, ◌∙◌, subst, ⊎_elim}
use Rattle.std.proofs.Math.Nat.{le-min, min-eq_left, min-le_left, min-le_right}
use Rattle.std.proofs.lemmas.List.Elements.{All-nil, Contains-append_left}
use Rattle.std.specs.Prelude.{IfOk, Option, Some, None, Result, Ok, Err, min, sum}
use Rattle.wp_model.specs.declared.memory.Memory.{Memory}
use Rattle.wp_pairs.specs.declared.pair.OrderPair.{OrderPair}
use Rattle.wp_pairs.specs.Permitted.{AreUndecided, IsPermitted, Pairing}
use Rattle.wp_lengths.specs.Waves.{WavePicks}
use Rattle.wp_cert.specs.Trees.{IsRightOwn, lower_of, with_pair}
use Rattle.wp_cuts.proofs.PlainPrices.{plain_prices_say}
use Rattle.wp_cuts.specs.Prices.{ArePlain}
use Rattle.wp_lengths.specs.Duals.{AreFeasible, AreTight, units_of}
use Rattle.wp_search.specs.Branches.{IsBranch, IsFreshSplit, IsWorked, bound_of, own_bound, turns_left}
use Rattle.wp_search.specs.Turns.{HasReason, IsNoLower, IsTurned}
use Rattle.wp_search.specs.declared.branch.Branch.{Branch}
use Rattle.wp_search.specs.declared.branch.Branch.TheVariants.{Leaf, Dead, Split'}
use Rattle.wp_search.specs.declared.branch.Cut.{Cut}
use Rattle.wp_search.specs.declared.turn.LeafTurn.{LeafTurn}
use Rattle.wp_search.specs.declared.turn.LeafTurn.TheVariants.{Onward, Settled, Spent, Worked as Made}
use Rattle.wp_search.specs.declared.turn.TurnedBranch.{TurnedBranch}
use Rattle.wp_node.specs.declared.own.NodeOwn.{NodeOwn}
use Rattle.wp_node.specs.declared.work.Worked.{Worked}
use Rattle.wp_node.specs.Owns.{as_own}
use Rattle.wp_node.specs.Raises.{AreFeasibleDuals}
use Rattle.wp_cert.specs.Terms.{plain_terms, prices_of}
use Rattle.wp_node.proofs.Owns.{plain_net, right_below}

-- what a node has of its own are plain prices
plain_own : (own : NodeOwn) → ArePlain (prices_of (as_own own))
plain_own own = record { count = refl; cuts = All-nil (λ (price : ℕ). price ≡ 0) }

-- so its duals are feasible and tight
pub own_feasible : (wave : WavePicks) (pairing : Pairing) (above : ℕ) (own : NodeOwn) → IsRightOwn (plain_terms wave) pairing above (as_own own)
    → AreFeasible wave pairing own.duals
own_feasible wave pairing above own right = (plain_prices_say wave pairing [] (prices_of (as_own own)) (plain_own own)).feasible.0 right.feasible

pub own_tight : (wave : WavePicks) (pairing : Pairing) (above : ℕ) (own : NodeOwn) → IsRightOwn (plain_terms wave) pairing above (as_own own)
    → AreTight wave pairing own.duals
own_tight wave pairing above own right = (plain_prices_say wave pairing [] (prices_of (as_own own)) (plain_own own)).tight.0 right.tight

-- what is permitted with a further pair is permitted without it
pub permitted_before : (pairing : Pairing) (new : OrderPair) (batch : List ℕ)
    → IsPermitted (record { orders = pairing.orders; capacity = pairing.capacity; cart = pairing.cart; pairs = pairing.pairs ++ new ∷ [] }) batch
    → IsPermitted pairing batch
permitted_before pairing new batch p = record {
  ascending = p.ascending;
  filled = p.filled;
  fits = p.fits;
  light = p.light;
  known = p.known;
  together = λ pair has. p.together pair (Contains-append_left pairing.pairs (new ∷ []) pair has);
  apart = λ pair has. p.apart pair (Contains-append_left pairing.pairs (new ∷ []) pair has);
}

-- so duals that are feasible without it are feasible with it
pub feasible_below : (wave : WavePicks) (pairing : Pairing) (new : OrderPair) (duals : List ℕ) → AreFeasible wave pairing duals
    → AreFeasible wave (record { orders = pairing.orders; capacity = pairing.capacity; cart = pairing.cart; pairs = pairing.pairs ++ new ∷ [] }) duals
feasible_below wave pairing new duals feasible = λ batch total permitted long. feasible batch total (permitted_before pairing new batch permitted) long

-- and so they may stand above a node below it
pub feasible_duals_below : (wave : WavePicks) (pairing : Pairing) (new : OrderPair) (duals : List ℕ) → length duals ≡ length wave.orders
    → AreFeasible wave pairing duals
    → AreFeasibleDuals wave (record { orders = pairing.orders; capacity = pairing.capacity; cart = pairing.cart; pairs = pairing.pairs ++ new ∷ [] }) duals
feasible_duals_below wave pairing new duals count feasible = record { count = count; feasible = feasible_below wave pairing new duals feasible }

-- what a node has of its own is right below less
pub worked_below : (wave : WavePicks) (pairing : Pairing) (low high : ℕ) (worked : Worked) → low ≤ high → IsWorked wave pairing high worked
    → IsWorked wave pairing low worked
worked_below wave pairing low high worked less is = record {
  right = right_below (plain_terms wave) pairing low high (as_own worked.own) less is.right;
  duals = is.duals;
  short = is.short;
}

-- and below all that its duals come to at least
pub worked_at : (wave : WavePicks) (pairing : Pairing) (above : ℕ) (worked : Worked) → above ≤ sum worked.own.duals → IsWorked wave pairing 0 worked
    → IsWorked wave pairing above worked
worked_at wave pairing above worked less is = record {
  right = record {
    all = is.right.all;
    allowed = is.right.allowed;
    raised = omega (arith, less, plain_net wave worked.own);
    feasible = is.right.feasible;
    tight = is.right.tight;
    marked = is.right.marked;
    shown = is.right.shown;
  };
  duals = is.duals;
  short = is.short;
}

-- no bound is lower than itself
pub no_lower : (bound : Option ℕ) → IsNoLower bound bound
no_lower None = _
no_lower (Some bound) = omega arith

-- numbers that are equal as options
some_same : {a b : ℕ} → Some a ≡ Some b → a ≡ b
some_same same = cc

-- of two subtrees of which one's bound has not fallen, neither has the lower of the bounds
pub no_lower_left : (before after other : Option ℕ) → IsNoLower before after → IsNoLower (lower_of before other) (lower_of after other)
no_lower_left None None other up = no_lower other
no_lower_left (Some b) None None up = _
no_lower_left (Some b) None (Some o) up = min-le_right b o
no_lower_left None (Some a) other up = absurd up
no_lower_left (Some b) (Some a) None up = up
no_lower_left (Some b) (Some a) (Some o) up = le-min (omega (arith, min-le_left b o, up)) (min-le_right b o)

pub no_lower_right : (other before after : Option ℕ) → IsNoLower before after → IsNoLower (lower_of other before) (lower_of other after)
no_lower_right None before after up = up
no_lower_right (Some o) None None up = omega arith
no_lower_right (Some o) (Some b) None up = min-le_left o b
no_lower_right (Some o) None (Some a) up = absurd up
no_lower_right (Some o) (Some b) (Some a) up = le-min (min-le_left o b) (omega (arith, min-le_right o b, up))

-- where the lower of two bounds isn't the first, it is the second
pub other_least : (left right : Option ℕ) (least : ℕ) → lower_of left right ≡ Some least → (left ≡ Some least → ⊥) → right ≡ Some least
other_least None right least is none = is
other_least (Some l) None least is none = absurd (none is)
other_least (Some l) (Some r) least is none = ⊎_elim (λ (low : l ≤ r). absurd (none (ap (λ (k : ℕ). Some k) (sym (min-eq_left low)) ∙ is)))
    (λ (low : r ≤ l). ap (λ (k : ℕ). Some k) (sym (lower l r low)) ∙ is) (either l r)
  where
    either : (l r : ℕ) → (l ≤ r) ⊎ (r ≤ l)
    either l r = grind arith

    lower : (l r : ℕ) → r ≤ l → min l r ≡ r
    lower l r low = omega (arith, le-min {k = r} {a = l} {b = r} low (omega arith), min-le_right l r)

-- a leaf that is split on an undecided pair
pub split_turned : (wave : WavePicks) (pairing : Pairing) (above : ℕ) (pays : Bool) (worked : Worked) (first second : ℕ) (after : Branch)
    → IsWorked wave pairing above worked → AreUndecided pairing first second
    → IsFreshSplit (record { first = first; second = second; worked = worked; least = Some (own_bound worked) }) after
    → IsTurned wave pairing above pays (own_bound worked) (Leaf (Some worked)) after Onward
split_turned wave pairing above pays worked first second (Split' this p together q apart) is parts fresh =
    rw (fresh.0, fresh.1, fresh.2) (record {
      right = (record { worked = is; parts = parts }, same_least (own_bound worked), _, _);
      first = _;
      risen = le-min {k = own_bound worked} (omega arith) (omega arith);
      still = λ none. absurd none;
      made = refl;
      cuts = λ bound low within. (low, _, _);
      reason = omega arith;
    })
  where
    same_least : (bound : ℕ) → Some bound ≡ Some (min bound bound)
    same_least bound = ap (λ (k : ℕ). Some k) (sym (min-eq_left {n = bound} (omega arith)))
split_turned wave pairing above pays worked first second (Leaf leaf) is parts fresh = absurd fresh
split_turned wave pairing above pays worked first second (Dead order) is parts fresh = absurd fresh

-- the reason of a turn in a part of a subtree is a reason for the whole
reason_within : (wave : WavePicks) (capacity : ℕ) (pays : Bool) (least : ℕ) (before after whole changed : Branch) (turn : LeafTurn)
    → turns_left changed + turns_left before ≡ turns_left whole + turns_left after → HasReason wave capacity pays least before after turn
    → HasReason wave capacity pays least whole changed turn
reason_within wave capacity pays least before after whole changed (Made found) same reason = (reason.0, reason.1, omega (arith, same, reason.2))
reason_within wave capacity pays least before after whole changed Onward same reason = omega (arith, same, reason)
reason_within wave capacity pays least before after whole changed Spent same reason = reason
reason_within wave capacity pays least before after whole changed (Settled batching) same reason = reason

-- a node that is split keeps the least bound of two subtrees
abbrev pub kept_least : Cut → Branch → Branch → Cut
kept_least cut together apart = record {
  first = cut.first;
  second = cut.second;
  worked = cut.worked;
  least = lower_of (bound_of (own_bound cut.worked) together) (bound_of (own_bound cut.worked) apart);
}

module _ (wave : WavePicks) (pairing : Pairing) (above : ℕ) (pays : Bool) (least : ℕ) (cut cut_after : Cut) (together apart after : Branch)
    (turn : LeafTurn) where
  more_left : turns_left after + turns_left apart + turns_left together ≡ turns_left together + turns_left apart + turns_left after
  more_left = omega arith

  more_right : turns_left together + turns_left after + turns_left apart ≡ turns_left together + turns_left apart + turns_left after
  more_right = omega arith

  -- a turn in the subtree where the pair goes together
  pub turned_together : {p q r s : _} → IsBranch wave pairing above (Split' cut p together q apart) → cut_after ≡ kept_least cut after apart
      → bound_of (own_bound cut.worked) together ≡ Some least
      → IsTurned wave (with_pair pairing cut.first cut.second true) (sum cut.worked.own.duals) pays least together after turn
      → IsTurned wave pairing above pays least (Split' cut p together q apart) (Split' cut_after r after s apart) turn
  turned_together {p = p} {q = q} {r = r} {s = s} is kept low turned =
      subst (λ (new : Cut). IsTurned wave pairing above pays least (Split' cut p together q apart) (Split' new r after s apart) turn) (sym kept) (record {
        right = (record { worked = is.0.worked; parts = is.0.parts }, refl, turned.right, is.3);
        first = (λ here. (refl, turned.first), λ elsewhere. absurd (elsewhere low));
        risen = no_lower_left _ _ _ turned.risen;
        still = λ leaves. ap (λ (b : Option ℕ). lower_of b (bound_of (own_bound cut.worked) apart)) (turned.still leaves);
        made = omega (arith, turned.made);
        cuts = λ bound low within. (within.0, turned.cuts bound low within.1, within.2);
        reason = reason_within wave pairing.capacity pays least together after (Split' cut p together q apart)
            (Split' (kept_least cut after apart) r after s apart) turn more_left turned.reason;
      })

  -- a turn in the subtree where it goes apart
  pub turned_apart : {p q r s : _} → IsBranch wave pairing above (Split' cut p together q apart) → cut_after ≡ kept_least cut together after
      → (bound_of (own_bound cut.worked) together ≡ Some least → ⊥)
      → IsTurned wave (with_pair pairing cut.first cut.second false) (sum cut.worked.own.duals) pays least apart after turn
      → IsTurned wave pairing above pays least (Split' cut p together q apart) (Split' cut_after r together s after) turn
  turned_apart {p = p} {q = q} {r = r} {s = s} is kept high turned =
      subst (λ (new : Cut). IsTurned wave pairing above pays least (Split' cut p together q apart) (Split' new r together s after) turn) (sym kept) (record {
        right = (record { worked = is.0.worked; parts = is.0.parts }, refl, is.2, turned.right);
        first = (λ here. absurd (high here), λ elsewhere. (refl, turned.first));
        risen = no_lower_right _ _ _ turned.risen;
        still = λ leaves. ap (λ (b : Option ℕ). lower_of (bound_of (own_bound cut.worked) together) b) (turned.still leaves);
        made = omega (arith, turned.made);
        cuts = λ bound low within. (within.0, within.1, turned.cuts bound low within.2);
        reason = reason_within wave pairing.capacity pays least apart after (Split' cut p together q apart)
            (Split' (kept_least cut together after) r together s after) turn more_right turned.reason;
      })

-- a turn at a leaf that keeps the duals above it
pub kept_turned : (wave : WavePicks) (built pairing : Pairing) (above : ℕ) (pays : Bool) (leaf : Option Worked) (result : Result TurnedBranch Memory)
    → built ≡ pairing
    → leaf ≡ None → IfOk result (λ turned. IsTurned wave built above pays (units_of above) (Leaf None) turned.branch turned.turn)
    → IfOk result (λ turned. (least : ℕ) → bound_of (units_of above) (Leaf leaf) ≡ Some least
    → IsTurned wave pairing above pays least (Leaf leaf) turned.branch turned.turn)
kept_turned wave built pairing above pays leaf (Ok turned) same none is = rw none (λ least bound.
    subst (λ (k : ℕ). IsTurned wave pairing above pays k (Leaf None) turned.branch turned.turn) (some_same bound)
    (subst (λ (p : Pairing). IsTurned wave p above pays (units_of above) (Leaf None) turned.branch turned.turn) same is))
kept_turned wave built pairing above pays leaf (Err fault) same none is = is

-- a turn at a leaf with duals of its own
pub worked_turned : (wave : WavePicks) (built pairing : Pairing) (above : ℕ) (pays : Bool) (leaf : Option Worked) (worked : Worked)
    (result : Result TurnedBranch Memory) → built ≡ pairing → leaf ≡ Some worked → above ≤ sum worked.own.duals
    → IfOk result (λ turned. (above : ℕ) → above ≤ sum worked.own.duals
    → IsTurned wave built above pays (own_bound worked) (Leaf (Some worked)) turned.branch turned.turn)
    → IfOk result (λ turned. (least : ℕ) → bound_of (units_of above) (Leaf leaf) ≡ Some least
    → IsTurned wave pairing above pays least (Leaf leaf) turned.branch turned.turn)
worked_turned wave built pairing above pays leaf worked (Ok turned) same some less is = rw some (λ least bound.
    subst (λ (k : ℕ). IsTurned wave pairing above pays k (Leaf (Some worked)) turned.branch turned.turn) (some_same bound)
    (subst (λ (p : Pairing). IsTurned wave p above pays (own_bound worked) (Leaf (Some worked)) turned.branch turned.turn) same (is above less)))
worked_turned wave built pairing above pays leaf worked (Err fault) same some less is = is
