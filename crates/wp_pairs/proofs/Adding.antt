-- With a further pair, what is kept is right.
use Rattle.std.proofs.Common.{◌≡◌, ℕ, ◌<◌, ◌↔◌, Bool, true, false, List, [], ◌∷◌, ◌++◌, Contains, refl, sym, subst}
use Rattle.wp_pairs.specs.declared.pair.OrderPair.{OrderPair}
use Rattle.wp_pairs.specs.Kept.{ArePartners, listed_for}
use Rattle.wp_pairs.specs.Permitted.{AreJoined, AreParted, Pairing}
use Rattle.wp_pairs.proofs.FurtherPairs.{still_never_both}
use Rattle.wp_pairs.proofs.KeptPairs.{AddsPair, Settles, further, joins_apart, joins_together, parts_apart, parts_together, still_valid, with_pair}
use Rattle.wp_pairs.proofs.PairNumbers.{still_once}

-- with a further pair, what is kept is right
pub still_kept : (pairing : Pairing) (joined joined_after parted parted_after : List (List ℕ)) (new : OrderPair) → AddsPair pairing joined parted new
    → Settles joined joined_after parted parted_after new → ArePartners (with_pair pairing new) joined_after parted_after
still_kept pairing joined joined_after parted parted_after new adds does = record {
  valid = still_valid adds;
  joins = go_joins new.together refl;
  parts = go_parts new.together refl;
  never_both = λ a b. still_never_both pairing.pairs new a b (further adds);
  once = still_once adds;
}
  where
    go_joins : (kind : Bool) → new.together ≡ kind → (order other : ℕ) → order < pairing.orders
        → (Contains (listed_for joined_after order) other ↔ AreJoined (pairing.pairs ++ new ∷ []) order other)
    go_joins true e = joins_together pairing joined joined_after parted parted_after new adds e (does.joins e)
    go_joins false e = subst (λ (rows : List (List ℕ)). (order other : ℕ) → order < pairing.orders
        → (Contains (listed_for rows order) other ↔ AreJoined (pairing.pairs ++ new ∷ []) order other)) (sym (does.keeps e))
        (joins_apart pairing joined parted parted_after new adds e (does.parts e))

    go_parts : (kind : Bool) → new.together ≡ kind → (order other : ℕ) → order < pairing.orders
        → (Contains (listed_for parted_after order) other ↔ AreParted (pairing.pairs ++ new ∷ []) order other)
    go_parts true e = parts_together pairing joined joined_after parted parted_after new adds e (does.joins e)
    go_parts false e = parts_apart pairing joined parted parted_after new adds e (does.parts e)
