-- A right tree has a leaf that isn't dead: a split has tight duals, so each order is in some permitted batch, and it still is where two more orders go apart.
use Rattle.std.proofs.Common.{◌≡◌, ◌≢◌, ℕ, ◌<◌, ◌≤◌, ◌↔◌, true, false, List, [], ◌∷◌, ◌++◌, length, arith, refl, ap, sym, ◌∙◌, subst, inl, inr, ◌⊎◌}
use Rattle.std.proofs.Common.{⊎_elim, Contains}
use Rattle.std.specs.Prelude.{Option, Some, None}
use Rattle.std.specs.List.Sorted.{IsStrictlyIncreasing}
use Rattle.std.proofs.lemmas.Bool.{cases_eq, false≢true}
use Rattle.std.proofs.lemmas.List.Elements.{All-contains, Contains-push_cases}
use Rattle.wp_pairs.specs.declared.pair.OrderPair.{OrderPair}
use Rattle.wp_pairs.specs.Permitted.{AreJoined, ArePair, AreUndecided, IsHeld, Pairing, itself, onward}
use Rattle.wp_pairs.proofs.Chains.{joined_back, joined_before, joined_more, joined_on}
use Rattle.wp_pairs.proofs.Classes.{head_below, joined_in, no_longer, part_fits, tail_ascends}
use Rattle.wp_pairs.proofs.Members.{ascending_cons, contains_cases, contains_first, contains_later, contains_none}
use Rattle.wp_lengths.specs.Batchings.{no_pairs}
use Rattle.wp_lengths.specs.Waves.{IsWave, WavePicks}
use Rattle.wp_lengths.proofs.NoPairs.{alone_fits}
use Rattle.wp_lengths.proofs.Unions.{all_from_contained}
use Rattle.wp_cert.specs.declared.tree.Node.{Node}
use Rattle.wp_cert.specs.Terms.{Terms, net_of}
use Rattle.wp_cert.specs.Trees.{IsRight, dead, kept, leaf, lower_of, split, with_pair}
use Rattle.wp_lengths.proofs.Ascending.{only_one, single_ascends}

-- of any two orders it is known whether they are joined
abbrev pub AreTold : List OrderPair → Type 0
AreTold pairs = (a b : ℕ) → AreJoined pairs a b ⊎ (AreJoined pairs a b → ⊥)

-- with no pair, an order is joined to itself alone
pub told_of_none : AreTold []
told_of_none = λ a b. ⊎_elim (λ (e : a ≡ b). inl (subst (λ (x : ℕ). AreJoined [] a x) e itself)) (λ (ne : a ≢ b). inr (λ j. ne (same a b j))) (cases_eq a b)
  where
    same : (a b : ℕ) → AreJoined [] a b → a ≡ b
    same a _ itself = refl
    same a b (onward {next} t p) = absurd (omega (arith, t.added.1))

-- with a further apart pair, it is known still
told_apart : (pairs : List OrderPair) (new : OrderPair) → new.together ≡ false → AreTold pairs
    → ((a b : ℕ) → AreJoined pairs a b → AreJoined (pairs ++ new ∷ []) a b)
    → AreTold (pairs ++ new ∷ [])
told_apart pairs new kind told more = λ a b. ⊎_elim (λ j. inl (more a b j)) (λ none. inr (λ j. none (joined_before pairs new a b kind j))) (told a b)

-- those of a list that are joined to an order
record AreChosen (pairs : List OrderPair) (order : ℕ) (xs : List ℕ) : Type 0 where
  chosen : List ℕ
  ascending : IsStrictlyIncreasing chosen
  exact : (x : ℕ) → Contains chosen x ↔ (Contains xs x × AreJoined pairs order x)

choose : (pairs : List OrderPair) (order : ℕ) (xs : List ℕ) → AreTold pairs → IsStrictlyIncreasing xs → AreChosen pairs order xs
choose pairs order [] told up = record {
  chosen = [];
  ascending = up;
  exact = λ x. (λ has. absurd (contains_none x has), λ both. absurd (contains_none x both.0));
}
choose pairs order (y ∷ ys) told up =
    let rest = choose pairs order ys told (tail_ascends y ys up) in
    ⊎_elim
    (λ (j : AreJoined pairs order y). record {
      chosen = y ∷ rest.chosen;
      ascending = ascending_cons y rest.chosen (λ x has. head_below y ys up x ((rest.exact x).0 has).0) rest.ascending;
      exact = λ x. (
        λ has. ⊎_elim
            (λ (e : y ≡ x). (subst (λ (k : ℕ). Contains (y ∷ ys) k) e (contains_first y ys), subst (λ (k : ℕ). AreJoined pairs order k) e j))
            (λ later. let both = (rest.exact x).0 later in (contains_later y x ys both.0, both.1)) (contains_cases y x rest.chosen has),
        λ both. ⊎_elim (λ (e : y ≡ x). subst (λ (k : ℕ). Contains (y ∷ rest.chosen) k) e (contains_first y rest.chosen))
            (λ later. contains_later y x rest.chosen ((rest.exact x).1 (later, both.1))) (contains_cases y x ys both.0),
      );
    })
    (λ (none : AreJoined pairs order y → ⊥). record {
      chosen = rest.chosen;
      ascending = rest.ascending;
      exact = λ x. (
        λ has. let both = (rest.exact x).0 has in (contains_later y x ys both.0, both.1),
        λ both. ⊎_elim (λ (e : y ≡ x). absurd (none (subst (λ (k : ℕ). AreJoined pairs order k) (sym e) both.1)))
            (λ later. (rest.exact x).1 (later, both.1)) (contains_cases y x ys both.0),
      );
    })
    (told order y)

-- each order that a permitted batch has is in one still, where two undecided orders go apart
held_apart : (pairing : Pairing) (first second order : ℕ) → AreTold pairing.pairs → AreUndecided pairing first second → IsHeld pairing order
    → IsHeld (with_pair pairing first second false) order
held_apart pairing first second order told parts held =
    let batch = held.0 in
    let c = choose pairing.pairs order batch told held.1.ascending in
    let new : OrderPair = record { first = first; second = second; together = false } in
    let within = λ (x : ℕ) (has : Contains c.chosen x). ((c.exact x).0 has).0 in
    let here : Contains c.chosen order = (c.exact order).1 (held.2, itself) in
    let linked = λ (x y : ℕ) (l : Contains c.chosen x) (t : ArePair pairing.pairs true x y). (c.exact y).1 (
      joined_in pairing batch x y held.1 (onward t itself) (within x l),
      joined_on ((c.exact x).0 l).1 (onward t itself),
    ) in (
      c.chosen,
      record {
        ascending = c.ascending;
        filled = omega (arith, here.1);
        fits = omega (arith, no_longer c.chosen batch c.ascending held.1.ascending within, held.1.fits);
        light = part_fits pairing.cart c.chosen batch c.ascending held.1.ascending within held.1.light;
        known = all_from_contained (λ o. o < pairing.orders) c.chosen (λ x has. All-contains (λ o. o < pairing.orders) batch x held.1.known (within x has));
        together = λ pair added kind. ⊎_elim
            (λ old. (
              λ l. linked pair.first pair.second l (record { pair = pair; added = old; kind = kind; both = inl (refl, refl) }),
              λ r. linked pair.second pair.first r (record { pair = pair; added = old; kind = kind; both = inr (refl, refl) }),
            ))
            (λ (e : new ≡ pair). absurd (false≢true (ap (λ (p : OrderPair). p.together) e ∙ kind))) (Contains-push_cases pairing.pairs new pair added);
        apart = λ pair added kind both. ⊎_elim (λ old. held.1.apart pair old kind (within pair.first both.0, within pair.second both.1))
            (λ (e : new ≡ pair).
            let l = subst (λ (p : OrderPair). AreJoined pairing.pairs order p.first) (sym e) ((c.exact pair.first).0 both.0).1 in
            let r = subst (λ (p : OrderPair). AreJoined pairing.pairs order p.second) (sym e) ((c.exact pair.second).0 both.1).1 in
            parts.open_ (inl (joined_on (joined_back l) r))) (Contains-push_cases pairing.pairs new pair added);
      },
      here,
    )

-- there is a bound
abbrev pub HasBound : Option ℕ → Type 0
HasBound None = ⊥
HasBound (Some bound) = Unit {0}

bound_from : (left right : Option ℕ) → HasBound right → HasBound (lower_of left right)
bound_from None right has = has
bound_from (Some l) None has = tt
bound_from (Some l) (Some r) has = tt

-- a right tree has one, where each order is in some permitted batch
pub tree_alive : (terms : Terms) (pairing : Pairing) (above : ℕ) (nodes rest : List Node) (bound : Option ℕ) → IsRight terms pairing above nodes rest bound
    → AreTold pairing.pairs → ((order : ℕ) → order < pairing.orders → IsHeld pairing order) → HasBound bound
tree_alive terms pairing above _ rest _ (kept rounded) told held = tt
tree_alive terms pairing above _ rest _ (leaf own rounded) told held = tt
tree_alive terms pairing above _ rest _ (dead {order} is) told held = let h = held order is.known in is.unheld h.0 h.1 h.2
tree_alive terms pairing above _ rest _ (split {first} {second} {own} {nodes} {between} {left} {right} own_right parts l r) told held =
    let new : OrderPair = record { first = first; second = second; together = false } in
    bound_from left right (tree_alive terms (with_pair pairing first second false) (net_of terms own) between rest right r
    (told_apart pairing.pairs new refl told (λ a b j. joined_more pairing.pairs new a b j)) (λ order low. held_apart pairing first second order told parts
    (held order low)))

-- with no pair, each order is in some permitted batch
held_alone : (wave : WavePicks) (capacity order : ℕ) → IsWave wave → 1 ≤ capacity → order < length wave.orders → IsHeld (no_pairs wave capacity) order
held_alone wave capacity order is some low = (
  order ∷ [],
  record {
    ascending = single_ascends order;
    filled = omega arith;
    fits = omega (arith, some);
    light = alone_fits wave.cart (length wave.orders) (order ∷ []) order is.cart low (single_ascends order) (λ x has. sym (only_one order x has));
    known = all_from_contained (λ o. o < length wave.orders) (order ∷ []) (λ x has. omega (arith, only_one order x has, low));
    together = λ pair added kind. absurd (omega (arith, added.1));
    apart = λ pair added kind both. omega (arith, added.1);
  },
  contains_first order [],
)

-- a right tree of a wave has a bound
pub right_has_bound : (terms : Terms) (capacity above : ℕ) (nodes rest : List Node) (bound : Option ℕ) → IsWave terms.wave → 1 ≤ capacity
    → IsRight terms (no_pairs terms.wave capacity) above nodes rest bound → HasBound bound
right_has_bound terms capacity above nodes rest bound is some right =
    tree_alive terms (no_pairs terms.wave capacity) above nodes rest bound right told_of_none (λ order low. held_alone terms.wave capacity order is some low)
