-- What is kept stays right: no pair at first, one more together pair, one more apart pair.
use Rattle.std.proofs.Common.{◌≡◌, ℕ, ◌<◌, ◌≤◌, ◌↔◌, true, false, List, [], ◌∷◌, ◌++◌, replicate, arith, refl, sym, subst, inl, inr}
use Rattle.std.proofs.Common.{◌⊎◌, ⊎_elim, Contains, Option}
use Rattle.std.specs.List.{IsDistinct}
use Rattle.std.proofs.lemmas.Bool.{cases_eq, cases_lt}
use Rattle.std.proofs.lemmas.List.{get_or-replicate, get_or_past, length-replicate}
use Rattle.std.proofs.lemmas.List.Elements.{Contains-push_cases}
use Rattle.wp_pairs.specs.declared.pair.OrderPair.{OrderPair}
use Rattle.wp_pairs.specs.Carts.{IsCartFor, LoadedCart}
use Rattle.wp_pairs.specs.Kept.{ArePartners, IsListedForEither, IsPairing, JoinsClasses, PartsClasses, listed_for}
use Rattle.wp_pairs.specs.Permitted.{AreDecided, AreJoined, AreParted, AreUndecided, Pairing, itself, onward}
use Rattle.wp_pairs.proofs.Chains.{joined_back, joined_before, joined_more, joined_on, joined_same, parted_back, parted_more}
use Rattle.wp_pairs.proofs.FurtherPairs.{IsAway, IsFurther, IsNear, joined_elsewhere, joined_near, near_joined, near_not_away, near_parted, pair_parts}
use Rattle.wp_pairs.proofs.FurtherPairs.{parted_by_pair, parted_elsewhere, parted_near}
use Rattle.wp_pairs.proofs.Members.{contains_first, contains_later, contains_cases, contains_none}

-- an order is in a list or isn't
pub in_or_not : (xs : List ℕ) (x : ℕ) → Contains xs x ⊎ (Contains xs x → ⊥)
in_or_not [] x = inr (contains_none x)
in_or_not (y ∷ ys) x =
    ⊎_elim (λ e. inl (subst (λ (z : ℕ). Contains (y ∷ ys) z) e (contains_first y ys)))
    (λ ne. ⊎_elim (λ h. inl (contains_later y x ys h)) (λ none. inr (λ h. ⊎_elim (λ e. ne e) none (contains_cases y x ys h))) (in_or_not ys x)) (cases_eq y x)

-- rows of no order have none for any
pub none_listed : (n order : ℕ) → listed_for (replicate n []) order ≡ []
none_listed n order =
    ⊎_elim (λ (lt : order < n). get_or-replicate n order [] [] lt)
    (λ (past : n ≤ order). get_or_past (replicate n []) order [] (omega (arith, length-replicate {A = List ℕ} n []))) (cases_lt order n)

-- a pairing with one more pair
abbrev pub with_pair : Pairing → OrderPair → Pairing
with_pair pairing new = record {
  orders = pairing.orders;
  capacity = pairing.capacity;
  cart = pairing.cart;
  pairs = pairing.pairs ++ new ∷ [];
}

-- a further pair of orders of the wave, of which the kept rows tell nothing
pub record AddsPair (pairing : Pairing) (joined parted : List (List ℕ)) (new : OrderPair) : Type 0 where
  pub before : ArePartners pairing joined parted
  pub order : new.first < new.second
  pub known : new.second < pairing.orders
  pub open_ : AreDecided pairing.pairs new.first new.second → ⊥

-- such a pair is a further one
pub further : {pairing : Pairing} {joined parted : List (List ℕ)} {new : OrderPair} → AddsPair pairing joined parted new → IsFurther pairing.pairs new
further h = record { never_both = h.before.never_both; open_ = h.open_ }

-- with a further pair, the pairing is still in its ranges
pub still_valid : {pairing : Pairing} {joined parted : List (List ℕ)} {new : OrderPair} → AddsPair pairing joined parted new → IsPairing (with_pair pairing new)
still_valid {pairing} {joined} {parted} {new} h = record {
  some_orders = h.before.valid.some_orders;
  most_orders = h.before.valid.most_orders;
  some_capacity = h.before.valid.some_capacity;
  most_capacity = h.before.valid.most_capacity;
  cart = h.before.valid.cart;
  order = λ pair has. ⊎_elim (λ old. h.before.valid.order pair old) (λ (e : new ≡ pair). subst (λ (p : OrderPair). p.first < p.second) e h.order)
      (Contains-push_cases pairing.pairs new pair has);
  known = λ pair has. ⊎_elim (λ old. h.before.valid.known pair old) (λ (e : new ≡ pair). subst (λ (p : OrderPair). p.second < pairing.orders) e h.known)
      (Contains-push_cases pairing.pairs new pair has);
}

-- ---- a together pair

module _ (pairing : Pairing) (joined joined_after parted parted_after : List (List ℕ)) (new : OrderPair) (adds : AddsPair pairing joined parted new)
    (kind : new.together ≡ true) (does : JoinsClasses joined joined_after parted parted_after new.first new.second) where
  near_listed : (x : ℕ) → IsNear pairing.pairs new x → IsListedForEither joined new.first new.second x
  near_listed x = ⊎_elim (λ j. inl ((adds.before.joins new.first x (omega (arith, adds.order, adds.known))).1 j))
      (λ j. inr ((adds.before.joins new.second x adds.known).1 j))

  listed_near : (x : ℕ) → IsListedForEither joined new.first new.second x → IsNear pairing.pairs new x
  listed_near x = ⊎_elim (λ j. inl ((adds.before.joins new.first x (omega (arith, adds.order, adds.known))).0 j))
      (λ j. inr ((adds.before.joins new.second x adds.known).0 j))

  away_listed : (x : ℕ) → IsAway pairing.pairs new x → IsListedForEither parted new.first new.second x
  away_listed x = ⊎_elim (λ j. inl ((adds.before.parts new.first x (omega (arith, adds.order, adds.known))).1 j))
      (λ j. inr ((adds.before.parts new.second x adds.known).1 j))

  listed_away : (x : ℕ) → IsListedForEither parted new.first new.second x → IsAway pairing.pairs new x
  listed_away x = ⊎_elim (λ j. inl ((adds.before.parts new.first x (omega (arith, adds.order, adds.known))).0 j))
      (λ j. inr ((adds.before.parts new.second x adds.known).0 j))

  small : (order : ℕ) → order < pairing.orders → order < 64
  small order known = omega (arith, known, adds.before.valid.most_orders)

  either_or_not : (rows : List (List ℕ)) (x : ℕ) → IsListedForEither rows new.first new.second x ⊎ (IsListedForEither rows new.first new.second x → ⊥)
  either_or_not rows x = ⊎_elim (λ h. inl (inl h))
      (λ no. ⊎_elim (λ h. inl (inr h)) (λ none. inr (λ e. ⊎_elim no none e)) (in_or_not (listed_for rows new.second) x))
      (in_or_not (listed_for rows new.first) x)

  -- after the joining, each order lists those that are joined to it
  pub joins_together : (order other : ℕ) → order < pairing.orders
      → (Contains (listed_for joined_after order) other ↔ AreJoined (pairing.pairs ++ new ∷ []) order other)
  joins_together order other known = ⊎_elim
      (λ (l : IsListedForEither joined new.first new.second order). let n = listed_near order l in
      let is = does.class order other (small order known) l in (
        λ h. near_joined pairing.pairs new order other kind n (listed_near other (is.0 h)),
        λ j. is.1 (near_listed other (joined_near pairing.pairs new order other n j)),
      ))
      (λ no. let is = does.others order (small order known) no in let old = adds.before.joins order other known in
      let elsewhere : IsNear pairing.pairs new order → ⊥ = λ n. no (near_listed order n) in (
        λ h. joined_more pairing.pairs new order other (old.0 (subst (λ (xs : List ℕ). Contains xs other) is h)),
        λ j. subst (λ (xs : List ℕ). Contains xs other) (sym is) (old.1 (joined_elsewhere pairing.pairs new order other elsewhere j)),
      ))
      (either_or_not joined order)

  -- after the joining, each order lists those that are parted from it
  pub parts_together : (order other : ℕ) → order < pairing.orders
      → (Contains (listed_for parted_after order) other ↔ AreParted (pairing.pairs ++ new ∷ []) order other)
  parts_together order other known = ⊎_elim
      (λ (l : IsListedForEither joined new.first new.second order). let n = listed_near order l in
      let un = further adds in
      let is = does.parted_class order other (small order known) l (λ away. near_not_away pairing.pairs new order un n (listed_away order away)) in (
        λ h. near_parted pairing.pairs new order other kind n (listed_away other (is.0 h)),
        λ p. is.1 (away_listed other (parted_near pairing.pairs new order other kind un n p)),
      ))
      (λ no. let old = adds.before.parts order other known in
      let un = further adds in
      let elsewhere : IsNear pairing.pairs new order → ⊥ = λ n. no (near_listed order n) in
      ⊎_elim
      (λ (a : IsListedForEither parted new.first new.second order). let is = does.away order other (small order known) no a in (
        λ h. ⊎_elim (λ before. parted_more pairing.pairs new order other (old.0 before))
            (λ l. parted_back (near_parted pairing.pairs new other order kind (listed_near other l) (listed_away order a))) (is.0 h),
        λ p. is.1 (⊎_elim (λ q. inl (old.1 q)) (λ both. inr (near_listed other both.0))
            (parted_elsewhere pairing.pairs new order other kind un elsewhere p)),
      ))
      (λ none. let is = does.rest order (small order known) no none in (
        λ h. parted_more pairing.pairs new order other (old.0 (subst (λ (xs : List ℕ). Contains xs other) is h)),
        λ p. subst (λ (xs : List ℕ). Contains xs other) (sym is) (old.1 (⊎_elim (λ q. q) (λ both. absurd (none (away_listed order both.1)))
            (parted_elsewhere pairing.pairs new order other kind un elsewhere p))),
      ))
      (either_or_not parted order))
      (either_or_not joined order)

-- ---- an apart pair

module _ (pairing : Pairing) (joined parted parted_after : List (List ℕ)) (new : OrderPair) (adds : AddsPair pairing joined parted new)
    (kind : new.together ≡ false) (does : PartsClasses joined parted parted_after new.first new.second) where
  -- after the parting, each order lists those that are joined to it
  pub joins_apart : (order other : ℕ) → order < pairing.orders
      → (Contains (listed_for joined order) other ↔ AreJoined (pairing.pairs ++ new ∷ []) order other)
  joins_apart order other known = let old = adds.before.joins order other known in (
    λ h. joined_more pairing.pairs new order other (old.0 h),
    λ j. old.1 (joined_before pairing.pairs new order other kind j),
  )

  first_is : (x : ℕ) → (Contains (listed_for joined new.first) x ↔ AreJoined pairing.pairs new.first x)
  first_is x = adds.before.joins new.first x (omega (arith, adds.order, adds.known))

  second_is : (x : ℕ) → (Contains (listed_for joined new.second) x ↔ AreJoined pairing.pairs new.second x)
  second_is x = adds.before.joins new.second x adds.known

  not_both : (x : ℕ) → AreJoined pairing.pairs new.first x → AreJoined pairing.pairs new.second x → ⊥
  not_both x l r = adds.open_ (inl (joined_on l (joined_back r)))

  -- after the parting, each order lists those that are parted from it
  pub parts_apart : (order other : ℕ) → order < pairing.orders
      → (Contains (listed_for parted_after order) other ↔ AreParted (pairing.pairs ++ new ∷ []) order other)
  parts_apart order other known =
      let within : order < 64 = omega (arith, known, adds.before.valid.most_orders) in
      let old = adds.before.parts order other known in
      ⊎_elim
      (λ (f : Contains (listed_for joined new.first) order). let jf = (first_is order).0 f in
      let is = does.of_first order other within f (λ s. not_both order jf ((second_is order).0 s)) in (
        λ h. ⊎_elim (λ before. parted_more pairing.pairs new order other (old.0 before))
            (λ s. pair_parts pairing.pairs new order other kind (inl (jf, (second_is other).0 s))) (is.0 h),
        λ p. is.1 (⊎_elim (λ q. inl (old.1 q))
            (λ by_pair. ⊎_elim (λ l. inr ((second_is other).1 l.1)) (λ r. absurd (not_both order jf r.0)) by_pair)
            (parted_by_pair pairing.pairs new order other kind p)),
      ))
      (λ nf. ⊎_elim
      (λ (s : Contains (listed_for joined new.second) order). let js = (second_is order).0 s in
      let is = does.of_second order other within nf s in (
        λ h. ⊎_elim (λ before. parted_more pairing.pairs new order other (old.0 before))
            (λ f. pair_parts pairing.pairs new order other kind (inr (js, (first_is other).0 f))) (is.0 h),
        λ p. is.1 (⊎_elim (λ q. inl (old.1 q))
            (λ by_pair. ⊎_elim (λ l. absurd (not_both order l.0 js)) (λ r. inr ((first_is other).1 r.1)) by_pair)
            (parted_by_pair pairing.pairs new order other kind p)),
      ))
      (λ ns. let is = does.rest order within nf ns in (
        λ h. parted_more pairing.pairs new order other (old.0 (subst (λ (xs : List ℕ). Contains xs other) is h)),
        λ p. subst (λ (xs : List ℕ). Contains xs other) (sym is) (old.1 (⊎_elim (λ q. q)
            (λ by_pair. ⊎_elim (λ l. absurd (nf ((first_is order).1 l.0))) (λ r. absurd (ns ((second_is order).1 r.0))) by_pair)
            (parted_by_pair pairing.pairs new order other kind p))),
      ))
      (in_or_not (listed_for joined new.second) order))
      (in_or_not (listed_for joined new.first) order)

-- ---- both

-- what a further pair does to the kept rows
pub record Settles (joined joined_after parted parted_after : List (List ℕ)) (new : OrderPair) : Type 0 where
  pub joins : new.together ≡ true → JoinsClasses joined joined_after parted parted_after new.first new.second
  pub keeps : new.together ≡ false → joined_after ≡ joined
  pub parts : new.together ≡ false → PartsClasses joined parted parted_after new.first new.second

-- a pair that is undecided in the view is one that adds to what is kept
pub adds_from : (pairing now : Pairing) (joined parted : List (List ℕ)) (new : OrderPair) → pairing ≡ now → ArePartners pairing joined parted
    → AreUndecided now new.first new.second → AddsPair pairing joined parted new
adds_from pairing now joined parted new view kept undecided =
    let un = subst (λ (p : Pairing). AreUndecided p new.first new.second) (sym view) undecided in
    record { before = kept; order = un.order; known = un.known; open_ = un.open_ }

-- ---- no pair

only_itself : (a b : ℕ) → AreJoined [] a b → b ≡ a
only_itself a _ itself = refl
only_itself a b (onward t p) = absurd (omega (arith, t.added.1))

-- with no pair, each order is joined to itself alone, and none is parted
pub nothing_kept : (orders capacity : ℕ) (cart : Option LoadedCart) (joined : List (List ℕ)) → 1 ≤ orders → orders ≤ 64 → 1 ≤ capacity → capacity ≤ 8
    → IsCartFor cart orders → ((order other : ℕ) → order < 64 → (Contains (listed_for joined order) other ↔ (other ≡ order)))
    → ArePartners (record { orders = orders; capacity = capacity; cart = cart; pairs = [] }) joined (replicate 64 [])
unfolding IsDistinct
nothing_kept orders capacity cart joined some most some_capacity most_capacity loaded singles = record {
  valid = record {
    some_orders = some;
    most_orders = most;
    some_capacity = some_capacity;
    most_capacity = most_capacity;
    cart = loaded;
    order = λ pair has. absurd (omega (arith, has.1));
    known = λ pair has. absurd (omega (arith, has.1));
  };
  joins = λ order other known. let is = singles order other (omega arith) in (
    λ h. joined_same [] order other (sym (is.0 h)),
    λ j. is.1 (only_itself order other j),
  );
  parts = λ order other known. (
    λ h. absurd (contains_none other (subst (λ (xs : List ℕ). Contains xs other) (none_listed 64 order) h)),
    λ p. absurd (omega (arith, p.apart.added.1)),
  );
  never_both = λ order other j p. omega (arith, p.apart.added.1);
  once = tt;
}
