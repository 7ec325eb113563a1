-- What a further pair joins and parts.
use Rattle.std.proofs.Common.{◌≡◌, ℕ, Bool, true, false, List, [], ◌∷◌, ◌++◌, refl, sym, ◌∙◌, subst, inl, inr, ◌⊎◌, ⊎_elim}
use Rattle.wp_pairs.specs.declared.pair.OrderPair.{OrderPair}
use Rattle.wp_pairs.specs.Permitted.{AreDecided, AreJoined, ArePair, AreParted, itself, onward}
use Rattle.wp_pairs.proofs.Chains.{AreJoinedBy, joined_back, joined_before, joined_cases, joined_more, joined_on, joined_parted, pair_cases, pair_new}
use Rattle.wp_pairs.proofs.Chains.{parted_back, parted_joined, parted_more}

-- a further pair of orders that were undecided, where no two orders were both joined and parted
pub record IsFurther (pairs : List OrderPair) (new : OrderPair) : Type 0 where
  pub never_both : (a b : ℕ) → AreJoined pairs a b → AreParted pairs a b → ⊥
  pub open_ : AreDecided pairs new.first new.second → ⊥

-- an order that was joined to one of the pair
abbrev pub IsNear : List OrderPair → OrderPair → ℕ → Type 0
IsNear pairs new a = AreJoined pairs new.first a ⊎ AreJoined pairs new.second a

-- an order that was parted from one of the pair
abbrev pub IsAway : List OrderPair → OrderPair → ℕ → Type 0
IsAway pairs new a = AreParted pairs new.first a ⊎ AreParted pairs new.second a

-- no order was joined to one of an undecided pair and parted from one of them
pub near_not_away : (pairs : List OrderPair) (new : OrderPair) (a : ℕ) → IsFurther pairs new → IsNear pairs new a → IsAway pairs new a → ⊥
near_not_away pairs new a far (inl j) (inl p) = far.never_both new.first a j p
near_not_away pairs new a far (inl j) (inr p) = far.open_ (inr (joined_parted j (parted_back p)))
near_not_away pairs new a far (inr j) (inl p) = far.open_ (inr (parted_joined p (joined_back j)))
near_not_away pairs new a far (inr j) (inr p) = far.never_both new.second a j p

-- ---- a further together pair

-- the two orders of a further together pair are joined
pair_joins : (pairs : List OrderPair) (new : OrderPair) → new.together ≡ true → AreJoined (pairs ++ new ∷ []) new.first new.second
pair_joins pairs new kind = onward (pair_new pairs new true kind) itself

-- all that were joined to one of the pair are joined to its first
near_joins : (pairs : List OrderPair) (new : OrderPair) (a : ℕ) → new.together ≡ true → IsNear pairs new a → AreJoined (pairs ++ new ∷ []) new.first a
near_joins pairs new a kind (inl j) = joined_more pairs new new.first a j
near_joins pairs new a kind (inr j) = joined_on (pair_joins pairs new kind) (joined_more pairs new new.second a j)

-- all that were joined to one of the pair are joined
pub near_joined : (pairs : List OrderPair) (new : OrderPair) (a b : ℕ) → new.together ≡ true → IsNear pairs new a → IsNear pairs new b
    → AreJoined (pairs ++ new ∷ []) a b
near_joined pairs new a b kind l r = joined_on (joined_back (near_joins pairs new a kind l)) (near_joins pairs new b kind r)

-- what was joined to one of the pair is parted from what was parted from one of it
pub near_parted : (pairs : List OrderPair) (new : OrderPair) (a b : ℕ) → new.together ≡ true → IsNear pairs new a → IsAway pairs new b
    → AreParted (pairs ++ new ∷ []) a b
near_parted pairs new a b kind l (inl p) = joined_parted (joined_back (near_joins pairs new a kind l)) (parted_more pairs new new.first b p)
near_parted pairs new a b kind l (inr p) =
    joined_parted (joined_on (joined_back (near_joins pairs new a kind l)) (pair_joins pairs new kind)) (parted_more pairs new new.second b p)

-- what is joined to an order that was joined to one of the pair was itself
pub joined_near : (pairs : List OrderPair) (new : OrderPair) (a b : ℕ) → IsNear pairs new a → AreJoined (pairs ++ new ∷ []) a b → IsNear pairs new b
joined_near pairs new a b near p = go near (joined_cases pairs new a b p)
  where
    go : IsNear pairs new a → AreJoined pairs a b ⊎ AreJoinedBy pairs new.first new.second a b → IsNear pairs new b
    go (inl j) (inl q) = inl (joined_on j q)
    go (inr j) (inl q) = inr (joined_on j q)
    go n (inr (inl (l, r))) = inr r
    go n (inr (inr (l, r))) = inl r

-- what is joined to an order that was joined to none of the pair was joined to it before
pub joined_elsewhere : (pairs : List OrderPair) (new : OrderPair) (a b : ℕ) → (IsNear pairs new a → ⊥) → AreJoined (pairs ++ new ∷ []) a b → AreJoined pairs a b
joined_elsewhere pairs new a b none p = go (joined_cases pairs new a b p)
  where
    go : AreJoined pairs a b ⊎ AreJoinedBy pairs new.first new.second a b → AreJoined pairs a b
    go (inl q) = q
    go (inr (inl (l, r))) = absurd (none (inl (joined_back l)))
    go (inr (inr (l, r))) = absurd (none (inr (joined_back l)))

-- how orders are parted, with a further together pair: as before, or the one was joined to one of the pair and the other parted from one of it
abbrev PartedByJoining : List OrderPair → OrderPair → ℕ → ℕ → Type 0
PartedByJoining pairs new a b = AreParted pairs a b ⊎ ((IsNear pairs new a × IsAway pairs new b) ⊎ (IsNear pairs new b × IsAway pairs new a))

parted_cases : (pairs : List OrderPair) (new : OrderPair) (a b near far : ℕ) → IsFurther pairs new → ArePair pairs false near far
    → AreJoined pairs a near ⊎ AreJoinedBy pairs new.first new.second a near → AreJoined pairs far b ⊎ AreJoinedBy pairs new.first new.second far b
    → PartedByJoining pairs new a b
parted_cases pairs new a b near far un apart (inl l) (inl r) = inl (record { near = near; far = far; joined = l; apart = apart; joins = r })
parted_cases pairs new a b near far un apart (inl l) (inr (inl (r, t))) =
    inr (inr (inr t, inl (parted_back (record { near = near; far = far; joined = l; apart = apart; joins = r }))))
parted_cases pairs new a b near far un apart (inl l) (inr (inr (r, t))) =
    inr (inr (inl t, inr (parted_back (record { near = near; far = far; joined = l; apart = apart; joins = r }))))
parted_cases pairs new a b near far un apart (inr (inl (l, t))) (inl r) =
    inr (inl (inl (joined_back l), inr (record { near = near; far = far; joined = t; apart = apart; joins = r })))
parted_cases pairs new a b near far un apart (inr (inr (l, t))) (inl r) =
    inr (inl (inr (joined_back l), inl (record { near = near; far = far; joined = t; apart = apart; joins = r })))
parted_cases pairs new a b near far un apart (inr (inl (l, t))) (inr (inl (r, u))) =
    absurd (un.open_ (inr (parted_back (record { near = near; far = far; joined = t; apart = apart; joins = r }))))
parted_cases pairs new a b near far un apart (inr (inl (l, t))) (inr (inr (r, u))) =
    absurd (un.never_both new.second new.second itself (record { near = near; far = far; joined = t; apart = apart; joins = r }))
parted_cases pairs new a b near far un apart (inr (inr (l, t))) (inr (inl (r, u))) =
    absurd (un.never_both new.first new.first itself (record { near = near; far = far; joined = t; apart = apart; joins = r }))
parted_cases pairs new a b near far un apart (inr (inr (l, t))) (inr (inr (r, u))) =
    absurd (un.open_ (inr (record { near = near; far = far; joined = t; apart = apart; joins = r })))

-- with a further together pair, orders are parted as before, or by joining
parted_by_joining : (pairs : List OrderPair) (new : OrderPair) (a b : ℕ) → new.together ≡ true → IsFurther pairs new → AreParted (pairs ++ new ∷ []) a b
    → PartedByJoining pairs new a b
parted_by_joining pairs new a b kind un h =
    ⊎_elim
    (λ old. parted_cases pairs new a b h.near h.far un old (joined_cases pairs new a h.near h.joined) (joined_cases pairs new h.far b h.joins))
    (λ t. absurd (cc (sym kind ∙ t.0)))
    (pair_cases pairs new false h.near h.far h.apart)

-- what is parted from an order that was joined to one of the pair was parted from one of it
pub parted_near : (pairs : List OrderPair) (new : OrderPair) (a b : ℕ) → new.together ≡ true → IsFurther pairs new → IsNear pairs new a
    → AreParted (pairs ++ new ∷ []) a b → IsAway pairs new b
parted_near pairs new a b kind un near h = go near (parted_by_joining pairs new a b kind un h)
  where
    go : IsNear pairs new a → PartedByJoining pairs new a b → IsAway pairs new b
    go (inl j) (inl p) = inl (joined_parted j p)
    go (inr j) (inl p) = inr (joined_parted j p)
    go n (inr (inl (l, away))) = away
    go n (inr (inr (l, away))) = absurd (near_not_away pairs new a un n away)

-- what is parted from an order that was joined to none of the pair was parted from it before, or was joined to one of the pair
pub parted_elsewhere : (pairs : List OrderPair) (new : OrderPair) (a b : ℕ) → new.together ≡ true → IsFurther pairs new → (IsNear pairs new a → ⊥)
    → AreParted (pairs ++ new ∷ []) a b → AreParted pairs a b ⊎ (IsNear pairs new b × IsAway pairs new a)
parted_elsewhere pairs new a b kind un none h = go (parted_by_joining pairs new a b kind un h)
  where
    go : PartedByJoining pairs new a b → AreParted pairs a b ⊎ (IsNear pairs new b × IsAway pairs new a)
    go (inl p) = inl p
    go (inr (inl (n, away))) = absurd (none n)
    go (inr (inr both)) = inr both

-- with a further together pair, no order is parted from itself
no_self_together : (pairs : List OrderPair) (new : OrderPair) (a : ℕ) → new.together ≡ true → IsFurther pairs new → AreParted (pairs ++ new ∷ []) a a → ⊥
no_self_together pairs new a kind un h = go (parted_by_joining pairs new a a kind un h)
  where
    go : PartedByJoining pairs new a a → ⊥
    go (inl p) = un.never_both a a itself p
    go (inr (inl (n, away))) = near_not_away pairs new a un n away
    go (inr (inr (n, away))) = near_not_away pairs new a un n away

-- ---- a further apart pair

-- orders that a further apart pair parts
abbrev pub ArePartedBy : List OrderPair → OrderPair → ℕ → ℕ → Type 0
ArePartedBy pairs new a b =
    (AreJoined pairs new.first a × AreJoined pairs new.second b) ⊎ (AreJoined pairs new.second a × AreJoined pairs new.first b)

-- with a further apart pair, orders are parted as before, or by it
pub parted_by_pair : (pairs : List OrderPair) (new : OrderPair) (a b : ℕ) → new.together ≡ false → AreParted (pairs ++ new ∷ []) a b
    → AreParted pairs a b ⊎ ArePartedBy pairs new a b
parted_by_pair pairs new a b kind h = go (pair_cases pairs new false h.near h.far h.apart)
  where
    l : AreJoined pairs a h.near
    l = joined_before pairs new a h.near kind h.joined

    r : AreJoined pairs h.far b
    r = joined_before pairs new h.far b kind h.joins

    go : ArePair pairs false h.near h.far ⊎ ((new.together ≡ false) × (((new.first ≡ h.near) × (new.second ≡ h.far)) ⊎ ((new.first ≡ h.far)
        × (new.second ≡ h.near)))) → AreParted pairs a b ⊎ ArePartedBy pairs new a b
    go (inl old) = inl (record { near = h.near; far = h.far; joined = l; apart = old; joins = r })
    go (inr (k, inl (f, s))) =
        inr (inl (subst (λ (x : ℕ). AreJoined pairs x a) (sym f) (joined_back l), subst (λ (x : ℕ). AreJoined pairs x b) (sym s) r))
    go (inr (k, inr (f, s))) =
        inr (inr (subst (λ (x : ℕ). AreJoined pairs x a) (sym s) (joined_back l), subst (λ (x : ℕ). AreJoined pairs x b) (sym f) r))

-- a further apart pair parts what was joined to its orders
pub pair_parts : (pairs : List OrderPair) (new : OrderPair) (a b : ℕ) → new.together ≡ false → ArePartedBy pairs new a b → AreParted (pairs ++ new ∷ []) a b
pair_parts pairs new a b kind (inl (l, r)) = record {
  near = new.first;
  far = new.second;
  joined = joined_back (joined_more pairs new new.first a l);
  apart = pair_new pairs new false kind;
  joins = joined_more pairs new new.second b r;
}
pair_parts pairs new a b kind (inr (l, r)) = parted_back (record {
  near = new.first;
  far = new.second;
  joined = joined_back (joined_more pairs new new.first b r);
  apart = pair_new pairs new false kind;
  joins = joined_more pairs new new.second a l;
})

no_self_apart : (pairs : List OrderPair) (new : OrderPair) (a : ℕ) → new.together ≡ false → IsFurther pairs new → AreParted (pairs ++ new ∷ []) a a → ⊥
no_self_apart pairs new a kind un h = go (parted_by_pair pairs new a a kind h)
  where
    go : AreParted pairs a a ⊎ ArePartedBy pairs new a a → ⊥
    go (inl p) = un.never_both a a itself p
    go (inr (inl (l, r))) = un.open_ (inl (joined_on l (joined_back r)))
    go (inr (inr (l, r))) = un.open_ (inl (joined_on r (joined_back l)))

-- with a further pair of orders that were undecided, still no two orders are both joined and parted
pub still_never_both : (pairs : List OrderPair) (new : OrderPair) (a b : ℕ) → IsFurther pairs new → AreJoined (pairs ++ new ∷ []) a b
    → AreParted (pairs ++ new ∷ []) a b → ⊥
still_never_both pairs new a b un j p = go new.together refl
  where
    go : (kind : Bool) → new.together ≡ kind → ⊥
    go true e = no_self_together pairs new a e un (parted_joined p (joined_back j))
    go false e = no_self_apart pairs new a e un (parted_joined p (joined_back j))
