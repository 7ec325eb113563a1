-- Chains of together pairs, and orders that are parted by an apart pair.
use Rattle.std.proofs.Common.{◌≡◌, ℕ, Bool, true, false, List, [], ◌∷◌, ◌++◌, refl, sym, ◌∙◌, subst, inl, inr, ◌⊎◌, ⊎_elim}
use Rattle.std.proofs.lemmas.List.Elements.{Contains-append_left, Contains-push, Contains-push_cases}
use Rattle.wp_pairs.specs.declared.pair.OrderPair.{OrderPair}
use Rattle.wp_pairs.specs.Permitted.{AreJoined, ArePair, AreParted, itself, onward}

-- a pair is one both ways
pub pair_back : {pairs : List OrderPair} {kind : Bool} {a b : ℕ} → ArePair pairs kind a b → ArePair pairs kind b a
pair_back h = record { pair = h.pair; added = h.added; kind = h.kind; both = ⊎_elim (λ e. inr e) (λ e. inl e) h.both }

-- two chains, one after the other
pub joined_on : {pairs : List OrderPair} {a b c : ℕ} → AreJoined pairs a b → AreJoined pairs b c → AreJoined pairs a c
joined_on itself q = q
joined_on (onward t p) q = onward t (joined_on p q)

-- a chain, back
pub joined_back : {pairs : List OrderPair} {a b : ℕ} → AreJoined pairs a b → AreJoined pairs b a
joined_back itself = itself
joined_back (onward t p) = joined_on (joined_back p) (onward (pair_back t) itself)

-- an order is joined to itself, whatever it is called
pub joined_same : (pairs : List OrderPair) (a b : ℕ) → a ≡ b → AreJoined pairs a b
joined_same pairs a b e = subst (λ (c : ℕ). AreJoined pairs a c) e itself

-- what is joined to an order is parted from what the order is parted from
pub joined_parted : {pairs : List OrderPair} {a b c : ℕ} → AreJoined pairs a b → AreParted pairs b c → AreParted pairs a c
joined_parted p h = record { near = h.near; far = h.far; joined = joined_on p h.joined; apart = h.apart; joins = h.joins }

-- orders are parted both ways
pub parted_back : {pairs : List OrderPair} {a b : ℕ} → AreParted pairs a b → AreParted pairs b a
parted_back h = record { near = h.far; far = h.near; joined = joined_back h.joins; apart = pair_back h.apart; joins = joined_back h.joined }

-- an order is parted from what is joined to one that it is parted from
pub parted_joined : {pairs : List OrderPair} {a b c : ℕ} → AreParted pairs a b → AreJoined pairs b c → AreParted pairs a c
parted_joined h p = record { near = h.near; far = h.far; joined = h.joined; apart = h.apart; joins = joined_on h.joins p }

-- with a further pair, an earlier one is still one
pub pair_more : (pairs : List OrderPair) (new : OrderPair) (kind : Bool) (a b : ℕ) → ArePair pairs kind a b → ArePair (pairs ++ new ∷ []) kind a b
pair_more pairs new kind a b h = record {
  pair = h.pair;
  added = Contains-append_left pairs (new ∷ []) h.pair h.added;
  kind = h.kind;
  both = h.both;
}

-- a further pair is one
pub pair_new : (pairs : List OrderPair) (new : OrderPair) (kind : Bool) → new.together ≡ kind → ArePair (pairs ++ new ∷ []) kind new.first new.second
pair_new pairs new kind e = record { pair = new; added = Contains-push pairs new; kind = e; both = inl (refl, refl) }

-- with a further pair, a pair of a kind is an earlier one or that one
pub pair_cases : (pairs : List OrderPair) (new : OrderPair) (kind : Bool) (a b : ℕ) → ArePair (pairs ++ new ∷ []) kind a b
    → ArePair pairs kind a b ⊎ ((new.together ≡ kind) × (((new.first ≡ a) × (new.second ≡ b)) ⊎ ((new.first ≡ b) × (new.second ≡ a))))
pair_cases pairs new kind a b h =
    ⊎_elim
    (λ old. inl (record { pair = h.pair; added = old; kind = h.kind; both = h.both }))
    (λ (e : new ≡ h.pair). inr (subst (λ (p : OrderPair). (p.together ≡ kind) × (((p.first ≡ a) × (p.second ≡ b)) ⊎ ((p.first ≡ b) × (p.second ≡ a)))) (sym e)
    (h.kind, h.both)))
    (Contains-push_cases pairs new h.pair h.added)

-- with a further pair, orders that were joined are
pub joined_more : (pairs : List OrderPair) (new : OrderPair) (a b : ℕ) → AreJoined pairs a b → AreJoined (pairs ++ new ∷ []) a b
joined_more pairs new a _ itself = itself
joined_more pairs new a b (onward {next} t p) = onward (pair_more pairs new true a next t) (joined_more pairs new next b p)

-- with a further pair, orders that were parted are
pub parted_more : (pairs : List OrderPair) (new : OrderPair) (a b : ℕ) → AreParted pairs a b → AreParted (pairs ++ new ∷ []) a b
parted_more pairs new a b h = record {
  near = h.near;
  far = h.far;
  joined = joined_more pairs new a h.near h.joined;
  apart = pair_more pairs new false h.near h.far h.apart;
  joins = joined_more pairs new h.far b h.joins;
}

-- orders that a further together pair joins: the one to its first order and the other to its second, or the other way round
abbrev pub AreJoinedBy : List OrderPair → ℕ → ℕ → ℕ → ℕ → Type 0
AreJoinedBy pairs first second a b =
    (AreJoined pairs a first × AreJoined pairs second b) ⊎ (AreJoined pairs a second × AreJoined pairs first b)

-- what a chain that begins with the further pair, or with an earlier one, comes to
joined_step : (pairs : List OrderPair) (f s a c b : ℕ) → ArePair pairs true a c ⊎ (((f ≡ a) × (s ≡ c)) ⊎ ((f ≡ c) × (s ≡ a)))
    → AreJoined pairs c b ⊎ AreJoinedBy pairs f s c b → AreJoined pairs a b ⊎ AreJoinedBy pairs f s a b
joined_step pairs f s a c b (inl t) (inl q) = inl (onward t q)
joined_step pairs f s a c b (inl t) (inr (inl (l, r))) = inr (inl (onward t l, r))
joined_step pairs f s a c b (inl t) (inr (inr (l, r))) = inr (inr (onward t l, r))
joined_step pairs f s a c b (inr (inl (fa, sc))) (inl q) = inr (inl (joined_same pairs a f (sym fa), joined_on (joined_same pairs s c sc) q))
joined_step pairs f s a c b (inr (inl (fa, sc))) (inr (inl (l, r))) = inr (inl (joined_same pairs a f (sym fa), r))
joined_step pairs f s a c b (inr (inl (fa, sc))) (inr (inr (l, r))) = inl (joined_on (joined_same pairs a f (sym fa)) r)
joined_step pairs f s a c b (inr (inr (fc, sa))) (inl q) = inr (inr (joined_same pairs a s (sym sa), joined_on (joined_same pairs f c fc) q))
joined_step pairs f s a c b (inr (inr (fc, sa))) (inr (inl (l, r))) = inl (joined_on (joined_same pairs a s (sym sa)) r)
joined_step pairs f s a c b (inr (inr (fc, sa))) (inr (inr (l, r))) = inr (inr (joined_same pairs a s (sym sa), r))

-- with a further pair, joined orders were joined before or are joined by it
pub joined_cases : (pairs : List OrderPair) (new : OrderPair) (a b : ℕ) → AreJoined (pairs ++ new ∷ []) a b
    → AreJoined pairs a b ⊎ AreJoinedBy pairs new.first new.second a b
joined_cases pairs new a _ itself = inl itself
joined_cases pairs new a b (onward {next} t p) =
    joined_step pairs new.first new.second a next b (⊎_elim (λ old. inl old) (λ h. inr h.1) (pair_cases pairs new true a next t))
    (joined_cases pairs new next b p)

-- with a further apart pair, joined orders were joined before
pub joined_before : (pairs : List OrderPair) (new : OrderPair) (a b : ℕ) → new.together ≡ false → AreJoined (pairs ++ new ∷ []) a b → AreJoined pairs a b
joined_before pairs new a _ apart itself = itself
joined_before pairs new a b apart (onward {next} t p) =
    ⊎_elim (λ old. onward old (joined_before pairs new next b apart p)) (λ h. absurd (cc (sym apart ∙ h.0))) (pair_cases pairs new true a next t)
