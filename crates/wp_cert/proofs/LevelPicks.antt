-- What the orders of levels pick, and of what is added to them.
use Rattle.std.proofs.Common.{◌≡◌, ℕ, ◌↔◌, List, [], ◌∷◌, ◌++◌, Contains, ◌⊎◌, ⊎_elim, inl, inr, arith, ap, length, subst, sym}
use Rattle.std.specs.Prelude.{Some, slice_get}
use Rattle.std.proofs.lemmas.Option.{same_Some}
use Rattle.std.proofs.lemmas.List.Elements.{Contains-append_cases, Contains-append_left, Contains-append_right}
use Rattle.wp_model.specs.declared.point.Point.{Point}
use Rattle.wp_graph.proofs.Members.{Contains-from_among, among-flat_map, among_from_Contains, flat_map_source}
use Rattle.wp_lengths.specs.Lengths.{IsLengthOf, batch_picks}
use Rattle.wp_lengths.specs.Waves.{WavePicks, picks_of}
use Rattle.wp_model.specs.Tours.{IsShortest}
use Rattle.wp_lengths.proofs.Unions.{same_shortest}

-- what a batch picks is picked by one whose orders are others besides
more_picked : (wave : WavePicks) (fewer more : List ℕ) → ((order : ℕ) → Contains fewer order → Contains more order) → (p : Point)
    → Contains (batch_picks wave fewer) p → Contains (batch_picks wave more) p
more_picked wave fewer more within p has =
    let source = flat_map_source (picks_of wave) fewer p (among_from_Contains _ p has) in
    Contains-from_among _ p (among-flat_map (picks_of wave) more source.0 p
    (among_from_Contains _ _ (within source.0 (Contains-from_among fewer source.0 source.1))) source.2)

-- what the orders of two batches pick is what each of them picks
pub both_picked : (wave : WavePicks) (one other both : List ℕ) → ((order : ℕ) → Contains both order ↔ (Contains one order ⊎ Contains other order)) → (p : Point)
    → Contains (batch_picks wave both) p ↔ (Contains (batch_picks wave one) p ⊎ Contains (batch_picks wave other) p)
both_picked wave one other both orders p = (
  λ has. let source = flat_map_source (picks_of wave) both p (among_from_Contains _ p has) in
      ⊎_elim
      (λ of. inl (Contains-from_among _ p (among-flat_map (picks_of wave) one source.0 p (among_from_Contains _ _ of) source.2)))
      (λ of. inr (Contains-from_among _ p (among-flat_map (picks_of wave) other source.0 p (among_from_Contains _ _ of) source.2)))
      ((orders source.0).0 (Contains-from_among both source.0 source.1)),
  ⊎_elim (more_picked wave one both (λ order of. (orders order).1 (inl of)) p) (more_picked wave other both (λ order of. (orders order).1 (inr of)) p),
)

-- a tour past what two batches pick is one of both
pub length_of_both : (wave : WavePicks) (one other both : List ℕ) (total : ℕ)
    → ((order : ℕ) → Contains both order ↔ (Contains one order ⊎ Contains other order))
    → IsShortest wave.layout (batch_picks wave one ++ batch_picks wave other) total → IsLengthOf wave both total
length_of_both wave one other both total orders shortest =
    same_shortest wave.layout (batch_picks wave one ++ batch_picks wave other) (batch_picks wave both) total
    (λ p. (
      λ has. (both_picked wave one other both orders p).1 (Contains-append_cases (batch_picks wave one) (batch_picks wave other) p has),
      λ has. ⊎_elim (Contains-append_left (batch_picks wave one) (batch_picks wave other) p)
          (Contains-append_right (batch_picks wave one) (batch_picks wave other) p)
          ((both_picked wave one other both orders p).0 has),
    )) shortest

-- a tour past the slots of a level and of a set of what is added is one past what both batches pick
pub past_level : (wave : WavePicks) (one other : List ℕ) (kept more : List Point) (total : ℕ)
    → ((p : Point) → Contains kept p ↔ Contains (batch_picks wave one) p)
    → ((p : Point) → Contains more p ↔ Contains (batch_picks wave other) p) → IsShortest wave.layout (kept ++ more) total
    → IsShortest wave.layout (batch_picks wave one ++ batch_picks wave other) total
past_level wave one other kept more total first second shortest =
    same_shortest wave.layout (kept ++ more) (batch_picks wave one ++ batch_picks wave other) total
    (λ p. (
      λ has. ⊎_elim (λ h. Contains-append_left (batch_picks wave one) (batch_picks wave other) p ((first p).0 h))
          (λ h. Contains-append_right (batch_picks wave one) (batch_picks wave other) p ((second p).0 h)) (Contains-append_cases kept more p has),
      λ has. ⊎_elim (λ h. Contains-append_left kept more p ((first p).1 h)) (λ h. Contains-append_right kept more p ((second p).1 h))
          (Contains-append_cases (batch_picks wave one) (batch_picks wave other) p has),
    )) shortest

-- a batch of one order is that order
only_one : (batch : List ℕ) (order : ℕ) → slice_get batch 0 ≡ Some order → length batch ≡ 1 → batch ≡ order ∷ []
only_one [] order first one = absurd (omega (arith, one))
only_one (x ∷ []) order first one = ap (λ (o : ℕ). o ∷ []) (same_Some x order first)
only_one (x ∷ y ∷ rest) order first one = absurd (omega (arith, one))

-- what a batch of one order picks is what that order picks
pub one_picked : (wave : WavePicks) (batch : List ℕ) (order : ℕ) (points : List Point) → slice_get batch 0 ≡ Some order → length batch ≡ 1
    → points ≡ picks_of wave order
    → (p : Point) → Contains points p ↔ Contains (batch_picks wave batch) p
one_picked wave batch order points first one is p =
    let alone = only_one batch order first one in
    subst (λ (xs : List ℕ). Contains points p ↔ Contains (batch_picks wave xs) p) (sym alone)
    (subst (λ (xs : List Point). Contains xs p ↔ Contains (batch_picks wave (order ∷ [])) p) (sym is) (
      Contains-append_left (picks_of wave order) [] p,
      λ has. ⊎_elim (λ h. h) (λ none. absurd (omega (arith, none.1)))
          (Contains-append_cases (picks_of wave order) [] p has),
    ))

-- no order picks nowhere
pub none_picked : (wave : WavePicks) (batch : List ℕ) (points : List Point) → batch ≡ [] → points ≡ [] → (p : Point)
    → Contains points p ↔ Contains (batch_picks wave batch) p
none_picked wave batch points none nowhere p =
    subst (λ (xs : List ℕ). Contains points p ↔ Contains (batch_picks wave xs) p) (sym none)
    (subst (λ (xs : List Point). Contains xs p ↔ Contains (batch_picks wave []) p) (sym nowhere) (λ h. h, λ h. h))
