-- A visit over prices comes to one end, also in another wave whose batches have the same lengths.
use Rattle.std.proofs.Common.{◌≡◌, ◌∙◌, refl, sym, subst, ℕ, ◌+◌, ◌*◌, ◌<◌, ◌≤◌, ◌⊎◌, inl, inr, Bool, true, false, List, [], ◌∷◌, length, arith}
use Rattle.wp_pairs.specs.Permitted.{IsPermitted, Pairing}
use Rattle.wp_lengths.specs.Lengths.{IsLengthOf}
use Rattle.wp_lengths.specs.Waves.{WavePicks}
use Rattle.wp_lengths.specs.Visits.{AddsItem, Children, Due, IsItem, IsReach, Passed, Place as PlaceDue, TooMuch, Visit, Wrong}
use Rattle.wp_lengths.proofs.FewerOrders.{same_length}
use Rattle.wp_visit.proofs.Lists.{one_list}
use Rattle.wp_cuts.specs.Cuts.{CutParts}
use Rattle.wp_cuts.specs.Prices.{NodePrices}
use Rattle.wp_cuts.specs.PricedVisits.{HaveSameLengths, IsPaid, IsPricedVisit, PaysMore, ReachesAtMost, ReachesMore, VisitsHaveOneEnd, all_added, entered}
use Rattle.wp_cuts.specs.PricedVisits.{missing, no_item, not_permitted, onward, pruned, refused_batch, refused_mark, too_much, unsound}

-- a place has one reach
one_reach : (pairing : Pairing) (duals place : List ℕ) (from one two : ℕ) → IsReach pairing duals place from one → IsReach pairing duals place from two
    → one ≡ two
one_reach pairing duals place from one two first second =
    omega (arith, first.some.2, second.some.2, first.most second.some.0 second.some.1, second.most first.some.0 first.some.1)

-- a place and an item make one batch
one_batch : (pairing : Pairing) (place : List ℕ) (item : ℕ) (one two : List ℕ) → AddsItem pairing place item one → AddsItem pairing place item two → one ≡ two
one_batch pairing place item one two first second =
    one_list one two first.ascending second.ascending (λ z has. (second.orders z).1 ((first.orders z).0 has))
    (λ z has. (first.orders z).1 ((second.orders z).0 has))

module _ (wave : WavePicks) (pairing : Pairing) (cuts : List CutParts) (prices : NodePrices) where
  -- how the visit of a place goes on by its mark
  abbrev Marked : List ℕ → ℕ → List Bool → Visit → Type 0
  Marked place from [] visit = visit ≡ Wrong
  Marked place from (false ∷ marks) visit = (total : ℕ) × (reach : ℕ) × IsLengthOf wave place total × IsReach pairing prices.duals place from reach
      × ((ReachesAtMost cuts prices place reach (60 * total) × (visit ≡ Passed marks)) ⊎ (ReachesMore cuts prices place reach (60 * total) × (visit ≡ Wrong)))
  Marked place from (true ∷ marks) visit = IsPricedVisit wave pairing cuts prices (Children place from) marks visit

  -- how the visit of a place goes
  abbrev PlaceGoes : List ℕ → ℕ → List Bool → Visit → Type 0
  PlaceGoes place from marks visit = ((total : ℕ) × (0 < length place) × IsLengthOf wave place total × PaysMore cuts prices place (60 * total)
      × (visit ≡ TooMuch place)) ⊎ (IsPaid wave cuts prices place × Marked place from marks visit)

  place_goes : (place : List ℕ) (from : ℕ) (marks : List Bool) (visit : Visit) → IsPricedVisit wave pairing cuts prices (PlaceDue place from) marks visit
      → PlaceGoes place from marks visit
  place_goes place from _ _ (too_much {total} some long much) = inl (total, some, long, much, refl)
  place_goes place from _ _ (missing within) = inr (within, refl)
  place_goes place from _ _ (pruned {total} {reach} long reaches fits) =
      inr ((λ _. (total, long, omega (arith, fits))), (total, reach, long, reaches, inl (fits, refl)))
  place_goes place from _ _ (unsound {total} {reach} within long reaches much) = inr (within, (total, reach, long, reaches, inr (much, refl)))
  place_goes place from _ _ (entered within children) = inr (within, children)

  -- how the visit goes on after the batch with one more item
  abbrev After : List ℕ → ℕ → Visit → Visit → Type 0
  After place from (Passed left) visit = IsPricedVisit wave pairing cuts prices (Children place (from + 1)) left visit
  After place from (TooMuch most) visit = visit ≡ TooMuch most
  After place from Wrong visit = visit ≡ Wrong

  -- the batch with one more item, and what follows
  abbrev Adds : List ℕ → ℕ → List Bool → List ℕ → Visit → Type 0
  Adds place from marks batch visit = (first : Visit) × IsPricedVisit wave pairing cuts prices (PlaceDue batch (from + 1)) marks first
      × After place from first visit

  -- an item that is passed over
  abbrev Skips : List ℕ → ℕ → Type 0
  Skips place from = (IsItem pairing from → ⊥) ⊎ ((batch : List ℕ) × AddsItem pairing place from batch × (IsPermitted pairing batch → ⊥))

  -- how the visit of the places with one more item goes
  abbrev ChildrenGo : List ℕ → ℕ → List Bool → Visit → Type 0
  ChildrenGo place from marks visit = ((pairing.orders ≤ from) × (visit ≡ Passed marks))
      ⊎ ((Skips place from × IsPricedVisit wave pairing cuts prices (Children place (from + 1)) marks visit)
      ⊎ ((batch : List ℕ) × IsItem pairing from × AddsItem pairing place from batch × IsPermitted pairing batch × Adds place from marks batch visit))

  children_go : (place : List ℕ) (from : ℕ) (marks : List Bool) (visit : Visit) → IsPricedVisit wave pairing cuts prices (Children place from) marks visit
      → ChildrenGo place from marks visit
  children_go place from _ _ (all_added past) = inl (past, refl)
  children_go place from _ _ (no_item none rest) = inr (inl (inl none, rest))
  children_go place from _ _ (not_permitted {batch} adds never rest) = inr (inl (inr (batch, adds, never), rest))
  children_go place from _ _ (refused_batch {batch} {most} item adds permitted first) = inr (inr (batch, item, adds, permitted, (TooMuch most, first, refl)))
  children_go place from _ _ (refused_mark {batch} item adds permitted first) = inr (inr (batch, item, adds, permitted, (Wrong, first, refl)))
  children_go place from _ _ (onward {batch} {left} item adds permitted first rest) = inr (inr (batch, item, adds, permitted, (Passed left, first, rest)))

  -- past the last order there is nothing more to visit
  past_end : (place : List ℕ) (from : ℕ) (marks : List Bool) (visit : Visit) → pairing.orders ≤ from
      → IsPricedVisit wave pairing cuts prices (Children place from) marks visit → visit ≡ Passed marks
  past_end place from _ _ past (all_added end) = refl
  past_end place from marks visit past (no_item none rest) = past_end place (from + 1) marks visit (omega (arith, past)) rest
  past_end place from marks visit past (not_permitted adds never rest) = past_end place (from + 1) marks visit (omega (arith, past)) rest
  past_end place from _ _ past (refused_batch item adds permitted first) = absurd (omega (arith, past, item.known))
  past_end place from _ _ past (refused_mark item adds permitted first) = absurd (omega (arith, past, item.known))
  past_end place from _ _ past (onward item adds permitted first rest) = absurd (omega (arith, past, item.known))

  -- an item that is passed over adds no permitted batch
  none_added : (place batch : List ℕ) (from : ℕ) → Skips place from → IsItem pairing from → AddsItem pairing place from batch → IsPermitted pairing batch → ⊥
  none_added place batch from (inl none) item adds permitted = none item
  none_added place batch from (inr (union, made, never)) item adds permitted =
      never (subst (IsPermitted pairing) (one_batch pairing place from batch union adds made) permitted)

  -- where an item is passed over the visit goes on, or has come to its end
  skipped : (place : List ℕ) (from : ℕ) (marks : List Bool) (visit : Visit) → Skips place from → ChildrenGo place from marks visit
      → ((pairing.orders ≤ from) × (visit ≡ Passed marks)) ⊎ IsPricedVisit wave pairing cuts prices (Children place (from + 1)) marks visit
  skipped place from marks visit skips (inl end) = inl end
  skipped place from marks visit skips (inr (inl (other, rest))) = inr rest
  skipped place from marks visit skips (inr (inr (batch, item, adds, permitted, more))) =
      absurd (none_added place batch from skips item adds permitted)

  -- where an item adds a permitted batch it is visited
  added : (place batch : List ℕ) (from : ℕ) (marks : List Bool) (visit : Visit) → IsItem pairing from → AddsItem pairing place from batch
      → IsPermitted pairing batch → ChildrenGo place from marks visit → Adds place from marks batch visit
  added place batch from marks visit item adds permitted (inl (past, is)) = absurd (omega (arith, past, item.known))
  added place batch from marks visit item adds permitted (inr (inl (skips, rest))) = absurd (none_added place batch from skips item adds permitted)
  added place batch from marks visit item adds permitted (inr (inr (union, also, made, may, more))) =
      subst (λ (b : List ℕ). Adds place from marks b visit) (one_batch pairing place from union batch made adds) more

module _ (wave other : WavePicks) (same : HaveSameLengths wave other) where
  one_length : (batch : List ℕ) (one two : ℕ) → IsLengthOf wave batch one → IsLengthOf other batch two → one ≡ two
  one_length batch one two first second = same_length other batch one two (same batch one first) second

  module _ (pairing : Pairing) (cuts : List CutParts) (prices : NodePrices) where
    much_again : (place : List ℕ) (from total : ℕ) (marks : List Bool) (two : Visit) → 0 < length place → IsLengthOf wave place total
        → PaysMore cuts prices place (60 * total) → PlaceGoes other pairing cuts prices place from marks two → TooMuch place ≡ two
    much_again place from total marks two some long much (inl (t, filled, l, m, is)) = sym is
    much_again place from total marks two some long much (inr (paid, more)) =
        let at = paid some in absurd (omega (arith, one_length place total at.0 long at.1, much, at.2))

    not_much : (place : List ℕ) (from : ℕ) (marks : List Bool) (two : Visit) → IsPaid wave cuts prices place
        → PlaceGoes other pairing cuts prices place from marks two
        → Marked other pairing cuts prices place from marks two
    not_much place from marks two paid (inl (t, filled, l, m, is)) =
        let at = paid filled in absurd (omega (arith, one_length place at.0 t at.1 l, at.2, m))
    not_much place from marks two paid (inr (also, more)) = more

    pruned_again : (place : List ℕ) (from total reach : ℕ) (marks : List Bool) (two : Visit) → IsLengthOf wave place total
        → IsReach pairing prices.duals place from reach → ReachesAtMost cuts prices place reach (60 * total)
        → Marked other pairing cuts prices place from (false ∷ marks) two → Passed marks ≡ two
    pruned_again place from total reach marks two long reaches fits (t, r, l, rs, inl (f, is)) = sym is
    pruned_again place from total reach marks two long reaches fits (t, r, l, rs, inr (m, is)) =
        absurd (omega (arith, one_length place total t long l, one_reach pairing prices.duals place from reach r reaches rs, fits, m))

    unsound_again : (place : List ℕ) (from total reach : ℕ) (marks : List Bool) (two : Visit) → IsLengthOf wave place total
        → IsReach pairing prices.duals place from reach → ReachesMore cuts prices place reach (60 * total)
        → Marked other pairing cuts prices place from (false ∷ marks) two → Wrong ≡ two
    unsound_again place from total reach marks two long reaches much (t, r, l, rs, inl (f, is)) =
        absurd (omega (arith, one_length place total t long l, one_reach pairing prices.duals place from reach r reaches rs, much, f))
    unsound_again place from total reach marks two long reaches much (t, r, l, rs, inr (m, is)) = sym is

    skip_is : (place : List ℕ) (from : ℕ) (marks : List Bool) (one two : Visit) → IsPricedVisit wave pairing cuts prices (Children place (from + 1)) marks one
        → (IsPricedVisit other pairing cuts prices (Children place (from + 1)) marks two → one ≡ two)
        → ((pairing.orders ≤ from) × (two ≡ Passed marks)) ⊎ IsPricedVisit other pairing cuts prices (Children place (from + 1)) marks two → one ≡ two
    skip_is place from marks one two rest again (inl (past, is)) =
        past_end wave pairing cuts prices place (from + 1) marks one (omega (arith, past)) rest ∙ sym is
    skip_is place from marks one two rest again (inr more) = again more

    -- a visit comes to one thing
    pub one_visit : (due : Due) (marks : List Bool) (one two : Visit) → IsPricedVisit wave pairing cuts prices due marks one
        → IsPricedVisit other pairing cuts prices due marks two
        → one ≡ two
    one_visit _ marks _ two (too_much {place} {from} {total} some long much) second =
        much_again place from total marks two some long much (place_goes other pairing cuts prices place from marks two second)
    one_visit _ _ _ two (missing {place} {from} within) second =
        sym (not_much place from [] two within (place_goes other pairing cuts prices place from [] two second))
    one_visit _ _ _ two (pruned {place} {from} {total} {reach} {marks} long reaches fits) second =
        pruned_again place from total reach marks two long reaches fits
        (not_much place from (false ∷ marks) two (λ _. (total, long, omega (arith, fits)))
        (place_goes other pairing cuts prices place from (false ∷ marks) two second))
    one_visit _ _ _ two (unsound {place} {from} {total} {reach} {marks} within long reaches much) second =
        unsound_again place from total reach marks two long reaches much
        (not_much place from (false ∷ marks) two within (place_goes other pairing cuts prices place from (false ∷ marks) two second))
    one_visit _ _ one two (entered {place} {from} {marks} within children) second =
        one_visit (Children place from) marks one two children
        (not_much place from (true ∷ marks) two within (place_goes other pairing cuts prices place from (true ∷ marks) two second))
    one_visit _ marks _ two (all_added {place} {from} past) second = sym (past_end other pairing cuts prices place from marks two past second)
    one_visit _ marks one two (no_item {place} {from} none rest) second =
        skip_is place from marks one two rest (λ more. one_visit (Children place (from + 1)) marks one two rest more)
        (skipped other pairing cuts prices place from marks two (inl none) (children_go other pairing cuts prices place from marks two second))
    one_visit _ marks one two (not_permitted {place} {batch} {from} adds never rest) second =
        skip_is place from marks one two rest (λ more. one_visit (Children place (from + 1)) marks one two rest more)
        (skipped other pairing cuts prices place from marks two (inr (batch, adds, never)) (children_go other pairing cuts prices place from marks two second))
    one_visit _ marks _ two (refused_batch {place} {batch} {most} {from} item adds permitted first) second =
        let more = added other pairing cuts prices place batch from marks two item adds permitted
        (children_go other pairing cuts prices place from marks two second) in
        sym (subst (λ (v : Visit). After other pairing cuts prices place from v two)
        (sym (one_visit (PlaceDue batch (from + 1)) marks (TooMuch most) more.0 first more.1)) more.2)
    one_visit _ marks _ two (refused_mark {place} {batch} {from} item adds permitted first) second =
        let more = added other pairing cuts prices place batch from marks two item adds permitted
        (children_go other pairing cuts prices place from marks two second) in
        sym (subst (λ (v : Visit). After other pairing cuts prices place from v two)
        (sym (one_visit (PlaceDue batch (from + 1)) marks Wrong more.0 first more.1)) more.2)
    one_visit _ marks one two (onward {place} {batch} {from} {left} item adds permitted first rest) second =
        let more = added other pairing cuts prices place batch from marks two item adds permitted
        (children_go other pairing cuts prices place from marks two second) in
        one_visit (Children place (from + 1)) left one two rest (subst (λ (v : Visit). After other pairing cuts prices place from v two)
        (sym (one_visit (PlaceDue batch (from + 1)) marks (Passed left) more.0 first more.1)) more.2)

-- a visit comes to one end
pub one_end : VisitsHaveOneEnd
one_end = λ wave other pairing cuts prices due marks one two same first second.
    one_visit wave other same pairing cuts prices due marks one two first second
