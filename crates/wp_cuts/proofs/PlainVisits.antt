-- For plain prices the visit is that of their duals.
use Rattle.std.proofs.Common.{ℕ, ◌+◌, ◌*◌, ◌<◌, Bool, List, [], ◌∷◌, length, arith}
use Rattle.wp_pairs.specs.Permitted.{Pairing}
use Rattle.wp_lengths.specs.Duals.{duals_of}
use Rattle.wp_lengths.specs.Lengths.{IsLengthOf}
use Rattle.wp_lengths.specs.Visits.{Children, Due, IsVisit, IsWithin, Place, Visit}
use Rattle.wp_lengths.specs.Visits as visit
use Rattle.wp_lengths.specs.Waves.{WavePicks}
use Rattle.wp_cuts.specs.Cuts.{CutParts}
use Rattle.wp_cuts.specs.Prices.{ArePlain, NodePrices}
use Rattle.wp_cuts.specs.PricedVisits.{IsPaid, IsPricedVisit, PlainVisitsAreVisits}
use Rattle.wp_cuts.specs.PricedVisits as priced
use Rattle.wp_cuts.proofs.PlainPrices.{nothing_off}

module _ (wave : WavePicks) (pairing : Pairing) (cuts : List CutParts) (prices : NodePrices) (plain : ArePlain prices) where
  paid_place : (place : List ℕ) → IsWithin wave prices.duals place → IsPaid wave cuts prices place
  paid_place place within = λ _. (within.0, within.1, omega (arith, within.2, plain.count))

  filled_place : (duals place : List ℕ) (n : ℕ) → n < duals_of duals place → 0 < length place
  filled_place duals [] n much = absurd (omega (arith, much))
  filled_place duals (order ∷ place) n much = omega arith

  -- a visit over duals is one over plain prices
  pub visit_priced : (due : Due) (marks : List Bool) (seen : Visit) → IsVisit wave pairing prices.duals due marks seen
      → IsPricedVisit wave pairing cuts prices due marks seen
  visit_priced _ marks _ (visit.too_much {place} {from} {total} long much) =
      priced.too_much (filled_place prices.duals place (60 * total) much) long (omega (arith, much, nothing_off cuts prices.cuts place plain.cuts))
  visit_priced _ _ _ (visit.missing {place} {from} within) = priced.missing (paid_place place within)
  visit_priced _ _ _ (visit.pruned {place} {from} {total} {reach} long reaches fits) =
      priced.pruned long reaches (omega (arith, fits, plain.count))
  visit_priced _ _ _ (visit.unsound {place} {from} {total} {reach} within long reaches much) =
      priced.unsound (paid_place place within) long reaches (omega (arith, much, nothing_off cuts prices.cuts place plain.cuts))
  visit_priced _ _ seen (visit.entered {place} {from} {marks} within children) =
      priced.entered (paid_place place within) (visit_priced (Children place from) marks seen children)
  visit_priced _ marks _ (visit.all_added past) = priced.all_added past
  visit_priced _ marks seen (visit.no_item {place} {from} none rest) = priced.no_item none (visit_priced (Children place (from + 1)) marks seen rest)
  visit_priced _ marks seen (visit.not_permitted {place} {from} adds never rest) =
      priced.not_permitted adds never (visit_priced (Children place (from + 1)) marks seen rest)
  visit_priced _ marks seen (visit.refused_batch {batch} {from} item adds permitted first) =
      priced.refused_batch item adds permitted (visit_priced (Place batch (from + 1)) marks seen first)
  visit_priced _ marks seen (visit.refused_mark {batch} {from} item adds permitted first) =
      priced.refused_mark item adds permitted (visit_priced (Place batch (from + 1)) marks seen first)
  visit_priced _ marks seen (visit.onward {place} {batch} {from} {left} item adds permitted first rest) =
      priced.onward item adds permitted (visit_priced (Place batch (from + 1)) marks (visit.Passed left) first)
      (visit_priced (Children place (from + 1)) left seen rest)

  module _ (none : ℕ) (alone : IsLengthOf wave [] none) where
    within_place : (place : List ℕ) → IsPaid wave cuts prices place → IsWithin wave prices.duals place
    within_place [] paid = (none, alone, omega arith)
    within_place (order ∷ place) paid =
        let at = paid (omega arith) in (at.0, at.1, omega (arith, at.2, nothing_off cuts prices.cuts (order ∷ place) plain.cuts))

    -- and the other way round
    pub priced_visit : (due : Due) (marks : List Bool) (seen : Visit) → IsPricedVisit wave pairing cuts prices due marks seen
        → IsVisit wave pairing prices.duals due marks seen
    priced_visit _ marks _ (priced.too_much {place} some long much) = visit.too_much long (omega (arith, much, plain.count))
    priced_visit _ _ _ (priced.missing {place} paid) = visit.missing (within_place place paid)
    priced_visit _ _ _ (priced.pruned {place} long reaches fits) =
        visit.pruned long reaches (omega (arith, fits, nothing_off cuts prices.cuts place plain.cuts))
    priced_visit _ _ _ (priced.unsound {place} paid long reaches much) =
        visit.unsound (within_place place paid) long reaches (omega (arith, much, plain.count))
    priced_visit _ _ seen (priced.entered {place} {from} {marks} paid children) =
        visit.entered (within_place place paid) (priced_visit (Children place from) marks seen children)
    priced_visit _ marks _ (priced.all_added past) = visit.all_added past
    priced_visit _ marks seen (priced.no_item {place} {from} never rest) = visit.no_item never (priced_visit (Children place (from + 1)) marks seen rest)
    priced_visit _ marks seen (priced.not_permitted {place} {from} adds never rest) =
        visit.not_permitted adds never (priced_visit (Children place (from + 1)) marks seen rest)
    priced_visit _ marks seen (priced.refused_batch {batch} {from} item adds permitted first) =
        visit.refused_batch item adds permitted (priced_visit (Place batch (from + 1)) marks seen first)
    priced_visit _ marks seen (priced.refused_mark {batch} {from} item adds permitted first) =
        visit.refused_mark item adds permitted (priced_visit (Place batch (from + 1)) marks seen first)
    priced_visit _ marks seen (priced.onward {place} {batch} {from} {left} item adds permitted first rest) =
        visit.onward item adds permitted (priced_visit (Place batch (from + 1)) marks (visit.Passed left) first)
        (priced_visit (Children place (from + 1)) left seen rest)

-- for plain prices the visit is that of their duals
pub plain_visits : PlainVisitsAreVisits
plain_visits = λ wave pairing cuts prices due marks seen plain. (
  visit_priced wave pairing cuts prices plain due marks seen,
  λ none alone is. priced_visit wave pairing cuts prices plain none alone due marks seen is,
)
