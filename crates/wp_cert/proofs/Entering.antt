-- How a test of marks enters a place.
use Rattle.std.proofs.Common.{◌≡◌, ℕ, ◌+◌, ◌*◌, ◌^◌, ◌<◌, ◌≤◌, Bool, true, false, List, All, drop, length, arith, ap, refl, sym, ◌∙◌, subst, ⊎_elim}
use Rattle.std.specs.Prelude.{Ok, Err, Some, slice_get}
use Rattle.std.proofs.lemmas.List.{drop_all}
use Rattle.wp_pairs.specs.Permitted.{Pairing}
use Rattle.std.proofs.lemmas.Bool.{cases_lt}
use Rattle.wp_lengths.specs.Duals.{duals_of}
use Rattle.wp_lengths.specs.Lengths.{IsLengthOf}
use Rattle.wp_lengths.specs.Visits.{Passed, Place, Wrong}
use Rattle.wp_cuts.specs.PricedVisits.{missing, pruned, too_much, unsound}
use Rattle.wp_cuts.specs.Cuts.{CutParts}
use Rattle.wp_cuts.specs.Prices.{taken_off}
use Rattle.wp_cert.specs.declared.tree.Own.{Own}
use Rattle.wp_cert.specs.Kept.{IsOwed, IsOwedAt, IsOwedWith}
use Rattle.wp_cert.specs.Terms.{Terms}
use Rattle.wp_cert.specs.Trees.{IsMarkedVisit}
use Rattle.wp_visit.specs.declared.place.Place.{Place as PlaceData}
use Rattle.wp_visit.specs.Items.{most_dual}
use Rattle.wp_visit.specs.Places.{IsAt, Task}
use Rattle.wp_visit.proofs.Children.{reached_known}
use Rattle.wp_cert.specs.declared.tested.TestedOwn.{TestedOwn}
use Rattle.wp_cert.specs.declared.tree.CertWhy.TheVariants as why
use Rattle.wp_cert.specs.MarkTests.{IsEntered, IsPaidPlace, IsPlainOwn, IsTestOf, IsTooMuch, SaysOf}
use Rattle.wp_cert.specs.Known.{IsKnown}
use Rattle.wp_cert.specs.Visited.{HasEachLength, ReachesTooMuch, StandsForMore}
use Rattle.wp_cert.proofs.MarkSteps.{mark_first}

module _ (task : Task) (tested : TestedOwn) (is : IsTestOf task tested) where
  -- as many orders as duals
  pub as_many_duals : task.pairing.orders ≡ length tested.own.now.duals
  as_many_duals = ap (λ (p : Pairing). p.orders) is.pairing ∙ sym tested.count

  -- as many orders as in the wave
  pub as_many_orders : task.pairing.orders ≡ length tested.terms.now.wave.orders
  as_many_orders = ap (λ (p : Pairing). p.orders) is.pairing ∙ tested.as_many

  module _ (place : PlaceData) (at : IsAt task place) where
    -- the orders of a place are orders of the wave
    pub orders_known : All (λ order. order < length tested.terms.now.wave.orders) place.batch
    orders_known = reached_known task.pairing place.batch (length tested.terms.now.wave.orders) at.reached as_many_orders

    -- and of the pairs
    pub pairs_known : All (λ order. order < task.pairing.orders) place.batch
    pairs_known = reached_known task.pairing place.batch task.pairing.orders at.reached refl

    -- a place that isn't empty and pays too much
    pub too_much_there : (next end : ℕ) → IsTooMuch tested.terms.now tested.own.now place.batch
        → SaysOf task.pairing tested (Place place.batch place.from) next (Err (why.NotFeasible place.batch)) end
    too_much_there next end much = too_much much.filled much.long much.above

    -- its mark is missing
    pub missing_there : (next end : ℕ) → IsPaidPlace tested.terms.now tested.own.now place.batch → next ≡ length tested.own.now.marks
        → SaysOf task.pairing tested (Place place.batch place.from) next (Err why.BadMarks) end
    missing_there next end within over =
        subst (λ (ms : List Bool). IsMarkedVisit tested.terms.now task.pairing tested.own.now (Place place.batch place.from) ms Wrong)
        (sym (drop_all next tested.own.now.marks (omega (arith, over)))) (missing within)

    -- its mark says that it is entered
    pub entered_there : (next : ℕ) → IsPaidPlace tested.terms.now tested.own.now place.batch → slice_get tested.own.now.marks next ≡ Some true
        → IsEntered tested place.batch next (next + 1)
    entered_there next within mark = record { within = within; mark = mark_first tested.own.now.marks next true mark }

    -- it isn't entered and stands for more
    pub past_there : (next : ℕ) → slice_get tested.own.now.marks next ≡ Some false
        → StandsForMore tested.terms.now task.pairing tested.own.now place.batch place.from
        → SaysOf task.pairing tested (Place place.batch place.from) next (Ok tt) (next + 1)
    past_there next mark stands = subst (λ (ms : List Bool). IsMarkedVisit tested.terms.now task.pairing tested.own.now (Place place.batch place.from) ms
        (Passed (drop (next + 1) tested.own.now.marks))) (sym (mark_first tested.own.now.marks next false mark))
        (pruned stands.long stands.reaches stands.within)

    -- it isn't entered and reaches too much
    pub unsound_there : (next end : ℕ) → slice_get tested.own.now.marks next ≡ Some false
        → IsPaidPlace tested.terms.now tested.own.now place.batch
        → ReachesTooMuch tested.terms.now task.pairing tested.own.now place.batch place.from
        → SaysOf task.pairing tested (Place place.batch place.from) next (Err why.BadMarks) end
    unsound_there next end mark within reached =
        subst (λ (ms : List Bool). IsMarkedVisit tested.terms.now task.pairing tested.own.now (Place place.batch place.from) ms Wrong)
        (sym (mark_first tested.own.now.marks next false mark)) (unsound within reached.long reached.reaches reached.above)

-- what a place owes that isn't more than sixty times what its length is no less than
pub paid_there : (terms : Terms) (own : Own) (place : List ℕ) (owed least : ℕ) → HasEachLength terms.wave → All (λ order. order < length terms.wave.orders) place
    → IsKnown terms.wave place least → IsOwedAt terms own place 0 owed → owed ≤ 60 * least → IsPaidPlace terms own place
paid_there terms own place owed least lengths orders known is within = λ _.
    let one = lengths place orders in
    let pays = (is (60 * least) (omega (arith, known.small))).0 within in
    (one.0, one.1, omega (arith, known.least one.0 one.1, pays))

-- what a place owes is more, so what it is charged is more than so much with what is taken off
pub owes_more : (charged off owed most : ℕ) → IsOwed charged off owed → most < most_dual → most < owed → most + off < charged
owes_more charged off owed most is small short = ⊎_elim
    (λ (more : most + off < charged). more)
    (λ (within : charged ≤ most + off). let low = (is most small).1 within in absurd (omega (arith, low, short)))
    (cases_lt (most + off) charged)

-- a place that isn't empty, whose length doesn't cover what it owes
pub much_there : (terms : Terms) (own : Own) (place : List ℕ) (owed total : ℕ) → 0 < length place → IsLengthOf terms.wave place total → total < 2 ^ 28
    → IsOwedAt terms own place 0 owed → 60 * total < owed → IsTooMuch terms own place
much_there terms own place owed total some long small is short = record {
  filled = some;
  total = total;
  long = long;
  above = omega (
    arith,
    owes_more (duals_of own.duals place + own.count + 0) (taken_off terms.cuts own.prices place) owed (60 * total) is (omega (arith, small)) short,
  );
}

-- a place whose length covers what it owes with its reach
pub more_there : (terms : Terms) (pairing : Pairing) (own : Own) (place : List ℕ) (from owed least : ℕ) → HasEachLength terms.wave
    → All (λ order. order < length terms.wave.orders) place → IsKnown terms.wave place least → IsOwedWith terms pairing own place from owed
    → owed ≤ 60 * least → StandsForMore terms pairing own place from
more_there terms pairing own place from owed least lengths orders known with within =
    let one = lengths place orders in
    let pays = (with.is (60 * least) (omega (arith, known.small))).0 within in record {
      total = one.0;
      reach = with.reach;
      long = one.1;
      reaches = with.reaches;
      within = omega (arith, known.least one.0 one.1, pays);
    }

-- a place whose length doesn't
pub reached_there : (terms : Terms) (pairing : Pairing) (own : Own) (place : List ℕ) (from owed total : ℕ) → IsLengthOf terms.wave place total
    → total < 2 ^ 28 → IsOwedWith terms pairing own place from owed → 60 * total < owed → ReachesTooMuch terms pairing own place from
reached_there terms pairing own place from owed total long small with short = record {
  total = total;
  reach = with.reach;
  long = long;
  reaches = with.reaches;
  above = omega (
    arith,
    owes_more (duals_of own.duals place + own.count + with.reach) (taken_off terms.cuts own.prices place) owed (60 * total) with.is
        (omega (arith, small)) short,
  );
}

-- where prices are plain, what a place has in duals is what it owes
pub plain_owed : (tested : TestedOwn) (place : List ℕ) (reach owed : ℕ) → IsPlainOwn tested → owed ≡ duals_of tested.own.now.duals place + reach
    → IsOwedAt tested.terms.now tested.own.now place reach owed
plain_owed tested place reach owed plain is = λ most small.
    let none = ap (λ (cuts : List CutParts). taken_off cuts tested.own.now.prices place) plain.cuts in (
      λ low. omega (arith, low, is, none, plain.count),
      λ low. omega (arith, low, is, none, plain.count),
    )
