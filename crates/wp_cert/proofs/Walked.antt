-- What carts walk is no less than the bound of a right tree, and no batching costs less than what carts walk at least.
use Rattle.std.proofs.Common.{◌≡◌, ℕ, zero, suc, ◌+◌, ◌<◌, ◌≤◌, List, [], ◌∷◌, arith, refl, sym, subst, ⊎_elim, Contains}
use Rattle.std.proofs.Math.ListN.{get_or-map}
use Rattle.std.proofs.lemmas.Bool.{cases_lt}
use Rattle.std.specs.Prelude.{slice_index_or}
use Rattle.wp_model.specs.declared.point.Point.{Point}
use Rattle.wp_model.specs.Tours.{IsShortest, IsTour}
use Rattle.wp_model.specs.Warehouse.{Layout}
use Rattle.wp_graph.specs.Members.{Among}
use Rattle.wp_graph.specs.PickSets.{PickSet}
use Rattle.wp_graph.proofs.Members.{Contains-from_among, among-flat_map, among_from_Contains, flat_map_source}
use Rattle.wp_lengths.specs.Batchings.{IsCost}
use Rattle.wp_lengths.specs.Lengths.{batch_picks}
use Rattle.wp_lengths.specs.Waves.{WavePicks, picks_of}
use Rattle.wp_lengths.proofs.Unions.{same_tour}
use Rattle.wp_cert.specs.Bounds.{CostsAreWalked, NoBatchingCostsLess, WalksAreNoShorter}
use Rattle.wp_cert.specs.Walks.{AreWalked, NoWalksAreShorter, order_points, picks_in}
use Rattle.wp_cert.proofs.BoundsHold.{bounds_hold}
use Rattle.wp_cert.proofs.PutIntoBatches.{batching_is_put, put_is_batching, sorted, sorted_all}

-- where there is a tour of some length, a shortest one can't be missing
not_without_shortest : (layout : Layout) (picks : List Point) (fuel total : ℕ) → total < fuel → (points : List Point) → IsTour layout picks points total
    → (((least : ℕ) × IsShortest layout picks least × (least ≤ total)) → ⊥) → ⊥
not_without_shortest layout picks zero total low points tour none = omega (arith, low)
not_without_shortest layout picks (suc fuel) total low points tour none = none (
  total,
  record {
    some = (points, tour);
    least = λ others other is. ⊎_elim
        (λ (shorter : other < total). absurd (not_without_shortest layout picks fuel other (omega (arith, low, shorter)) others is
        (λ found. none (found.0, found.1, omega (arith, found.2, shorter)))))
        (λ (as_long : total ≤ other). as_long) (cases_lt other total);
  },
  omega arith,
)

module _ (wave : WavePicks) where
  -- the points of an order are its picks
  picks_same : (order : ℕ) → slice_index_or (order_points wave) order [] ≡ picks_of wave order
  picks_same order = get_or-map (λ (picks : PickSet). picks.points) wave.orders order (record { layout = wave.layout; points = [] })

  -- what a batch picks, its orders pick in another list of them
  picked_in : (batch orders : List ℕ) → ((order : ℕ) → Contains batch order → Contains orders order) → (p : Point) → Contains (batch_picks wave batch) p
      → Contains (picks_in (order_points wave) orders) p
  picked_in batch orders within p has =
      let source = flat_map_source (picks_of wave) batch p (among_from_Contains _ p has) in
      Contains-from_among _ p (among-flat_map (λ (order : ℕ). slice_index_or (order_points wave) order []) orders source.0 p
      (among_from_Contains orders source.0 (within source.0 (Contains-from_among batch source.0 source.1)))
      (subst (λ (points : List Point). Among points p) (sym (picks_same source.0)) source.2))

  picked_back : (batch : List ℕ) (p : Point) → Contains (picks_in (order_points wave) batch) p → Contains (batch_picks wave batch) p
  picked_back batch p has =
      let source = flat_map_source (λ (order : ℕ). slice_index_or (order_points wave) order []) batch p (among_from_Contains _ p has) in
      Contains-from_among _ p (among-flat_map (picks_of wave) batch source.0 p source.1
      (subst (λ (points : List Point). Among points p) (picks_same source.0) source.2))

  -- batches in ascending order cost no more than is walked
  cost_no_more : (batches : List (List ℕ)) (total : ℕ) → AreWalked wave.layout (order_points wave) batches total
      → (((cost : ℕ) × IsCost wave (sorted_all batches) cost × (cost ≤ total)) → ⊥) → ⊥
  cost_no_more [] total is none = none (0, refl, omega arith)
  cost_no_more (batch ∷ batches) total is none =
      let tour = same_tour wave.layout (picks_in (order_points wave) batch) (batch_picks wave (sorted batch).0) is.0 is.1
      (picked_in (sorted batch).0 batch (λ order has. ((sorted batch).1.same order).0 has)) is.3 in
      not_without_shortest wave.layout (batch_picks wave (sorted batch).0) (suc is.1) is.1 (omega arith) is.0 tour
      (λ found. cost_no_more batches is.2 is.4 (λ others. none (
        found.0 + others.0,
        (found.0, others.0, found.1, others.1, refl),
        omega (arith, found.2, others.2, is.5),
      )))

  -- and what they cost can be walked
  cost_is_walked : (batches : List (List ℕ)) (cost : ℕ) → IsCost wave batches cost → AreWalked wave.layout (order_points wave) batches cost
  cost_is_walked [] cost is = is
  cost_is_walked (batch ∷ batches) cost is = (
    is.2.some.0,
    is.0,
    is.1,
    same_tour wave.layout (batch_picks wave batch) (picks_in (order_points wave) batch) is.2.some.0 is.0 (picked_back batch) is.2.some.1,
    cost_is_walked batches is.1 is.3,
    is.4,
  )

  -- where no batching costs less than a number, carts walk no less
  pub no_walks_are_shorter : (capacity bound : ℕ) → NoBatchingCostsLess wave capacity bound → NoWalksAreShorter wave capacity bound
  no_walks_are_shorter capacity bound least = λ batches total put walked.
      let batching = put_is_batching wave capacity batches put in ⊎_elim
      (λ (shorter : total < bound). absurd (cost_no_more batches total walked
      (λ found. let low = least (sorted_all batches) found.0 batching found.1 in omega (arith, low, found.2, shorter))))
      (λ (as_long : bound ≤ total). as_long) (cases_lt total bound)

-- where carts walk no less than a number, no batching costs less
pub costs_are_walked : CostsAreWalked
costs_are_walked = λ wave capacity bound least batches cost is costs.
    least batches cost (batching_is_put wave capacity batches is) (cost_is_walked wave batches cost costs)

-- carts walk no less than the bound of a right tree
pub walks_are_no_shorter : WalksAreNoShorter
walks_are_no_shorter = λ wave capacity tree bound some right. no_walks_are_shorter wave capacity bound (bounds_hold wave capacity tree bound some right)
