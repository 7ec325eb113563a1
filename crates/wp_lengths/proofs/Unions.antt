-- The picks of a batch, order by order and as one set, and shortest tours past the same picks.
use Rattle.std.proofs.Common.{◌≡◌, ◌≢◌, ℕ, ◌+◌, ◌<◌, ◌↔◌, List, [], ◌∷◌, ◌++◌, length}
use Rattle.std.proofs.Common.{length-append, get_or, arith, ap, sym, ◌∙◌, subst, inl, inr, refl, ◌⊎◌, ⊎_elim, Contains, All}
use Rattle.std.proofs.lemmas.Bool.{cases_eq}
use Rattle.std.proofs.lemmas.List.Elements.{All-contains, All-push, Contains-get_or}
use Rattle.std.proofs.lemmas.List.{get_or_append_left, get_or_default, get_or_push}
use Rattle.wp_model.specs.declared.point.Point.{Point}
use Rattle.wp_model.specs.Tours.{IsShortest, IsTour}
use Rattle.wp_model.specs.Warehouse.{Layout}
use Rattle.wp_graph.specs.PickSets.{PickSet}
use Rattle.wp_graph.proofs.Members.{Contains-from_among, among-flat_map, among_from_Contains, flat_map_source}
use Rattle.wp_lengths.specs.Lengths.{batch_picks}
use Rattle.wp_lengths.specs.Waves.{HaveSamePicks, WavePicks, picks_of}

-- what holds of all that a list contains holds of all of it
pub all_from_contained : {X : Type 0} (P : X → Type 0) (xs : List X) → ((x : X) → Contains xs x → P x) → All P xs
all_from_contained P xs each = λ k d within. each (get_or xs k d) (Contains-get_or xs k d within)

-- a tour past some picks is one past the same picks in another list
pub same_tour : (layout : Layout) (xs ys points : List Point) (total : ℕ) → ((p : Point) → Contains ys p → Contains xs p) → IsTour layout xs points total
    → IsTour layout ys points total
same_tour layout xs ys points total same tour = record {
  closed = tour.closed;
  serves = all_from_contained (Contains points) ys (λ p has. All-contains (Contains points) xs p tour.serves (same p has));
}

-- all shortest tours past some picks are of one length
pub one_length : (layout : Layout) (picks : List Point) (s t : ℕ) → IsShortest layout picks s → IsShortest layout picks t → s ≡ t
one_length layout picks s t first second =
    omega (arith, first.least second.some.0 t second.some.1, second.least first.some.0 s first.some.1)

-- a shortest tour past some picks is a shortest one past the same picks in another list
pub same_shortest : (layout : Layout) (xs ys : List Point) (total : ℕ) → ((p : Point) → Contains xs p ↔ Contains ys p) → IsShortest layout xs total
    → IsShortest layout ys total
same_shortest layout xs ys total same shortest = record {
  some = (shortest.some.0, same_tour layout xs ys shortest.some.0 total (λ p. (same p).1) shortest.some.1);
  least = λ points other tour. shortest.least points other (same_tour layout ys xs points other (λ p. (same p).0) tour);
}

-- some order of the batch below this place picks at the point
pub record IsPickedBelow (wave : WavePicks) (batch : List ℕ) (place : ℕ) (point : Point) : Type 0 where
  pub order : ℕ
  pub below : order < place
  pub of_batch : Contains batch order
  pub picks : Contains (picks_of wave order) point

-- with an order that isn't of the batch, no more is picked
pub picked_as_before : (wave : WavePicks) (batch : List ℕ) (place : ℕ) (points : List Point) → (Contains batch place → ⊥)
    → ((p : Point) → Contains points p ↔ IsPickedBelow wave batch place p) → (p : Point) → Contains points p ↔ IsPickedBelow wave batch (place + 1) p
picked_as_before wave batch place points not_of before p = (
  λ has. let b = (before p).0 has in record { order = b.order; below = omega (arith, b.below); of_batch = b.of_batch; picks = b.picks },
  λ b. (before p).1 (record {
    order = b.order;
    below = ⊎_elim (λ (e : b.order ≡ place). absurd (not_of (subst (Contains batch) e b.of_batch))) (λ (ne : b.order ≢ place). omega (arith, b.below, ne))
        (cases_eq b.order place);
    of_batch = b.of_batch;
    picks = b.picks;
  }),
)

-- with an order of the batch, its picks are picked too
pub picked_more : (wave : WavePicks) (batch : List ℕ) (place : ℕ) (points more further : List Point) → Contains batch place → further ≡ picks_of wave place
    → ((p : Point) → Contains more p ↔ (Contains points p ⊎ Contains further p)) → ((p : Point) → Contains points p ↔ IsPickedBelow wave batch place p)
    → (p : Point) → Contains more p ↔ IsPickedBelow wave batch (place + 1) p
picked_more wave batch place points more further of is_further joined before p = (
  λ has. ⊎_elim
      (λ old. let b = (before p).0 old in record { order = b.order; below = omega (arith, b.below); of_batch = b.of_batch; picks = b.picks })
      (λ new. record { order = place; below = omega arith; of_batch = of; picks = subst (λ (xs : List Point). Contains xs p) is_further new })
      ((joined p).0 has),
  λ b. (joined p).1 (⊎_elim
      (λ (e : b.order ≡ place). inr (subst (λ (xs : List Point). Contains xs p) (sym is_further) (subst (λ (o : ℕ). Contains (picks_of wave o) p) e b.picks)))
      (λ (ne : b.order ≢ place). inl ((before p).1 (record {
        order = b.order;
        below = omega (arith, b.below, ne);
        of_batch = b.of_batch;
        picks = b.picks;
      })))
      (cases_eq b.order place)),
)

-- what an order of the batch picks is picked by the batch
picked_by : (wave : WavePicks) (batch : List ℕ) (order : ℕ) (p : Point) → Contains batch order → Contains (picks_of wave order) p
    → Contains (batch_picks wave batch) p
picked_by wave batch order p of picks =
    Contains-from_among _ p (among-flat_map (picks_of wave) batch order p (among_from_Contains _ _ of) (among_from_Contains _ _ picks))

-- what a batch picks is picked by one of its orders
picking_order : (wave : WavePicks) (batch : List ℕ) (p : Point) → Contains (batch_picks wave batch) p
    → (order : ℕ) × Contains batch order × Contains (picks_of wave order) p
picking_order wave batch p has =
    let source = flat_map_source (picks_of wave) batch p (among_from_Contains _ p has) in
    (source.0, Contains-from_among batch source.0 source.1, Contains-from_among (picks_of wave source.0) p source.2)

-- what some order of the batch picks is picked by the batch, where its orders are below this place
pub picked_by_batch : (wave : WavePicks) (batch : List ℕ) (place : ℕ) (points : List Point) → All (λ order. order < place) batch
    → ((p : Point) → Contains points p ↔ IsPickedBelow wave batch place p) → (p : Point) → Contains points p ↔ Contains (batch_picks wave batch) p
picked_by_batch wave batch place points below before p = (
  λ has. let b = (before p).0 has in
      Contains-from_among _ p (among-flat_map (picks_of wave) batch b.order p (among_from_Contains _ _ b.of_batch) (among_from_Contains _ _ b.picks)),
  λ has. let source = flat_map_source (picks_of wave) batch p (among_from_Contains _ p has) in
      let of = Contains-from_among batch source.0 source.1 in
      (before p).1 (record {
        order = source.0;
        below = All-contains (λ order. order < place) batch source.0 below of;
        of_batch = of;
        picks = Contains-from_among (picks_of wave source.0) p source.2;
      }),
)

-- with an order more in the batch and its picks in the union, the union is still that of the batch
pub wider_union : (wave : WavePicks) (batch wider : List ℕ) (order : ℕ) (points more : List Point)
    → ((o : ℕ) → Contains wider o ↔ (Contains batch o ⊎ (o ≡ order))) → ((p : Point) → Contains points p ↔ Contains (batch_picks wave batch) p)
    → ((p : Point) → Contains more p ↔ (Contains points p ⊎ Contains (picks_of wave order) p)) → (p : Point)
    → Contains more p ↔ Contains (batch_picks wave wider) p
wider_union wave batch wider order points more with before joined p = (
  λ has. ⊎_elim
      (λ old. let source = picking_order wave batch p ((before p).0 old) in
      picked_by wave wider source.0 p ((with source.0).1 (inl source.1)) source.2)
      (λ new. picked_by wave wider order p ((with order).1 (inr refl)) new)
      ((joined p).0 has),
  λ has. let source = picking_order wave wider p has in
      (joined p).1 (⊎_elim
      (λ old. inl ((before p).1 (picked_by wave batch source.0 p old source.2)))
      (λ new. inr (subst (λ (o : ℕ). Contains (picks_of wave o) p) new source.2))
      ((with source.0).0 source.1)),
)

-- nothing is in a list that is empty
pub nothing_in : {X : Type 0} (xs : List X) (x : X) → xs ≡ [] → Contains xs x → ⊥
nothing_in {X} xs x empty has = let none : length xs ≡ 0 = ap (λ (ys : List X). length ys) empty in omega (arith, has.1)

-- what is read at a place of the orders picks as that order does
pub order_read : (wave : WavePicks) (order : ℕ) (read : PickSet) → order < length wave.orders → read ≡ get_or wave.orders order read
    → read.points ≡ picks_of wave order
order_read wave order read within is =
    ap (λ (s : PickSet). s.points) (is ∙ get_or_default wave.orders order read (record { layout = wave.layout; points = [] }) within)

-- so many of the orders' picks are copied
pub record AreCopiedBelow (layout : Layout) (originals copies : List PickSet) (place : ℕ) : Type 0 where
  pub count : length copies ≡ place
  pub of_layout : All (λ picks. picks.layout ≡ layout) copies
  pub each : (order : ℕ) (d : PickSet) → order < place → (p : Point)
      → (Contains (get_or copies order d).points p ↔ Contains (get_or originals order d).points p)

-- one more is copied
pub one_more_copied : (layout : Layout) (originals copies : List PickSet) (place : ℕ) (item copy : PickSet) → AreCopiedBelow layout originals copies place
    → place < length originals → item ≡ get_or originals place item → copy.layout ≡ layout
    → ((p : Point) → Contains copy.points p ↔ Contains item.points p) → AreCopiedBelow layout originals (copies ++ copy ∷ []) (place + 1)
one_more_copied layout originals copies place item copy before within is of_layout same = record {
  count = omega (arith, length-append copies (copy ∷ []), before.count);
  of_layout = All-push (λ (picks : PickSet). picks.layout ≡ layout) copies copy before.of_layout of_layout;
  each = λ order d low p. ⊎_elim
      (λ (e : order ≡ place).
      let here : get_or (copies ++ copy ∷ []) order d ≡ copy = get_or_push copies copy d order (before.count ∙ sym e) in
      let there : item ≡ get_or originals order d = is ∙ (get_or_default originals place item d within ∙ ap (λ (k : ℕ). get_or originals k d) (sym e)) in (
        λ h. subst (λ (s : PickSet). Contains s.points p) there ((same p).0 (subst (λ (s : PickSet). Contains s.points p) here h)),
        λ h. subst (λ (s : PickSet). Contains s.points p) (sym here) ((same p).1 (subst (λ (s : PickSet). Contains s.points p) (sym there) h)),
      ))
      (λ (ne : order ≢ place).
      let kept : get_or (copies ++ copy ∷ []) order d ≡ get_or copies order d =
      get_or_append_left copies (copy ∷ []) d order (omega (arith, before.count, ne)) in
      let old = before.each order d (omega (arith, ne)) p in
      (λ h. old.0 (subst (λ (s : PickSet). Contains s.points p) kept h), λ h. subst (λ (s : PickSet). Contains s.points p) (sym kept) (old.1 h)))
      (cases_eq order place);
}

-- what is read at a place of the orders that a wave keeps picks as that order does
pub read_of : (now wave : WavePicks) (items : List PickSet) (place : ℕ) (item : PickSet) → wave ≡ now → items ≡ wave.orders → place < length items
    → item ≡ get_or items place item → item.points ≡ picks_of now place
read_of now wave items place item view same within is =
    let e : items ≡ now.orders = same ∙ ap (λ (w : WavePicks). w.orders) view in
    order_read now place item (subst (λ (xs : List PickSet). place < length xs) e within) (subst (λ (xs : List PickSet). item ≡ get_or xs place item) e is)

-- copies of the picks of orders of which each picks at some slot do so too
pub copies_filled : (originals copies : List PickSet) → HaveSamePicks copies originals → All (λ picks. 0 < length picks.points) originals
    → All (λ picks. 0 < length picks.points) copies
copies_filled originals copies same filled = λ k d within.
    let there = filled k d (omega (arith, same.count)) in
    let first : Point = record { aisle = 0; slot = 0 } in
    let points = (get_or originals k d).points in
    let has = (same.each k d within (get_or points 0 first)).1 (Contains-get_or points 0 first there) in
    omega (arith, has.1)

-- slots that are put together with those of an order, from none on
pub put_together : (wave : WavePicks) (order : ℕ) (none points both read more : List Point) → none ≡ []
    → ((p : Point) → Contains both p ↔ (Contains none p ⊎ Contains points p)) → read ≡ picks_of wave order
    → ((p : Point) → Contains more p ↔ (Contains both p ⊎ Contains read p)) → (p : Point)
    → Contains more p ↔ (Contains points p ⊎ Contains (picks_of wave order) p)
put_together wave order none points both read more empty first is second p = (
  λ has. ⊎_elim (λ old. inl (⊎_elim (λ bare. absurd (nothing_in none p empty bare)) (λ of. of) ((first p).0 old)))
      (λ new. inr (subst (λ (xs : List Point). Contains xs p) is new)) ((second p).0 has),
  λ has. (second p).1 (⊎_elim (λ old. inl ((first p).1 (inr old))) (λ new. inr (subst (λ (xs : List Point). Contains xs p) (sym is) new)) has),
)
