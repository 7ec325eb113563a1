-- What is saved by joins, and which of them saves most.
use Rattle.std.proofs.Common.{◌≡◌, ◌≢◌, ℕ, ◌+◌, ◌<◌, ◌≤◌, ◌↔◌, List, [], ◌++◌, length, get_or, arith, sym, ◌∙◌, subst, ◌⊎◌, ⊎_elim, Contains, All}
use Rattle.std.proofs.lemmas.Bool.{cases_eq}
use Rattle.std.proofs.lemmas.List.Elements.{Contains-append_cases, Contains-append_left, Contains-append_right}
use Rattle.std.proofs.lemmas.List.{get_or_default}
use Rattle.wp_model.specs.declared.point.Point.{Point}
use Rattle.wp_graph.proofs.Members.{Contains-from_among, among-flat_map, among_from_Contains, flat_map_source}
use Rattle.wp_batch.specs.declared.merge.Join.{Join}
use Rattle.wp_batch.specs.Joins.{AreKnown, CanJoin, FitInOne, IsBestBelow, IsBestWith, JoinSaves, NoGain, SavesAtMost}
use Rattle.wp_lengths.specs.Batchings.{IsBatching, batch_at}
use Rattle.wp_lengths.specs.Lengths.{IsLengthOf, batch_picks}
use Rattle.wp_lengths.specs.Waves.{WavePicks, picks_of}
use Rattle.wp_lengths.proofs.Unions.{one_length, same_shortest}

-- batches of the same orders pick at the same slots
picks_same : (wave : WavePicks) (xs ys : List ℕ) → ((order : ℕ) → Contains xs order → Contains ys order) → (p : Point) → Contains (batch_picks wave xs) p
    → Contains (batch_picks wave ys) p
picks_same wave xs ys same p has =
    let source = flat_map_source (picks_of wave) xs p (among_from_Contains _ p has) in
    Contains-from_among _ p (among-flat_map (picks_of wave) ys source.0 p
    (among_from_Contains ys source.0 (same source.0 (Contains-from_among xs source.0 source.1))) source.2)

-- batches of the same orders are of one length
same_length : (wave : WavePicks) (xs ys : List ℕ) (total : ℕ) → ((order : ℕ) → Contains xs order ↔ Contains ys order) → IsLengthOf wave xs total
    → IsLengthOf wave ys total
same_length wave xs ys total same = same_shortest wave.layout (batch_picks wave xs) (batch_picks wave ys) total
    (λ p. (picks_same wave xs ys (λ o. (same o).0) p, picks_same wave ys xs (λ o. (same o).1) p))

module _ (wave : WavePicks) (left right union : List ℕ) (both : ℕ) (is : (p : ℕ) → Contains union p ↔ (Contains left p ⊎ Contains right p)) where
  into : (o : ℕ) → Contains union o → Contains (left ++ right) o
  into o has = ⊎_elim (λ x. Contains-append_left left right o x) (λ y. Contains-append_right left right o y) ((is o).0 has)

  back : (o : ℕ) → Contains (left ++ right) o → Contains union o
  back o has = (is o).1 (Contains-append_cases left right o has)

  -- a batch of the orders of two others is as long as both together
  pub both_length : IsLengthOf wave union both → IsLengthOf wave (left ++ right) both
  both_length = same_length wave union (left ++ right) both (λ o. (into o, back o))

  pub union_length : IsLengthOf wave (left ++ right) both → IsLengthOf wave union both
  union_length = same_length wave (left ++ right) union both (λ o. (back o, into o))

-- the lengths of two batches and of their union show how much they save at most
pub saves_at_most : (wave : WavePicks) (capacity : ℕ) (left right union : List ℕ) (one other both : ℕ)
    → ((p : ℕ) → Contains union p ↔ (Contains left p ⊎ Contains right p)) → IsLengthOf wave left one → IsLengthOf wave right other
    → IsLengthOf wave union both → (most : ℕ) → one + other ≤ both + most → SavesAtMost wave capacity left right most
saves_at_most wave capacity left right union one other both is l r u most low = λ fits a b t la rb lt.
    let first = one_length wave.layout _ one a l la in
    let second = one_length wave.layout _ other b r rb in
    let third = one_length wave.layout _ both t (both_length wave left right union both is u) lt in
    omega (arith, first, second, third, low)

-- what saves at most so much saves at most what is more
more_at_most : (wave : WavePicks) (capacity : ℕ) (left right : List ℕ) (most more : ℕ) → most ≤ more → SavesAtMost wave capacity left right most
    → SavesAtMost wave capacity left right more
more_at_most wave capacity left right most more low is = λ fits one other both l r b. omega (arith, low, is fits one other both l r b)

-- where nothing is saved nothing is gained
pub no_gain_at_all : (wave : WavePicks) (capacity : ℕ) (left right : List ℕ) (most : ℕ) → most ≡ 0 → SavesAtMost wave capacity left right most
    → NoGain wave capacity left right
no_gain_at_all wave capacity left right most none is = λ fits one other both l r b. omega (arith, none, is fits one other both l r b)

-- one more batch before the same one
pub one_more_before : (wave : WavePicks) (capacity : ℕ) (batches : List (List ℕ)) (place right : ℕ) (best found result : Join)
    → IsBestWith wave capacity batches place right best → found.left ≡ place → found.right ≡ right → place < right → right < length batches
    → (0 < found.saving → FitInOne wave capacity (batch_at batches place) (batch_at batches right))
    → SavesAtMost wave capacity (batch_at batches place) (batch_at batches right) found.saving
    → (0 < found.saving → JoinSaves wave (batch_at batches place) (batch_at batches right) found.saving) → (result ≡ best) ⊎ (result ≡ found)
    → best.saving ≤ result.saving → found.saving ≤ result.saving → IsBestWith wave capacity batches (place + 1) right result
one_more_before wave capacity batches place right best found result before l r lt within fits most saves either low_best low_found = record {
  can = λ some. ⊎_elim
      (λ (e : result ≡ best). subst (CanJoin wave capacity batches) (sym e) (before.can (subst (λ (j : Join). 0 < j.saving) e some)))
      (λ (e : result ≡ found). subst (CanJoin wave capacity batches) (sym e) (record {
        order = omega (arith, l, r);
        within = omega (arith, r);
        fits = let both = fits (subst (λ (j : Join). 0 < j.saving) e some) in
            subst (λ (x : ℕ). FitInOne wave capacity (batch_at batches x) (batch_at batches found.right)) (sym l)
            (subst (λ (y : ℕ). FitInOne wave capacity (batch_at batches place) (batch_at batches y)) (sym r) both);
        saves = subst (λ (x : ℕ). JoinSaves wave (batch_at batches x) (batch_at batches found.right) found.saving) (sym l)
            (subst (λ (y : ℕ). JoinSaves wave (batch_at batches place) (batch_at batches y) found.saving) (sym r)
            (saves (subst (λ (j : Join). 0 < j.saving) e some)));
      }))
      either;
  most = λ left low. ⊎_elim
      (λ (e : left ≡ place). subst (λ (x : ℕ). SavesAtMost wave capacity (batch_at batches x) (batch_at batches right) result.saving) (sym e)
      (more_at_most wave capacity _ _ _ _ low_found most))
      (λ (ne : left ≢ place). more_at_most wave capacity _ _ _ _ low_best (before.most left (omega arith)))
      (cases_eq left place);
}

-- all batches before one more
pub one_more_after : (wave : WavePicks) (capacity : ℕ) (batches : List (List ℕ)) (place : ℕ) (best found result : Join)
    → IsBestBelow wave capacity batches place best → IsBestWith wave capacity batches place place found
    → (result ≡ best) ⊎ (result ≡ found) → best.saving ≤ result.saving → found.saving ≤ result.saving
    → IsBestBelow wave capacity batches (place + 1) result
one_more_after wave capacity batches place best found result before with_one either low_best low_found = record {
  can = λ some. ⊎_elim
      (λ (e : result ≡ best). subst (CanJoin wave capacity batches) (sym e) (before.can (subst (λ (j : Join). 0 < j.saving) e some)))
      (λ (e : result ≡ found). subst (CanJoin wave capacity batches) (sym e) (with_one.can (subst (λ (j : Join). 0 < j.saving) e some)))
      either;
  most = λ left right lt low. ⊎_elim
      (λ (e : right ≡ place). subst (λ (x : ℕ). SavesAtMost wave capacity (batch_at batches left) (batch_at batches x) result.saving) (sym e)
      (more_at_most wave capacity _ _ _ _ low_found (with_one.most left (omega (arith, e)))))
      (λ (ne : right ≢ place). more_at_most wave capacity _ _ _ _ low_best (before.most left right lt (omega arith)))
      (cases_eq right place);
}

-- the batches of a batching have orders of the wave alone
pub batching_is_known : (wave : WavePicks) (capacity : ℕ) (batches : List (List ℕ)) → IsBatching wave capacity batches → AreKnown wave batches
batching_is_known wave capacity batches is = λ place within. (is.each place within).known

-- what is read at a place of the list is the batch there
pub batch_read : (batches : List (List ℕ)) (place : ℕ) (read : List ℕ) → place < length batches → read ≡ get_or batches place read
    → read ≡ batch_at batches place
batch_read batches place read within is = is ∙ get_or_default batches place read [] within

-- and so its orders are orders of the wave
pub known_read : (wave : WavePicks) (batches : List (List ℕ)) (place : ℕ) (read : List ℕ) → AreKnown wave batches → place < length batches
    → read ≡ get_or batches place read → All (λ order. order < length wave.orders) read
known_read wave batches place read known within is =
    subst (λ (xs : List ℕ). All (λ order. order < length wave.orders) xs) (sym (batch_read batches place read within is)) (known place within)
