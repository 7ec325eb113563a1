-- Each batch that is priced is new, and so no run appends as many as there are permitted batches.
use Rattle.std.proofs.Common.{◌≡◌, ◌⊎◌, ⊎_elim, inl, inr, ℕ, zero, suc, ◌+◌, ◌*◌, ◌≤◌, ◌<◌, Bool, true, false, cond, List, [], ◌∷◌, length, get_or, Contains}
use Rattle.std.proofs.Common.{ℤ, pos, ◌*ℤ◌, ◌≤ℤ◌, ◌<ℤ◌, arith, ap, sym, subst, refl, ◌∙◌}
use Rattle.std.specs.Prelude.{slice_index}
use Rattle.std.proofs.Math.IntN.{*ℤ_comm}
use Rattle.std.proofs.lemmas.Int.{ints}
use Rattle.std.proofs.lemmas.Nat.{mul-le}
use Rattle.std.proofs.lemmas.List.{get_or-map, get_or_default, length-map}
use Rattle.std.proofs.lemmas.List.Elements.{All-get_or, Contains-append_left, Contains-append_right, Contains-get_or, Contains-push, Contains-push_cases}
use Rattle.std.proofs.lemmas.List.Elements.{Contains-append_cases}
use Rattle.wp_lengths.proofs.FewerOrders.{same_length}
use Rattle.wp_lengths.specs.Batchings.{batch_at}
use Rattle.wp_lengths.specs.Duals.{duals_of}
use Rattle.wp_lengths.specs.Lengths.{IsLengthOf}
use Rattle.wp_lengths.specs.Waves.{WavePicks}
use Rattle.wp_pairs.proofs.SumsUnder.{under_all}
use Rattle.wp_pairs.specs.Permitted.{IsPermitted, Pairing}
use Rattle.wp_master.proofs.Sums.{total_most, total_times}
use Rattle.wp_master.specs.Bases.{total_below}
use Rattle.wp_master.specs.Pairs.{number_at}
use Rattle.wp_master.specs.Pools.{column_of}
use Rattle.wp_master.specs.declared.column.Column.{Column}
use Rattle.wp_lp.proofs.Sides.{known_orders, total_under}
use Rattle.wp_lp.proofs.Wholes.{as_natural}
use Rattle.wp_lp.specs.Covers.{has}
use Rattle.wp_lp.specs.Roots.{HasRun}
use Rattle.wp_lp.specs.Runs.{HasPermitted, IsPriced, PricedRun}
use Rattle.wp_lp.specs.Runs.PricedRun.{start, onward}

-- a list without one of its items: it is shorter by one, and the others are still in it
record Without {X : Type 0} (xs : List X) (x : X) : Type 0 where
  rest : List X
  count : length xs ≡ suc (length rest)
  others : (y : X) → Contains xs y → (x ≡ y → ⊥) → Contains rest y

nothing : {X : Type 0} (x : X) → Contains {X = X} [] x → ⊥
nothing x is = omega (arith, is.1)

only_one : {X : Type 0} (x y : X) → Contains (x ∷ []) y → x ≡ y
only_one x y is = ⊎_elim (λ none. absurd (nothing y none)) (λ e. e) (Contains-push_cases [] x y is)

first_or_later : {X : Type 0} (x : X) (xs : List X) (y : X) → Contains (x ∷ xs) y → (x ≡ y) ⊎ Contains xs y
first_or_later x xs y is = ⊎_elim (λ one. inl (only_one x y one)) (λ later. inr later) (Contains-append_cases (x ∷ []) xs y is)

without : {X : Type 0} (xs : List X) (x : X) → Contains xs x → Without xs x
without [] x is = absurd (nothing x is)
without (z ∷ zs) x is = ⊎_elim
    (λ (e : z ≡ x). record {
      rest = zs;
      count = refl;
      others = λ y in_it apart. ⊎_elim (λ (same : z ≡ y). absurd (apart (sym e ∙ same))) (λ later. later) (first_or_later z zs y in_it);
    })
    (λ later. let r = without zs x later in record {
      rest = z ∷ r.rest;
      count = ap suc r.count;
      others = λ y in_it apart. ⊎_elim
          (λ (same : z ≡ y). subst (Contains (z ∷ r.rest)) same (Contains-append_left (z ∷ []) r.rest z (Contains-push [] z)))
          (λ far. Contains-append_right (z ∷ []) r.rest y (r.others y far apart)) (first_or_later z zs y in_it);
    })
    (first_or_later z zs x is)

scaled_cond : (b : Bool) (v q : ℤ) (s : ℕ) → (pos s *ℤ q) ≤ℤ (pos 60 *ℤ v) → (q *ℤ cond b (pos s) (pos 0)) ≤ℤ (pos 60 *ℤ cond b v (pos 0))
scaled_cond true v q s most = let turned = *ℤ_comm q (pos s) in omega (arith, ints, most, turned)
scaled_cond false v q s most = omega (arith, ints)

either_way : (x y : ℕ) → (x ≤ y) ⊎ (y + 1 ≤ x)
either_way x y = grind arith

less_over : (q : ℤ) (x y : ℕ) → pos 0 <ℤ q → (q *ℤ pos x) ≤ℤ (pos 60 *ℤ (q *ℤ pos y)) → x ≤ 60 * y
less_over q x y above most =
    let m = as_natural q (omega (arith, ints, above)) in
    let some : 0 < m.0 = omega (arith, ints, above, m.1) in
    let left : q *ℤ pos x ≡ pos (m.0 * x) = ap (λ (t : ℤ). t *ℤ pos x) m.1 in
    let right : q *ℤ pos y ≡ pos (m.0 * y) = ap (λ (t : ℤ). t *ℤ pos y) m.1 in
    let naturals : m.0 * x ≤ 60 * (m.0 * y) = omega (arith, ints, most, left, right) in
    ⊎_elim (λ (low : x ≤ 60 * y). low)
    (λ (high : 60 * y + 1 ≤ x). let product = mul-le (60 * y + 1) m.0 x m.0 high (omega arith) in absurd (omega (arith, naturals, product, some)))
    (either_way x (60 * y))

-- a batch of the pool has no negative slack
no_negative : (wave : WavePicks) (pairing : Pairing) (batches : List (List ℕ)) (batch : List ℕ) → pairing.orders ≡ length wave.orders
    → IsPriced wave pairing batches batch → Contains batches batch → ⊥
no_negative wave pairing batches batch as_many priced is =
    let pool = priced.pool in
    let k = is.0 in
    let within : k < length pool.columns = omega
    (arith, is.1, ap (λ (xs : List (List ℕ)). length xs) priced.pool_of.are, length-map pool.columns (λ (column : Column). column.batch)) in
    let column = column_of pool k in
    let same : column.batch ≡ batch = sym (get_or-map (λ (column : Column). column.batch) pool.columns k _ batch within)
    ∙ ap (λ (xs : List (List ℕ)). get_or xs k batch) priced.pool_of.are ∙ is.2 in
    let n = length wave.orders in
    let q = priced.denominator in
    let sixtieths = priced.sixtieths in
    let duals = priced.duals in
    let own = λ (order : ℕ). cond (has batch order) (pos (slice_index sixtieths order)) (pos 0) in
    let theirs = λ (order : ℕ). cond (has batch order) (number_at duals order) (pos 0) in
    let orders = priced.pool_of.orders in
    let fit : total_below n theirs ≤ℤ (q *ℤ pos column.length) =
    subst (λ (m : ℕ). total_below m theirs ≤ℤ (q *ℤ pos column.length)) orders
    (subst (λ (b : List ℕ). total_below pool.orders (λ (order : ℕ). cond (has b order) (number_at duals order) (pos 0)) ≤ℤ (q *ℤ pos column.length)) same
    (priced.answer.fit k within)) in
    let most = total_most n (λ (order : ℕ). q *ℤ own order) (λ (order : ℕ). pos 60 *ℤ theirs order)
    (λ order low. scaled_cond (has batch order) (number_at duals order) q (slice_index sixtieths order)
    (priced.rounded.each order (omega (arith, low, orders, priced.answer.are_duals.count))).reached) in
    let left = total_times n q own in
    let right = total_times n (pos 60) theirs in
    let sums = total_under (slice_index sixtieths) n batch priced.permitted.ascending
    ∙ ap pos (under_all (slice_index sixtieths) n batch (known_orders wave pairing batch priced.permitted as_many)) in
    let whole = ap (λ (t : ℤ). q *ℤ t) sums in
    let few = less_over q (duals_of sixtieths batch) column.length priced.answer.above (omega (arith, ints, most, left, right, whole, fit)) in
    let long = same_length wave batch column.length priced.is_slack.total
    (subst (λ (b : List ℕ). IsLengthOf wave b column.length) same
    (All-get_or (λ (c : Column). IsLengthOf wave c.batch c.length) pool.columns k _ within priced.pool_of.lengths)) priced.is_slack.long in
    omega (arith, ints, priced.negative, priced.is_slack.is, few, long)

-- a run has appended fewer batches than there are in a list that has all of its batches
pub few_rounds : (wave : WavePicks) (pairing : Pairing) (made : ℕ) (batches all : List (List ℕ)) → pairing.orders ≡ length wave.orders → 1 ≤ pairing.orders
    → PricedRun wave pairing made batches → ((batch : List ℕ) → Contains batches batch → Contains all batch) → made < length all
few_rounds wave pairing zero batches all as_many some (start batching) within =
    let held = batching.covered 0 some in
    let in_all = within (batch_at batches held.0) (Contains-get_or batches held.0 [] held.1) in
    omega (arith, in_all.1)
few_rounds wave pairing (suc made) batches all as_many some (onward {batches = before} {batch = batch} run priced) within =
    let out = without all batch (within batch (Contains-push before batch)) in
    let rest = few_rounds wave pairing made before out.rest as_many some run
    (λ other in_it. out.others other (within other (Contains-append_left before (batch ∷ []) other in_it))
    (λ (e : batch ≡ other). no_negative wave pairing before batch as_many priced (subst (Contains before) (sym e) in_it))) in
    omega (arith, rest, out.count)

-- all batches of a run are permitted
pub run_permitted : (wave : WavePicks) (pairing : Pairing) (made : ℕ) (batches : List (List ℕ)) (batch : List ℕ) → PricedRun wave pairing made batches
    → Contains batches batch → IsPermitted pairing batch
run_permitted wave pairing zero batches batch (start batching) is =
    subst (IsPermitted pairing) (get_or_default batches is.0 [] batch is.1 ∙ is.2) (batching.each is.0 is.1)
run_permitted wave pairing (suc made) batches batch (onward {batches = before} {batch = last} run priced) is = ⊎_elim
    (λ in_it. run_permitted wave pairing made before batch run in_it)
    (λ (e : last ≡ batch). subst (IsPermitted pairing) e priced.permitted) (Contains-push_cases before last batch is)

-- in no run as many batches were appended as there are permitted batches
pub few_in_run : (wave : WavePicks) (pairing : Pairing) (made : ℕ) (all : List (List ℕ)) → pairing.orders ≡ length wave.orders → 1 ≤ length wave.orders
    → HasRun wave pairing made → HasPermitted pairing all → made < length all
few_in_run wave pairing made all as_many some run permitted = few_rounds wave pairing made run.0 all as_many (omega (arith, some, as_many)) run.1
    (λ batch is. permitted batch (run_permitted wave pairing made run.0 batch run.1 is))
