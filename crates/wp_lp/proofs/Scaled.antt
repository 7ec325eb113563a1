-- Duals that are scaled down till they are feasible (Farley, 1990).
use Rattle.std.proofs.Common.{◌≡◌, ◌⊎◌, ⊎_elim, ℕ, ◌+◌, ◌-◌, ◌*◌, ◌/◌, ◌≤◌, ◌<◌, ◌^◌, List, [], ◌∷◌, ◌++◌, length, Contains, Some, ℤ, pos, ◌+ℤ◌, ◌-ℤ◌, ◌≤ℤ◌}
use Rattle.std.proofs.Common.{arith, ap, sym, subst, refl}
use Rattle.std.specs.Prelude.{slice_index, sum_by}
use Rattle.std.proofs.lemmas.Int.{ints}
use Rattle.std.proofs.lemmas.List.Elements.{Contains-append_left}
use Rattle.std.proofs.lemmas.List.Sums.{sum_by-cons}
use Rattle.std.proofs.lemmas.Nat.{mul-le}
use Rattle.wp_lengths.proofs.FewerOrders.{more_orders_no_shorter}
use Rattle.wp_lengths.specs.Duals.{AreFeasible, duals_of}
use Rattle.wp_lengths.specs.Lengths.{IsLengthOf}
use Rattle.wp_lengths.specs.Waves.{WavePicks}
use Rattle.wp_master.specs.Pools.{AreCovered, ColumnPool}
use Rattle.wp_price.specs.Slacks.{HasNoCandidate, IsLeastSlack}
use Rattle.wp_pairs.proofs.Members.{contains_cases, contains_first, contains_later, contains_none}
use Rattle.wp_pairs.specs.Permitted.{IsPermitted, Pairing}
use Rattle.wp_lp.specs.Knowns.{IsCoveringPool, IsLack, IsScaled}
use Rattle.wp_lp.specs.Runs.{batches_of}
use Rattle.wp_lp.proofs.Pools.{one_more_column}
use Rattle.wp_lp.proofs.RoundedDown.{rounded}
use Rattle.wp_lp.proofs.Sides.{known_orders}

-- sums of two numbers for each order keep the order that the numbers of each have
scaled_sum : (f g : ℕ → ℕ) (d w : ℕ) (batch : List ℕ) → ((order : ℕ) → Contains batch order → f order * d ≤ g order * w)
    → sum_by f batch * d ≤ sum_by g batch * w
scaled_sum f g d w [] each = omega arith
scaled_sum f g d w (x ∷ xs) each =
    let here = each x (contains_first x xs) in
    let rest = scaled_sum f g d w xs (λ order is. each order (contains_later x order xs is)) in
    let left = ap (λ (t : ℕ). t * d) (sum_by-cons f x xs) in
    let right = ap (λ (t : ℕ). t * w) (sum_by-cons g x xs) in
    omega (arith, here, rest, left, right)

-- a scaled dual, times what a batch with its order has in duals, is no more than the dual times sixty times the batch's length
each_scaled : (s v a l t d : ℕ) → s ≤ v → s * (60 * a + l) ≤ v * (60 * a) → a ≤ t → d ≤ 60 * t + l → s * d ≤ v * (60 * t)
each_scaled s v a l t d less is short most =
    let k = v - s in
    let whole : v ≡ s + k = omega (arith, less) in
    let left = ap (λ (x : ℕ). x * (60 * a)) whole in
    let right = ap (λ (x : ℕ). x * (60 * t)) whole in
    let lacked : s * l ≤ k * (60 * a) = omega (arith, is, left) in
    let longer = mul-le k (60 * a) k (60 * t) (omega arith) (omega (arith, short)) in
    let product = mul-le s d s (60 * t + l) (omega arith) most in
    omega (arith, lacked, longer, product, right)

none_or_some : (d : ℕ) → (d ≡ 0) ⊎ (0 < d)
none_or_some d = grind arith

either_way : (x y : ℕ) → (x ≤ y) ⊎ (y + 1 ≤ x)
either_way x y = grind arith

-- a factor that isn't 0 is left out
pub cancelled : (s d w : ℕ) → 0 < d → s * d ≤ d * w → s ≤ w
cancelled s d w some most = ⊎_elim (λ (low : s ≤ w). low)
    (λ (high : w + 1 ≤ s). let product = mul-le (w + 1) d s d high (omega arith) in absurd (omega (arith, product, most, some)))
    (either_way s w)

itself : (order x : ℕ) → Contains (order ∷ []) x → order ≡ x
itself order x is = ⊎_elim (λ (e : order ≡ x). e) (λ later. absurd (contains_none x later)) (contains_cases order x [] is)

-- duals of which each is scaled down are feasible
pub scaled_feasible : (wave : WavePicks) (pairing : Pairing) (sixtieths scaled : List ℕ) → pairing.orders ≡ length wave.orders
    → ((order : ℕ) → order < length wave.orders → IsScaled wave pairing sixtieths order (slice_index scaled order)) → AreFeasible wave pairing scaled
scaled_feasible wave pairing sixtieths scaled as_many each batch total permitted long =
    let d = duals_of sixtieths batch in
    let s = duals_of scaled batch in
    let at = λ (order : ℕ) (is : Contains batch order). each order (known_orders wave pairing batch permitted as_many order is) in
    let less = scaled_sum (slice_index scaled) (slice_index sixtieths) 1 1 batch (λ order is. omega (arith, (at order is).less)) in
    let most = scaled_sum (slice_index scaled) (slice_index sixtieths) d (60 * total) batch (λ order is.
    let one = at order is in
    each_scaled (slice_index scaled order) (slice_index sixtieths order) one.alone one.lack total d one.less one.is
    (more_orders_no_shorter wave (order ∷ []) batch one.alone total (λ x in_one. subst (Contains batch) (itself order x in_one) is) one.long long)
    (one.is_lack batch total permitted is long)) in
    ⊎_elim (λ (none : d ≡ 0). omega (arith, none, less))
    (λ (some : 0 < d). cancelled s d (60 * total) some most) (none_or_some d)

-- a quotient is no more than the number that was scaled down
pub scaled_down : (v own lack q : ℕ) → 0 < own + lack → q ≡ v * own / (own + lack) → (q ≤ v) × (q * (own + lack) ≤ v * own)
scaled_down v own lack q some is =
    let round = rounded (v * own) (own + lack) q some is in
    let more = mul-le v own v (own + lack) (omega arith) (omega arith) in
    let turned : v * (own + lack) ≡ (own + lack) * v = omega arith in
    (cancelled q (own + lack) v some (omega (arith, round.0, more, turned)), round.0)

-- what the least slack through an order is below 0 is what its batches lack at most
pub lack_from : (wave : WavePicks) (pairing : Pairing) (sixtieths best : List ℕ) (order : ℕ) (slack : ℤ) (lack : ℕ)
    → IsLeastSlack wave pairing sixtieths (Some order) best slack → pos 0 ≤ℤ (slack +ℤ pos lack) → IsLack wave pairing sixtieths order lack
lack_from wave pairing sixtieths best order slack lack least above batch total permitted has long =
    let own : (pos (60 * total) -ℤ pos (duals_of sixtieths batch)) +ℤ pos (duals_of sixtieths batch) ≡ pos (60 * total) = omega (arith, ints) in
    let most = least.least batch (pos (60 * total) -ℤ pos (duals_of sixtieths batch)) (permitted, has) (record { total = total; long = long; is = own }) in
    omega (arith, ints, most, above)

-- where no batch has the order nothing lacks
pub no_lack : (wave : WavePicks) (pairing : Pairing) (sixtieths : List ℕ) (order : ℕ) → HasNoCandidate pairing (Some order)
    → IsLack wave pairing sixtieths order 0
no_lack wave pairing sixtieths order none batch total permitted has long = absurd (none batch (permitted, has))

-- a pool to which a permitted batch is added has each order still
pub covering_more : (wave : WavePicks) (pairing : Pairing) (batch : List ℕ) (long : ℕ) (old new : ColumnPool) → IsCoveringPool wave pairing old
    → IsPermitted pairing batch → IsLengthOf wave batch long → long < 2 ^ 28
    → new ≡ record { orders = old.orders; columns = old.columns ++ record { batch = batch; length = long } ∷ [] } → IsCoveringPool wave pairing new
covering_more wave pairing batch long old new before permitted is small e =
    let more = one_more_column wave pairing (batches_of old) batch long old new (record { are = refl; short = before.short }) permitted is small e in record {
      short = more.short;
      covered = subst (λ (pool : ColumnPool). AreCovered pool pool.orders) (sym e) (λ order low.
          let held = before.covered order low in
          (held.0, Contains-append_left old.columns (record { batch = batch; length = long } ∷ []) held.0 held.1, held.2));
    }
