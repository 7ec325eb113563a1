-- Each fractional cover costs at least what feasible duals sum to (weak duality: Gale, Kuhn and Tucker, 1951).
use Rattle.std.proofs.Common.{◌≡◌, ℕ, Bool, true, false, cond, List, [], ◌∷◌, All, length, ℤ, pos, ◌+ℤ◌, ◌-ℤ◌, ◌*ℤ◌, ◌≤ℤ◌, ◌*◌, None}
use Rattle.std.proofs.Common.{arith, refl, ap, sym, ◌∙◌}
use Rattle.std.proofs.Math.IntN.{*ℤ_comm}
use Rattle.std.proofs.lemmas.Int.{ints}
use Rattle.std.proofs.lemmas.List.Elements.{All-head, All-tail}
use Rattle.wp_master.proofs.Numbers.{product_of_product, product_of_sum}
use Rattle.wp_master.proofs.Sums.{total_of_sums, total_times}
use Rattle.wp_master.proofs.Totals.{no_total, same_total}
use Rattle.wp_master.specs.Bases.{total_below}
use Rattle.wp_master.specs.Pairs.{number_at}
use Rattle.wp_lengths.specs.Duals.{AreFeasible, duals_of}
use Rattle.wp_price.specs.Slacks.{IsLeastSlack}
use Rattle.wp_lengths.specs.Waves.{WavePicks}
use Rattle.wp_pairs.specs.Permitted.{IsPermitted, Pairing}
use Rattle.wp_lp.proofs.Wholes.{times_most}
use Rattle.wp_lp.specs.Covers.{AreFeasibleOver, IsBelowCovers, IsWeightedLength, dual_sum, has, sum_of_duals, weight_with}

either_part : (b : Bool) (w v : ℤ) → cond b w (pos 0) *ℤ v ≡ w *ℤ cond b v (pos 0)
either_part true w v = refl
either_part false w v = omega (arith, ints)

sum_times : (a b v : ℤ) → (a +ℤ b) *ℤ v ≡ (a *ℤ v) +ℤ (b *ℤ v)
sum_times a b v =
    let whole = product_of_sum v a b in
    omega (arith, ints, whole, *ℤ_comm (a +ℤ b) v, *ℤ_comm a v, *ℤ_comm b v)

none_times : (high q sum : ℤ) → high ≡ pos 0 → sum ≡ pos 0 → sum ≤ℤ (high *ℤ q)
none_times high q sum e f =
    let product = ap (λ (t : ℤ). t *ℤ q) e in
    let none : pos 0 *ℤ q ≡ pos 0 = omega (arith, ints) in
    omega (arith, ints, f, product, none)

one_more : (first rest w long high other q : ℤ) → first ≤ℤ (w *ℤ (q *ℤ long)) → rest ≤ℤ (other *ℤ q) → high ≡ (w *ℤ long) +ℤ other
    → (first +ℤ rest) ≤ℤ (high *ℤ q)
one_more first rest w long high other q one more is =
    let whole = ap (λ (t : ℤ). t *ℤ q) is in
    let parts = sum_times (w *ℤ long) other q in
    let turned = ap (λ (t : ℤ). w *ℤ t) (*ℤ_comm q long) in
    let grouped = product_of_product w long q in
    omega (arith, ints, one, more, whole, parts, turned, grouped)

-- what the weights of a cover come to, each order's times its dual, is no more than the cost
pub cover_most : (wave : WavePicks) (pairing : Pairing) (duals : List ℤ) (q : ℤ) (batches : List (List ℕ)) (weights : List ℤ) (high : ℤ)
    → AreFeasibleOver wave pairing duals q → All (λ (w : ℤ). pos 0 ≤ℤ w) weights → All (IsPermitted pairing) batches
    → IsWeightedLength wave batches weights high
    → total_below (length wave.orders) (λ (order : ℕ). weight_with batches weights order *ℤ number_at duals order) ≤ℤ (high *ℤ q)
cover_most wave pairing duals q [] weights high feasible least permitted long =
    none_times high q _ long (no_total (length wave.orders) (λ (o : ℕ). pos 0 *ℤ number_at duals o) (λ o low. omega (arith, ints)))
cover_most wave pairing duals q (batch ∷ batches) [] high feasible least permitted long =
    none_times high q _ long (no_total (length wave.orders) (λ (o : ℕ). pos 0 *ℤ number_at duals o) (λ o low. omega (arith, ints)))
cover_most wave pairing duals q (batch ∷ batches) (weight ∷ weights) high feasible least permitted long =
    let n = length wave.orders in
    let own = λ (o : ℕ). cond (has batch o) weight (pos 0) *ℤ number_at duals o in
    let others = λ (o : ℕ). weight_with batches weights o *ℤ number_at duals o in
    let rest = cover_most wave pairing duals q batches weights long.1 feasible (All-tail (λ (w : ℤ). pos 0 ≤ℤ w) weight weights least)
    (All-tail (IsPermitted pairing) batch batches permitted) long.3 in
    let not_below = All-head (λ (w : ℤ). pos 0 ≤ℤ w) weight weights least in
    let within = feasible.within batch long.0 (All-head (IsPermitted pairing) batch batches permitted) long.2 in
    let taken : total_below n own ≡ weight *ℤ dual_sum n duals batch =
    same_total n own (λ (o : ℕ). weight *ℤ cond (has batch o) (number_at duals o) (pos 0)) (λ o low. either_part (has batch o) weight (number_at duals o))
    ∙ sym (total_times n weight (λ (o : ℕ). cond (has batch o) (number_at duals o) (pos 0))) in
    let most = times_most weight _ _ not_below within in
    let split = same_total n (λ (o : ℕ). (cond (has batch o) weight (pos 0) +ℤ weight_with batches weights o) *ℤ number_at duals o)
    (λ (o : ℕ). own o +ℤ others o) (λ o low. sum_times (cond (has batch o) weight (pos 0)) (weight_with batches weights o) (number_at duals o)) ∙ total_of_sums
    n own others in
    let both = one_more (total_below n own) (total_below n others) weight (pos long.0) high long.1 q (omega (arith, ints, taken, most)) rest long.4 in
    omega (arith, ints, split, both)

-- no fractional cover costs less than feasible duals sum to
pub below_covers : (wave : WavePicks) (pairing : Pairing) (duals : List ℤ) (low q : ℤ) → AreFeasibleOver wave pairing duals q
    → low ≡ sum_of_duals (length wave.orders) duals → IsBelowCovers wave pairing low q
below_covers wave pairing duals low q feasible is batches weights other high cover long =
    let n = length wave.orders in
    let most = cover_most wave pairing duals q batches weights high feasible cover.not_below cover.permitted long in
    let same : other *ℤ sum_of_duals n duals ≡ total_below n (λ (o : ℕ). weight_with batches weights o *ℤ number_at duals o) =
    total_times n other (number_at duals)
    ∙ same_total n (λ (o : ℕ). other *ℤ number_at duals o) (λ (o : ℕ). weight_with batches weights o *ℤ number_at duals o)
    (λ o low. ap (λ (t : ℤ). t *ℤ number_at duals o) (sym (cover.exact o low))) in
    let turned = *ℤ_comm low other in
    let whole = ap (λ (t : ℤ). other *ℤ t) is in
    omega (arith, ints, most, same, turned, whole)

-- duals are feasible where the least slack isn't below 0
pub feasible_from_least : (wave : WavePicks) (pairing : Pairing) (duals best : List ℕ) (slack : ℤ) → IsLeastSlack wave pairing duals None best slack
    → pos 0 ≤ℤ slack → AreFeasible wave pairing duals
feasible_from_least wave pairing duals best slack least above batch total permitted long =
    let own : (pos (60 * total) -ℤ pos (duals_of duals batch)) +ℤ pos (duals_of duals batch) ≡ pos (60 * total) = omega (arith, ints) in
    let most = least.least batch (pos (60 * total) -ℤ pos (duals_of duals batch)) permitted (record { total = total; long = long; is = own }) in
    omega (arith, ints, most, above)
