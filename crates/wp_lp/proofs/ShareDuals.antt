-- Share duals are feasible where no more orders are in a batch than the capacity.
use Rattle.std.proofs.Common.{◌≡◌, ⊎_elim, ℕ, ◌*◌, ◌/◌, ◌≤◌, List, [], ◌∷◌, length, Contains, arith, ap, subst}
use Rattle.std.specs.Prelude.{slice_index}
use Rattle.std.proofs.lemmas.Nat.{div-add-mod', le-div, mul-le}
use Rattle.wp_lengths.proofs.DualBounds.{bounded_sum}
use Rattle.wp_lengths.proofs.FewerOrders.{more_orders_no_shorter}
use Rattle.wp_lengths.specs.Duals.{AreFeasible, AreShares}
use Rattle.wp_lengths.specs.Waves.{WavePicks}
use Rattle.wp_pairs.proofs.Members.{contains_cases, contains_none}
use Rattle.wp_pairs.specs.Permitted.{Pairing}
use Rattle.wp_lp.proofs.Sides.{known_orders}

share_least : (share alone total capacity : ℕ) → 1 ≤ capacity → share ≡ 60 * alone / capacity → alone ≤ total → share ≤ 60 * total / capacity
share_least share alone total capacity some is most =
    let whole = div-add-mod' (60 * alone) capacity in
    let product = ap (λ (q : ℕ). q * capacity) is in
    le-div share (60 * total) capacity some (omega (arith, whole, product, most))

itself : (order x : ℕ) → Contains (order ∷ []) x → order ≡ x
itself order x is = ⊎_elim (λ (e : order ≡ x). e) (λ later. absurd (contains_none x later)) (contains_cases order x [] is)

-- share duals are feasible
pub shares_feasible : (wave : WavePicks) (pairing : Pairing) (shares : List ℕ) → AreShares wave pairing.capacity shares → 1 ≤ pairing.capacity
    → pairing.orders ≡ length wave.orders → AreFeasible wave pairing shares
shares_feasible wave pairing shares are some as_many batch total permitted long =
    let most = 60 * total / pairing.capacity in
    let each = bounded_sum (slice_index shares) most batch (λ order is.
    let share = are.each order (known_orders wave pairing batch permitted as_many order is) in
    share_least (slice_index shares order) share.total total pairing.capacity some share.is
    (more_orders_no_shorter wave (order ∷ []) batch share.total total
    (λ x in_one. subst (Contains batch) (itself order x in_one) is) share.alone long)) in
    let scaled = mul-le most (length batch) most pairing.capacity (omega arith) permitted.fits in
    let whole = div-add-mod' (60 * total) pairing.capacity in
    omega (arith, each, scaled, whole)
