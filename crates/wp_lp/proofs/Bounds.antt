-- What the numbers of a pool's solution come to at most.
use Rattle.std.proofs.Common.{◌≡◌, ◌⊎◌, ⊎_elim, ℕ, zero, suc, ◌≤◌, ◌<◌, ◌^◌, Bool, true, false, cond, List, All, length, Contains}
use Rattle.std.proofs.Common.{ℤ, pos, ◌+ℤ◌, ◌*ℤ◌, ◌≤ℤ◌, ◌<ℤ◌, arith, ap, sym, subst, ◌∙◌}
use Rattle.std.proofs.Math.IntN.{*ℤ_comm}
use Rattle.std.proofs.lemmas.Int.{ints}
use Rattle.std.proofs.lemmas.List.{get_or_default}
use Rattle.std.proofs.lemmas.List.Elements.{All-get_or}
use Rattle.wp_master.specs.Bases.{total_below}
use Rattle.wp_master.specs.Pairs.{number_at, sum_of}
use Rattle.wp_master.specs.Pools.{ColumnPool, column_of}
use Rattle.wp_master.specs.declared.column.Column.{Column}
use Rattle.wp_lp.proofs.Holds.{has_true}
use Rattle.wp_lp.proofs.Wholes.{times_most}
use Rattle.wp_lp.specs.Covers.{has}
use Rattle.wp_lp.specs.Parts.{AreSmallOver}
use Rattle.wp_lp.specs.Runs.{IsAnswer}

here_or_before : (n k : ℕ) → k < suc n → (k ≡ n) ⊎ (k < n)
here_or_before n k h = grind arith

none_below : (n : ℕ) (f : ℕ → ℤ) → ((k : ℕ) → k < n → pos 0 ≤ℤ f k) → pos 0 ≤ℤ total_below n f
unfolding total_below
none_below zero f least = omega (arith, ints)
none_below (suc n) f least =
    let before = none_below n f (λ k low. least k (omega (arith, low))) in
    let here = least n (omega arith) in
    omega (arith, ints, before, here)

-- of numbers that aren't below 0 each is no more than their sum
pub term_most : (n : ℕ) (f : ℕ → ℤ) (k : ℕ) → k < n → ((j : ℕ) → j < n → pos 0 ≤ℤ f j) → f k ≤ℤ total_below n f
unfolding total_below
term_most zero f k within least = absurd (omega (arith, within))
term_most (suc n) f k within least =
    let fewer = λ (j : ℕ) (low : j < n). least j (omega (arith, low)) in
    ⊎_elim
    (λ (e : k ≡ n). let before = none_below n f (λ j low. least j (omega (arith, low))) in
    let same = ap f e in omega (arith, ints, before, same))
    (λ (early : k < n). let before = term_most n f k early (λ j low. least j (omega (arith, low))) in
    let here = least n (omega arith) in omega (arith, ints, before, here))
    (here_or_before n k within)

cond_not_below : (b : Bool) (x : ℤ) → pos 0 ≤ℤ x → pos 0 ≤ℤ cond b x (pos 0)
cond_not_below true x least = least
cond_not_below false x least = omega (arith, ints)

-- a dual is no more than 2 ^ 28 times the denominator where no column is as long
pub small_duals : (pool : ColumnPool) (weights duals : List ℤ) (q : ℤ) → IsAnswer pool weights duals q
    → All (λ (column : Column). column.length < 2 ^ 28) pool.columns → AreSmallOver duals q
small_duals pool weights duals q answer short order low =
    let known : order < pool.orders = omega (arith, low, answer.are_duals.count) in
    let held = answer.covered order known in
    let row = held.1.0 in
    let within : row < length pool.columns = held.1.1 in
    let is : column_of pool row ≡ held.0 = get_or_default pool.columns row _ held.0 within ∙ held.1.2 in
    let in_it : Contains (column_of pool row).batch order = subst (λ (c : Column). Contains c.batch order) (sym is) held.2 in
    let own = ap (λ (b : Bool). cond b (number_at duals order) (pos 0)) (has_true (column_of pool row).batch order in_it) in
    let most = term_most pool.orders (λ (o : ℕ). cond (has (column_of pool row).batch o) (number_at duals o) (pos 0)) order known
    (λ o less. cond_not_below (has (column_of pool row).batch o) (number_at duals o) (answer.are_duals.not_below o less)) in
    let fit = answer.fit row within in
    let short_one : (column_of pool row).length < 2 ^ 28 = All-get_or (λ (column : Column). column.length < 2 ^ 28) pool.columns row _ within short in
    let above : pos 0 ≤ℤ q = omega (arith, ints, answer.above) in
    let scaled = times_most q (pos (column_of pool row).length) (pos (2 ^ 28)) above (omega (arith, ints, short_one)) in
    let turned = *ℤ_comm q (pos (2 ^ 28)) in
    (answer.are_duals.not_below order known, omega (arith, ints, own, most, fit, scaled, turned))

total_bounded : (n : ℕ) (f : ℕ → ℤ) (most : ℤ) → ((k : ℕ) → k < n → f k ≤ℤ most) → total_below n f ≤ℤ (pos n *ℤ most)
unfolding total_below
total_bounded zero f most each = let none : pos 0 *ℤ most ≡ pos 0 = omega (arith, ints) in omega (arith, ints, none)
total_bounded (suc n) f most each =
    let before = total_bounded n f most (λ k low. each k (omega (arith, low))) in
    let here = each n (omega arith) in
    let more : pos (suc n) *ℤ most ≡ (pos n *ℤ most) +ℤ most = omega (arith, ints) in
    omega (arith, ints, before, here, more)

-- what the parts of a solution come to fits
pub cost_small : (pool : ColumnPool) (weights duals : List ℤ) (q : ℤ) (cost : ℕ) → IsAnswer pool weights duals q
    → All (λ (column : Column). column.length < 2 ^ 28) pool.columns → pool.orders ≤ 64 → q <ℤ pos (2 ^ 86)
    → pos cost ≤ℤ (pos 60 *ℤ sum_of pool duals) → cost < 2 ^ 127
cost_small pool weights duals q cost answer short few small most =
    let each = small_duals pool weights duals q answer short in
    let total = total_bounded pool.orders (number_at duals) (pos (2 ^ 28) *ℤ pos (2 ^ 86))
    (λ k low. let one = (each k (omega (arith, low, answer.are_duals.count))).1 in
    let less = times_most (pos (2 ^ 28)) q (pos (2 ^ 86)) (omega (arith, ints)) (omega (arith, ints, small)) in
    omega (arith, ints, one, less)) in
    omega (arith, ints, most, total, few)
