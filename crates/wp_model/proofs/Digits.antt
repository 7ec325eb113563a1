-- A number of few digits is small.
use Rattle.std.proofs.Common.{ℕ, suc, ◌+◌, ◌*◌, ◌<◌, ◌≤◌, ◌^◌, arith, lit<}
use Rattle.std.proofs.Math.Nat.{pow-le-pow_right, pow-suc}

-- one more digit after fewer than eighteen
pub digits_fit : (n i most : ℕ) → n < 10 ^ i → i < most → most ≤ 18 → n * 10 + 10 ≤ 10 ^ most
digits_fit n i most small within short =
    let up : 10 ^ suc i ≤ 10 ^ most = pow-le-pow_right {n = 10} (lit< tt) (omega arith) in
    omega (arith, up, pow-suc 10 i)

-- eighteen digits fit into 64 bits
pub most_fits : (most : ℕ) → most ≤ 18 → 10 ^ most < 2 ^ 64
most_fits most short =
    let up : 10 ^ most ≤ 10 ^ 18 = pow-le-pow_right {n = 10} (lit< tt) short in
    let numeral : 10 ^ 18 < 2 ^ 64 = lit< tt in
    omega arith

-- fewer digits write a smaller number
pub digits_below : (n i most : ℕ) → n < 10 ^ i → i ≤ most → n < 10 ^ most
digits_below n i most small within =
    let up : 10 ^ i ≤ 10 ^ most = pow-le-pow_right {n = 10} (lit< tt) within in
    omega arith
