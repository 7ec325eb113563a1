use Rattle.std.proofs.Common.{◌≡◌, ◌*◌, ◌≤◌, ◌<◌, ℕ, List, length, All, arith}
use Rattle.std.specs.Prelude.{sum}
use Rattle.std.proofs.lemmas.List.Sums.{sum_by-le}
use Rattle.std.proofs.lemmas.List.Elements.{All-weaker}
use Rattle.std.proofs.lemmas.Nat.{mul-le}
use Rattle.wp_lp.proofs.whole.low_of.Goals as goal

low_fits : (xs : List ℕ) (total over : ℕ) → total ≡ sum xs → length xs ≤ 64 → All (λ (x : ℕ). x < 17179869184) xs → over < 77371252455336267181195264
    → total * over < 170141183460469231731687303715884105728
low_fits xs total over is few small low =
    let most = sum_by-le (λ (x : ℕ). x) 17179869184 xs
    (All-weaker (λ (x : ℕ). x < 17179869184) (λ (x : ℕ). x ≤ 17179869184) (λ x l. omega (arith, l)) xs small) in
    let product = mul-le total over 1099511627776 77371252455336267181195263 (omega (arith, is, few, most)) (omega (arith, low)) in
    omega (arith, product)

pub overflow_mul-result : goal.overflow_mul-result
overflow_mul-result c =
    let fits = low_fits c.args.sixtieths.now c.total_of.result c.args.over c.total_of.ensures c.requires.count c.requires.small c.requires.over in
    omega (arith, fits)

pub returns-clause-small : goal.returns-clause-small
returns-clause-small c = low_fits c.args.sixtieths.now c.total_of.result c.args.over c.total_of.ensures c.requires.count c.requires.small c.requires.over
