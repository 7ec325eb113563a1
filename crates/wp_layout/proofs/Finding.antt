-- The first element of a list at which a test passes, looked for from the front on.
use Rattle.std.proofs.Common.{◌≡◌, ℕ, zero, suc, ◌+◌, ◌<◌, Bool, true, false, cond, List, [], ◌∷◌, Option, Some, None, get_or, length, take, arith, refl, ap}
use Rattle.std.proofs.Common.{sym, ◌∙◌}
use Rattle.std.specs.List.{find}
use Rattle.std.proofs.lemmas.Option.{none-some}

first_none : {X : Type 0} (b : Bool) (x : X) (rest : Option X) → cond b (Some x) rest ≡ None → (b ≡ false) × (rest ≡ None)
first_none true x rest e = absurd (none-some x (sym e))
first_none false x rest e = (refl, e)

-- where the test passes at none before, it is found here
pub find_here : {X : Type 0} (test : X → Bool) (xs : List X) (at : ℕ) (d : X) → at < length xs → find test (take at xs) ≡ None → test (get_or xs at d) ≡ true →
    find test xs ≡ Some (get_or xs at d)
find_here test [] at d low none here = absurd (omega (arith, low))
find_here test (x ∷ xs) zero d low none here = ap (λ b. cond b (Some x) (find test xs)) here
find_here test (x ∷ xs) (suc at) d low none here =
    let first = first_none (test x) x (find test (take at xs)) none in
    ap (λ b. cond b (Some x) (find test xs)) first.0 ∙ find_here test xs at d (omega (arith, low)) first.1 here

-- where it passes neither before nor here, it passes at none so far
pub find_more : {X : Type 0} (test : X → Bool) (xs : List X) (at : ℕ) (d : X) → at < length xs → find test (take at xs) ≡ None → test (get_or xs at d) ≡ false →
    find test (take (at + 1) xs) ≡ None
find_more {X} test xs at d low none here = let more : at + 1 ≡ suc at = omega arith in ap (λ n. find test (take n xs)) more ∙ go xs at low none here
  where
    go : (ys : List X) (at : ℕ) → at < length ys → find test (take at ys) ≡ None → test (get_or ys at d) ≡ false → find test (take (suc at) ys) ≡ None
    go [] at low none here = absurd (omega (arith, low))
    go (y ∷ ys) zero low none here = ap (λ b. cond b (Some y) None) here
    go (y ∷ ys) (suc at) low none here =
        let first = first_none (test y) y (find test (take at ys)) none in
        ap (λ b. cond b (Some y) (find test (take (suc at) ys))) first.0 ∙ go ys at (omega (arith, low)) first.1 here
