-- The pieces of a way through an aisle, how often each is walked, and how long they are.
use Rattle.std.proofs.Common.{◌≡◌, ℕ, zero, suc, ◌+◌, ◌-◌, ◌*◌, ◌<◌, ◌≤◌, ◌&&◌, ◌||◌, nat_le, nat_lt, if◌then◌else◌, arith, ap, ◌⊎◌, inl, inr, ⊎_elim}
use Rattle.std.proofs.lemmas.Bool.{cases_lt}
use Rattle.std.proofs.lemmas.Bool.Decides.{nat_tests}
use Rattle.wp_model.proofs.Sums.{sum-grows}
use Rattle.wp_model.specs.Sums.{sum_below}

-- each piece of an aisle walked so often
abbrev pub passing : ℕ → ℕ → ℕ → ℕ
passing last times s = if nat_lt s last then times else 0

-- from the front end to a place and back, and from the back end to another and back
abbrev pub turning : ℕ → ℕ → ℕ → ℕ → ℕ
turning last near far s = if nat_lt s near || (nat_le far s && nat_lt s last) then 2 else 0

-- within the aisle each piece is walked so often
pub passing_in : (last times s : ℕ) → s < last → passing last times s ≡ times
passing_in last times s low = grind (arith, nat_tests)

-- what is walked lies within the aisle
pub passing_upto : (last times s : ℕ) → 0 < passing last times s → s < last
passing_upto last times s some = grind (arith, nat_tests)

-- a piece before the first turn is walked twice
pub turning_low : (last near far s : ℕ) → s < near → turning last near far s ≡ 2
turning_low last near far s low = grind (arith, nat_tests)

turning_between : (last near far s : ℕ) → near ≤ s → s < far → turning last near far s ≡ 0
turning_between last near far s low high = grind (arith, nat_tests)

-- a piece behind the second turn is walked twice
pub turning_high : (last near far s : ℕ) → far ≤ s → s < last → turning last near far s ≡ 2
turning_high last near far s low high = grind (arith, nat_tests)

-- a piece that is walked lies before the first turn or behind the second
pub turning_some : (last near far s : ℕ) → 0 < turning last near far s → (s < near) ⊎ ((far ≤ s) × (s < last))
turning_some last near far s some = ⊎_elim (λ low. inl low)
    (λ past. ⊎_elim (λ between. absurd (omega (arith, some, turning_between last near far s past between)))
    (λ high. ⊎_elim (λ within. inr (high, within)) (λ beyond. absurd (omega (arith, some, turning_beyond past beyond))) (cases_lt s last))
    (cases_lt s far))
    (cases_lt s near)
  where
    turning_beyond : near ≤ s → last ≤ s → turning last near far s ≡ 0
    turning_beyond past beyond = grind (arith, nat_tests)

-- so many passes are as many times as long as one
pub passing_sum : (n last times : ℕ) (w : ℕ → ℕ) → n ≤ last → sum_below n (λ s. passing last times s * w s) ≡ times * sum_below n w
passing_sum zero last times w within = let none : times * 0 ≡ 0 = grind arith in omega (arith, none)
passing_sum (suc n) last times w within =
    let before = passing_sum n last times w (omega arith) in
    let at = ap (λ x. x * w n) (passing_in last times n (omega arith)) in
    let apart : times * (sum_below n w + w n) ≡ times * sum_below n w + times * w n = grind arith in
    omega (arith, before, at, apart)

near_sum : (n last near far : ℕ) (w : ℕ → ℕ) → n ≤ near → sum_below n (λ s. turning last near far s * w s) ≡ 2 * sum_below n w
near_sum zero last near far w within = omega arith
near_sum (suc n) last near far w within =
    let before = near_sum n last near far w (omega arith) in
    let at = ap (λ x. x * w n) (turning_low last near far n (omega arith)) in
    omega (arith, before, at)

between_sum : (k last near far : ℕ) (w : ℕ → ℕ) → near + k ≤ far → sum_below (near + k) (λ s. turning last near far s * w s) ≡ 2 * sum_below near w
between_sum zero last near far w within = let e : near + 0 ≡ near = omega arith in rw e (near_sum near last near far w (omega arith))
between_sum (suc k) last near far w within =
    let e : near + suc k ≡ suc (near + k) = omega arith in
    let before = between_sum k last near far w (omega arith) in
    let at = ap (λ x. x * w (near + k)) (turning_between last near far (near + k) (omega arith) (omega arith)) in
    rw e (omega (arith, before, at))

far_sum : (k last near far : ℕ) (w : ℕ → ℕ) → near ≤ far → far + k ≤ last
    → sum_below (far + k) (λ s. turning last near far s * w s) ≡ 2 * sum_below near w + 2 * (sum_below (far + k) w - sum_below far w)
far_sum zero last near far w order within =
    let e : far + 0 ≡ far = omega arith in
    let all : near + (far - near) ≡ far = omega arith in
    let before = rw all at (between_sum (far - near) last near far w (omega arith)) in
    rw e (omega (arith, before))
far_sum (suc k) last near far w order within =
    let e : far + suc k ≡ suc (far + k) = omega arith in
    let before = far_sum k last near far w order (omega arith) in
    let at = ap (λ x. x * w (far + k)) (turning_high last near far (far + k) (omega arith) (omega arith)) in
    let grows = sum-grows far (far + k) w (omega arith) in
    rw e (omega (arith, before, at, grows))

-- from both ends to the turns and back is twice as long as what lies before the first turn and behind the second
pub turning_sum : (last near far : ℕ) (w : ℕ → ℕ) → near ≤ far → far ≤ last
    → sum_below last (λ s. turning last near far s * w s) ≡ 2 * sum_below near w + 2 * (sum_below last w - sum_below far w)
turning_sum last near far w order within = let all : far + (last - far) ≡ last = omega arith in
    rw all at (far_sum (last - far) last near far w order (omega arith))
