-- Ways as numbers: a great one stands for a way that doesn't apply, so that it is never the least.
use Rattle.std.proofs.Common.{◌≡◌, ℕ, ◌+◌, ◌≤◌, ◌^◌, min, Option, Some, None, ap, arith}
use Rattle.std.specs.Option.{unwrap_or}
use Rattle.wp_classes.specs.Least.{lesser, sum_of}

-- what stands for a way that doesn't apply
abbrev pub no_way : ℕ
no_way = 2 ^ 42

-- the least by the five ways, and on
abbrev pub least_of_five : ℕ → Option ℕ → Option ℕ → Option ℕ → ℕ → Option ℕ
least_of_five pass back front gap double = lesser (Some pass) (lesser back (lesser front (lesser gap (lesser (Some double) None))))

-- three ways that lead to the classes of three lengths
pub three_numbers : (pass double b f g : ℕ) (back front gap : Option ℕ) → double ≤ 2 ^ 41 → b ≤ 2 ^ 40 → f ≤ 2 ^ 40 → g ≤ 2 ^ 40
    → Some (min pass (min (unwrap_or back no_way + b) (min (unwrap_or front no_way + f) (min (unwrap_or gap no_way + g) double))))
    ≡ least_of_five pass (sum_of back (Some b)) (sum_of front (Some f)) (sum_of gap (Some g)) double
three_numbers pass double b f g None None None small b_short f_short g_short = ap Some (omega arith)
three_numbers pass double b f g None None (Some gap) small b_short f_short g_short = ap Some (omega arith)
three_numbers pass double b f g None (Some front) None small b_short f_short g_short = ap Some (omega arith)
three_numbers pass double b f g None (Some front) (Some gap) small b_short f_short g_short = ap Some (omega arith)
three_numbers pass double b f g (Some back) None None small b_short f_short g_short = ap Some (omega arith)
three_numbers pass double b f g (Some back) None (Some gap) small b_short f_short g_short = ap Some (omega arith)
three_numbers pass double b f g (Some back) (Some front) None small b_short f_short g_short = ap Some (omega arith)
three_numbers pass double b f g (Some back) (Some front) (Some gap) small b_short f_short g_short = ap Some (omega arith)

-- what the classes have in common
pub odd_numbers : (back front gap double odd pass : ℕ) → min pass (min (min (min back front) gap) double + odd)
    ≡ min pass (min (back + odd) (min (front + odd) (min (gap + odd) (double + odd))))
odd_numbers back front gap double odd pass = omega arith

pub inside_numbers : (back front gap on odd joined : ℕ) → min (min odd (min (min back front) gap + on)) joined
    ≡ min odd (min (back + on) (min (front + on) (min (gap + on) joined)))
inside_numbers back front gap on odd joined = omega arith

pub back_numbers : (back front gap e01 ee2 odd joined : ℕ) → min (min (min odd (back + e01)) (min front gap + ee2)) joined
    ≡ min odd (min (back + e01) (min (front + ee2) (min (gap + ee2) joined)))
back_numbers back front gap e01 ee2 odd joined = omega arith

pub front_numbers : (back front gap ze1 ee2 odd joined : ℕ) → min (min (min odd (front + ze1)) (min back gap + ee2)) joined
    ≡ min odd (min (back + ee2) (min (front + ze1) (min (gap + ee2) joined)))
front_numbers back front gap ze1 ee2 odd joined = omega arith
