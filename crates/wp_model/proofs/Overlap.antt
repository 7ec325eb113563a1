-- What orders take from rows by overlap.
use Rattle.std.proofs.Common.{◌≡◌, ℕ, zero, suc, ◌<◌, ◌≤◌, ◌∙◌, arith}
use Rattle.wp_model.proofs.Sums.{sum-agree, sum-grows}
use Rattle.wp_model.specs.Overlap.{common, overlap}
use Rattle.wp_model.specs.Sums.{sum_below}

-- the common parts of an interval with consecutive pieces from 0 on
pub common-sum : (a b n : ℕ) (f : ℕ → ℕ) → sum_below n (λ k. common a b (sum_below k f) (sum_below (suc k) f)) ≡ common a b 0 (sum_below n f)
common-sum a b zero f = omega arith
common-sum a b (suc n) f = omega (arith, common-sum a b n f)

-- the interval that comes first makes no difference
pub common_comm : (a b c d : ℕ) → common a b c d ≡ common c d a b
common_comm a b c d = omega arith

-- what an order takes from the first rows
pub order_share : (demand offer : ℕ → ℕ) (rows order : ℕ)
    → sum_below rows (overlap demand offer order) ≡ common (sum_below order demand) (sum_below (suc order) demand) 0 (sum_below rows offer)
order_share demand offer rows order = common-sum _ _ rows offer

-- what the first orders take from a row
pub row_share : (demand offer : ℕ → ℕ) (orders row : ℕ)
    → sum_below orders (λ order. overlap demand offer order row) ≡ common 0 (sum_below orders demand) (sum_below row offer) (sum_below (suc row) offer)
row_share demand offer orders row =
    sum-agree orders _ _ (λ order within. common_comm _ _ _ _) ∙ common-sum _ _ orders demand ∙ common_comm _ _ _ _

-- an order takes no more than it wants, and no more than a row offers
pub overlap-le-demand : (demand offer : ℕ → ℕ) (order row : ℕ) → overlap demand offer order row ≤ demand order
overlap-le-demand demand offer order row = omega arith

-- an order takes no more of a row than it offers
pub overlap-le-offer : (demand offer : ℕ → ℕ) (order row : ℕ) → overlap demand offer order row ≤ offer row
overlap-le-offer demand offer order row = omega arith

-- where the offers cover the demands an order gets just what it wants
pub order_gets_demand : (demand offer : ℕ → ℕ) (orders rows order : ℕ) → sum_below orders demand ≤ sum_below rows offer → order < orders
    → sum_below rows (overlap demand offer order) ≡ demand order
order_gets_demand demand offer orders rows order covered within =
    omega (arith, order_share demand offer rows order, sum-grows (suc order) orders demand within)
