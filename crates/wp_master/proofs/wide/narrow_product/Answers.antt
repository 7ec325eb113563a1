use Rattle.std.proofs.Common.{rules, ◌≡◌, to_z, of_z}
use Rattle.std.specs.Int.{w128}
use Rattle.std.proofs.lemmas.Int.{to_z-of_z}
use Rattle.wp_master.proofs.Products.{narrow_fits_along}
use Rattle.wp_master.proofs.wide.narrow_product.Goals as goal

pub overflow_mul-result : goal.overflow_mul-result
overflow_mul-result c =
    let one : to_z w128 (of_z w128 c.from.result) ≡ c.args.left = search (rules, to_z-of_z) in
    let other : to_z w128 (of_z w128 c.from-2.result) ≡ c.args.right = search (rules, to_z-of_z) in
    narrow_fits_along c.args.left c.args.right _ _ c.ranges.left c.ranges.right one other
