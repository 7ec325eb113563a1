use Rattle.std.proofs.Common.{◌≡◌, ◌++◌, ◌∷◌, [], List, ap, arith, length}
use Rattle.std.proofs.lemmas.List.{length-append, reverse-append}
use Rattle.std.specs.List.{flat_map}
use Rattle.wp_search.specs.Branches.{nodes_of, stacked_nodes}
use Rattle.wp_search.specs.declared.branch.Branch.{Branch}
use Rattle.wp_search.proofs.listing.list_nodes.Goals as goal

-- what is on top of a stack comes first
top_first : (stack : List Branch) (top : Branch) → stacked_nodes (stack ++ top ∷ []) ≡ nodes_of top ++ stacked_nodes stack
top_first stack top = ap (flat_map nodes_of) (reverse-append stack (top ∷ []))

pub loop-top-smaller : goal.loop-top-smaller
loop-top-smaller c =
    let stack = c.pop.new.self.items in
    let top = c.in-Some.top in
    omega (
      arith,
      ap length c.in_ok-list_top.ensures.listed,
      c.in_ok-list_top.ensures.one,
      length-append c.list_top.new.nodes.items (stacked_nodes c.list_top.new.left.items),
      length-append c.loop-top.nodes.items (nodes_of top ++ stacked_nodes stack),
      ap (λ (s : List Branch). length (stacked_nodes s)) c.in-Some.ensures.items,
      ap length (top_first stack top),
    )
