use Rattle.std.proofs.Common.{sum}
use Rattle.wp_search.proofs.Searches.{cost_reached, search_has_bound}
use Rattle.wp_search.proofs.search.search_on.Goals as goal

pub unwrap-bound-requires : goal.unwrap-bound-requires
unwrap-bound-requires g c =
    rw (c.bound.ensures, c.bound-above.ensures)
    (search_has_bound c.args.root.now.wave.now c.args.root.now.capacity.most (sum c.args.root.now.shares.now) c.loop-search.search.tree
    c.orders-orders.ensures.valid c.args.root.now.capacity.some c.loop-search.invariant.0.right)

pub returns-then-search-bound-clause-ended : goal.returns-then-search-bound-clause-ended
returns-then-search-bound-clause-ended g c =
    cost_reached c.args.root.now.wave.now c.args.root.now.capacity.most c.unwrap-bound.result c.args.root.now.shares.now c.loop-search.search
    c.args.root.now.capacity.some c.requires.shares
    c.loop-search.invariant.0 (rw (c.bound.ensures, c.bound-above.ensures) at c.unwrap-bound.ensures) c.if-search-bound.true
