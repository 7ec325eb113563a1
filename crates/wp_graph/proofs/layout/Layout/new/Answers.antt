use Rattle.std.proofs.Common.{◌≡◌, List, ℕ, IfSome, subst, sym}
use Rattle.wp_model.specs.Warehouse.{IsLayout, Layout}
use Rattle.wp_graph.proofs.EvenLayouts.{in_front, taken_even}
use Rattle.wp_graph.proofs.layout.Layout.new.Goals as goal

pub returns-clause-exact : goal.returns-clause-exact
returns-clause-exact c =
    let few = c.is_up_to.ensures.0 c.if-not-is_up_to.false in
    let apart = c.is_up_to-else-not-is_up_to.ensures.0 c.if-not-is_up_to-2.false in
    let same = taken_even c.args.aisles c.args.spacing few in
    let block = in_front c.args.aisles c.args.slots c.args.pitch c.args.clearance c.args.depot in (
      λ some. (apart, subst (λ (ws : List ℕ). IsLayout (block ws)) same (c.with.ensures.exact.0 some)),
      λ both. c.with.ensures.exact.1 (subst (λ (ws : List ℕ). IsLayout (block ws)) (sym same) both.1),
    )

pub returns-clause-value : goal.returns-clause-value
returns-clause-value c =
    let few = c.is_up_to.ensures.0 c.if-not-is_up_to.false in
    let block = in_front c.args.aisles c.args.slots c.args.pitch c.args.clearance c.args.depot in
    subst (λ (ws : List ℕ). IfSome c.with.result (λ (l : Layout). l ≡ block ws)) (taken_even c.args.aisles c.args.spacing few) c.with.ensures.value
