use Rattle.std.proofs.Common.{List, ap, arith, map, subst, ◌∙◌}
use Rattle.std.proofs.lemmas.List.{take_all}
use Rattle.std.proofs.lemmas.List.Elements.{All-more}
use Rattle.serde_json.specs.Data.{Data, array}
use Rattle.serde_json.specs.View.{items_of}
use Rattle.serde_json.proofs.Views.{view-Array}
use Rattle.wp_cert.specs.declared.tree.Node.{Node}
use Rattle.wp_cert.specs.TextData.{IsKeptNode, node_data}
use Rattle.wp_cert.proofs.TextShown.{shown_more}
use Rattle.wp_cert.proofs.text.to_json.nodes_json.Goals as goal

pub loop-node-preserved : goal.loop-node-preserved
loop-node-preserved c =
    let nodes = c.args.nodes.now in
    let shown = node_data c.args.third in (
      rw c.in_ok-push.ensures.items (shown_more shown _ _ nodes c.loop-node.node-index c.node-item.result (omega arith) c.loop-node.invariant.0
          (c.in_ok-node_json.ensures.value ∙ ap shown c.node-item.is)),
      All-more IsKeptNode nodes c.loop-node.node-index c.node-item.result (omega arith) c.loop-node.invariant.1
          (subst IsKeptNode c.node-item.is c.in_ok-node_json.ensures.known),
    )

pub returns-clause-value : goal.returns-clause-value
returns-clause-value c =
    let all = take_all c.loop-node.node-index c.args.nodes.now (omega arith) in
    view-Array c.loop-node.values
    ∙ ap (λ (ds : List Data). array (items_of ds)) (c.loop-node.invariant.0 ∙ ap (λ (ns : List Node). map (node_data c.args.third) ns) all)
