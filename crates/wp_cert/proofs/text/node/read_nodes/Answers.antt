use Rattle.std.proofs.Common.{◌≡◌, None, arith, rules}
use Rattle.serde_json.specs.View.{view}
use Rattle.wp_cert.specs.Text.{list_said, node_said}
use Rattle.wp_cert.specs.declared.text.form.Unread.TheVariants as unread
use Rattle.wp_cert.proofs.TextLists.{said_more, said_none}
use Rattle.wp_cert.proofs.text.node.read_nodes.Goals as goal

pub returns-in_err-read_node-clause-bad : goal.returns-in_err-read_node-clause-bad
returns-in_err-read_node-clause-bad c =
    let none : c.in_err-read_node.field-0.0 ≡ unread.BadShape → list_said (node_said c.args.third) (view c.args.value.now) ≡ None =
    λ bad. said_none (node_said c.args.third) _ _ _ _ c.loop-item.invariant.0 (omega arith) c.item-item.is (c.in_err-read_node.ensures.bad bad) in
    search rules

pub loop-item-preserved : goal.loop-item-preserved
loop-item-preserved c = (
  c.loop-item.invariant.0,
  rw c.in_ok-push.ensures.items
      (said_more (node_said c.args.third) _ _ _ _ _ (omega arith) c.item-item.is c.in_ok-read_node.ensures.ok c.loop-item.invariant.1),
)
