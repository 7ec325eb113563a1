use Rattle.std.proofs.Common.{◌≡◌, None, arith, rules}
use Rattle.serde_json.specs.View.{view}
use Rattle.wp_cert.specs.Text.{list_said}
use Rattle.wp_cert.specs.declared.text.form.Unread.TheVariants as unread
use Rattle.wp_cert.proofs.TextLists.{said_more, said_none}
use Rattle.wp_cert.proofs.text.part.read_items.Goals as goal

pub returns-in_err-read-clause-bad : goal.returns-in_err-read-clause-bad
returns-in_err-read-clause-bad g c =
    let none : c.in_err-read.field-0.0 ≡ unread.BadShape → list_said g.T.CertificatePart.said (view c.args.value.now) ≡ None =
    λ bad. said_none g.T.CertificatePart.said _ _ _ _ c.loop-item.invariant.0 (omega arith) c.item-item.is (c.in_err-read.ensures.bad bad) in
    search rules

pub loop-item-preserved : goal.loop-item-preserved
loop-item-preserved g c = (
  c.loop-item.invariant.0,
  rw c.in_ok-push.ensures.items
      (said_more g.T.CertificatePart.said _ _ _ _ _ (omega arith) c.item-item.is c.in_ok-read.ensures.ok c.loop-item.invariant.1),
)
