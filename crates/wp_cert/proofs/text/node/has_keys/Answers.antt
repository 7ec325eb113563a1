use Rattle.std.proofs.Common.{refl, sym}
use Rattle.serde_json.proofs.Views.{members_len-members_view}
use Rattle.wp_cert.proofs.text.node.has_keys.Goals as goal

pub returns-in-Some : goal.returns-in-Some
returns-in-Some c = rw (sym c.in-Some.ensures, members_len-members_view c.in-Some.members.now.entries, c.len.ensures.len) refl
