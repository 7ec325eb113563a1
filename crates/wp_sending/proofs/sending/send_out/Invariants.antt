use Rattle.wp_sending.proofs.SentWaves.{AreSentBefore}
use Rattle.wp_sending.proofs.sending.send_out.Given as goal

-- the waves so far were sent out, and the others may be
abbrev pub invariant-loop-place : goal.invariant-loop-place
invariant-loop-place l = AreSentBefore l.fn.machine l.machine l.desk l.names l.waves l.sent.items l.place
