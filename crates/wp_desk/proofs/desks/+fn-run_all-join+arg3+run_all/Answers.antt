use denote.Exit.{no}
use denote.Param.Send.{arg_send, param_send}
use Rattle.wp_desk.proofs.Sent.{run_sent, work_sent}
use Rattle.wp_desk.proofs.desks.+fn-run_all-join+arg3+run_all.Goals as goal

pub join-one-requires-send-F : goal.join-one-requires-send-F
join-one-requires-send-F g t c κs within =
    let (r, p, g', plan) = c.requires.crossing in param_send 1 _ (arg_send _ no _ (run_sent _ _ _ _ _ _ g.row.R g.row.P g.row.G g.row.P-Plan r p g'))

pub join-one-requires-send-A : goal.join-one-requires-send-A
join-one-requires-send-A g t c κs within =
    let (r, p, g', plan) = c.requires.crossing in param_send 3 _ (arg_send _ no _ (work_sent _ _ (param_send 3 _ plan)))
