use Rattle.wp_cert.proofs.TreeSteps.{here_refused}
use Rattle.wp_cert.proofs.checking.check_node.Goals as goal

pub returns-in-Err-clause-err : goal.returns-in-Err-clause-err
returns-in-Err-clause-err c =
    here_refused _ _ _ c.args.tree.now.nodes.now c.args.at c.at.result.now c.in-Err.why _ c.at.ensures c.in-Err.ensures.err c.fault_at.ensures.node
    c.fault_at.ensures.why
