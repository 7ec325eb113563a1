use Rattle.wp_top.proofs.Endings.{job_finishes}
use Rattle.wp_top.proofs.ending.end_job.Goals as goal

pub returns-clause-ended : goal.returns-clause-ended
returns-clause-ended g c =
    job_finishes _ _ c.args.output c.ending_with.result c.finish.result c.ending_with.ensures c.finish.ensures.finishes c.finish.ensures.nothing
