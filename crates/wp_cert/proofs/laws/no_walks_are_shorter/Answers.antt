use Rattle.wp_cert.proofs.PutIntoBatches.{ascending_put_is_batching}
use Rattle.wp_cert.proofs.Walked.{costs_are_walked, walks_are_no_shorter}
use Rattle.wp_cert.proofs.laws.no_walks_are_shorter.Goals as goal

pub returns-clause-walks : goal.returns-clause-walks
returns-clause-walks c = walks_are_no_shorter

pub returns-clause-costs : goal.returns-clause-costs
returns-clause-costs c = costs_are_walked

pub returns-clause-batchings : goal.returns-clause-batchings
returns-clause-batchings c = ascending_put_is_batching
