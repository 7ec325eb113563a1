use Rattle.std.proofs.Common.{All, List, rules, subst, ℕ}
use Rattle.wp_pairs.specs.Batches.{IsBatch}
use Rattle.wp_cert.proofs.text.to_json.put_own.Goals as goal

pub returns-clause-known : goal.returns-clause-known
returns-clause-known c =
    let known : All IsBatch c.args.own.now.tight =
    subst (λ (batches : List (List ℕ)). All IsBatch batches) c.as_slice-2.ensures c.in_ok-list_json-2.ensures.known in
    search rules
