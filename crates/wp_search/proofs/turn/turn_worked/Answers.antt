use Rattle.std.proofs.Common.{ℕ, subst}
use Rattle.std.specs.Prelude.{IfSome, Option}
use Rattle.wp_pairs.specs.Permitted.{AreUndecided}
use Rattle.wp_search.proofs.Turns.{own_tight, split_turned, worked_at}
use Rattle.wp_search.proofs.turn.turn_worked.Goals as goal

pub class_batching-requires-clause-tight : goal.class_batching-requires-clause-tight
class_batching-requires-clause-tight g c = own_tight c.args.paired.now.wave.now c.args.paired.now.pairs.now 0 c.args.worked.own c.requires.worked.right

pub returns-in_ok-split_on-in-Some : goal.returns-in_ok-split_on-in-Some
returns-in_ok-split_on-in-Some g c = λ above less.
    split_turned c.args.paired.now.wave.now c.args.paired.now.pairs.now above c.args.turner.now.pays c.args.worked c.in-Some.first c.in-Some.second
    c.in_ok-split_on-in-Some.field-0
    (worked_at c.args.paired.now.wave.now c.args.paired.now.pairs.now above c.args.worked less c.requires.worked)
    (subst (λ (found : Option (ℕ × ℕ)). IfSome found (λ pair. AreUndecided c.args.paired.now.pairs.now pair.0 pair.1)) c.in-Some.is c.in_ok-first.ensures.some)
    c.in_ok-split_on-in-Some.ensures
