use Rattle.std.proofs.Common.{refl}
use Rattle.wp_walk.proofs.Walks.{first_allowed, first_walked, if_ok_then}
use Rattle.wp_walk.proofs.walk.begin.Goals as goal

pub through-requires-clause-allowed : goal.through-requires-clause-allowed
through-requires-clause-allowed c = first_allowed c.args.way

pub returns : goal.returns
returns c = λ class total takes. if_ok_then c.through.result _ _
    (λ after is. first_walked c.args.layout.now c.args.picks.now.points c.args.way _ after class total refl takes is) c.through.ensures
