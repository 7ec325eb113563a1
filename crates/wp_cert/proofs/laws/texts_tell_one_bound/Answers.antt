use Rattle.wp_cert.proofs.OneVerdict.{one_told, same_bound, told_not_refused, told_right}
use Rattle.wp_cert.proofs.laws.texts_tell_one_bound.Goals as goal

pub returns-clause-same : goal.returns-clause-same
returns-clause-same c = same_bound

pub returns-clause-one : goal.returns-clause-one
returns-clause-one c = one_told

pub returns-clause-accepted : goal.returns-clause-accepted
returns-clause-accepted c = λ layout text bound tells. (
  λ why refused. told_not_refused layout text tells.wave tells.capacity tells.tree why tells.told refused,
  λ wave capacity tree fault told broken.
      told_right layout text tells.wave wave tells.capacity capacity tells.tree tree bound fault tells.told told tells.right broken,
)
