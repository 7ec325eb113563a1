use Rattle.std.proofs.lemmas.List.Elements.{All-set}
use Rattle.wp_cert.specs.declared.known.KnownLength.{KnownLength}
use Rattle.wp_cert.specs.Known.{IsKnown}
use Rattle.wp_cert.proofs.known.KnownLengths.keep.Goals as goal

pub returns : goal.returns
returns c = λ wave are known. All-set (λ (one : KnownLength). IsKnown wave one.batch one.least) _ _ _ known are
