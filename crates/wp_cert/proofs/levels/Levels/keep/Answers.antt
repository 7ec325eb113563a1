use Rattle.std.proofs.Common.{subst}
use Rattle.std.proofs.lemmas.List.Elements.{All-set}
use Rattle.std.proofs.lemmas.Option.{same_Some}
use Rattle.std.specs.Option.{ForSome}
use Rattle.wp_cert.specs.Levels.{IsLevel}
use Rattle.wp_cert.proofs.levels.Levels.keep.Goals as goal

pub returns : goal.returns
returns c =
    All-set (λ kept. ForSome kept (IsLevel c.args.wave.now)) _ _ _
    (λ level is. subst (IsLevel c.args.wave.now) (same_Some _ _ is) c.made_for-level.ensures.level) c.requires.levels
