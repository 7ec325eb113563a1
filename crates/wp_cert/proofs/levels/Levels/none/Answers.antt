use Rattle.std.proofs.Common.{All, List, [], ◌∷◌, zero, suc, arith}
use Rattle.std.proofs.lemmas.Option.{none-some}
use Rattle.std.specs.Option.{ForSome}
use Rattle.std.specs.Prelude.{Option, None}
use Rattle.wp_lengths.specs.Waves.{WavePicks}
use Rattle.wp_cert.specs.declared.levels.Level.{Level}
use Rattle.wp_cert.specs.Levels.{IsLevel}
use Rattle.wp_cert.proofs.levels.Levels.none.Goals as goal

-- one more that is none
one_more : (wave : WavePicks) (kept : List (Option Level)) → All (λ (k : Option Level). ForSome k (IsLevel wave)) kept
    → All (λ (k : Option Level). ForSome k (IsLevel wave)) (None ∷ kept)
one_more wave kept all zero d within level is = absurd (none-some level is)
one_more wave kept all (suc k) d within level is = all k d (omega (arith, within)) level is

pub returns : goal.returns
returns c = let wave = c.args.wave.now in one_more wave (None ∷ None ∷ None ∷ None ∷ None ∷ None ∷ None ∷ [])
    (one_more wave (None ∷ None ∷ None ∷ None ∷ None ∷ None ∷ [])
    (one_more wave (None ∷ None ∷ None ∷ None ∷ None ∷ [])
    (one_more wave (None ∷ None ∷ None ∷ None ∷ [])
    (one_more wave (None ∷ None ∷ None ∷ [])
    (one_more wave (None ∷ None ∷ []) (one_more wave (None ∷ []) (one_more wave [] (λ k d within level is. absurd (omega (arith, within))))))))))
