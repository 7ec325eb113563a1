-- What is kept of the places on the way of a visit, to measure those after them.
use Rattle.std.specs.Prelude.{◌≡◌, ℕ, ◌↔◌, ◌⊎◌, All, Contains, Option}
use Rattle.std.specs.Option.{ForSome}
use Rattle.wp_model.specs.declared.point.Point.{Point}
use Rattle.wp_lengths.specs.Lengths.{batch_picks}
use Rattle.wp_lengths.specs.Waves.{WavePicks}
use Rattle.wp_visit.specs.declared.place.Place.{Place}
use Rattle.wp_cert.specs.declared.levels.Level.{Level}
use Rattle.wp_cert.specs.declared.levels.Levels.{Levels}

-- a level keeps the slots at which the orders of its batch pick
pub record IsLevel (wave : WavePicks) (level : Level) : Type 0 where
  pub layout : level.kept.layout ≡ wave.layout
  pub points : (p : Point) → Contains level.kept.points p ↔ Contains (batch_picks wave level.batch) p

-- so does each
abbrev pub AreLevels : WavePicks → Levels → Type 0
AreLevels wave levels = All (λ (kept : Option Level). ForSome kept (IsLevel wave)) levels.kept

-- a place has the orders of the place before it and those of the item that was added
abbrev pub IsBoth : Place → Type 0
IsBoth place = (order : ℕ) → Contains place.batch order
    ↔ (Contains place.before order ⊎ Contains place.added order)
