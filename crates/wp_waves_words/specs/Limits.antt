-- The ranges of the numbers that the options of `waves` give, and what stands for those that aren't given.
use Rattle.std.specs.Prelude.{ℕ, codes}
use Rattle.clap.specs.Walk.{Text}

-- the greatest effort: how often orders change places, at most
abbrev pub most_effort : ℕ
most_effort = 1000

-- the most waves where none is given
abbrev pub usual_most : Text
usual_most = codes "500"

-- the desk where none is given
abbrev pub usual_desk : Text
usual_desk = codes "1"

-- the effort where none is given
abbrev pub usual_effort : Text
usual_effort = codes "10"
