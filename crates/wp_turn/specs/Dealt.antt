-- What the seat knows that draws the caller numbers at the opening.
use Rattle.std.specs.Prelude.{◌≡◌, ℕ, ◌*◌, ◌-◌, [], ◌∷◌}
use Rattle.atomic_table.specs.Table.{Me}
use Rattle.wp_turn.specs.Promises.{Opening}
use Rattle.wp_turn.specs.Rule.{most_calls}
use Rattle.wp_turn.specs.Views.{numbering}
use Rattle.wp_turn.specs.declared.view.View.{View}

-- so many caller numbers are still to be drawn, and each comes with its calls
abbrev pub Deals : {T E : Type 0} → Opening T → ℕ → Me T (View T E) → Type 0
Deals turn pending me = me ≡ (
  numbering (turn.start ∷ []) [] 0 [] (pending * most_calls)
      (turn.made - pending) pending,
  [],
)
