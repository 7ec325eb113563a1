-- Units that a row receives, or refuses.
use Rattle.std.specs.Prelude.{◌≡◌, ℕ, ◌<◌, List, length}
use Rattle.std.specs.List.{All}
use Rattle.wp_model.specs.Book.{Book, held_for}
use Rattle.wp_model.specs.Opening.{Opening}
use Rattle.wp_model.specs.State.{Wave}
use Rattle.wp_model.specs.Step.{receive_at}
use Rattle.wp_model.specs.declared.reply.Reply.{Reply}
use Rattle.wp_model.specs.declared.row.Row.{Row}
use Rattle.wp_floor.specs.Floor.{state_at}

-- each row's article is one of the stock's
abbrev pub AllHaveArticles : Opening → List Row → Type 0
AllHaveArticles opening rows = All (λ (row : Row). row.article < length opening.stock.articles) rows

-- the row received the units, or refused them, as it does in a state of these rows
pub record HasReceivedAt (opening : Opening) (article : List ℕ) (quantity row : ℕ) (r : Row) (old new : Book)
    (answer : Reply) : Type 0 where
  pub is : (waves : List Wave) → receive_at opening (state_at old waves) article quantity row r ≡ record {
    reply = answer;
    state = state_at new waves;
  }
  pub held : (wave order place : ℕ) → held_for new wave order place ≡ held_for old wave order place
  pub rows : length new.rows ≡ length old.rows
