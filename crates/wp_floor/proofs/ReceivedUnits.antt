-- Units that a row receives, or refuses.
use Rattle.std.proofs.Common.{◌≡◌, ◌∙◌, refl, sym, ap, ap₂, subst, ℕ, ◌+◌, ◌<◌, ◌≤◌, nat_lt, not, Bool, true, false, List, [], length, map, Option, Some}
use Rattle.std.proofs.Common.{slice_get, option_map, bytes_eq, if◌then◌else◌, arith}
use Rattle.std.proofs.Math.Path.{fun_ext}
use Rattle.std.proofs.lemmas.Slice.Eq.{bytes_eq-Decides}
use Rattle.std.proofs.lemmas.Bool.Decides.{nat_tests}
use Rattle.std.proofs.lemmas.Option.{get_or_from_slice_get, slice_get-map}
use Rattle.std.specs.Option.{option_map_or}
use Rattle.wp_book.specs.Calls.{HasReceived}
use Rattle.wp_model.proofs.Elements.{All-at, All-from_at, at_some, if_some, option_map_some}
use Rattle.wp_model.proofs.Rows.{length-change_rows}
use Rattle.wp_model.proofs.Sound.{step_keeps_sound}
use Rattle.wp_model.specs.Book.{Book}
use Rattle.wp_model.specs.Change.{at_place, receive, receive_units}
use Rattle.wp_model.specs.Opening.{IsStockRow, Opening, Stock, article_name}
use Rattle.wp_model.specs.Limits.{most_on_hand}
use Rattle.wp_model.specs.Sound.{IsSound}
use Rattle.wp_model.specs.State.{State, Wave}
use Rattle.wp_model.specs.Step.{Stepped, receive_at, refuse, row_from, step}
use Rattle.wp_model.specs.declared.command.Command.TheVariants as command
use Rattle.wp_model.specs.declared.location.Location.{Location}
use Rattle.wp_model.specs.declared.reply.Reply.{Reply}
use Rattle.wp_model.specs.declared.reply.Reply.TheVariants as reply
use Rattle.wp_model.specs.declared.row.Row.{Row}
use Rattle.wp_floor.specs.Floor.{AreSameRows, HasStepped, IsFloor, IsKeptWave, row_place, state_at, state_of, stock_row_place, wave_of}
use Rattle.wp_floor.specs.ReceivedUnits.{AllHaveArticles, HasReceivedAt}
use Rattle.wp_floor.specs.Waves.{waves_of}
use Rattle.wp_floor.specs.declared.floor.Floor.{Floor}
use Rattle.wp_floor.proofs.Floors.{is_opening, kept_same}
use Rattle.wp_floor.proofs.SameRows.{step_keeps_rows}

-- the name of an article
named_by : (opening : Opening) (article : ℕ) (owner : List ℕ) → slice_get opening.stock.articles article ≡ Some owner → article_name opening article ≡ owner
named_by opening article owner there = get_or_from_slice_get opening.stock.articles article owner [] there

-- units of another article than the row's
pub other_article : (opening : Opening) (book : Book) (article owner : List ℕ) (quantity row : ℕ) (r : Row)
    → slice_get opening.stock.articles r.article ≡ Some owner → bytes_eq owner article ≡ false
    → HasReceivedAt opening article quantity row r book book (reply.OtherArticle owner)
other_article opening book article owner quantity row r there differs = record {
  is = λ waves.
      ap (λ (name : List ℕ). if not (bytes_eq name article) then refuse (state_at book waves) (reply.OtherArticle name)
      else if nat_lt most_on_hand (r.on_hand + quantity) then refuse (state_at book waves) (reply.TooMany r.on_hand)
      else record { reply = reply.Received; state = receive row quantity (state_at book waves) }) (named_by opening r.article owner there)
      ∙ ap (λ b. if not b then refuse (state_at book waves) (reply.OtherArticle owner)
      else if nat_lt most_on_hand (r.on_hand + quantity) then refuse (state_at book waves) (reply.TooMany r.on_hand)
      else record { reply = reply.Received; state = receive row quantity (state_at book waves) }) differs;
  held = λ wave order place. refl;
  rows = refl;
}

-- units of the row's article, too many or not
of_article : (opening : Opening) (book : Book) (waves : List Wave) (article : List ℕ) (quantity row : ℕ) (r : Row) (many : Bool)
    → slice_get opening.stock.articles r.article ≡ Some article → nat_lt most_on_hand (r.on_hand + quantity) ≡ many
    → receive_at opening (state_at book waves) article quantity row r ≡
    (if many then refuse (state_at book waves) (reply.TooMany r.on_hand) else record
    { reply = reply.Received; state = receive row quantity (state_at book waves) })
of_article opening book waves article quantity row r many there is =
    let same : bytes_eq (article_name opening r.article) article ≡ true =
    (bytes_eq-Decides (article_name opening r.article) article).1 (named_by opening r.article article there) in
    ap₂ (λ b m. if not b then refuse (state_at book waves) (reply.OtherArticle (article_name opening r.article))
    else if m then refuse (state_at book waves) (reply.TooMany r.on_hand)
    else record { reply = reply.Received; state = receive row quantity (state_at book waves) }) same is

-- units of the row's article that are more than it has room for are refused
pub too_many : (opening : Opening) (book : Book) (article : List ℕ) (quantity row : ℕ) (r : Row) → slice_get opening.stock.articles r.article ≡ Some article
    → most_on_hand < r.on_hand + quantity
    → HasReceivedAt opening article quantity row r book book (reply.TooMany r.on_hand)
too_many opening book article quantity row r there many =
    let is : nat_lt most_on_hand (r.on_hand + quantity) ≡ true = grind (arith, nat_tests) in
    record {
      is = λ waves. of_article opening book waves article quantity row r true there is;
      held = λ wave order place. refl;
      rows = refl;
    }

-- and units that it has room for are received
pub has_received : (opening : Opening) (old new : Book) (article : List ℕ) (quantity row : ℕ) (r : Row)
    → slice_get opening.stock.articles r.article ≡ Some article → r.on_hand + quantity ≤ most_on_hand → HasReceived row quantity old new
    → HasReceivedAt opening article quantity row r old new reply.Received
has_received opening old new article quantity row r there few done =
    let is : nat_lt most_on_hand (r.on_hand + quantity) ≡ false = grind (arith, nat_tests) in
    record {
      is = λ waves. of_article opening old waves article quantity row r false there is
          ∙ ap₂ (λ (rows : List Row) (held : ℕ → ℕ → ℕ → ℕ). let s : Stepped = record
          { reply = reply.Received; state = record { rows = rows; waves = waves; held = held } } in s) (sym done.rows)
          (sym (fun_ext (λ wave. fun_ext (λ order. fun_ext (λ place. done.held wave order place)))));
      held = done.held;
      rows = ap length done.rows ∙ length-change_rows (at_place row (receive_units quantity)) old.rows;
    }

-- each row of a floor is of one of the articles
pub all_have_articles : (opening : Opening) (floor : Floor) → IsFloor opening floor → AllHaveArticles opening floor.book.rows
all_have_articles opening floor is = All-from_at (λ (row : Row). row.article < length opening.stock.articles) floor.book.rows (λ k row there.
    let place : option_map stock_row_place (slice_get opening.stock.rows k) ≡ Some (row_place row) =
    sym (slice_get-map stock_row_place opening.stock.rows k)
    ∙ (ap (λ places. slice_get places k) (sym is.rows) ∙ (slice_get-map row_place floor.book.rows k ∙ ap (option_map row_place) there)) in
    option_map_some (slice_get opening.stock.rows k) stock_row_place (row_place row) place (λ stock_row at same.
    let stock = All-at (IsStockRow opening.stock.articles) opening.stock.rows k stock_row is.read.stock.rows at in
    subst (λ n. n < length opening.stock.articles) (ap (λ (p : Location × ℕ). p.1) same) stock.article))

-- the floor receives as the row does
pub received : (opening : Opening) (location : Location) (article : List ℕ) (quantity row : ℕ) (r : Row) (old : Floor) (book : Book) (answer : Reply)
    → IsFloor opening old → row_from 0 old.book.rows location ≡ Some (row, r)
    → HasReceivedAt opening article quantity row r old.book book answer
    → HasStepped opening (command.Receive location article quantity) old (record old { book = book }) answer
received opening location article quantity row r old book answer floor found done =
    let command = command.Receive location article quantity in
    let all : step opening (state_of old) command ≡ record { reply = answer; state = state_at book (map wave_of (waves_of old.waves)) } =
    ap (λ (f : Option (ℕ × Row)). option_map_or (λ (f : ℕ × Row). receive_at opening (state_of old) article quantity f.0 f.1) f
    (refuse (state_of old) reply.NoRow)) found
    ∙ done.is (map wave_of (waves_of old.waves)) in
    let after : (step opening (state_of old) command).state ≡ state_at book (map wave_of (waves_of old.waves)) = ap (λ (s : Stepped). s.state) all in
    record {
      is = all;
      floor = record {
        read = floor.read;
        sound = subst (IsSound opening) after (step_keeps_sound opening (state_of old) command (is_opening opening floor.read) floor.sound);
        rows = subst (λ (s : State). AreSameRows opening s.rows) after (step_keeps_rows opening (state_of old) command floor.rows);
        chains = floor.chains;
        waves = λ n. if_some (slice_get (waves_of old.waves) n) (IsKeptWave opening book n)
            (λ kept there. kept_same opening old.book book n kept done.rows (λ order place. done.held n order place)
            (at_some (slice_get (waves_of old.waves) n) (IsKeptWave opening old.book n) kept there (floor.waves n)));
        takers = floor.takers;
      };
      most = omega arith;
    }

-- what the row's article is called
pub owner_is : (opening : Opening) (stock : Stock) (rows : List Row) (row : ℕ) (now r : Row) (owner : List ℕ) → stock ≡ opening.stock
    → slice_get rows row ≡ Some now → slice_get rows row ≡ Some r → slice_get stock.articles now.article ≡ Some owner
    → slice_get opening.stock.articles r.article ≡ Some owner
owner_is opening stock rows row now r owner same at there named =
    let one : Some now ≡ Some r = sym at ∙ there in
    let is : now ≡ r = cc in
    ap₂ (λ (s : Stock) (q : Row). slice_get s.articles q.article) (sym same) (sym is) ∙ named
