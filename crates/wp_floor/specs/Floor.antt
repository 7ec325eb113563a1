-- How the state is kept.
use Rattle.std.specs.Prelude.{◌≡◌, ℕ, ◌+◌, ◌*◌, ◌<◌, ◌≤◌, ⊤, List, [], length, map, Option, Some, slice_get, slice_set}
use Rattle.std.specs.Prelude.{IfSome}
use Rattle.std.specs.List.{All}
use Rattle.wp_allot.specs.Wants.{AreGathered, holds_at_most, wanted_for, wanted_places}
use Rattle.wp_allot.specs.declared.want.Want.{Want}
use Rattle.wp_book.specs.Calls.{KeepsOthers}
use Rattle.wp_book.specs.Room.{Content}
use Rattle.wp_model.specs.Book.{Book, held_for, held_list}
use Rattle.wp_model.specs.Demand.{demand_at}
use Rattle.wp_model.specs.Opening.{Opening, Order}
use Rattle.wp_model.specs.Limits.{most_lines, most_wave_orders}
use Rattle.wp_model.specs.Sound.{IsSound}
use Rattle.wp_model.specs.State.{State, Wave}
use Rattle.wp_model.specs.Step.{Stepped, step, taker_of}
use Rattle.wp_model.specs.declared.command.Command.{Command}
use Rattle.wp_model.specs.TableLines.{article_in}
use Rattle.wp_model.specs.Tables.{IsReadOpening}
use Rattle.wp_model.specs.declared.reply.Reply.{Reply}
use Rattle.wp_model.specs.declared.location.Location.{Location}
use Rattle.wp_model.specs.declared.reply.WaveState.{WaveState}
use Rattle.wp_model.specs.declared.reply.WaveState.TheVariants as wave
use Rattle.wp_model.specs.declared.row.Row.{Row}
use Rattle.wp_model.specs.declared.row.StockRow.{StockRow}
use Rattle.wp_tables.specs.Orders.{name_of}
use Rattle.wp_floor.specs.declared.floor.Floor.{Floor}
use Rattle.wp_floor.specs.declared.holding.Rooms.{Rooms}
use Rattle.wp_floor.specs.declared.waves.KeptWave.{KeptWave}
use Rattle.wp_floor.specs.declared.waves.Needs.{Needs}
use Rattle.wp_floor.specs.declared.waves.Stage.{Stage}
use Rattle.wp_floor.specs.declared.waves.Stage.TheVariants as stage
use Rattle.wp_floor.specs.Waves.{AreWaves, waves_of}

-- how far a wave is at a stage
abbrev pub state_in : Stage → WaveState
state_in (stage.Submitted needs) = wave.Submitted
state_in (stage.Allotted sheet) = wave.Allotted
state_in stage.Released = wave.Released
state_in stage.Cancelled = wave.Cancelled
state_in stage.Done = wave.Done

-- a kept wave is this wave
abbrev pub wave_of : KeptWave → Wave
wave_of kept = record { name = kept.name; orders = kept.orders; state = state_in kept.stage; picked = kept.picked }

-- the state of a book and waves
abbrev pub state_at : Book → List Wave → State
state_at book waves = record { rows = book.rows; waves = waves; held = held_for book }

-- the most wants that a wave may have
abbrev pub most_wants : ℕ
most_wants = most_wave_orders * most_lines

-- wants are those of orders, article by article
pub record AreWantsOf (opening : Opening) (orders : List (List ℕ)) (wants : List Want) : Type 0 where
  pub demand : (article place : ℕ) → wanted_for wants article place ≡ demand_at opening orders article place
  pub gathered : AreGathered wants
  pub within : All (λ (want : Want). want.article < length opening.stock.articles) wants
  pub few : length wants ≤ most_wants

-- room in which no hold is yet, with so much space
abbrev pub IsFreshRoom : ℕ → Content → Type 0
IsFreshRoom size room = (room.holds ≡ []) × (size ≤ room.size)

-- empty room for so many holds, and for the list of them
pub record HaveSpace (size : ℕ) (rooms : Rooms) : Type 0 where
  pub room : IsFreshRoom size rooms.room
  pub sheet : IsFreshRoom size rooms.sheet

-- what a wave of these orders needs to go out: their names, what they want, and room for as many holds as that takes
-- at most
pub record AreNeedsOf (opening : Opening) (orders : List (List ℕ)) (needs : Needs) : Type 0 where
  pub copied : needs.orders ≡ orders
  pub wants : AreWantsOf opening orders needs.wants.items
  pub space : HaveSpace (holds_at_most (wanted_places opening.stock.rows needs.wants.items) needs.wants.items)
      needs.rooms

-- the papers of a wave: once it is submitted what it needs to go out, and once it is allotted the sheet that lists what
-- it holds
abbrev pub HasPapers : Opening → Stage → Book → ℕ → KeptWave → Type 0
HasPapers opening (stage.Submitted needs) book number kept = AreNeedsOf opening kept.orders needs
HasPapers opening (stage.Allotted sheet) book number kept =
    (sheet.orders ≡ kept.orders) × (sheet.room.holds
    ≡ held_list (length kept.orders) (length book.rows) (held_for book number))
HasPapers opening stage.Released book number kept = ⊤
HasPapers opening stage.Cancelled book number kept = ⊤
HasPapers opening stage.Done book number kept = ⊤

-- the number of the order with a name, None where the opening has none
abbrev pub order_number : Opening → List ℕ → Option ℕ
order_number opening name = article_in (map name_of opening.orders) name

-- these are the numbers of orders
abbrev pub AreNumbersOf : Opening → List (List ℕ) → List (Option ℕ) → Type 0
AreNumbersOf opening orders numbers = numbers ≡ map (order_number opening) orders

-- a wave has the numbers of its orders
abbrev pub IsNumbered : Opening → KeptWave → Type 0
IsNumbered opening kept = AreNumbersOf opening kept.orders kept.numbers.items

-- a wave is kept as it should be
pub record IsKeptWave (opening : Opening) (book : Book) (number : ℕ) (kept : KeptWave) : Type 0 where
  pub numbered : IsNumbered opening kept
  pub papers : HasPapers opening kept.stage book number kept

-- a wave has its place among waves that make a sound state with a book
pub record IsAt (opening : Opening) (book : Book) (waves : List Wave) (number : ℕ) (kept : KeptWave) : Type 0 where
  pub read : IsReadOpening opening
  pub sound : IsSound opening (state_at book waves)
  pub there : slice_get waves number ≡ Some (wave_of kept)
  pub keeps : IsKeptWave opening book number kept

-- where a row lies and what it has
abbrev pub row_place : Row → Location × ℕ
row_place row = (row.location, row.article)

-- the same of a row of the file
abbrev pub stock_row_place : StockRow → Location × ℕ
stock_row_place row = (row.location, row.article)

-- the rows lie where the opening's rows lie, and are of their articles
abbrev pub AreSameRows : Opening → List Row → Type 0
AreSameRows opening rows = map row_place rows ≡ map stock_row_place opening.stock.rows

-- a wave's command was answered: the step of the wave gives this reply, and the state of the book and of the wave as
-- they are now; and all else is as it was
pub record HasAnswered (opening : Opening) (stepped : Stepped) (old new : Book) (waves : List Wave) (number : ℕ)
    (was kept : KeptWave)
    (answer : Reply) : Type 0 where
  pub is : stepped ≡ record { reply = answer; state = state_at new (slice_set waves number (wave_of kept)) }
  pub keeps : IsKeptWave opening new number kept
  pub others : KeepsOthers number old new
  pub rows : length new.rows ≡ length old.rows
  pub name : kept.name ≡ was.name
  pub orders : kept.orders ≡ was.orders

-- who has the orders: for each order of the opening, the name of the first wave that isn't cancelled and has it
pub record AreTakers (opening : Opening) (waves : List Wave) (takers : List (Option (List ℕ))) : Type 0 where
  pub count : length takers ≡ length opening.orders
  pub each : (i : ℕ) (order : Order) → slice_get opening.orders i ≡ Some order
      → slice_get takers i ≡ Some (taker_of waves order.name)

-- the state that is kept
abbrev pub state_of : Floor → State
state_of floor = state_at floor.book (map wave_of (waves_of floor.waves))

-- how many waves there are
abbrev pub wave_count : Floor → ℕ
wave_count floor = length (waves_of floor.waves)

-- what is kept is a sound state of an opening that was read, whose rows are the opening's
pub record IsFloor (opening : Opening) (floor : Floor) : Type 0 where
  pub read : IsReadOpening opening
  pub sound : IsSound opening (state_of floor)
  pub rows : AreSameRows opening floor.book.rows
  pub chains : AreWaves floor.waves
  pub waves : (number : ℕ) → IfSome (slice_get (waves_of floor.waves) number) (IsKeptWave opening floor.book number)
  pub takers : AreTakers opening (map wave_of (waves_of floor.waves)) floor.takers.items

-- a command was answered as it is in the state, and what is kept is the state after it
pub record HasStepped (opening : Opening) (command : Command) (old new : Floor) (answer : Reply) : Type 0 where
  pub is : step opening (state_of old) command ≡ record { reply = answer; state = state_of new }
  pub floor : IsFloor opening new
  pub most : wave_count new ≤ wave_count old + 1
