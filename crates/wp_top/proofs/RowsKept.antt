-- The rows keep their number and their articles.
use Rattle.std.proofs.Common.{◌≡◌, ◌∙◌, refl, ℕ, ◌+◌, ◌<◌, Bool, true, false, not, nat_lt, List, [], ◌∷◌, length, Option, Some, None, if◌then◌else◌, arith}
use Rattle.std.specs.List.{All}
use Rattle.std.specs.Option.{option_map_or}
use Rattle.std.specs.Str.{bytes_eq}
use Rattle.std.proofs.lemmas.List.{length-map}
use Rattle.std.proofs.lemmas.List.Elements.{All-map, All-weaker}
use Rattle.wp_model.proofs.Elements.{All-at}
use Rattle.wp_model.proofs.Rows.{All-change_rows, at_place-article, length-change_rows}
use Rattle.wp_model.specs.Change.{at_place, change_rows, free_held_units, give_back, hold, hold_units, receive, receive_units, share, take, take_units}
use Rattle.wp_model.specs.Demand.{demand_at, short_article}
use Rattle.wp_model.specs.History.{state_from}
use Rattle.wp_model.specs.Opening.{IsStockRow, Opening, Stock, article_name}
use Rattle.wp_model.specs.Limits.{most_on_hand}
use Rattle.wp_model.specs.State.{State, Wave, opening_row, opening_state, wave_held_at}
use Rattle.wp_model.specs.Step.{Held, Stepped, allot, at_released, cancel, give_up, held_for, hold_for, one_demand, pick, receive_at, refill, refuse}
use Rattle.wp_model.specs.Step.{refuse_short, release, row_from, step, submit_fault, wave_from, write_off}
use Rattle.wp_model.specs.Sums.{sum_below}
use Rattle.wp_model.specs.Tables.{IsReadStock}
use Rattle.wp_model.specs.declared.command.Command.{Command}
use Rattle.wp_model.specs.declared.command.Command.TheVariants as command
use Rattle.wp_model.specs.declared.entry.Entry.{Entry}
use Rattle.wp_model.specs.declared.location.Location.{Location}
use Rattle.wp_model.specs.declared.reply.Reply.{Reply}
use Rattle.wp_model.specs.declared.reply.Reply.TheVariants as reply
use Rattle.wp_model.specs.declared.reply.WaveState.{WaveState}
use Rattle.wp_model.specs.declared.reply.WaveState.TheVariants as wave
use Rattle.wp_model.specs.declared.row.Row.{Row}

-- as many rows as the stock file has, each of one of its articles
pub record AreRowsOf (stock : Stock) (rows : List Row) : Type 0 where
  pub count : length rows ≡ length stock.rows
  pub articles : All (λ r. r.article < length stock.articles) rows

abbrev Keeps : Stock → Stepped → Type 0
Keeps stock stepped = AreRowsOf stock stepped.state.rows

changed : (stock : Stock) (change : ℕ → Row → Row) (rows : List Row) → ((k : ℕ) (r : Row) → (change k r).article ≡ r.article) → AreRowsOf stock rows
    → AreRowsOf stock (change_rows change 0 rows)
changed stock change rows kept are = record {
  count = length-change_rows change rows ∙ are.count;
  articles = All-change_rows change rows (λ r. r.article < length stock.articles) (λ k r there.
      omega (arith, kept k r, All-at (λ (r : Row). r.article < length stock.articles) rows k r are.articles there));
}

by_option : {A : Type 0} (stock : Stock) (f : A → Stepped) (o : Option A) (other : Stepped) → ((a : A) → Keeps stock (f a)) → Keeps stock other
    → Keeps stock (option_map_or f o other)
by_option stock f None other each none = none
by_option stock f (Some a) other each none = each a

by_test : (stock : Stock) (b : Bool) (s t : Stepped) → Keeps stock s → Keeps stock t → Keeps stock (if b then s else t)
by_test stock true s t then' else' = then'
by_test stock false s t then' else' = else'

-- holding
held : (stock : Stock) (demand : ℕ → ℕ → ℕ) (except : Option ℕ) (number orders : ℕ) (state : State) → AreRowsOf stock state.rows
    → AreRowsOf stock (hold demand except number orders state).rows
held stock demand except number orders state are =
    changed stock (λ row. hold_units (sum_below orders (λ order. share demand state.rows except order row))) state.rows (λ k r. refl) are

given_back : (stock : Stock) (number orders : ℕ) (state : State) → AreRowsOf stock state.rows → AreRowsOf stock (give_back number orders state).rows
given_back stock number orders state are = changed stock (λ row. free_held_units (wave_held_at state number orders row)) state.rows (λ k r. refl) are

taken : (stock : Stock) (number order row units : ℕ) (state : State) → AreRowsOf stock state.rows → AreRowsOf stock (take number order row units state).rows
taken stock number order row units state are = changed stock (at_place row (take_units units)) state.rows
    (λ k r. at_place-article row k (take_units units) r refl) are

received : (stock : Stock) (row units : ℕ) (state : State) → AreRowsOf stock state.rows → AreRowsOf stock (receive row units state).rows
received stock row units state are = changed stock (at_place row (receive_units units)) state.rows
    (λ k r. at_place-article row k (receive_units units) r refl) are

for_hold : (opening : Opening) (stock : Stock) (state : State) (next : WaveState) (done : Reply) (number : ℕ) (w : Wave) → AreRowsOf stock state.rows
    → Keeps stock (hold_for opening state next done number w)
for_hold opening stock state next done number w are =
    by_option stock (refuse_short opening state w) (short_article opening state.rows w.orders None) _ (λ article. are)
    (held stock (demand_at opening w.orders) None number (length w.orders) state are)

for_allot : (opening : Opening) (stock : Stock) (state : State) (number : ℕ) (w : Wave) (s : WaveState) → AreRowsOf stock state.rows
    → Keeps stock (allot opening state number w s)
for_allot opening stock state number w wave.Submitted are = for_hold opening stock state wave.Allotted _ number w are
for_allot opening stock state number w wave.Allotted are = are
for_allot opening stock state number w wave.Released are = are
for_allot opening stock state number w wave.Cancelled are = are
for_allot opening stock state number w wave.Done are = are

for_release : (opening : Opening) (stock : Stock) (state : State) (number : ℕ) (w : Wave) (s : WaveState) → AreRowsOf stock state.rows
    → Keeps stock (release opening state number w s)
for_release opening stock state number w wave.Submitted are = for_hold opening stock state wave.Released _ number w are
for_release opening stock state number w wave.Allotted are = are
for_release opening stock state number w wave.Released are = are
for_release opening stock state number w wave.Cancelled are = are
for_release opening stock state number w wave.Done are = are

for_cancel : (stock : Stock) (state : State) (number : ℕ) (w : Wave) (s : WaveState) → AreRowsOf stock state.rows → Keeps stock (cancel state number w s)
for_cancel stock state number w wave.Submitted are = given_back stock number (length w.orders) state are
for_cancel stock state number w wave.Allotted are = given_back stock number (length w.orders) state are
for_cancel stock state number w wave.Released are = by_test stock w.picked _ (give_up state number w) are (given_back stock number (length w.orders) state are)
for_cancel stock state number w wave.Cancelled are = are
for_cancel stock state number w wave.Done are = are

for_held : (stock : Stock) (state : State) (number : ℕ) (w : Wave) (order : List ℕ) (location : Location) (quantity : ℕ) (change : Held → Stepped)
    (s : WaveState)
    → ((h : Held) → Keeps stock (change h)) → AreRowsOf stock state.rows → Keeps stock (at_released state number w order location quantity change s)
for_held stock state number w order location quantity change wave.Released each are =
    by_option stock _ (held_for state number w order location) _ (λ h. by_test stock _ _ (change h) are (each h)) are
for_held stock state number w order location quantity change wave.Submitted each are = are
for_held stock state number w order location quantity change wave.Allotted each are = are
for_held stock state number w order location quantity change wave.Cancelled each are = are
for_held stock state number w order location quantity change wave.Done each are = are

for_refill : (opening : Opening) (stock : Stock) (number : ℕ) (w : Wave) (quantity : ℕ) (h : Held) (state : State) → AreRowsOf stock state.rows
    → Keeps stock (refill opening number w quantity h state)
for_refill opening stock number w quantity h state are =
    by_test stock _ _ _ (held stock (one_demand h.order h.article quantity) (Some h.row) number (length w.orders) state are) are

for_receive : (opening : Opening) (stock : Stock) (state : State) (article : List ℕ) (quantity number : ℕ) (row : Row) → AreRowsOf stock state.rows
    → Keeps stock (receive_at opening state article quantity number row)
for_receive opening stock state article quantity number row are =
    let done : Stepped = record { reply = reply.Received; state = receive number quantity state } in
    let full = nat_lt most_on_hand (row.on_hand + quantity) in
    let too_many = refuse state (reply.TooMany row.on_hand) in
    by_test stock (not (bytes_eq (article_name opening row.article) article)) (refuse state (reply.OtherArticle (article_name opening row.article)))
    (if full then too_many else done) are
    (by_test stock full too_many done are (received stock number quantity state are))

for_wave : (stock : Stock) (state : State) (name : List ℕ) (change : ℕ → Wave → Stepped) → ((number : ℕ) (w : Wave) → Keeps stock (change number w))
    → AreRowsOf stock state.rows
    → Keeps stock (option_map_or (λ found. change found.0 found.1) (wave_from 0 state.waves name) (refuse state reply.UnknownWave))
for_wave stock state name change each are = by_option stock (λ found. change found.0 found.1) (wave_from 0 state.waves name) _
    (λ found. each found.0 found.1) are

-- each command
pub step_keeps_rows : (opening : Opening) (stock : Stock) (state : State) (command : Command) → AreRowsOf stock state.rows
    → AreRowsOf stock (step opening state command).state.rows
step_keeps_rows opening stock state (command.Submit name orders) are =
    by_option stock (refuse state) (submit_fault opening state name orders) _ (λ why. are) are
step_keeps_rows opening stock state (command.Allot name) are = for_wave stock state name _ (λ number w. for_allot opening stock state number w w.state are) are
step_keeps_rows opening stock state (command.Release name) are =
    for_wave stock state name _ (λ number w. for_release opening stock state number w w.state are) are
step_keeps_rows opening stock state (command.Cancel name) are = for_wave stock state name _ (λ number w. for_cancel stock state number w w.state are) are
step_keeps_rows opening stock state (command.Pick name order location quantity) are =
    for_wave stock state name _ (λ number w. for_held stock state number w order location quantity (pick state number w quantity) w.state
    (λ h. taken stock number h.order h.row quantity state are) are) are
step_keeps_rows opening stock state (command.Missing name order location quantity) are =
    for_wave stock state name _
    (λ number w. for_held stock state number w order location quantity (write_off opening state number w quantity) w.state
    (λ h. for_refill opening stock number w quantity h (take number h.order h.row quantity state) (taken stock number h.order h.row quantity state are)) are)
    are
step_keeps_rows opening stock state (command.Receive location article quantity) are =
    by_option stock (λ found. receive_at opening state article quantity found.0 found.1) (row_from 0 state.rows location) _
    (λ found. for_receive opening stock state article quantity found.0 found.1 are) are

-- entries, one after the other
pub entries_keep_rows : (opening : Opening) (stock : Stock) (state : State) (entries : List Entry) → AreRowsOf stock state.rows
    → AreRowsOf stock (state_from opening state entries).rows
entries_keep_rows opening stock state [] are = are
entries_keep_rows opening stock state (entry ∷ entries) are =
    entries_keep_rows opening stock (step opening state entry.command).state entries (step_keeps_rows opening stock state entry.command are)

-- the opening state
pub opening_rows : (opening : Opening) → IsReadStock opening.stock → AreRowsOf opening.stock (opening_state opening).rows
opening_rows opening read =
    let rows = opening.stock.rows in
    let n = length opening.stock.articles in
    record {
      count = length-map rows opening_row;
      articles = All-map (λ r. r.article < n) opening_row rows
          (All-weaker (IsStockRow opening.stock.articles) (λ r. (opening_row r).article < n) (λ r is. is.article) rows read.rows);
    }
