-- What is promised of waves of open orders that are sent out.
use Rattle.std.specs.Prelude.{◌≡◌, ℕ, ◌≤◌, List, ◌++◌, length, map}
use Rattle.wp_dispatch.specs.DeskText.{IsReadAsPrinted}
use Rattle.wp_model.specs.History.{History, IsLegal, state_after}
use Rattle.wp_model.specs.Limits.{greatest_desk, most_submissions, most_wave_orders}
use Rattle.wp_model.specs.Sound.{EachStateIsSound}
use Rattle.wp_model.specs.Warehouse.{Layout}
use Rattle.wp_outgoing.specs.Leaving.{left_of}
use Rattle.wp_outgoing.specs.Lines.{outgoing_text}
use Rattle.wp_outgoing.specs.Names.{AreNamesOf, name_of}
use Rattle.wp_outgoing.specs.Room.{waves_with_room}
use Rattle.wp_outgoing.specs.Sending.{AreDone, orders_of, sendings_of}
use Rattle.wp_outgoing.specs.WavesOut.{AreOut}
use Rattle.wp_outgoing.specs.declared.lines.WaveOut.{WaveOut}
use Rattle.wp_sending.specs.Sent.{asked_after, sent_after}
use Rattle.wp_waves.specs.Turns.{AreTurns, served_in}
use Rattle.wp_waves.specs.Waves.{AreWavesOf}
use Rattle.wp_waves.specs.declared.open_orders.OpenOrder.{OpenOrder}
use Rattle.wp_waves.specs.declared.turns.OrderTurn.{OrderTurn}
use Rattle.wp_waves_out.specs.Starts.{AreStarts}
use Rattle.wp_waves_out.specs.declared.sent_out.WaveTerms.{WaveTerms}

-- what is asked of waves lies in its range
pub record AreWaveTerms (terms : WaveTerms) : Type 0 where
  pub some_wave : 1 ≤ terms.wave
  pub wave : terms.wave ≤ most_wave_orders
  pub most : terms.most ≤ most_submissions
  pub some_desk : 1 ≤ terms.desk
  pub desk : terms.desk ≤ greatest_desk

-- What is promised of waves that go out after a history, of the orders that are served in their turns, in the words in
-- which it is promised:
pub record GoOut (layout : Layout) (capacity : ℕ) (history : History) (terms : WaveTerms) (turns : List OrderTurn)
    (out : List WaveOut) : Type 0 where
  -- they and the later ones are right waves of the served orders: each of these is in exactly one, and each wave has
  -- few enough, of one group, as they were served;
  pub waves : List (List OpenOrder)
  pub later : List (List OpenOrder)
  pub right : AreWavesOf terms.wave (served_in turns) (waves ++ later)
  -- as many go out as are asked for at most, and as the journal has room for;
  pub room : length waves ≡ waves_with_room (length (waves ++ later)) terms.most (length history.entries)
  -- each has the name of its group with the least number that no submitted wave and none before it has;
  pub names : List (List ℕ)
  pub named : AreNamesOf (map name_of (state_after history).waves) waves names
  -- the desk submits each and releases it, and each of these commands, stepped in order after the history, is answered
  -- as submitted or as released,
  pub done : AreDone history.opening (state_after history) (sendings_of names (orders_of waves))
  -- in a legal history with sound states;
  pub legal : IsLegal (asked_after history terms.desk (sendings_of names (orders_of waves)))
  pub sound : EachStateIsSound (asked_after history terms.desk (sendings_of names (orders_of waves)))
  -- each has a start: what some batching of its picks costs, within the capacity and the cart;
  pub starts : List ℕ
  pub begun : AreStarts layout history.opening capacity
      (sent_after history (sendings_of names (orders_of waves))) starts
  -- so they are told, each with its name, its orders and its start, and the desk file that is printed for them is read
  -- as these commands
  pub told : AreOut names waves starts out
  pub read : IsReadAsPrinted terms.desk out

-- What is promised of a text that tells which of these open orders go out after a history, in which waves, and which
-- are left: what the run of `waves` promises with status 0.
pub record AreSentOut (layout : Layout) (capacity : ℕ) (history : History) (terms : WaveTerms)
    (listed : List OpenOrder) (text : List ℕ) : Type 0 where
  -- the open orders that wait have their turns, by rank, and each is served exactly where what is free in its turn
  -- covers it;
  pub turns : List OrderTurn
  pub in_turn : AreTurns history.opening (state_after history) listed turns
  -- the served orders go out in waves;
  pub out : List WaveOut
  pub go_out : GoOut layout capacity history terms turns out
  -- and the text is their desk file, the waves, and the orders that are left, each with why
  pub is : text ≡ outgoing_text terms.desk out
      (left_of history.opening (state_after history).waves turns out listed)
