-- Waves that go out, each with its name and what its start costs.
use Rattle.std.specs.Prelude.{◌≡◌, ℕ, List, map}
use Rattle.wp_outgoing.specs.declared.lines.WaveOut.{WaveOut}
use Rattle.wp_waves.specs.declared.open_orders.OpenOrder.{OpenOrder}

-- the name of a wave that goes out, its orders, and what its start costs
abbrev pub name_out : WaveOut → List ℕ
name_out wave = wave.name

abbrev pub orders_out : WaveOut → List OpenOrder
orders_out wave = wave.orders.items

abbrev pub start_out : WaveOut → ℕ
start_out wave = wave.start

-- waves that go out have these names, these orders and these starts, one by one
pub record AreOut (names : List (List ℕ)) (waves : List (List OpenOrder)) (starts : List ℕ)
    (out : List WaveOut) : Type 0 where
  pub named : map name_out out ≡ names
  pub filled : map orders_out out ≡ waves
  pub begun : map start_out out ≡ starts
