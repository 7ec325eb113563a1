-- The commands that send waves out, and that each of them is done.
use Rattle.std.specs.Prelude.{⊤, List, [], ◌∷◌, ◌++◌, ℕ, map}
use Rattle.wp_model.specs.Opening.{Opening}
use Rattle.wp_model.specs.State.{State}
use Rattle.wp_model.specs.Step.{SaysDone, step}
use Rattle.wp_model.specs.declared.command.Command.{Command}
use Rattle.wp_model.specs.declared.command.Command.TheVariants as command
use Rattle.wp_waves.specs.OpenOrders.{order_of}
use Rattle.wp_waves.specs.declared.open_orders.OpenOrder.{OpenOrder}

-- the commands that send out a wave of a name and of these orders: it is submitted, and released
abbrev pub sending_of : List ℕ → List (List ℕ) → List Command
sending_of name orders = command.Submit name orders ∷ command.Release name ∷ []

-- the commands that send out waves of these names, one after the other
abbrev pub sendings_of : List (List ℕ) → List (List (List ℕ)) → List Command
sendings_of [] waves = []
sendings_of (name ∷ names) [] = []
sendings_of (name ∷ names) (orders ∷ waves) = sending_of name orders ++ sendings_of names waves

-- each of these commands is done, stepped one after the other from a state on
abbrev pub AreDone : Opening → State → List Command → Type 0
AreDone opening state [] = ⊤
AreDone opening state (first ∷ others) =
    SaysDone first (step opening state first).reply × AreDone opening (step opening state first).state others

-- the orders of waves, wave by wave
abbrev pub orders_of : List (List OpenOrder) → List (List (List ℕ))
orders_of = map (map order_of)
