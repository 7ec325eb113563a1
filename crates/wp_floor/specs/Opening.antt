-- The opening of a stock and of orders.
use Rattle.std.specs.Prelude.{ℕ, List, Some, None}
use Rattle.wp_model.specs.Opening.{Opening, Order, Stock}

-- the opening of a stock and of orders that were read for it, for carts that hold any number of units
abbrev pub opening_of : Stock → List Order → Opening
opening_of stock orders = record { stock = stock; orders = orders; units = None }

-- the same for carts that hold so many units
abbrev pub cart_opening : Stock → List Order → ℕ → Opening
cart_opening stock orders units = record { stock = stock; orders = orders; units = Some units }
