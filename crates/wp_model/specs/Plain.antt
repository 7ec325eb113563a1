-- Plain commands.
use Rattle.std.specs.Prelude.{ℕ, ◌&&◌, nat_le, Bool, true, length}
use Rattle.std.specs.List.{list_all}
use Rattle.wp_model.specs.Limits.{greatest_place, most_named, most_quantity}
use Rattle.wp_model.specs.Name.{is_name}
use Rattle.wp_model.specs.declared.command.Command.{Command}
use Rattle.wp_model.specs.declared.command.Command.TheVariants as command
use Rattle.wp_model.specs.declared.location.Location.{Location}

-- a location whose numbers have at most five digits
abbrev pub is_plain_location : Location → Bool
is_plain_location location = nat_le location.aisle greatest_place && nat_le location.slot greatest_place

-- at least one unit, and not too many
abbrev pub is_plain_quantity : ℕ → Bool
is_plain_quantity quantity = nat_le 1 quantity && nat_le quantity most_quantity

-- a command as a table writes it: not too many orders, and locations and quantities within bounds
abbrev pub is_plain : Command → Bool
is_plain (command.Submit wave orders) = nat_le (length orders) most_named
is_plain (command.Allot wave) = true
is_plain (command.Release wave) = true
is_plain (command.Cancel wave) = true
is_plain (command.Pick wave order location quantity) = is_plain_location location && is_plain_quantity quantity
is_plain (command.Missing wave order location quantity) = is_plain_location location && is_plain_quantity quantity
is_plain (command.Receive location article quantity) = is_plain_location location && is_plain_quantity quantity

-- what a command names are names
abbrev pub has_names : Command → Bool
has_names (command.Submit wave orders) = is_name wave && list_all is_name orders
has_names (command.Allot wave) = is_name wave
has_names (command.Release wave) = is_name wave
has_names (command.Cancel wave) = is_name wave
has_names (command.Pick wave order location quantity) = is_name wave && is_name order
has_names (command.Missing wave order location quantity) = is_name wave && is_name order
has_names (command.Receive location article quantity) = is_name article
