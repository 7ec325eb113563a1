-- What the bytes of a layout file say: a layout, or the first test that they fail.
use Rattle.std.specs.Prelude.{ℕ, ◌-◌, ◌==◌, ◌&&◌, nat_le, Bool, true, false, List, [], ◌∷◌, length, map, Option, Some}
use Rattle.std.specs.Prelude.{None, option_and_then, option_map, unwrap_or, is_none, is_some}
use Rattle.std.specs.Prelude.{if◌then◌else◌, Result, Ok, Err, bytes_eq, codes, ⊤}
use Rattle.std.specs.List.{find, list_all, list_any}
use Rattle.std.specs.Option.{ok_or}
use Rattle.std.specs.Str.{is_utf8}
use Rattle.serde_json.specs.Data.{Data, Items, no_items, item, Members, no_members, member}
use Rattle.serde_json.specs.Find.{as_array, as_number, as_object, as_str, as_u64, get}
use Rattle.serde_json.specs.Read.{read}
use Rattle.wp_model.specs.Warehouse.{Layout, end_of, even_layout}
use Rattle.wp_model.specs.Limits.{greatest_length, most_aisles, most_slots}
use Rattle.wp_layout.specs.Keys.{first_keys, key_text, second_keys}
use Rattle.wp_layout.specs.declared.fault.LayoutFault.{LayoutFault}
use Rattle.wp_layout.specs.declared.fault.LayoutFault.TheVariants as fault
use Rattle.wp_layout.specs.declared.key.Key.{Key}
use Rattle.wp_layout.specs.declared.key.Key.TheVariants as key
use Rattle.wp_layout.specs.declared.reading.Sizes.{Sizes}
use Rattle.wp_model.specs.Outcomes.{and_then}

-- the value that bytes are read as: they must be text, and the text must be JSON
abbrev pub value_read : List ℕ → Result Data LayoutFault
value_read bytes = ok_or (if is_utf8 bytes then read bytes else None) fault.NotJson

-- the members of a value, which must be an object
abbrev pub members_read : Data → Result Members LayoutFault
members_read value = ok_or (as_object value) fault.NotObject

-- whether a value has no member of this key
abbrev pub is_missing : Data → Key → Bool
is_missing value key = is_none (get (key_text key) value)

-- a missing key is told
abbrev pub no_missing : Option Key → Result ⊤ LayoutFault
no_missing None = Ok tt
no_missing (Some key) = Err (fault.MissingKey key)

-- each of these keys must be there: the first that is missing is told
abbrev pub keys_found : List Key → Data → Result ⊤ LayoutFault
keys_found keys value = no_missing (find (is_missing value) keys)

-- whether a name is one of these keys
abbrev pub is_key : List Key → List ℕ → Bool
is_key keys name = list_any (λ key. bytes_eq name (key_text key)) keys

-- the names of the members
abbrev pub names_of : Members → List (List ℕ)
names_of no_members = []
names_of (member name value more) = name ∷ names_of more

-- no other key may be there
abbrev pub keys_known : List Key → Members → Result ⊤ LayoutFault
keys_known keys members = if list_all (is_key keys) (names_of members) then Ok tt else Err fault.UnknownKey

-- the keys of a version must be there, and no other
abbrev pub keys_tested : List Key → Data → Members → Result ⊤ LayoutFault
keys_tested keys value members = and_then (keys_found keys value) (λ found. keys_known keys members)

-- the whole number that a value is
abbrev pub whole_of : Data → Option ℕ
whole_of value = option_and_then as_u64 (as_number value)

-- the whole number at a key
abbrev pub whole_at : Data → Key → Option ℕ
whole_at value key = option_and_then as_u64 (option_and_then as_number (get (key_text key) value))

-- whether a number is from 1 to the greatest
abbrev pub is_ranged : ℕ → ℕ → Bool
is_ranged most number = nat_le 1 number && nat_le number most

-- a number must be from 1 to the greatest
abbrev pub ranged : Key → ℕ → ℕ → Result ℕ LayoutFault
ranged key most number = if is_ranged most number then Ok number else Err (fault.OutOfRange key)

-- the number at a key, which must be whole, and from 1 to the greatest
abbrev pub number_read : Data → Key → ℕ → Result ℕ LayoutFault
number_read value key most = and_then (ok_or (whole_at value key) (fault.NotWhole key)) (ranged key most)

-- the version, which must be there, and 1 or 2
abbrev pub version_read : Data → Result ℕ LayoutFault
version_read value = if is_missing value key.Version then Err (fault.MissingKey key.Version)
    else number_read value key.Version 2

-- the numbers that both versions have before the spacing, one key after another
abbrev pub sizes_read : Data → Result Sizes LayoutFault
sizes_read value = and_then (number_read value key.Aisles most_aisles)
    (λ aisles. and_then (number_read value key.Slots most_slots)
    (λ slots. and_then (number_read value key.Pitch greatest_length)
    (λ pitch. and_then (number_read value key.Clearance greatest_length)
    (λ clearance. Ok (record { aisles = aisles; slots = slots; pitch = pitch; clearance = clearance })))))

-- version 1 has one spacing for all neighbouring aisles, and its depot in front in one of the aisles
abbrev pub first_read : Data → Result Layout LayoutFault
first_read value = and_then (sizes_read value)
    (λ sizes. and_then (number_read value key.Spacing greatest_length)
    (λ spacing. and_then (number_read value key.Depot sizes.aisles)
    (λ depot. Ok (even_layout sizes.aisles sizes.slots sizes.pitch sizes.clearance spacing depot))))

-- the values of a list
abbrev pub values_of : Items → List Data
values_of no_items = []
values_of (item value items) = value ∷ values_of items

-- the values of the list at a key
abbrev pub list_at : Data → Key → Option (List Data)
list_at value key = option_map values_of (option_and_then as_array (get (key_text key) value))

-- whether a value is a whole number, and the number, 0 where it isn't one
abbrev pub is_whole : Data → Bool
is_whole value = is_some (whole_of value)

abbrev pub whole_or_zero : Data → ℕ
whole_or_zero value = unwrap_or (whole_of value) 0

-- each value must be a whole number
abbrev pub wholes_read : List Data → Result (List ℕ) LayoutFault
wholes_read values = if list_all is_whole values then Ok (map whole_or_zero values)
    else Err (fault.NotWhole key.Spacings)

-- there must be one spacing less than there are aisles, each in its range
abbrev pub spacings_ranged : ℕ → List ℕ → Result (List ℕ) LayoutFault
spacings_ranged aisles spacings =
    if (length spacings == aisles - 1) && list_all (is_ranged greatest_length) spacings then Ok spacings
    else Err (fault.OutOfRange key.Spacings)

-- the spacings, which must be a list of whole numbers, as many and as long as they may be
abbrev pub spacings_read : Data → ℕ → Result (List ℕ) LayoutFault
spacings_read value aisles = and_then (and_then
    (ok_or (list_at value key.Spacings) (fault.NotWhole key.Spacings)) wholes_read) (spacings_ranged aisles)

-- whether a text names the back end, where it names an end
abbrev pub back_named : List ℕ → Option Bool
back_named text = if bytes_eq text (codes "front") then Some false
    else (if bytes_eq text (codes "back") then Some true else None)

-- whether the depot lies at the back end, which must be told by the name of an end
abbrev pub back_read : Data → Result Bool LayoutFault
back_read value = ok_or (option_and_then back_named (option_and_then as_str (get (key_text key.End) value)))
    fault.NotEnd

-- version 2 has a spacing for each two neighbouring aisles, and its depot at an end of one of the aisles
abbrev pub second_read : Data → Result Layout LayoutFault
second_read value = and_then (sizes_read value)
    (λ sizes. and_then (spacings_read value sizes.aisles)
    (λ spacings. and_then (number_read value key.Depot sizes.aisles)
    (λ depot. and_then (back_read value)
    (λ back. Ok (record {
      aisles = sizes.aisles;
      slots = sizes.slots;
      pitch = sizes.pitch;
      clearance = sizes.clearance;
      spacings = spacings;
      depot = depot;
      end = end_of back;
    })))))

-- what a version says: each of its keys must be there and no other, and then come the numbers
abbrev pub version_said : Data → Members → ℕ → Result Layout LayoutFault
version_said value members version =
    if version == 1 then and_then (keys_tested first_keys value members) (λ tested. first_read value)
    else and_then (keys_tested second_keys value members) (λ tested. second_read value)

-- what a value says: it must be an object with a version, and then what the version says
abbrev pub value_said : Data → Result Layout LayoutFault
value_said value = and_then (members_read value) (λ members. and_then (version_read value) (version_said value members))

-- what the bytes of a layout file say
abbrev pub layout_said : List ℕ → Result Layout LayoutFault
layout_said bytes = and_then (value_read bytes) value_said
