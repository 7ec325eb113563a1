-- What the fields of a record say, and the test that they fail.
use Rattle.std.specs.Prelude.{ℕ, ◌&&◌, nat_le, List, [], ◌∷◌, if◌then◌else◌, Result, Ok, Err}
use Rattle.std.specs.Borrow.{Bor}
use Rattle.std.specs.List.{list_all}
use Rattle.std.specs.Option.{ok_or}
use Rattle.std.specs.Str.{is_utf8}
use Rattle.wp_model.specs.Location.{location_of}
use Rattle.wp_model.specs.Name.{name_in}
use Rattle.wp_model.specs.Number.{number_of}
use Rattle.wp_model.specs.Limits.{most_quantity}
use Rattle.wp_model.specs.TableLines.{Record}
use Rattle.wp_model.specs.declared.location.Location.{Location}
use Rattle.wp_model.specs.Outcomes.{and_then}
use Rattle.wp_tables.specs.declared.fault.Why.{Why}
use Rattle.wp_tables.specs.declared.fault.Why.TheVariants as why

-- three fields
abbrev pub Three : Type 0 → Type 0
Three A = A × A × A

-- four fields
abbrev pub Four : Type 0 → Type 0
Four A = A × A × A × A

-- the one field
abbrev pub one_of : Record → Result (List ℕ) Why
one_of (a ∷ []) = Ok a
one_of other = Err why.Columns

-- the three fields
abbrev pub three_of : Record → Result (Three (List ℕ)) Why
three_of (a ∷ b ∷ c ∷ []) = Ok (a, b, c)
three_of other = Err why.Columns

-- the four fields
abbrev pub four_of : Record → Result (Four (List ℕ)) Why
four_of (a ∷ b ∷ c ∷ d ∷ []) = Ok (a, b, c, d)
four_of other = Err why.Columns

-- the fields, where each is text
abbrev pub texts_of : Record → Result Record Why
texts_of fields = if list_all is_utf8 fields then Ok fields else Err why.NotUtf8

-- the three fields, where each is text
abbrev pub three_texts : Record → Result (Three (List ℕ)) Why
three_texts fields = and_then (three_of fields) (λ three. and_then (texts_of fields) (λ texts. Ok three))

-- a field that is a name
abbrev pub name_read : List ℕ → Result (List ℕ) Why
name_read field = ok_or (name_in field) why.BadName

-- a field that is a location
abbrev pub location_read : List ℕ → Result Location Why
location_read field = ok_or (location_of field) why.BadName

-- a field that is a number from `least` to `most`
abbrev pub number_read : ℕ → ℕ → List ℕ → Result ℕ Why
number_read least most field =
    and_then (ok_or (number_of 18 field) why.BadNumber) (λ n. if nat_le least n && nat_le n most then Ok n
    else Err why.OutOfRange)

-- a field that is a quantity
abbrev pub quantity_read : List ℕ → Result ℕ Why
quantity_read = number_read 1 most_quantity

-- what three fields are, by their references
abbrev pub three_now : Bor (List ℕ) × Bor (List ℕ) × Bor (List ℕ) → Three (List ℕ)
three_now f = (f.0.now, f.1.now, f.2.now)

-- what four fields are
abbrev pub four_now : Bor (List ℕ) × Bor (List ℕ) × Bor (List ℕ) × Bor (List ℕ) → Four (List ℕ)
four_now f = (f.0.now, f.1.now, f.2.now, f.3.now)

-- a fault as it is
abbrev pub same_fault : Why → Why
same_fault why = why
