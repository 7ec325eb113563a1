-- Names of waves, orders and articles.
use Rattle.std.specs.Prelude.{ℕ, ◌-◌, ◌&&◌, ◌||◌, ◌==◌, Bool, nat_le, nat_lt, List, ◌++◌, length, replicate, Option}
use Rattle.std.specs.Prelude.{Some, None, if◌then◌else◌}
use Rattle.std.specs.List.{list_all}
use Rattle.wp_model.specs.Limits.{most_name_bytes}

-- a byte that may stand in a name: an ASCII digit, an ASCII letter, a dash, an underscore or a dot
abbrev pub is_name_byte : ℕ → Bool
is_name_byte b = (nat_le 48 b && nat_le b 57) || (nat_le 65 b && nat_le b 90) || (nat_le 97 b && nat_le b 122) ||
    (b == 45) || (b == 95) || (b == 46)

-- a name has such bytes, at least one and not too many
abbrev pub is_name : List ℕ → Bool
is_name text = nat_lt 0 (length text) && (nat_le (length text) most_name_bytes && list_all is_name_byte text)

-- the name that a text is, where it is one
abbrev pub name_in : List ℕ → Option (List ℕ)
name_in text = if is_name text then Some text else None

-- the bytes, and zeros up to the most that a name may have
abbrev pub padded_out : List ℕ → List ℕ
padded_out text = text ++ replicate (most_name_bytes - length text) 0
