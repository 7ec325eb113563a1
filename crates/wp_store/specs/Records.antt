-- What the bytes of a store's file stand for.
use Rattle.std.specs.Prelude.{◌≡◌, ℕ, zero, suc, ◌+◌, ◌*◌, ◌/◌, ◌%◌, Bool, ◌==◌, ◌&&◌, nat_le, if◌then◌else◌, sum_by}
use Rattle.std.specs.Prelude.{List, [], ◌∷◌, ◌++◌, length, take, drop, Option, Some, None}

-- the most records that a store may have
abbrev pub most_records : ℕ
most_records = 10000

-- the most bytes that a record may have
abbrev pub most_body_bytes : ℕ
most_body_bytes = 8192

-- the bytes of a record besides its body: an opened byte, and the length
abbrev pub head_bytes : ℕ
head_bytes = 5

-- the most bytes of a record, and of what is written at once: a length, a body and a closed byte
abbrev pub room_bytes : ℕ
room_bytes = 8197

-- the most bytes that a store's file may have: the most records, each of the most bytes, and a closed byte
abbrev pub most_store_bytes : ℕ
most_store_bytes = 81970001

-- a length as four bytes, the most significant first
abbrev pub length_bytes : ℕ → List ℕ
length_bytes n = (n / 16777216 % 256) ∷ (n / 65536 % 256) ∷ (n / 256 % 256) ∷ (n % 256) ∷ []

-- the length that four bytes say
abbrev pub length_of_bytes : ℕ → ℕ → ℕ → ℕ → ℕ
length_of_bytes a b c d = ((a * 256 + b) * 256 + c) * 256 + d

-- a record's body, and the bytes behind it
pub record First : Type 0 where
  pub body : List ℕ
  pub rest : List ℕ

-- a record may have a body of this length, where so many bytes are left
abbrev pub is_body_length : ℕ → ℕ → Bool
is_body_length n left = nat_le 1 n && nat_le n most_body_bytes && nat_le n left

-- The record at the front of these bytes: the byte 1, a length n from 1 to the most, most significant byte first, and n
-- bytes. There is none where one of these is missing.
abbrev pub first_record : List ℕ → Option First
first_record (mark ∷ a ∷ b ∷ c ∷ d ∷ behind) =
    let n = length_of_bytes a b c d in
    if mark == 1 && is_body_length n (length behind) then Some (record { body = take n behind; rest = drop n behind })
    else None
first_record bytes = None

-- the bodies of the records at the front of these bytes, at most so many
abbrev pub records_up_to : ℕ → List ℕ → List (List ℕ)
records_up_to zero bytes = []
records_up_to (suc most) bytes = elim (first_record bytes) [
  | None ↦ []
  | Some first ↦ first.body
      ∷ records_up_to most first.rest
]

-- the bodies of the records that a file stands for
unfoldable pub records_of : List ℕ → List (List ℕ)
records_of bytes = records_up_to most_records bytes

-- how many bytes the records of these bodies take
abbrev pub stored_bytes : List (List ℕ) → ℕ
stored_bytes bodies = sum_by (λ body. head_bytes + length body) bodies

-- these bytes are whole records with these bodies, whatever stands behind them
abbrev pub AreRecords : List ℕ → List (List ℕ) → Type 0
AreRecords front bodies = (most : ℕ) (behind : List ℕ)
    → records_up_to (length bodies + most) (front ++ behind) ≡ bodies ++ records_up_to most behind

-- a record of this body, opened
abbrev pub record_of : List ℕ → List ℕ
record_of body = 1 ∷ length_bytes (length body) ++ body
