-- The fields of a command, one after the other.
use Rattle.std.proofs.Common.{◌≡◌, refl, ap, List, [], ◌∷◌, ◌++◌, ℕ, Result, Ok, Err, append_assoc, sym, true}
use Rattle.wp_tables.specs.DeskFile.{asked_by, command_in_fields, command_of, desk_read, names_read, word_read}
use Rattle.std.specs.List.{list_all}
use Rattle.std.specs.Str.{is_utf8}
use Rattle.wp_tables.specs.Fields.{name_read}
use Rattle.wp_tables.specs.declared.word.Word.{Word}
use Rattle.wp_model.specs.Outcomes.{and_then}
use Rattle.wp_tables.specs.declared.fault.Why.{Why}

-- names before others
abbrev pub names_then : List (List ℕ) → Result (List (List ℕ)) Why → Result (List (List ℕ)) Why
names_then names rest = and_then rest (λ more. Ok (names ++ more))

-- a field that is no name ends the reading
pub names_fault : (names rest : List (List ℕ)) (field : List ℕ) (why : Why) → name_read field ≡ Err why → names_then names (names_read (field ∷ rest)) ≡ Err why
names_fault names rest field why is = rw is refl

more_if : (names : List (List ℕ)) (name : List ℕ) (rest : Result (List (List ℕ)) Why)
    → names_then names (and_then rest (λ more. Ok (name ∷ more))) ≡ names_then (names ++ name ∷ []) rest
more_if names name (Ok more) = ap Ok (sym (append_assoc names (name ∷ []) more))
more_if names name (Err why) = refl

-- one more name
pub names_more : (names rest : List (List ℕ)) (field name : List ℕ) → name_read field ≡ Ok name
    → names_then names (names_read (field ∷ rest)) ≡ names_then (names ++ name ∷ []) (names_read rest)
names_more names rest field name is = rw is (more_if names name (names_read rest))

-- the command of a record whose first two fields are read
pub command_then : (desk text : List ℕ) (rest : List (List ℕ)) (d : ℕ) (w : Word) → list_all is_utf8 (desk ∷ text ∷ rest) ≡ true → desk_read desk ≡ Ok d
    → word_read text ≡ Ok w
    → command_in_fields (desk ∷ text ∷ rest) ≡ asked_by d (command_of w rest)
command_then desk text rest d w texts first second = rw (texts, first, second) refl
