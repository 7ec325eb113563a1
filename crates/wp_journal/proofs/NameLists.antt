-- The names of words, one after the other.
use Rattle.std.proofs.Common.{◌≡◌, refl, ap, List, [], ◌∷◌, ◌++◌, ℕ, append_assoc, sym}
use Rattle.std.specs.Prelude.{Option, Some, None, option_map}
use Rattle.wp_model.specs.Name.{name_in}
use Rattle.wp_journal.specs.Commands.{names_in}

-- names before others
abbrev pub names_then : List (List ℕ) → Option (List (List ℕ)) → Option (List (List ℕ))
names_then names rest = option_map (λ more. names ++ more) rest

-- a word that is no name ends the reading
pub names_fault : (names rest : List (List ℕ)) (word : List ℕ) → name_in word ≡ None → names_then names (names_in (word ∷ rest)) ≡ None
names_fault names rest word is = rw is refl

more_if : (names : List (List ℕ)) (name : List ℕ) (rest : Option (List (List ℕ)))
    → names_then names (option_map (λ more. name ∷ more) rest) ≡ names_then (names ++ name ∷ []) rest
more_if names name (Some more) = ap Some (sym (append_assoc names (name ∷ []) more))
more_if names name None = refl

-- one more name
pub names_more : (names rest : List (List ℕ)) (word name : List ℕ) → name_in word ≡ Some name
    → names_then names (names_in (word ∷ rest)) ≡ names_then (names ++ name ∷ []) (names_in rest)
names_more names rest word name is = rw is (more_if names name (names_in rest))
