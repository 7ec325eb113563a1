-- What a name holds among files that are kept as names and contents.
use Rattle.std.proofs.Common.{◌≡◌, refl, ℕ, ◌+◌, Bool, true, false, cond, not, List, [], ◌∷◌, length, get_or, Some, None, String, Vec, arith}
use Rattle.std.proofs.Math.Numerals.{one-add}
use Rattle.std.specs.Prelude.{option_map, string_bytes, find, position}
use Rattle.std.specs.List.{slice_get, position_or_len}
use Rattle.std.specs.Str.{bytes_eq}
use Rattle.std.specs.declared.alloc.Global.{Global}
use Rattle.std.proofs.lemmas.Option.{slice_get_past, slice_get-get_or}
use Rattle.wp_outside.specs.InMemory.{files_of, bytes_of}

-- it is what stands beside the first of the equal names
beside_first : (names : List (String Global)) (contents : List (Vec ℕ Global)) (name : List ℕ) → length contents ≡ length names
    → bytes_of (files_of names contents) name ≡ option_map (λ bytes. bytes.items)
    (slice_get contents (position_or_len (λ known. bytes_eq (string_bytes known) name) names))
beside_first [] [] name same = refl
beside_first [] (c ∷ cs) name same = absurd (omega arith)
beside_first (n ∷ ns) [] name same = refl
beside_first (n ∷ ns) (c ∷ cs) name same =
    let rest = beside_first ns cs name (omega arith) in
    let Is : Bool → Type 0 = λ b. option_map (λ file. file.1)
    (cond b (Some (string_bytes n, c.items)) (find (λ file. bytes_eq file.0 name) (files_of ns cs))) ≡ option_map (λ bytes. bytes.items)
    (slice_get (c ∷ cs) (cond (not b) (1 + position_or_len (λ known. bytes_eq (string_bytes known) name) ns) 0)) in
    elim (bytes_eq (string_bytes n) name) as Is [ true ↦ refl | false ↦ rw one-add rest ]

-- a name that a search of the names doesn't find holds nothing
pub none_held : (names : List (String Global)) (contents : List (Vec ℕ Global)) (name : List ℕ) → length contents ≡ length names
    → position (λ known. bytes_eq (string_bytes known) name) names ≡ None → bytes_of (files_of names contents) name ≡ None
none_held names contents name same lost =
    let first = beside_first names contents name same in
    grind (arith, slice_get_past)

-- a name that it finds holds what stands beside it
pub held_beside : (names : List (String Global)) (contents : List (Vec ℕ Global)) (name : List ℕ) (i : ℕ) (bytes : Vec ℕ Global)
    → length contents ≡ length names → position (λ known. bytes_eq (string_bytes known) name) names ≡ Some i → bytes ≡ get_or contents i bytes
    → bytes_of (files_of names contents) name ≡ Some bytes.items
held_beside names contents name i bytes same found read =
    let first = beside_first names contents name same in
    grind (arith, slice_get-get_or)
