-- The batches that are given to a picker, one batch after the other.
use Rattle.std.proofs.Common.{◌≡◌, ◌∙◌, sym, ap, ℕ, ◌+◌, ◌<◌, ◌==◌, if◌then◌else◌, List, [], ◌∷◌, ◌++◌, length, take, append_assoc, arith, eq-eqb}
use Rattle.std.proofs.Common.{slice_index, slice_index_or}
use Rattle.std.proofs.lemmas.Bool.{cond-false, cond-true, ne_eqb}
use Rattle.std.proofs.lemmas.List.{append-nil, get_or_read_under, length-take-le, take_more}
use Rattle.wp_sheets.specs.Crews.{batch_after_space, given_to}

-- what the line of a picker has of a batch: its words if it is given to the picker
abbrev pub words_if_given : ℕ → ℕ → List ℕ → ℕ → List ℕ
words_if_given picker owner name number = if owner == picker then batch_after_space name number else []

-- those of the batches before a place that are given to a picker
abbrev pub given_before : ℕ → ℕ → List ℕ → List (List ℕ) → List ℕ → List ℕ
given_before picker place owners names numbers = given_to picker (take place owners) (take place names) (take place numbers)

-- with one more batch at the end there are its words more
given_to-push : (picker : ℕ) (owners : List ℕ) (names : List (List ℕ)) (numbers : List ℕ) (owner : ℕ) (name : List ℕ) (number : ℕ)
    → length names ≡ length owners → length numbers ≡ length owners
    → given_to picker (owners ++ owner ∷ []) (names ++ name ∷ []) (numbers ++ number ∷ [])
    ≡ given_to picker owners names numbers ++ words_if_given picker owner name number
unfolding given_to
given_to-push picker [] [] [] owner name number a b = append-nil (words_if_given picker owner name number)
given_to-push picker [] [] (n ∷ ns) owner name number a b = absurd (omega arith)
given_to-push picker [] (w ∷ ws) numbers owner name number a b = absurd (omega arith)
given_to-push picker (o ∷ os) [] numbers owner name number a b = absurd (omega arith)
given_to-push picker (o ∷ os) (w ∷ ws) [] owner name number a b = absurd (omega arith)
given_to-push picker (o ∷ os) (w ∷ ws) (n ∷ ns) owner name number a b =
    ap (λ (more : List ℕ). words_if_given picker o w n ++ more) (given_to-push picker os ws ns owner name number (omega arith) (omega arith))
    ∙ sym (append_assoc (words_if_given picker o w n) (given_to picker os ws ns) (words_if_given picker owner name number))

-- the batches before the next place are those before a place, and the batch there if it is given to the picker
given_before-more : (picker place : ℕ) (owners : List ℕ) (names : List (List ℕ)) (numbers : List ℕ)
    → length names ≡ length owners → length numbers ≡ length owners → place < length owners
    → given_before picker (place + 1) owners names numbers
    ≡ given_before picker place owners names numbers
    ++ words_if_given picker (slice_index owners place) (slice_index_or names place []) (slice_index numbers place)
given_before-more picker place owners names numbers a b within =
    let in_names : place < length names = omega arith in
    let in_numbers : place < length numbers = omega arith in
    let one = length-take-le place owners (omega arith) in
    let two = length-take-le place names (omega arith) in
    let three = length-take-le place numbers (omega arith) in
    rw (take_more owners place 0 within, take_more names place [] in_names, take_more numbers place 0 in_numbers)
    (given_to-push picker (take place owners) (take place names) (take place numbers) (slice_index owners place) (slice_index_or names place [])
    (slice_index numbers place) (two ∙ sym one) (three ∙ sym one))

-- a text that grows by the words of a batch has one more, if the batch is given to the picker
pub grown_by_own : (picker place : ℕ) (owners : List ℕ) (names : List (List ℕ)) (numbers old text new name : List ℕ)
    → length names ≡ length owners → length numbers ≡ length owners → place < length owners
    → text ≡ old ++ given_before picker place owners names numbers → slice_index owners place ≡ picker → name ≡ slice_index_or names place name
    → new ≡ text ++ batch_after_space name (slice_index numbers place) → new ≡ old ++ given_before picker (place + 1) owners names numbers
grown_by_own picker place owners names numbers old text new name a b within so_far own read next =
    let number = slice_index numbers place in
    let before = given_before picker place owners names numbers in
    let named : List ℕ = slice_index_or names place [] in
    let words : words_if_given picker (slice_index owners place) named number ≡ batch_after_space named number =
    cond-true {A = List ℕ} (slice_index owners place == picker) (batch_after_space named number) [] (eq-eqb (slice_index owners place) picker own) in
    let more : given_before picker (place + 1) owners names numbers ≡ before ++ batch_after_space named number =
    given_before-more picker place owners names numbers a b within ∙ ap (λ (xs : List ℕ). before ++ xs) words in
    next ∙ ap (λ (xs : List ℕ). text ++ batch_after_space xs number) (get_or_read_under names place (length owners) name [] read within (sym a))
    ∙ ap (λ (xs : List ℕ). xs ++ batch_after_space named number) so_far ∙ append_assoc old before (batch_after_space named number)
    ∙ ap (λ (xs : List ℕ). old ++ xs) (sym more)

-- a text stays as it is at a batch that is given to another picker
pub same_at_other : (picker place : ℕ) (owners : List ℕ) (names : List (List ℕ)) (numbers old text new : List ℕ)
    → length names ≡ length owners → length numbers ≡ length owners → place < length owners
    → text ≡ old ++ given_before picker place owners names numbers → (slice_index owners place ≡ picker → ⊥)
    → new ≡ text → new ≡ old ++ given_before picker (place + 1) owners names numbers
same_at_other picker place owners names numbers old text new a b within so_far other same =
    let number = slice_index numbers place in
    let before = given_before picker place owners names numbers in
    let named : List ℕ = slice_index_or names place [] in
    let words : words_if_given picker (slice_index owners place) named number ≡ [] =
    cond-false {A = List ℕ} (slice_index owners place == picker) (batch_after_space named number) [] (ne_eqb (slice_index owners place) picker other) in
    let more : given_before picker (place + 1) owners names numbers ≡ before =
    given_before-more picker place owners names numbers a b within ∙ ap (λ (xs : List ℕ). before ++ xs) words ∙ append-nil before in
    same ∙ so_far ∙ ap (λ (xs : List ℕ). old ++ xs) (sym more)
