-- How far the aisles lie from the first one, word by word, and what follows of the lengths between them.
use Rattle.std.proofs.Common.{◌≡◌, ℕ, zero, suc, ◌+◌, ◌-◌, ◌*◌, ◌<◌, ◌≤◌, List, [], ◌∷◌, ◌++◌, All, length, replicate, set, slice_index, take, arith, refl, sym}
use Rattle.std.proofs.Common.{ap, ◌∙◌, subst}
use Rattle.std.proofs.Math.Seq.{take-length}
use Rattle.std.proofs.lemmas.List.{length-take, take_more}
use Rattle.wp_model.specs.Limits.{greatest_length, most_aisles}
use Rattle.wp_model.specs.Warehouse.{IsLayout, IsUpTo, Layout, spacing_after}
use Rattle.wp_graph.specs.Offsets.{KeepsOffsets, differences, offset, offset_words, offsets_from}

-- no number of a list is above the bound of each
pub entry_small : (most : ℕ) (numbers : List ℕ) → All (IsUpTo most) numbers → (at : ℕ) → slice_index numbers at ≤ most
entry_small most [] are at = omega arith
entry_small most (n ∷ numbers) are zero = (are 0 0 (omega arith)).1
entry_small most (n ∷ numbers) are (suc at) = entry_small most numbers (λ k d low. are (suc k) d (omega (arith, low))) at

-- no crossing of a layout is longer than a spacing may be
pub spacing_small : (layout : Layout) → IsLayout layout → (aisle : ℕ) → spacing_after layout aisle ≤ greatest_length
spacing_small layout valid zero = omega arith
spacing_small layout valid (suc aisle) = entry_small greatest_length layout.spacings valid.spacings aisle

-- an aisle is no further off than so many of the greatest lengths
pub offset_small : (spacings : List ℕ) → All (IsUpTo greatest_length) spacings → (aisle : ℕ) → offset spacings (suc aisle) ≤ greatest_length * aisle
offset_small spacings are zero = omega arith
offset_small spacings are (suc aisle) =
    let before = offset_small spacings are aisle in
    let here : slice_index (0 ∷ spacings) (suc aisle) ≤ greatest_length = entry_small greatest_length spacings are aisle in
    omega (arith, before, here)

-- with at most 64 aisles none lies further from the first than 630000
pub offset_within : (spacings : List ℕ) (aisle : ℕ) → All (IsUpTo greatest_length) spacings → IsUpTo (length spacings + 1) aisle →
    length spacings + 1 ≤ most_aisles → offset spacings aisle ≤ 630000
offset_within spacings zero are within few = absurd (omega (arith, within))
offset_within spacings (suc aisle) are within few = let small = offset_small spacings are aisle in omega (arith, small, within, few)

offsets_length : (from : ℕ) (spacings : List ℕ) → length (offsets_from from spacings) ≡ suc (length spacings)
offsets_length from [] = refl
offsets_length from (w ∷ spacings) = ap suc (offsets_length (from + w) spacings)

-- the lengths between neighbours are the differences of their offsets
taken_differences : (from : ℕ) (spacings rest : List ℕ) → differences (take (suc (length spacings)) (offsets_from from spacings ++ rest)) ≡ spacings
taken_differences from [] rest = refl
taken_differences from (w ∷ []) rest = ap (λ (n : ℕ). n ∷ []) (omega arith)
taken_differences from (w ∷ v ∷ spacings) rest =
    let here : from + w - from ≡ w = omega arith in
    ap (λ (n : ℕ). n ∷ differences (take (suc (length (v ∷ spacings))) (offsets_from (from + w) (v ∷ spacings) ++ rest))) here
    ∙ ap (λ (ns : List ℕ). w ∷ ns) (taken_differences (from + w) (v ∷ spacings) rest)

pub differences_kept : (spacings : List ℕ) → differences (take (length spacings + 1) (offset_words spacings)) ≡ spacings
differences_kept spacings =
    let one : length spacings + 1 ≡ suc (length spacings) = omega arith in
    ap (λ n. differences (take n (offset_words spacings))) one
    ∙ taken_differences 0 spacings (replicate (most_aisles - (length spacings + 1)) 0)

-- the words of these lengths keep them
pub keeps_offsets : (spacings words : List ℕ) (count : ℕ) → length spacings < most_aisles → All (IsUpTo greatest_length) spacings
    → words ≡ offset_words spacings →
    count ≡ length spacings + 1 → KeepsOffsets count words × (differences (take count words) ≡ spacings)
keeps_offsets spacings words count few are is counts =
    let kept : differences (take count words) ≡ spacings = (rw (is, counts) (differences_kept spacings)) in (
      record {
        words_are = is ∙ ap offset_words (sym kept);
        count_is = counts ∙ ap (λ (ws : List ℕ). length ws + 1) (sym kept);
        few = omega (arith, few, counts);
        ranges = subst (λ (ws : List ℕ). All (IsUpTo greatest_length) ws) (sym kept) are;
      },
      kept,
    )

-- the word of an aisle
word_is : (from : ℕ) (spacings rest : List ℕ) (at : ℕ) → at ≤ length spacings →
    slice_index (offsets_from from spacings ++ rest) at ≡ from + offset spacings (suc at)
word_is from [] rest zero low = omega arith
word_is from [] rest (suc at) low = absurd (omega (arith, low))
word_is from (w ∷ spacings) rest zero low = omega arith
word_is from (w ∷ spacings) rest (suc at) low =
    word_is (from + w) spacings rest at (omega (arith, low)) ∙ omega (arith, first w spacings at)
  where
    first : (w : ℕ) (spacings : List ℕ) (at : ℕ) → w + offset spacings (suc at) ≡ offset (w ∷ spacings) (suc (suc at))
    first w spacings zero = omega arith
    first w spacings (suc at) = let before = first w spacings at in omega (arith, before)

pub word_of_aisle : (spacings : List ℕ) (aisle : ℕ) → IsUpTo (length spacings + 1) aisle
    → slice_index (offset_words spacings) (aisle - 1) ≡ offset spacings aisle
word_of_aisle spacings zero within = absurd (omega (arith, within))
word_of_aisle spacings (suc at) within =
    let back : suc at - 1 ≡ at = omega arith in
    ap (λ n. slice_index (offset_words spacings) n) back
    ∙ word_is 0 spacings (replicate (most_aisles - (length spacings + 1)) 0) at (omega (arith, within)) ∙ omega arith

-- the word of one more aisle is written behind the others
written : (from : ℕ) (spacings : List ℕ) (w n : ℕ) →
    set (offsets_from from spacings ++ replicate (suc n) 0) (suc (length spacings)) (from + offset spacings (suc (length spacings)) + w)
    ≡ offsets_from from (spacings ++ w ∷ []) ++ replicate n 0
written from [] w n = ap (λ (x : ℕ). from ∷ x ∷ replicate n 0) (omega arith)
written from (v ∷ spacings) w n =
    let far : from + offset (v ∷ spacings) (suc (suc (length spacings))) + w ≡ from + v + offset spacings (suc (length spacings)) + w
    = omega (arith, first (length spacings)) in
    ap (λ (x : ℕ). from ∷ set (offsets_from (from + v) spacings ++ replicate (suc n) 0) (suc (length spacings)) x) far
    ∙ ap (λ (ws : List ℕ). from ∷ ws) (written (from + v) spacings w n)
  where
    first : (at : ℕ) → v + offset spacings (suc at) ≡ offset (v ∷ spacings) (suc (suc at))
    first zero = omega arith
    first (suc at) = let before = first at in omega (arith, before)

pub one_more_word : (spacings : List ℕ) (w : ℕ) → length spacings + 1 < most_aisles →
    set (offset_words spacings) (length spacings + 1) (slice_index (offset_words spacings) (length spacings) + w) ≡ offset_words (spacings ++ w ∷ [])
one_more_word spacings w few =
    let one : length spacings + 1 ≡ suc (length spacings) = omega arith in
    let more : length (spacings ++ w ∷ []) ≡ suc (length spacings) = longer spacings in
    let room : most_aisles - (length spacings + 1) ≡ suc (most_aisles - (length (spacings ++ w ∷ []) + 1)) = omega (arith, more, few) in
    let last : slice_index (offset_words spacings) (length spacings) ≡ 0 + offset spacings (suc (length spacings)) =
    word_is 0 spacings (replicate (most_aisles - (length spacings + 1)) 0) (length spacings) (omega arith) in
    ap (λ x. set (offset_words spacings) (length spacings + 1) (x + w)) last
    ∙ ap (λ k. set (offset_words spacings) k (0 + offset spacings (suc (length spacings)) + w)) one
    ∙ ap (λ n. set (offsets_from 0 spacings ++ replicate n 0) (suc (length spacings)) (0 + offset spacings (suc (length spacings)) + w)) room
    ∙ written 0 spacings w (most_aisles - (length (spacings ++ w ∷ []) + 1))
  where
    longer : (ws : List ℕ) → length (ws ++ w ∷ []) ≡ suc (length ws)
    longer [] = refl
    longer (v ∷ ws) = ap suc (longer ws)

-- the lengths so far are as many as were taken, each in its range
taken_all : (n : ℕ) (spacings : List ℕ) → All (IsUpTo greatest_length) spacings → All (IsUpTo greatest_length) (take n spacings)
taken_all zero spacings are = λ k d low. absurd (omega (arith, low))
taken_all (suc n) [] are = are
taken_all (suc n) (w ∷ spacings) are = first (taken_all n spacings (λ k d low. are (suc k) d (omega (arith, low))))
  where
    first : All (IsUpTo greatest_length) (take n spacings) → All (IsUpTo greatest_length) (w ∷ take n spacings)
    first rest zero d low = are 0 d (omega arith)
    first rest (suc k) d low = rest k d (omega (arith, low))

-- the word of the last aisle so far
pub word_so_far : (spacings words : List ℕ) (index : ℕ) → words ≡ offset_words (take index spacings) → index < length spacings → length spacings < most_aisles →
    All (IsUpTo greatest_length) spacings → slice_index words index ≤ 630000
word_so_far spacings words index is within few are =
    let taken = take index spacings in
    let count : length taken ≡ index = let n = length-take index spacings in omega (arith, n, within) in
    let here = ap (λ (ws : List ℕ). slice_index ws index) is ∙ ap (λ n. slice_index (offset_words taken) n) (sym count)
    ∙ word_is 0 taken (replicate (most_aisles - (length taken + 1)) 0) (length taken) (omega arith) in
    let small = offset_small taken (taken_all index spacings are) (length taken) in
    omega (arith, here, small, count, within, few)

-- one more word is written
pub one_more_taken : (spacings words : List ℕ) (index : ℕ) → words ≡ offset_words (take index spacings) → index < length spacings
    → length spacings < most_aisles →
    set words (index + 1) (slice_index words index + slice_index spacings index) ≡ offset_words (take (index + 1) spacings)
one_more_taken spacings words index is within few =
    let taken = take index spacings in
    let w = slice_index spacings index in
    let count : length taken ≡ index = let n = length-take index spacings in omega (arith, n, within) in
    ap (λ (ws : List ℕ). set ws (index + 1) (slice_index ws index + w)) is
    ∙ ap (λ n. set (offset_words taken) (n + 1) (slice_index (offset_words taken) n + w)) (sym count)
    ∙ one_more_word taken w (omega (arith, count, within, few))
    ∙ ap offset_words (sym (take_more spacings index 0 within))

-- after the last spacing the words keep all of them
pub all_taken : (spacings words : List ℕ) (index : ℕ) → words ≡ offset_words (take index spacings) → index ≡ length spacings → words ≡ offset_words spacings
all_taken spacings words index is all = is ∙ ap (λ n. offset_words (take n spacings)) all ∙ ap offset_words (take-length spacings)
