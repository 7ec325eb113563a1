-- Marks in bytes: how many, each at its place, and one more.
use Rattle.std.proofs.Common.{◌≡◌, ◌≢◌, ℕ, zero, suc, ◌+◌, ◌*◌, ◌/◌, ◌%◌, ◌^◌, ◌<◌, Bool}
use Rattle.std.proofs.Common.{List, [], ◌∷◌, ◌++◌, length, get_or, set, arith, refl, ap, ap₂, sym, ◌∙◌}
use Rattle.std.proofs.Common.{⊎_elim, eqb, bit_and, length-append}
use Rattle.std.specs.Prelude.{Some, slice_get}
use Rattle.std.specs.Int.{bit_at}
use Rattle.std.proofs.lemmas.Bool.{cases_eq}
use Rattle.std.proofs.lemmas.List.{get_or_append_left, get_or-set_same, get_or-set_other}
use Rattle.std.proofs.lemmas.Grind.{get_or_default_zero}
use Rattle.std.proofs.lemmas.Nat.Bits.{shr_and_one}
use Rattle.wp_lengths.specs.Marks.{mark_at, marks_below}

-- there are as many marks as places
pub marks_length : (bytes : List ℕ) (n : ℕ) → length (marks_below bytes n) ≡ n
unfolding marks_below
marks_length bytes zero = refl
marks_length bytes (suc n) = omega (arith, length-append (marks_below bytes n) (mark_at bytes n ∷ []), marks_length bytes n)

get_left : (xs ys : List Bool) (k : ℕ) → k < length xs → slice_get (xs ++ ys) k ≡ slice_get xs k
get_left [] ys k within = absurd (omega arith)
get_left (x ∷ xs) ys zero within = refl
get_left (x ∷ xs) ys (suc k) within = get_left xs ys k (omega arith)

get_end : (xs : List Bool) (x : Bool) (k : ℕ) → k ≡ length xs → slice_get (xs ++ x ∷ []) k ≡ Some x
get_end [] x zero e = refl
get_end [] x (suc k) e = absurd (omega arith)
get_end (y ∷ xs) x zero e = absurd (omega arith)
get_end (y ∷ xs) x (suc k) e = get_end xs x k (omega arith)

-- each mark stands at its place
pub marks_get : (bytes : List ℕ) (n k : ℕ) → k < n → slice_get (marks_below bytes n) k ≡ Some (mark_at bytes k)
unfolding marks_below
marks_get bytes zero k within = absurd (omega arith)
marks_get bytes (suc n) k within =
    ⊎_elim
    (λ (e : k ≡ n). get_end (marks_below bytes n) (mark_at bytes n) k (omega (arith, marks_length bytes n)) ∙ ap (λ (m : ℕ). Some (mark_at bytes m)) (sym e))
    (λ (ne : k ≢ n). get_left (marks_below bytes n) (mark_at bytes n ∷ []) k (omega (arith, marks_length bytes n, ne))
    ∙ marks_get bytes n k (omega (arith, ne)))
    (cases_eq k n)

-- marks that agree at each place below a number are one list
pub marks_same : (xs ys : List ℕ) (n : ℕ) → ((k : ℕ) → k < n → mark_at xs k ≡ mark_at ys k) → marks_below xs n ≡ marks_below ys n
unfolding marks_below
marks_same xs ys zero same = refl
marks_same xs ys (suc n) same =
    ap₂ (λ (left : List Bool) (m : Bool). left ++ m ∷ []) (marks_same xs ys n (λ k low. same k (omega arith))) (same n (omega arith))

-- no mark
pub no_marks : marks_below [] 0 ≡ []
unfolding marks_below
no_marks = refl

-- a further byte leaves the marks before it
pub mark_before : (bytes : List ℕ) (byte k : ℕ) → k < 8 * length bytes → mark_at (bytes ++ byte ∷ []) k ≡ mark_at bytes k
unfolding mark_at
mark_before bytes byte k within = ap (λ (b : ℕ). eqb (bit_at b (k % 8)) 1) (get_or_append_left bytes (byte ∷ []) 0 (k / 8) (omega arith))

more_marks : (before after : List ℕ) (n : ℕ) (mark : Bool) → ((k : ℕ) → k < n → mark_at after k ≡ mark_at before k) → mark_at after n ≡ mark
    → marks_below after (suc n) ≡ marks_below before n ++ mark ∷ []
unfolding marks_below
more_marks before after n mark same here = ap₂ (λ (left : List Bool) (m : Bool). left ++ m ∷ []) (marks_same after before n same) here

-- with a further place, one more mark
pub marks_more : (before after : List ℕ) (n m : ℕ) (mark : Bool) → m ≡ n + 1 → ((k : ℕ) → k < n → mark_at after k ≡ mark_at before k) → mark_at after n ≡ mark
    → marks_below after m ≡ marks_below before n ++ mark ∷ []
marks_more before after n m mark one_more same here =
    let e : m ≡ suc n = omega arith in ap (marks_below after) e ∙ more_marks before after n mark same here

-- what is read of a byte is the mark
pub mark_read : (bytes : List ℕ) (byte place : ℕ) → place / 8 < length bytes → byte ≡ get_or bytes (place / 8) byte
    → mark_at bytes place ≡ eqb (bit_and (byte / 2 ^ (place % 8)) 1) 1
unfolding mark_at
mark_read bytes byte place within is =
    ap (λ (b : ℕ). eqb (bit_at b (place % 8)) 1) (sym (is ∙ get_or_default_zero bytes (place / 8) byte within))
    ∙ ap (λ (d : ℕ). eqb d 1) (sym (shr_and_one byte (place % 8)))

-- a mark that is written stands at its place
pub written_here : (bytes : List ℕ) (byte place : ℕ) (mark : Bool) → place < 8 * length bytes → eqb (bit_at byte (place % 8)) 1 ≡ mark
    → mark_at (set bytes (place / 8) byte) place ≡ mark
unfolding mark_at
written_here bytes byte place mark within is =
    ap (λ (b : ℕ). eqb (bit_at b (place % 8)) 1) (get_or-set_same bytes (place / 8) byte 0 (omega arith)) ∙ is

-- the other marks stay
pub written_elsewhere : (bytes : List ℕ) (byte place other : ℕ) → place < 8 * length bytes → other ≢ place
    → ((k : ℕ) → k < 8 → k ≢ place % 8 → bit_at byte k ≡ bit_at (get_or bytes (place / 8) 0) k)
    → mark_at (set bytes (place / 8) byte) other ≡ mark_at bytes other
unfolding mark_at
written_elsewhere bytes byte place other within ne is =
    ⊎_elim
    (λ (e : other / 8 ≡ place / 8).
    let digit : other % 8 ≢ place % 8 = λ (d : other % 8 ≡ place % 8). ne (omega arith) in
    ap (λ (b : ℕ). eqb (bit_at b (other % 8)) 1) (ap (λ (i : ℕ). get_or (set bytes (place / 8) byte) i 0) e
    ∙ get_or-set_same bytes (place / 8) byte 0 (omega arith))
    ∙ (ap (λ (b : ℕ). eqb b 1) (is (other % 8) (omega arith) digit) ∙ ap (λ (i : ℕ). eqb (bit_at (get_or bytes i 0) (other % 8)) 1) (sym e)))
    (λ (away : other / 8 ≢ place / 8). ap (λ (b : ℕ). eqb (bit_at b (other % 8)) 1) (get_or-set_other bytes (place / 8) (other / 8) byte 0 away))
    (cases_eq (other / 8) (place / 8))
