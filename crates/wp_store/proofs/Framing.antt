-- Records at the front of bytes.
use Rattle.std.proofs.Common.{◌≡◌, ◌≢◌, ◌⊎◌, inl, inr, refl, sym, ◌∙◌, ap, subst, ℕ, zero, suc, ◌+◌, ◌/◌, ◌%◌, ◌≤◌, List, [], ◌∷◌, ◌++◌, length, take, drop}
use Rattle.std.proofs.Common.{Option, Some, None, arith, length-append, length-take, length-drop, take-append-drop}
use Rattle.std.proofs.lemmas.List.{append_assoc, take_at, drop_at, take-append-le, drop-append-le, drop-drop}
use Rattle.std.proofs.lemmas.List.Sums.{sum_by-cons}
use Rattle.std.proofs.lemmas.Bool.Decides.{nat_tests}
use Rattle.wp_store.specs.Records.{First, first_record, records_up_to, AreRecords, record_of, length_of_bytes, stored_bytes, head_bytes, most_body_bytes}

-- these bytes are one whole record with this body, whatever stands behind them
abbrev pub IsRecord : List ℕ → List ℕ → Type 0
IsRecord chunk body = (behind : List ℕ) → first_record (chunk ++ behind) ≡ Some (record { body = body; rest = behind })

-- what a record at the front says of its bytes
pub record Starts (bytes : List ℕ) (first : First) : Type 0 where
  pub chunk : List ℕ
  pub split : bytes ≡ chunk ++ first.rest
  pub size : length chunk ≡ head_bytes + length first.body
  pub body_is : drop head_bytes chunk ≡ first.body
  pub is : IsRecord chunk first.body

abbrev Fits : ℕ → List ℕ → Type 0
Fits n behind = (1 ≤ n) × (n ≤ most_body_bytes) × (n ≤ length behind)

-- a head whose length fits says a record
read : (mark a b c d : ℕ) (behind : List ℕ) → mark ≡ 1 → Fits (length_of_bytes a b c d) behind
    → first_record (mark ∷ a ∷ b ∷ c ∷ d ∷ behind)
    ≡ Some (record { body = take (length_of_bytes a b c d) behind; rest = drop (length_of_bytes a b c d) behind })
read mark a b c d behind one fits = grind (arith, nat_tests)

-- and one that doesn't says none
shut : (mark a b c d : ℕ) (behind : List ℕ) → mark ≢ 1 → first_record (mark ∷ a ∷ b ∷ c ∷ d ∷ behind) ≡ None
shut mark a b c d behind none = grind (arith, nat_tests)

-- nor where the length doesn't fit
few : (mark a b c d : ℕ) (behind : List ℕ) → (Fits (length_of_bytes a b c d) behind → ⊥) → first_record (mark ∷ a ∷ b ∷ c ∷ d ∷ behind) ≡ None
few mark a b c d behind none = grind (arith, nat_tests)

-- what it takes to be one
fits_of : (mark a b c d : ℕ) (behind : List ℕ) (first : First) → first_record (mark ∷ a ∷ b ∷ c ∷ d ∷ behind) ≡ Some first
    → (mark ≡ 1) × (1 ≤ length_of_bytes a b c d) × (length_of_bytes a b c d ≤ most_body_bytes) × (length_of_bytes a b c d ≤ length behind)
fits_of mark a b c d behind first is = (grind (arith, nat_tests), grind (arith, nat_tests), grind (arith, nat_tests), grind (arith, nat_tests))

option_cases : (o : Option First) → (o ≡ None) ⊎ ((first : First) × (o ≡ Some first))
option_cases None = inl refl
option_cases (Some first) = inr (first, refl)

-- the front of what is no record is none
pub none_in_front : (n : ℕ) (bytes : List ℕ) → first_record bytes ≡ None → first_record (take n bytes) ≡ None
none_in_front zero bytes none = refl
none_in_front (suc n) [] none = refl
none_in_front (suc zero) (m ∷ bytes) none = refl
none_in_front (suc (suc n)) (m ∷ []) none = refl
none_in_front (suc (suc zero)) (m ∷ a ∷ bytes) none = refl
none_in_front (suc (suc (suc n))) (m ∷ a ∷ []) none = refl
none_in_front (suc (suc (suc zero))) (m ∷ a ∷ b ∷ bytes) none = refl
none_in_front (suc (suc (suc (suc n)))) (m ∷ a ∷ b ∷ []) none = refl
none_in_front (suc (suc (suc (suc zero)))) (m ∷ a ∷ b ∷ c ∷ bytes) none = refl
none_in_front (suc (suc (suc (suc (suc n))))) (m ∷ a ∷ b ∷ c ∷ []) none = refl
none_in_front (suc (suc (suc (suc (suc n))))) (m ∷ a ∷ b ∷ c ∷ d ∷ behind) none = elim (option_cases (first_record (m ∷ a ∷ b ∷ c ∷ d ∷ take n behind))) [
  | inl is ↦ is
  | inr (first, is) ↦
      let fits = fits_of m a b c d (take n behind) first is in
      let whole = read m a b c d behind fits.0 (fits.1, fits.2, omega (arith, length-take n behind, fits.3)) in
      absurd (cc (whole, none))
]

-- few bytes are no record
pub none_in_few : (bytes : List ℕ) → length bytes ≤ 4 → first_record bytes ≡ None
none_in_few [] short = refl
none_in_few (m ∷ []) short = refl
none_in_few (m ∷ a ∷ []) short = refl
none_in_few (m ∷ a ∷ b ∷ []) short = refl
none_in_few (m ∷ a ∷ b ∷ c ∷ []) short = refl
none_in_few (m ∷ a ∷ b ∷ c ∷ d ∷ behind) short = absurd (omega arith)

-- nor is what begins with a closed byte
pub none_if_closed : (mark : ℕ) (bytes : List ℕ) → mark ≢ 1 → first_record (mark ∷ bytes) ≡ None
none_if_closed mark [] closed = refl
none_if_closed mark (a ∷ []) closed = refl
none_if_closed mark (a ∷ b ∷ []) closed = refl
none_if_closed mark (a ∷ b ∷ c ∷ []) closed = refl
none_if_closed mark (a ∷ b ∷ c ∷ d ∷ behind) closed = shut mark a b c d behind closed

taken : (n : ℕ) (behind after : List ℕ) → n ≤ length behind → take n (behind ++ after) ≡ take n behind
taken n behind after within = take-append-le n behind after within

-- a record at the front is whole, whatever stands behind it
pub starts : (bytes : List ℕ) (first : First) → first_record bytes ≡ Some first → Starts bytes first
starts [] first is = absurd (cc (is))
starts (m ∷ []) first is = absurd (cc (is))
starts (m ∷ a ∷ []) first is = absurd (cc (is))
starts (m ∷ a ∷ b ∷ []) first is = absurd (cc (is))
starts (m ∷ a ∷ b ∷ c ∷ []) first is = absurd (cc (is))
starts (m ∷ a ∷ b ∷ c ∷ d ∷ behind) first is =
    let n = length_of_bytes a b c d in
    let fits = fits_of m a b c d behind first is in
    let whole = read m a b c d behind fits.0 (fits.1, fits.2, fits.3) in
    let body : first.body ≡ take n behind = cc (is, whole) in
    let rest : first.rest ≡ drop n behind = cc (is, whole) in
    let size : length (take n behind) ≡ n = omega (arith, length-take n behind, fits.3) in record {
      chunk = m ∷ a ∷ b ∷ c ∷ d ∷ take n behind;
      split = ap (λ (l : List ℕ). m ∷ a ∷ b ∷ c ∷ d ∷ l) (sym (take-append-drop n behind) ∙ ap (λ (l : List ℕ). take n behind ++ l) (sym rest));
      size = omega (arith, ap length body, size);
      body_is = sym body;
      is = λ after.
          let here = read m a b c d (take n behind ++ after) fits.0 (fits.1, fits.2, omega (arith, length-append (take n behind) after, size)) in
          here ∙ ap Some (λ i. record {
            body = (take_at (take n behind) after n size ∙ sym body) i;
            rest = drop_at (take n behind) after n size i;
          });
    }

-- a body of a right length makes a record
pub record_is : (body : List ℕ) → 1 ≤ length body → length body ≤ most_body_bytes → IsRecord (record_of body) body
record_is body some few behind =
    let n = length body in
    let says : length_of_bytes (n / 16777216 % 256) (n / 65536 % 256) (n / 256 % 256) (n % 256) ≡ n = omega arith in
    let size = length-append body behind in
    read 1 _ _ _ _ (body ++ behind) refl (omega arith, omega arith, omega arith) ∙ ap Some (λ i. record {
      body = (ap (λ (k : ℕ). take k (body ++ behind)) says ∙ take_at body behind n refl) i;
      rest = (ap (λ (k : ℕ). drop k (body ++ behind)) says ∙ drop_at body behind n refl) i;
    })

-- a record is read, and then what stands behind it
pub read_one : (most : ℕ) (bytes : List ℕ) (first : First) → first_record bytes ≡ Some first
    → records_up_to (suc most) bytes ≡ first.body ∷ records_up_to most first.rest
read_one most bytes first is = rw (is, records_up_to) refl

pub read_none : (most : ℕ) (bytes : List ℕ) → first_record bytes ≡ None → records_up_to most bytes ≡ []
read_none zero bytes none = refl
read_none (suc most) bytes none = rw (none, records_up_to) refl

pub are_none : AreRecords [] []
are_none most behind = ap (λ (k : ℕ). records_up_to k behind) (omega arith)

-- one record before these
pub are_after : (chunk body front : List ℕ) (bodies : List (List ℕ)) → IsRecord chunk body → AreRecords front bodies
    → AreRecords (chunk ++ front) (body ∷ bodies)
are_after chunk body front bodies is are most behind =
    let count : length (body ∷ bodies) + most ≡ suc (length bodies + most) = omega arith in
    ap (λ (k : ℕ). records_up_to k (chunk ++ front ++ behind)) count
    ∙ ap (λ (l : List ℕ). records_up_to (suc (length bodies + most)) l) (append_assoc chunk front behind)
    ∙ read_one (length bodies + most) (chunk ++ (front ++ behind)) (record { body = body; rest = front ++ behind }) (is (front ++ behind))
    ∙ ap (λ (l : List (List ℕ)). body ∷ l) (are most behind)

-- one record after these
pub are_before : (front chunk body : List ℕ) (bodies : List (List ℕ)) → AreRecords front bodies → IsRecord chunk body
    → AreRecords (front ++ chunk) (bodies ++ body ∷ [])
are_before front chunk body bodies are is most behind =
    let count : length (bodies ++ body ∷ []) + most ≡ length bodies + suc most = omega (arith, length-append bodies (body ∷ [])) in
    ap (λ (k : ℕ). records_up_to k (front ++ chunk ++ behind)) count
    ∙ ap (λ (l : List ℕ). records_up_to (length bodies + suc most) l) (append_assoc front chunk behind)
    ∙ are (suc most) (chunk ++ behind)
    ∙ ap (λ (l : List (List ℕ)). bodies ++ l) (read_one most (chunk ++ behind) (record { body = body; rest = behind }) (is behind))
    ∙ sym (append_assoc bodies (body ∷ []) (records_up_to most behind))

-- one record more takes its own bytes more
pub stored_more : (body : List ℕ) (bodies : List (List ℕ)) → stored_bytes (body ∷ bodies) ≡ head_bytes + length body + stored_bytes bodies
stored_more body bodies = sum_by-cons (λ b. head_bytes + length b) body bodies

-- bytes are the records that are read of them, and an end that stands for nothing more, nor does its front
pub record Parts (most : ℕ) (bytes : List ℕ) : Type 0 where
  pub front : List ℕ
  pub end : List ℕ
  pub left : ℕ
  pub split : bytes ≡ front ++ end
  pub whole : AreRecords front (records_up_to most bytes)
  pub size : length front ≡ stored_bytes (records_up_to most bytes)
  pub counts : length (records_up_to most bytes) + left ≡ most
  pub nothing : (n : ℕ) → records_up_to left (take n end) ≡ []

pub parts : (most : ℕ) (bytes : List ℕ) → Parts most bytes
parts zero bytes = record { front = []; end = bytes; left = 0; split = refl; whole = are_none; size = refl; counts = refl; nothing = λ n. refl }
parts (suc most) bytes = elim (option_cases (first_record bytes)) [
  | inl none ↦
      let no : records_up_to (suc most) bytes ≡ [] = read_none (suc most) bytes none in record {
        front = [];
        end = bytes;
        left = suc most;
        split = refl;
        whole = subst (λ (l : List (List ℕ)). AreRecords [] l) (sym no) are_none;
        size = ap stored_bytes (sym no);
        counts = ap (λ (l : List (List ℕ)). length l + suc most) no ∙ omega arith;
        nothing = λ n. read_none (suc most) (take n bytes) (none_in_front n bytes none);
      }
  | inr (first, is) ↦
      let rest = parts most first.rest in
      let here = starts bytes first is in
      let all : records_up_to (suc most) bytes ≡ first.body ∷ records_up_to most first.rest = read_one most bytes first is in record {
        front = here.chunk ++ rest.front;
        end = rest.end;
        left = rest.left;
        split = here.split ∙ ap (λ (l : List ℕ). here.chunk ++ l) rest.split ∙ sym (append_assoc here.chunk rest.front rest.end);
        whole = subst (λ (l : List (List ℕ)). AreRecords (here.chunk ++ rest.front) l) (sym all)
            (are_after here.chunk first.body rest.front (records_up_to most first.rest) here.is rest.whole);
        size = omega (arith, length-append here.chunk rest.front, here.size, rest.size, stored_more first.body (records_up_to most first.rest)) ∙ ap
            stored_bytes (sym all);
        counts = ap (λ (l : List (List ℕ)). length l + rest.left) all ∙ omega (arith, rest.counts);
        nothing = rest.nothing;
      }
]

-- the record at a place is found by its place and length
pub read_at : (bytes : List ℕ) (place : ℕ) (first : First) → place ≤ length bytes → first_record (drop place bytes) ≡ Some first
    → (take (length first.body) (drop (place + head_bytes) bytes) ≡ first.body) × (drop (place + (head_bytes + length first.body)) bytes ≡ first.rest)
    × (place + (head_bytes + length first.body) ≤ length bytes)
read_at bytes place first within is =
    let here = starts (drop place bytes) first is in
    let whole : head_bytes ≤ length here.chunk = omega (arith, here.size) in
    let body : drop head_bytes (drop place bytes) ≡ first.body ++ first.rest =
    ap (λ (l : List ℕ). drop head_bytes l) here.split ∙ drop-append-le head_bytes here.chunk first.rest whole ∙ ap
    (λ (l : List ℕ). l ++ first.rest) here.body_is in (
      ap (λ (l : List ℕ). take (length first.body) l) (sym (drop-drop head_bytes place bytes) ∙ body) ∙ take_at first.body first.rest (length first.body) refl,
      sym (drop-drop (head_bytes + length first.body) place bytes) ∙ ap (λ (l : List ℕ). drop (head_bytes + length first.body) l) here.split
          ∙ drop_at here.chunk first.rest (head_bytes + length first.body) here.size,
      omega (arith, ap length here.split, length-append here.chunk first.rest, length-drop place bytes, here.size),
    )
