-- What a crash leaves in each step of an append and of a repair, where a file is records' bytes and what stands behind them.
use Rattle.std.proofs.Common.{◌≡◌, inl, inr, refl, sym, ◌∙◌, ap, subst, ℕ, ◌+◌, ◌-◌, ◌≤◌, ◌<◌, List, [], ◌∷◌, ◌++◌, length, get_or, take, drop, arith}
use Rattle.std.proofs.Common.{length-append, length-take, length-drop, take-append-drop}
use Rattle.std.proofs.lemmas.Bool.{cases_eq}
use Rattle.std.proofs.lemmas.List.{append-nil, append_assoc, take_at, drop_at, drop_more, take_all, drop_all}
use Rattle.std.proofs.Math.Seq.{take-append-add}
use Rattle.wp_store.specs.Disk.{Torn, Cut, written_over}
use Rattle.std.proofs.lemmas.List.Sums.{sum_by_push}
use Rattle.wp_store.specs.Records.{records_of, records_up_to, AreRecords, record_of, length_bytes, stored_bytes, most_records, most_body_bytes, head_bytes}
use Rattle.wp_store.specs.Store.{IsAtRest, IsWithOrWithout}
use Rattle.wp_store.proofs.Framing.{parts, are_before, record_is, read_none, none_if_closed, none_in_few}

-- the records of whole ones and what stands behind them
pub records_front : (front : List ℕ) (bodies : List (List ℕ)) (behind : List ℕ) (left : ℕ) → AreRecords front bodies → length bodies + left ≡ most_records
    → records_of (front ++ behind) ≡ bodies ++ records_up_to left behind
unfolding records_of
records_front front bodies behind left are counts = ap (λ (k : ℕ). records_up_to k (front ++ behind)) (sym counts) ∙ are left behind

-- where what stands behind them is none
pub records_alone : (front : List ℕ) (bodies : List (List ℕ)) (behind : List ℕ) (left : ℕ) → AreRecords front bodies → length bodies + left ≡ most_records
    → records_up_to left behind ≡ [] → records_of (front ++ behind) ≡ bodies
records_alone front bodies behind left are counts none =
    records_front front bodies behind left are counts ∙ ap (λ (l : List (List ℕ)). bodies ++ l) none ∙ append-nil bodies

module _ (front : List ℕ) (bodies : List (List ℕ)) (left : ℕ) (are : AreRecords front bodies) (counts : length bodies + left ≡ most_records) where
  -- behind a closed byte nothing counts
  pub closed_alone : (behind : List ℕ) → records_of (front ++ 0 ∷ behind) ≡ bodies
  closed_alone behind = records_alone front bodies (0 ∷ behind) left are counts (read_none left (0 ∷ behind) (none_if_closed 0 behind (omega arith)))

  length-closed : length (front ++ 0 ∷ []) ≡ length front + 1
  length-closed = omega (arith, length-append front (0 ∷ []))

  -- a write behind the closed byte leaves it in each image
  pub torn_behind : (n : ℕ) (c : List ℕ) → Torn (length front + 1) n (front ++ 0 ∷ []) c → records_of c ≡ bodies
  torn_behind n c torn =
      let kept : take (length front + 1) c ≡ front ++ 0 ∷ [] = torn.before ∙ take_all _ _ (omega (arith, length-closed)) in
      let whole : c ≡ front ++ 0 ∷ drop (length front + 1) c =
      sym (take-append-drop (length front + 1) c) ∙ ap (λ (l : List ℕ). l ++ drop (length front + 1) c) kept ∙ append_assoc front (0 ∷ [])
      (drop (length front + 1) c) in
      ap records_of whole ∙ closed_alone (drop (length front + 1) c)

  -- the file with a piece behind the closed byte
  pub staged : (piece : List ℕ) → written_over (length front + 1) piece (front ++ 0 ∷ []) ≡ front ++ 0 ∷ piece
  staged piece =
      ap (λ (l : List ℕ). l ++ piece ++ drop (length front + 1 + length piece) (front ++ 0 ∷ [])) (take_all _ _ (omega (arith, length-closed)))
      ∙ ap (λ (l : List ℕ). front ++ (0 ∷ []) ++ piece ++ l) (drop_all (length front + 1 + length piece) (front ++ 0 ∷ []) (omega (arith, length-closed)))
      ∙ append-nil (front ++ (0 ∷ []) ++ piece)
      ∙ append_assoc front (0 ∷ []) piece

  module _ (body : List ℕ) (some : 1 ≤ length body) (few : length body ≤ most_body_bytes) (room : length bodies < most_records) where
    abbrev piece : List ℕ
    piece = length_bytes (length body) ++ body ++ 0 ∷ []

    abbrev after : List (List ℕ)
    after = bodies ++ body ∷ []

    -- the records with the new one
    pub are_with : AreRecords (front ++ record_of body) after
    are_with = are_before front (record_of body) body bodies are (record_is body some few)

    pub counts_with : length after + (left - 1) ≡ most_records
    counts_with = omega (arith, length-append bodies (body ∷ []))

    opened_is : front ++ 1 ∷ piece ≡ front ++ record_of body ++ 0 ∷ []
    opened_is = sym (append_assoc front (record_of body) (0 ∷ []))

    with_it : records_of (front ++ 1 ∷ piece) ≡ after
    with_it =
        ap records_of opened_is
        ∙ records_alone (front ++ record_of body) after (0 ∷ []) (left - 1) are_with counts_with
        (read_none (left - 1) (0 ∷ []) (none_in_few (0 ∷ []) (omega arith)))

    -- whatever stands in the place of the closed byte, the record counts or it doesn't
    with_any_mark : (mark : ℕ) → IsWithOrWithout bodies body (front ++ mark ∷ piece)
    with_any_mark mark = elim (cases_eq mark 1) [
      | inl opened ↦ inr (ap (λ (m : ℕ). records_of (front ++ m ∷ piece)) opened ∙ with_it)
      | inr shut ↦ inl (records_alone front bodies (mark ∷ piece) left are counts (read_none left (mark ∷ piece) (none_if_closed mark piece shut)))
    ]

    -- the record stands whole in each image of the write over the closed byte
    pub torn_mark : (c : List ℕ) → Torn (length front) 1 (front ++ 0 ∷ piece) c → IsWithOrWithout bodies body c
    torn_mark c torn =
        let long : length (front ++ 0 ∷ piece) ≡ length front + (1 + length piece) = omega (arith, length-append front (0 ∷ piece)) in
        let mark = get_or c (length front) 0 in
        let behind : drop (length front + 1) (front ++ 0 ∷ piece) ≡ piece =
        ap (λ (l : List ℕ). drop (length front + 1) l) (sym (append_assoc front (0 ∷ []) piece)) ∙ drop_at (front ++ 0 ∷ []) piece
        (length front + 1) length-closed in
        let rest : drop (length front) c ≡ mark ∷ piece =
        drop_more c (length front) 0 (omega (arith, torn.no_shorter)) ∙ ap (λ (l : List ℕ). mark ∷ l) (torn.after ∙ behind) in
        let whole : c ≡ front ++ mark ∷ piece =
        sym (take-append-drop (length front) c) ∙ ap (λ (l : List ℕ). l ++ drop (length front) c) (torn.before ∙ take_at front (0 ∷ piece) (length front) refl)
        ∙ ap (λ (l : List ℕ). front ++ l) rest in
        subst (IsWithOrWithout bodies body) (sym whole) (with_any_mark mark)

    -- the file with the record opened
    pub opened : written_over (length front) (1 ∷ []) (front ++ 0 ∷ piece) ≡ front ++ record_of body ++ 0 ∷ []
    opened =
        ap (λ (l : List ℕ). l ++ (1 ∷ []) ++ drop (length front + 1) (front ++ 0 ∷ piece)) (take_at front (0 ∷ piece) (length front) refl)
        ∙ ap (λ (l : List ℕ). front ++ (1 ∷ []) ++ l)
        (ap (λ (l : List ℕ). drop (length front + 1) l) (sym (append_assoc front (0 ∷ []) piece)) ∙ drop_at (front ++ 0 ∷ []) piece
        (length front + 1) length-closed)
        ∙ append_assoc front (1 ∷ []) piece
        ∙ opened_is

-- whole records and a closed byte are a file at rest
pub rests : (front : List ℕ) (bodies : List (List ℕ)) (left : ℕ) → AreRecords front bodies → length bodies + left ≡ most_records
    → length front ≡ stored_bytes bodies
    → (records_of (front ++ 0 ∷ []) ≡ bodies) × IsAtRest (front ++ 0 ∷ [])
rests front bodies left are counts size =
    let is : records_of (front ++ 0 ∷ []) ≡ bodies = closed_alone front bodies left are counts [] in
    let place : length front ≡ stored_bytes (records_of (front ++ 0 ∷ [])) = size ∙ ap stored_bytes (sym is) in
    let taken : take (stored_bytes (records_of (front ++ 0 ∷ []))) (front ++ 0 ∷ []) ≡ front = take_at front (0 ∷ []) _ place in (
      is,
      record {
        closed = ap (λ (l : List ℕ). l ++ 0 ∷ []) (sym taken);
        whole = let P : List ℕ → List (List ℕ) → Type 0 = AreRecords in
            subst (λ (l : List ℕ). AreRecords l (records_of (front ++ 0 ∷ []))) (sym taken) (subst (λ (b : List (List ℕ)). AreRecords front b) (sym is) are);
      },
    )

-- no more records are read than there may be
pub records_fit : (bytes : List ℕ) → length (records_of bytes) ≤ most_records
unfolding records_of
records_fit bytes = let p = parts most_records bytes in omega (arith, p.counts)

-- a file is its records' bytes, and an end that stands for nothing more, nor does its front
pub record FileParts (bytes : List ℕ) : Type 0 where
  pub front : List ℕ
  pub end : List ℕ
  pub left : ℕ
  pub split : bytes ≡ front ++ end
  pub whole : AreRecords front (records_of bytes)
  pub size : length front ≡ stored_bytes (records_of bytes)
  pub counts : length (records_of bytes) + left ≡ most_records
  pub nothing : (n : ℕ) → records_up_to left (take n end) ≡ []

pub file_parts : (bytes : List ℕ) → FileParts bytes
unfolding records_of
file_parts bytes =
    let p = parts most_records bytes in
    record { front = p.front; end = p.end; left = p.left; split = p.split; whole = p.whole; size = p.size; counts = p.counts; nothing = p.nothing }

module _ (front end : List ℕ) (bodies : List (List ℕ)) (left : ℕ) (are : AreRecords front bodies) (counts : length bodies + left ≡ most_records)
    (nothing : (n : ℕ) → records_up_to left (take n end) ≡ []) where
  -- any cut keeps the records
  pub cut_keeps : (c : List ℕ) → Cut (length front) (front ++ end) c → records_of c ≡ bodies
  cut_keeps c cut =
      let long : length front ≤ length c = omega (arith, cut.no_shorter, length-append front end) in
      let n = length c - length front in
      let same : length c ≡ length front + n = omega arith in
      let whole : c ≡ front ++ take n end = cut.front ∙ ap (λ (k : ℕ). take k (front ++ end)) same ∙ take-append-add front end n in
      ap records_of whole ∙ records_alone front bodies (take n end) left are counts (nothing n)

  pub cut_off : take (length front) (front ++ end) ≡ front
  cut_off = take_at front end (length front) refl

  -- one byte behind the records is none
  pub torn_end : (c : List ℕ) → Torn (length front) 1 front c → records_of c ≡ bodies
  torn_end c torn =
      let kept : take (length front) c ≡ front = torn.before ∙ take_all (length front) front (omega arith) in
      let whole : c ≡ front ++ drop (length front) c = sym (take-append-drop (length front) c) ∙ ap (λ (l : List ℕ). l ++ drop (length front) c) kept in
      let short : length (drop (length front) c) ≤ 4 = omega (arith, length-drop (length front) c, torn.no_longer) in
      ap records_of whole ∙ records_alone front bodies (drop (length front) c) left are counts (read_none left _ (none_in_few _ short))

  pub closed_off : written_over (length front) (0 ∷ []) front ≡ front ++ 0 ∷ []
  closed_off =
      ap (λ (l : List ℕ). l ++ (0 ∷ []) ++ drop (length front + 1) front) (take_all (length front) front (omega arith))
      ∙ ap (λ (l : List ℕ). front ++ (0 ∷ []) ++ l) (drop_all (length front + 1) front (omega arith))
      ∙ append-nil (front ++ 0 ∷ [])

-- a file at rest by its parts
pub record RestParts (bytes : List ℕ) (place : ℕ) : Type 0 where
  pub front : List ℕ
  pub left : ℕ
  pub split : bytes ≡ front ++ 0 ∷ []
  pub place_is : place ≡ length front
  pub whole : AreRecords front (records_of bytes)
  pub size : length front ≡ stored_bytes (records_of bytes)
  pub counts : length (records_of bytes) + left ≡ most_records

pub rest_parts : (bytes : List ℕ) (place : ℕ) → IsAtRest bytes → place ≡ stored_bytes (records_of bytes) → RestParts bytes place
rest_parts bytes place rest is =
    let p = stored_bytes (records_of bytes) in
    let long : length bytes ≡ length (take p bytes) + 1 = omega (arith, ap length rest.closed, length-append (take p bytes) (0 ∷ [])) in
    let size : length (take p bytes) ≡ p = omega (arith, length-take p bytes, long) in record {
      front = take p bytes;
      left = most_records - length (records_of bytes);
      split = rest.closed;
      place_is = is ∙ sym size;
      whole = rest.whole;
      size = size;
      counts = omega (arith, records_fit bytes);
    }

module _ (bytes : List ℕ) (place : ℕ) (rest : IsAtRest bytes) (is : place ≡ stored_bytes (records_of bytes)) where
  abbrev p : RestParts bytes place
  p = rest_parts bytes place rest is

  pub closed_within : place + 1 ≤ length bytes
  closed_within = omega (arith, ap length p.split, p.place_is, length-append p.front (0 ∷ []))

  -- what is written behind the closed byte doesn't count in any image
  pub behind_keeps : (n : ℕ) (c : List ℕ) → Torn (place + 1) n bytes c → records_of c ≡ records_of bytes
  behind_keeps n c torn =
      torn_behind p.front (records_of bytes) p.left p.whole p.counts n c
      (subst (λ (l : List ℕ). Torn (length p.front + 1) n l c) p.split (subst (λ (k : ℕ). Torn (k + 1) n bytes c) p.place_is torn))

  pub staged_is : (piece : List ℕ) → written_over (place + 1) piece bytes ≡ p.front ++ 0 ∷ piece
  staged_is piece =
      ap (λ (k : ℕ). written_over (k + 1) piece bytes) p.place_is ∙ ap (λ (l : List ℕ). written_over (length p.front + 1) piece l) p.split
      ∙ staged p.front (records_of bytes) p.left p.whole p.counts piece

  pub staged_within : (piece : List ℕ) → place ≤ length (written_over (place + 1) piece bytes)
  staged_within piece = omega (arith, ap length (staged_is piece), length-append p.front (0 ∷ piece), p.place_is)

  module _ (body : List ℕ) (some : 1 ≤ length body) (few : length body ≤ most_body_bytes) (room : length (records_of bytes) < most_records)
      (piece : List ℕ) (piece_is : piece ≡ length_bytes (length body) ++ body ++ 0 ∷ []) where
    staged_body : written_over (place + 1) piece bytes ≡ p.front ++ 0 ∷ (length_bytes (length body) ++ body ++ 0 ∷ [])
    staged_body = staged_is piece ∙ ap (λ (l : List ℕ). p.front ++ 0 ∷ l) piece_is

    -- the write over the closed byte leaves the record or not
    pub mark_leaves : (c : List ℕ) → Torn place 1 (written_over (place + 1) piece bytes) c → IsWithOrWithout (records_of bytes) body c
    mark_leaves c torn =
        torn_mark p.front (records_of bytes) p.left p.whole p.counts body some few room c
        (subst (λ (l : List ℕ). Torn (length p.front) 1 l c) staged_body (subst (λ (k : ℕ). Torn k 1 (written_over (place + 1) piece bytes) c) p.place_is torn))

    abbrev file : List ℕ
    file = written_over place (1 ∷ []) (written_over (place + 1) piece bytes)

    file_is : file ≡ p.front ++ record_of body ++ 0 ∷ []
    file_is =
        ap (λ (k : ℕ). written_over k (1 ∷ []) (written_over (place + 1) piece bytes)) p.place_is
        ∙ ap (λ (l : List ℕ). written_over (length p.front) (1 ∷ []) l) staged_body
        ∙ opened p.front (records_of bytes) p.left p.whole p.counts body some few room

    abbrev with_body : List (List ℕ)
    with_body = records_of bytes ++ body ∷ []

    long : length (p.front ++ record_of body) ≡ stored_bytes with_body
    long = omega (arith, length-append p.front (record_of body), p.size, sum_by_push (λ (b : List ℕ). head_bytes + length b) (records_of bytes) body)

    ends : (records_of (p.front ++ record_of body ++ 0 ∷ []) ≡ with_body) × IsAtRest (p.front ++ record_of body ++ 0 ∷ [])
    ends = rests (p.front ++ record_of body) with_body (p.left - 1)
        (are_with p.front (records_of bytes) p.left p.whole p.counts body some few room)
        (counts_with p.front (records_of bytes) p.left p.whole p.counts body some few room) long

    -- the record is stored
    pub appended : records_of file ≡ with_body
    appended = ap records_of file_is ∙ ends.0

    pub appended_rests : IsAtRest file
    appended_rests = subst IsAtRest (sym file_is) ends.1

    pub appended_place : place + 5 + length body ≡ stored_bytes (records_of file)
    appended_place =
        let stored : stored_bytes (records_of file) ≡ stored_bytes with_body = ap stored_bytes appended in
        omega (arith, stored, sum_by_push (λ (b : List ℕ). head_bytes + length b) (records_of bytes) body, p.size, p.place_is)

module _ (bytes : List ℕ) (place : ℕ) (is : place ≡ stored_bytes (records_of bytes)) where
  abbrev q : FileParts bytes
  q = file_parts bytes

  front_is : place ≡ length q.front
  front_is = is ∙ sym q.size

  pub end_within : place ≤ length bytes
  end_within = omega (arith, ap length q.split, length-append q.front q.end, front_is)

  pub cut_within : place ≤ length (take place bytes)
  cut_within = omega (arith, length-take place bytes, end_within)

  -- each image of the cut has the records
  pub cut_leaves : (c : List ℕ) → Cut place bytes c → records_of c ≡ records_of bytes
  cut_leaves c cut =
      cut_keeps q.front q.end (records_of bytes) q.left q.whole q.counts q.nothing c
      (subst (λ (l : List ℕ). Cut (length q.front) l c) q.split (subst (λ (k : ℕ). Cut k bytes c) front_is cut))

  cut_is : take place bytes ≡ q.front
  cut_is = ap (λ (k : ℕ). take k bytes) front_is ∙ ap (λ (l : List ℕ). take (length q.front) l) q.split
      ∙ cut_off q.front q.end (records_of bytes) q.left q.whole q.counts q.nothing

  -- and each of the write of the closed byte
  pub end_leaves : (c : List ℕ) → Torn place 1 (take place bytes) c → records_of c ≡ records_of bytes
  end_leaves c torn =
      torn_end q.front q.end (records_of bytes) q.left q.whole q.counts q.nothing c
      (subst (λ (l : List ℕ). Torn (length q.front) 1 l c) cut_is (subst (λ (k : ℕ). Torn k 1 (take place bytes) c) front_is torn))

  repaired : written_over place (0 ∷ []) (take place bytes) ≡ q.front ++ 0 ∷ []
  repaired =
      ap (λ (k : ℕ). written_over k (0 ∷ []) (take place bytes)) front_is ∙ ap (λ (l : List ℕ). written_over (length q.front) (0 ∷ []) l) cut_is
      ∙ closed_off q.front q.end (records_of bytes) q.left q.whole q.counts q.nothing

  pub closed_records : records_of (written_over place (0 ∷ []) (take place bytes)) ≡ records_of bytes
  closed_records = ap records_of repaired ∙ (rests q.front (records_of bytes) q.left q.whole q.counts q.size).0

  pub closed_rests : IsAtRest (written_over place (0 ∷ []) (take place bytes))
  closed_rests = subst IsAtRest (sym repaired) (rests q.front (records_of bytes) q.left q.whole q.counts q.size).1
