-- Pieces that are written one after the other, and what a crash makes of a file meanwhile.
use Rattle.std.proofs.Common.{◌≡◌, ◌∙◌, refl, sym, subst, ap, ℕ, ◌+◌, ◌-◌, ◌≤◌, max, List, ◌++◌, length, take, drop, Option, Some, None, arith, length-append}
use Rattle.std.proofs.Common.{length-take, length-drop}
use Rattle.std.proofs.Math.Seq.{take-add}
use Rattle.std.proofs.lemmas.List.{take_at, drop_at, append_assoc, take-take, take_all, drop-drop, length-take-le}
use Rattle.std.specs.Prelude.{option_map}
use Rattle.wp_store.specs.Disk.{Stays, Torn, WhereTold, written_over}

-- twice while the same range is written is once
pub torn_twice : (place n : ℕ) (one two three : List ℕ) → Torn place n one two → Torn place n two three → Torn place n one three
torn_twice place n one two three first second = record {
  before = second.before ∙ first.before;
  after = second.after ∙ first.after;
  no_shorter = omega (arith, first.no_shorter, second.no_shorter);
  no_longer = omega (arith, first.no_longer, second.no_longer);
}

-- where nothing is written
pub torn_stays : (place n : ℕ) (one two : List ℕ) → Stays one two → Torn place n one two
torn_stays place n one two same = subst (λ (c : List ℕ). Torn place n one c) (sym same)
    (record { before = refl; after = refl; no_shorter = omega arith; no_longer = omega arith })

-- while the rest of the range is written is while the range is
pub torn_rest : (place n done m : ℕ) → done + m ≡ n → (one two : List ℕ) → Torn (place + done) m one two → Torn place n one two
torn_rest place n done m is one two torn =
    let front : (file : List ℕ) → take place (take (place + done) file) ≡ take place file = λ file. take-take place (place + done) file (omega arith) in
    let end : place + done + m ≡ place + n = omega (arith, is) in
    record {
      before = sym (front two) ∙ ap (λ (l : List ℕ). take place l) torn.before ∙ front one;
      after = subst (λ (k : ℕ). drop k two ≡ drop k one) end torn.after;
      no_shorter = torn.no_shorter;
      no_longer = subst (λ (k : ℕ). length two ≤ max (length one) k) end torn.no_longer;
    }

-- while fewer bytes are written is while more are
pub torn_wider : (place m n : ℕ) → m ≤ n → (one two : List ℕ) → Torn place m one two → Torn place n one two
torn_wider place m n le one two torn =
    let further : (file : List ℕ) → drop (n - m) (drop (place + m) file) ≡ drop (place + n) file = λ file.
    drop-drop (n - m) (place + m) file ∙ ap (λ (k : ℕ). drop k file) (omega (arith, le)) in
    record {
      before = torn.before;
      after = sym (further two) ∙ ap (λ (l : List ℕ). drop (n - m) l) torn.after ∙ further one;
      no_shorter = torn.no_shorter;
      no_longer = omega (arith, torn.no_longer, le);
    }

-- one piece and then another behind it is both at once
pub written_on : (place : ℕ) (one two bytes : List ℕ) → place ≤ length bytes
    → written_over (place + length one) two (written_over place one bytes) ≡ written_over place (one ++ two) bytes
written_on place one two bytes within =
    let front = take place bytes ++ one in
    let behind = drop (place + length one) bytes in
    let size : length front ≡ place + length one = omega (arith, length-append (take place bytes) one, length-take place bytes) in
    let kept : take (place + length one) (front ++ behind) ≡ front = take_at front behind (place + length one) size in
    let left : drop (place + length one + length two) (front ++ behind) ≡ drop (place + length (one ++ two)) bytes =
    sym (drop-drop (length two) (place + length one) (front ++ behind)) ∙ ap (λ (l : List ℕ). drop (length two) l)
    (drop_at front behind (place + length one) size)
    ∙ drop-drop (length two) (place + length one) bytes
    ∙ ap (λ (k : ℕ). drop k bytes) (omega (arith, length-append one two)) in
    ap (λ (l : List ℕ). l ++ two ++ drop (place + length one + length two) (front ++ behind)) kept
    ∙ ap (λ (l : List ℕ). front ++ two ++ l) left
    ∙ ap (λ (l : List ℕ). l ++ drop (place + length (one ++ two)) bytes) (append_assoc (take place bytes) one two)

-- the same of the next bytes of a piece whose first bytes were written, where the bytes are told
pub next_written : (before mid new : Option (List ℕ)) (place next done n : ℕ) (piece : List ℕ) → done ≤ length piece
    → mid ≡ option_map (written_over place (take done piece)) before → new ≡ option_map (written_over next (take n (drop done piece))) mid
    → WhereTold before (λ bytes. (place ≤ length bytes) × (next ≡ place + done)) → new ≡ option_map (written_over place (take (done + n) piece)) before
next_written None mid new place next done n piece within first second told =
    second ∙ ap (λ (m : Option (List ℕ)). option_map (written_over next (take n (drop done piece))) m) first
next_written (Some bytes) mid new place next done n piece within first second told =
    let here = told bytes refl in
    let size : length (take done piece) ≡ done = length-take-le done piece within in
    let at : next ≡ place + length (take done piece) = here.1 ∙ ap (λ (k : ℕ). place + k) (sym size) in
    second ∙ ap (λ (m : Option (List ℕ)). option_map (written_over next (take n (drop done piece))) m) first
    ∙ ap (λ (k : ℕ). Some (written_over k (take n (drop done piece)) (written_over place (take done piece) bytes))) at
    ∙ ap Some (written_on place (take done piece) (take n (drop done piece)) bytes here.0)
    ∙ ap (λ (l : List ℕ). Some (written_over place l bytes)) (sym (take-add done n piece))

-- the next bytes behind the front of a file are a longer front
pub front_read : (bytes front part : List ℕ) (m n : ℕ) → front ≡ take m bytes → m ≤ length bytes → n ≤ length part
    → take n part ≡ take n (drop m bytes) → (front ++ take n part ≡ take (m + n) bytes) × (m + n ≤ length bytes)
front_read bytes front part m n is within few read =
    let size : length (take n part) ≡ n = length-take-le n part few in
    let same : length (take n part) ≡ length (take n (drop m bytes)) = ap (λ (l : List ℕ). length l) read in (
      ap (λ (l : List ℕ). l ++ take n part) is ∙ ap (λ (l : List ℕ). take m bytes ++ l) read ∙ sym (take-add m n bytes),
      omega (arith, size, same, within, length-take n (drop m bytes), length-drop m bytes),
    )

-- a front that is as long as the file is the file
pub front_is_whole : (bytes front : List ℕ) (m : ℕ) → front ≡ take m bytes → length bytes ≤ m → front ≡ bytes
front_is_whole bytes front m is all = is ∙ take_all m bytes all
