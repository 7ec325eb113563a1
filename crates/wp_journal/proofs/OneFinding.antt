-- A journal shows one thing.
use Rattle.std.proofs.Common.{◌≡◌, ◌∙◌, refl, sym, ap, ap₂, subst, ℕ, ◌+◌, ◌<◌, ◌≤◌, ◌^◌, Bool, true, false, List, [], ◌∷◌, ◌++◌, length, map, inl, inr, ◌⊎◌}
use Rattle.std.proofs.Common.{add-zero, append_assoc, arith, lit<}
use Rattle.std.specs.Prelude.{◌≢◌, ◌||◌, codes, IsTrue, Result, Ok, Err}
use Rattle.std.specs.Fmt.{decimal}
use Rattle.std.specs.List.{All}
use Rattle.std.specs.Str.{bytes_eq}
use Rattle.std.specs.Str.Parse.{AllDigits}
use Rattle.std.proofs.lemmas.Fmt.{decimal_is_IsNumeral, decimal_nonempty}
use Rattle.std.proofs.lemmas.List.Elements.{All-head, All-tail}
use Rattle.std.proofs.lemmas.Slice.Eq.{bytes_eq-Decides}
use Rattle.std.proofs.lemmas.Str.Parse.{digit_from_value}
use Rattle.wp_model.specs.History.{History, IsLegal, IsLegalFrom, next_entry, state_from}
use Rattle.wp_model.specs.Journal.{after_space, command_text, entry_line, line, number_after_space, reply_text}
use Rattle.wp_model.specs.Opening.{Opening}
use Rattle.wp_model.specs.State.{State, opening_state}
use Rattle.wp_model.specs.Step.{step}
use Rattle.wp_model.specs.declared.entry.Entry.{Entry}
use Rattle.wp_model.specs.declared.reply.Reply.{Reply}
use Rattle.wp_journal.specs.Auditing.{Restores, Tells, audit_of}
use Rattle.wp_journal.specs.Grammar.{IsLineOf, is_line_entry}
use Rattle.wp_journal.specs.Journals.{Begins, IsBad, IsJournalOf, IsJournalOfHistory, IsMisanswered, Shows, is_end, line_number_after, lines_of}
use Rattle.wp_journal.specs.declared.verdict.Audit.{Audit}
use Rattle.wp_journal.specs.declared.verdict.AuditFault.{AuditFault}
use Rattle.wp_journal.specs.declared.verdict.AuditFault.TheVariants as fault
use Rattle.wp_journal.proofs.Candidates.{one_entry, within}

-- an entry of the journal
abbrev pub IsWithin : Entry → Type 0
IsWithin entry = IsTrue (is_line_entry entry)

pub its_line : (e : Entry) → IsWithin e → IsLineOf (entry_line e) e
its_line e is = record { within = is; written = refl }

clash : true ≡ false → ⊥
clash e = cc e

-- the line of an entry begins with a digit, and so isn't the last of a journal
abbrev first_byte : List ℕ → ℕ
first_byte [] = 0
first_byte (b ∷ text) = b

first_of_append : (xs ys : List ℕ) → 0 < length xs → first_byte (xs ++ ys) ≡ first_byte xs
first_of_append [] ys some = absurd (omega arith)
first_of_append (x ∷ xs) ys some = refl

digit_first : (text : List ℕ) → 0 < length text → AllDigits 10 text → first_byte text ≤ 57
digit_first [] some digits = absurd (omega arith)
digit_first (c ∷ text) some digits = (digit_from_value c digits.0).1

-- what comes after the number of an entry in its line
abbrev after_number : Entry → List ℕ
after_number e = number_after_space e.desk ++ after_space (command_text e.command) ++ codes " -> " ++ reply_text e.reply ++ 10 ∷ []

first_apart : (a b c d e f : List ℕ) → a ++ b ++ c ++ d ++ e ++ f ≡ a ++ (b ++ c ++ d ++ e ++ f)
first_apart a b c d e f = simp append_assoc

number_first : (e : Entry) → entry_line e ≡ decimal e.number ++ after_number e
number_first e = first_apart (decimal e.number) (number_after_space e.desk) (after_space (command_text e.command)) (codes " -> ") (reply_text e.reply) (10 ∷ [])

line_first : (n : ℕ) (more : List ℕ) → n < 2 ^ 64 → first_byte (decimal n ++ more) ≤ 57
line_first n more small =
    let digits = digit_first (decimal n) (decimal_nonempty n small) (decimal_is_IsNumeral n small).0.1 in
    omega (arith, digits, first_of_append (decimal n) more (decimal_nonempty n small))

entry_first : (e : Entry) → e.number < 2 ^ 64 → first_byte (entry_line e) ≤ 57
entry_first e small = subst (λ (text : List ℕ). first_byte text ≤ 57) (sym (number_first e)) (line_first e.number (after_number e) small)

either_true : (p q : Bool) → (p || q) ≡ true → (p ≡ true) ⊎ (q ≡ true)
either_true true q is = inl refl
either_true false q is = inr is

not_above : (text other : List ℕ) → first_byte text ≤ 57 → text ≡ other → first_byte other ≡ 101 → ⊥
not_above text other low same high = absurd (omega (arith, ap first_byte same))

ends_differently : (e : Entry) → IsWithin e → is_end (entry_line e) ≡ true → ⊥
ends_differently e is ends =
    let numeral : 10000 < 2 ^ 64 = lit< tt in
    let low = entry_first e (omega (arith, (within e is).number, numeral)) in
    elim (either_true (bytes_eq (entry_line e) (line (codes "end journal"))) (bytes_eq (entry_line e) (codes "end journal")) ends) as (λ _. ⊥) [
      | inl same ↦ not_above (entry_line e) (line (codes "end journal")) low ((bytes_eq-Decides (entry_line e) (line (codes "end journal"))).0 same) refl
      | inr same ↦ not_above (entry_line e) (codes "end journal") low ((bytes_eq-Decides (entry_line e) (codes "end journal")).0 same) refl
    ]

-- two lists of entries whose lines begin alike: the same, or one goes on where the other ends
abbrev pub GoesOn : List Entry → List Entry → List (List ℕ) → List (List ℕ) → Type 0
GoesOn xs ys left more = (e : Entry) × (es : List Entry) × (ys ≡ xs ++ e ∷ es) × (left ≡ entry_line e ∷ (map entry_line es ++ more))

abbrev pub Aligned : List Entry → List Entry → List (List ℕ) → List (List ℕ) → Type 0
Aligned xs ys left more = ((xs ≡ ys) × (left ≡ more)) ⊎ GoesOn xs ys left more ⊎ GoesOn ys xs more left

pub same_heads : (a b : List ℕ) (xs ys : List (List ℕ)) → ◌≡◌ {A = List (List ℕ)} (a ∷ xs) (b ∷ ys) → a ≡ b
same_heads a b xs ys e = cc e

same_tails : (a b : List ℕ) (xs ys : List (List ℕ)) → ◌≡◌ {A = List (List ℕ)} (a ∷ xs) (b ∷ ys) → xs ≡ ys
same_tails a b xs ys e = cc e

same_entry : (x y : Entry) → IsWithin x → IsWithin y → entry_line x ≡ entry_line y → x ≡ y
same_entry x y p q same = one_entry (entry_line x) x y (its_line x p) (record { within = q; written = same })

one_more : (x y : Entry) (xs ys : List Entry) (left more : List (List ℕ)) → x ≡ y → Aligned xs ys left more → Aligned (x ∷ xs) (y ∷ ys) left more
one_more x y xs ys left more same (inl (tails, lefts)) = inl (ap₂ (λ (e : Entry) (es : List Entry). e ∷ es) same tails, lefts)
one_more x y xs ys left more same (inr (inl (e, es, is, lefts))) = inr (inl (e, es, ap₂ (λ (e : Entry) (es : List Entry). e ∷ es) (sym same) is, lefts))
one_more x y xs ys left more same (inr (inr (e, es, is, lefts))) = inr (inr (e, es, ap₂ (λ (e : Entry) (es : List Entry). e ∷ es) same is, lefts))

pub align : (xs ys : List Entry) (left more : List (List ℕ)) → All IsWithin xs → All IsWithin ys → map entry_line xs ++ left ≡ map entry_line ys ++ more
    → Aligned xs ys left more
align [] [] left more p q same = inl (refl, same)
align [] (y ∷ ys) left more p q same = inr (inl (y, ys, refl, same))
align (x ∷ xs) [] left more p q same = inr (inr (x, xs, refl, sym same))
align (x ∷ xs) (y ∷ ys) left more p q same =
    one_more x y xs ys left more
    (same_entry x y (All-head IsWithin x xs p) (All-head IsWithin y ys q)
    (same_heads (entry_line x) (entry_line y) (map entry_line xs ++ left) (map entry_line ys ++ more) same))
    (align xs ys left more (All-tail IsWithin x xs p) (All-tail IsWithin y ys q)
    (same_tails (entry_line x) (entry_line y) (map entry_line xs ++ left) (map entry_line ys ++ more) same))

-- where a history stands in another, the other's next entry is the one that follows
state_is : (opening : Opening) (number : ℕ) (state : State) (before : List Entry) (e : Entry) (after : List Entry)
    → IsLegalFrom opening number state (before ++ e ∷ after)
    → (e.number ≡ number + length before) × (e.reply ≡ (step opening (state_from opening state before) e.command).reply)
state_is opening number state [] e after legal = (legal.0 ∙ sym (add-zero number), legal.1)
state_is opening number state (first ∷ before) e after legal =
    let later = state_is opening (number + 1) (step opening state first.command).state before e after legal.2 in
    (omega (arith, later.0), later.1)

-- no entry of a legal history follows where a journal stops
abbrev pub Follows : History → Entry → Type 0
Follows history e = (e.number ≡ length history.entries) × (e.reply ≡ (next_entry history e.desk e.command).reply)

pub follows : (opening : Opening) (one other : History) (e : Entry) (es : List Entry) → one.opening ≡ opening → other.opening ≡ opening → IsLegal other
    → other.entries ≡ one.entries ++ e ∷ es → Follows one e
follows opening one other e es starts begun legal entries =
    let moved = subst (λ (o : Opening). IsLegalFrom o 0 (opening_state o) other.entries) (begun ∙ sym starts) legal in
    let at = state_is one.opening 0 (opening_state one.opening) one.entries e es
    (subst (IsLegalFrom one.opening 0 (opening_state one.opening)) entries moved) in
    (omega (arith, at.0), at.1)

-- where a journal stops after a history, and at what
abbrev StopsAt : History → List (List ℕ) → Result Audit AuditFault → Type 0
StopsAt history left (Ok audit) = (last : List ℕ) × (others : List (List ℕ)) × (left ≡ last ∷ others) × (is_end last ≡ true)
    × (audit.entries ≡ length history.entries)
StopsAt history left (Err (fault.BadLine number)) = IsBad history left × (number ≡ line_number_after history)
StopsAt history left (Err (fault.WrongReply number printed right)) = (next : List ℕ) × (others : List (List ℕ)) × (left ≡ next ∷ others)
    × IsMisanswered history next number printed right
StopsAt history left (Err fault.Memory) = ⊥

-- nothing that follows stops it there
not_both : (history : History) (left : List (List ℕ)) (found : Result Audit AuditFault) (e : Entry) (more : List (List ℕ)) → StopsAt history left found
    → IsWithin e → left ≡ entry_line e ∷ more → Follows history e → ⊥
not_both history left (Ok audit) e more (last, others, is, ends, counted) within lines follows =
    ends_differently e within (subst (λ (text : List ℕ). is_end text ≡ true) (same_heads last (entry_line e) others more (sym is ∙ lines)) ends)
not_both history left (Err (fault.BadLine number)) e more (bad, numbered) within lines follows =
    (subst (IsBad history) lines bad).1 e (its_line e within) follows.0
not_both history left (Err (fault.WrongReply number printed right)) e more (next, others, is, wrong) within lines follows =
    let same = one_entry next wrong.entry e wrong.is (subst (λ (text : List ℕ). IsLineOf text e) (same_heads (entry_line e) next more others (sym lines ∙ is))
    (its_line e within)) in
    wrong.differ (wrong.answered ∙ ap (λ (x : Entry). x.reply) same ∙ follows.1 ∙ sym (ap (λ (x : Entry). (next_entry history x.desk x.command).reply) same)
    ∙ sym wrong.wanted)
not_both history left (Err fault.Memory) e more stops within lines follows = absurd stops

ok_of : (n m : ℕ) → n ≡ m → ◌≡◌ {A = Result Audit AuditFault} (Ok (record { entries = n })) (Ok (record { entries = m }))
ok_of n m same = ap (λ (k : ℕ). Ok (record { entries = k })) same

bad_of : (n m : ℕ) → n ≡ m → ◌≡◌ {A = Result Audit AuditFault} (Err (fault.BadLine n)) (Err (fault.BadLine m))
bad_of n m same = ap (λ (k : ℕ). Err (fault.BadLine k)) same

wrong_of : (n m : ℕ) (p q r s : Reply) → n ≡ m → p ≡ q → r ≡ s → ◌≡◌ {A = Result Audit AuditFault} (Err (fault.WrongReply n p r)) (Err (fault.WrongReply m q s))
wrong_of n m p q r s a b c = cc (a, b, c)

-- the end of a journal is no line of an entry, and no bad one
end_no_bad : (history : History) (left : List (List ℕ)) (last : List ℕ) (others : List (List ℕ)) → left ≡ last ∷ others → is_end last ≡ true
    → IsBad history left → ⊥
end_no_bad history left last others is ends bad = clash (sym ends ∙ (subst (IsBad history) is bad).0)

end_no_wrong : (history : History) (left : List (List ℕ)) (last next : List ℕ) (others more : List (List ℕ)) (number : ℕ) (printed right : Reply)
    → left ≡ last ∷ others → is_end last ≡ true → left ≡ next ∷ more
    → IsMisanswered history next number printed right → ⊥
end_no_wrong history left last next others more number printed right is ends goes wrong =
    ends_differently wrong.entry wrong.is.within (subst (λ (text : List ℕ). is_end text ≡ true)
    (same_heads last next others more (sym is ∙ goes) ∙ wrong.is.written) ends)

bad_no_wrong : (history : History) (left : List (List ℕ)) (next : List ℕ) (more : List (List ℕ)) (number : ℕ) (printed right : Reply) → left ≡ next ∷ more
    → IsBad history left → IsMisanswered history next number printed right → ⊥
bad_no_wrong history left next more number printed right is bad wrong = (subst (IsBad history) is bad).1 wrong.entry wrong.is wrong.numbered

one_wrong : (history : History) (next : List ℕ) (n m : ℕ) (p q r s : Reply) → IsMisanswered history next n p r → IsMisanswered history next m q s
    → ◌≡◌ {A = Result Audit AuditFault} (Err (fault.WrongReply n p r)) (Err (fault.WrongReply m q s))
one_wrong history next n m p q r s a b =
    let same = one_entry next a.entry b.entry a.is b.is in
    wrong_of n m p q r s (a.named ∙ a.numbered ∙ sym (b.named ∙ b.numbered)) (a.answered ∙ ap (λ (x : Entry). x.reply) same ∙ sym b.answered)
    (a.wanted ∙ ap (λ (x : Entry). (next_entry history x.desk x.command).reply) same ∙ sym b.wanted)

-- at one place a journal stops at one thing
same_place : (history : History) (left : List (List ℕ)) (a b : Result Audit AuditFault) → StopsAt history left a → StopsAt history left b → a ≡ b
same_place history left (Ok a) (Ok b) (last, others, is, ends, counted) (last', others', is', ends', counted') =
    ok_of a.entries b.entries (counted ∙ sym counted')
same_place history left (Ok a) (Err (fault.BadLine m)) (last, others, is, ends, counted) (bad, numbered) =
    absurd (end_no_bad history left last others is ends bad)
same_place history left (Ok a) (Err (fault.WrongReply m q s)) (last, others, is, ends, counted) (next, more, goes, wrong) =
    absurd (end_no_wrong history left last next others more m q s is ends goes wrong)
same_place history left (Err (fault.BadLine n)) (Ok b) (bad, numbered) (last, others, is, ends, counted) =
    absurd (end_no_bad history left last others is ends bad)
same_place history left (Err (fault.BadLine n)) (Err (fault.BadLine m)) (bad, numbered) (bad', numbered') = bad_of n m (numbered ∙ sym numbered')
same_place history left (Err (fault.BadLine n)) (Err (fault.WrongReply m q s)) (bad, numbered) (next, more, goes, wrong) =
    absurd (bad_no_wrong history left next more m q s goes bad wrong)
same_place history left (Err (fault.WrongReply n p r)) (Ok b) (next, more, goes, wrong) (last, others, is, ends, counted) =
    absurd (end_no_wrong history left last next others more n p r is ends goes wrong)
same_place history left (Err (fault.WrongReply n p r)) (Err (fault.BadLine m)) (next, more, goes, wrong) (bad, numbered) =
    absurd (bad_no_wrong history left next more n p r goes bad wrong)
same_place history left (Err (fault.WrongReply n p r)) (Err (fault.WrongReply m q s)) (next, more, goes, wrong) (next', more', goes', wrong') =
    one_wrong history next n m p q r s wrong (subst (λ (text : List ℕ). IsMisanswered history text m q s)
    (same_heads next' next more' more (sym goes' ∙ goes)) wrong')
same_place history left (Err fault.Memory) b stops stops' = absurd stops
same_place history left (Ok a) (Err fault.Memory) stops stops' = absurd stops'
same_place history left (Err (fault.BadLine n)) (Err fault.Memory) stops stops' = absurd stops'
same_place history left (Err (fault.WrongReply n p r)) (Err fault.Memory) stops stops' = absurd stops'

-- what a journal shows, it shows at a place, unless it has no head
record IsPlaced (opening : Opening) (text : List ℕ) (found : Result Audit AuditFault) : Type 0 where
  history : History
  left : List (List ℕ)
  begins : Begins opening text history left
  stops : StopsAt history left found

abbrev Headless : List ℕ → Result Audit AuditFault → Type 0
Headless text found = ((left : List (List ℕ)) → lines_of text ≢ line (codes "journal") ∷ left) × (found ≡ Err (fault.BadLine 1))

placed : (opening : Opening) (text : List ℕ) (found : Result Audit AuditFault) → Shows opening text found → Headless text found ⊎ IsPlaced opening text found
placed opening text (Ok audit) shows =
    inr (record {
      history = shows.history;
      left = shows.last ∷ shows.others;
      begins = shows.begins;
      stops = (shows.last, shows.others, refl, shows.ends, shows.counted);
    })
placed opening text (Err (fault.BadLine number)) (inl (first, none)) = inl (none, bad_of number 1 first)
placed opening text (Err (fault.BadLine number)) (inr after) =
    inr (record { history = after.history; left = after.left; begins = after.begins; stops = (after.bad, after.numbered) })
placed opening text (Err (fault.WrongReply number printed right)) shows =
    inr (record {
      history = shows.history;
      left = shows.next ∷ shows.others;
      begins = shows.begins;
      stops = (shows.next, shows.others, refl, shows.misanswered);
    })
placed opening text (Err fault.Memory) shows = absurd shows

pub same_history : (opening : Opening) (a b : History) → a.opening ≡ opening → b.opening ≡ opening → a.entries ≡ b.entries → a ≡ b
same_history opening a b p q r = ap₂ (λ (o : Opening) (es : List Entry). let h : History = record { opening = o; entries = es } in h) (p ∙ sym q) r

pub within_at : (xs : List Entry) (e : Entry) (es : List Entry) → All IsWithin (xs ++ e ∷ es) → IsWithin e
within_at [] e es all = All-head IsWithin e es all
within_at (x ∷ xs) e es all = within_at xs e es (All-tail IsWithin x (xs ++ e ∷ es) all)

further : (opening : Opening) (text : List ℕ) (a b : History) (left more : List (List ℕ)) (found : Result Audit AuditFault) → Begins opening text a left
    → Begins opening text b more → StopsAt a left found
    → GoesOn a.entries b.entries left more → ⊥
further opening text a b left more found p q stops (e, es, entries, lines) =
    not_both a left found e (map entry_line es ++ more) stops (within_at a.entries e es (subst (All IsWithin) entries q.within)) lines
    (follows opening a b e es p.starts q.starts q.legal entries)

together : (opening : Opening) (text : List ℕ) (a b : Result Audit AuditFault) (p : IsPlaced opening text a) (q : IsPlaced opening text b)
    → Aligned p.history.entries q.history.entries p.left q.left → a ≡ b
together opening text a b p q (inl (entries, lefts)) =
    let same = same_history opening p.history q.history p.begins.starts q.begins.starts entries in
    same_place q.history q.left a b (subst (λ (l : List (List ℕ)). StopsAt q.history l a) lefts (subst (λ (h : History). StopsAt h p.left a) same p.stops))
    q.stops
together opening text a b p q (inr (inl on)) = absurd (further opening text p.history q.history p.left q.left a p.begins q.begins p.stops on)
together opening text a b p q (inr (inr on)) = absurd (further opening text q.history p.history q.left p.left b q.begins p.begins q.stops on)

both_placed : (opening : Opening) (text : List ℕ) (a b : Result Audit AuditFault) → Headless text a ⊎ IsPlaced opening text a → Headless text b
    ⊎ IsPlaced opening text b → a ≡ b
both_placed opening text a b (inl p) (inl q) = p.1 ∙ sym q.1
both_placed opening text a b (inl p) (inr q) = absurd (p.0 (map entry_line q.history.entries ++ q.left) q.begins.lines)
both_placed opening text a b (inr p) (inl q) = absurd (q.0 (map entry_line p.history.entries ++ p.left) p.begins.lines)
both_placed opening text a b (inr p) (inr q) =
    together opening text a b p q
    (align p.history.entries q.history.entries p.left q.left p.begins.within q.begins.within
    (same_tails (line (codes "journal")) (line (codes "journal")) (map entry_line p.history.entries ++ p.left) (map entry_line q.history.entries ++ q.left)
    (sym p.begins.lines ∙ q.begins.lines)))

-- a journal shows one thing
pub shows_one : (opening : Opening) (text : List ℕ) (a b : Result Audit AuditFault) → Shows opening text a → Shows opening text b → a ≡ b
shows_one opening text a b p q = both_placed opening text a b (placed opening text a p) (placed opening text b q)

-- so an audit that tells what it shows tells it, or there was no memory
pub tells_it : (opening : Opening) (text : List ℕ) (result found : Result Audit AuditFault) → Tells opening text result → Shows opening text found
    → (result ≡ found) ⊎ (result ≡ Err fault.Memory)
tells_it opening text (Ok audit) found tells shows = inl (shows_one opening text (Ok audit) found tells shows)
tells_it opening text (Err (fault.BadLine number)) found tells shows = inl (shows_one opening text (Err (fault.BadLine number)) found tells shows)
tells_it opening text (Err (fault.WrongReply number printed right)) found tells shows =
    inl (shows_one opening text (Err (fault.WrongReply number printed right)) found tells shows)
tells_it opening text (Err fault.Memory) found tells shows = inr refl

-- the journal of a history is one of so many entries
pub counted : (opening : Opening) (text : List ℕ) (history : History) (count : ℕ) → IsJournalOfHistory opening text history
    → count ≡ length history.entries → IsJournalOf opening text count
counted opening text history count is same =
    record { history = history; last = is.last; others = is.others; begins = is.begins; ends = is.ends; counted = same }

-- a text is the journal of one history
pub one_history : (opening : Opening) (text : List ℕ) (a b : History) → IsJournalOfHistory opening text a → IsJournalOfHistory opening text b → a ≡ b
one_history opening text a b p q =
    by (align a.entries b.entries (p.last ∷ p.others) (q.last ∷ q.others) p.begins.within q.begins.within
    (same_tails (line (codes "journal")) (line (codes "journal")) (map entry_line a.entries ++ p.last ∷ p.others)
    (map entry_line b.entries ++ q.last ∷ q.others)
    (sym p.begins.lines ∙ q.begins.lines)))
  where
    stops : (h : History) (last : List ℕ) (others : List (List ℕ)) → is_end last ≡ true
        → StopsAt h (last ∷ others) (Ok (record { entries = length h.entries }))
    stops h last others ends = (last, others, refl, ends, refl)

    by : Aligned a.entries b.entries (p.last ∷ p.others) (q.last ∷ q.others) → a ≡ b
    by (inl (entries, lefts)) = same_history opening a b p.begins.starts q.begins.starts entries
    by (inr (inl on)) =
        absurd (further opening text a b (p.last ∷ p.others) (q.last ∷ q.others) (Ok (record { entries = length a.entries })) p.begins q.begins
        (stops a p.last p.others p.ends) on)
    by (inr (inr on)) =
        absurd (further opening text b a (q.last ∷ q.others) (p.last ∷ p.others) (Ok (record { entries = length b.entries })) q.begins p.begins
        (stops b q.last q.others q.ends) on)

-- what a replay gives, an audit tells
pub audit_tells : (opening : Opening) (text : List ℕ) (result : Result History AuditFault) → Restores opening text result → Tells opening text (audit_of result)
audit_tells opening text (Ok history) is = counted opening text history (length history.entries) is refl
audit_tells opening text (Err why) tells = tells

-- so a replay finds what the journal shows, or there was no memory
pub restores_it : (opening : Opening) (text : List ℕ) (result : Result History AuditFault) (found : Result Audit AuditFault) → Restores opening text result
    → Shows opening text found → (audit_of result ≡ found) ⊎ (result ≡ Err fault.Memory)
restores_it opening text (Ok history) found restores shows =
    inl (shows_one opening text (Ok (record { entries = length history.entries })) found (audit_tells opening text (Ok history) restores) shows)
restores_it opening text (Err (fault.BadLine number)) found tells shows = inl (shows_one opening text (Err (fault.BadLine number)) found tells shows)
restores_it opening text (Err (fault.WrongReply number printed right)) found tells shows =
    inl (shows_one opening text (Err (fault.WrongReply number printed right)) found tells shows)
restores_it opening text (Err fault.Memory) found tells shows = inr refl

-- and gives the history whose journal a text is, or there was no memory
pub restores_one : (opening : Opening) (text : List ℕ) (result : Result History AuditFault) (history : History) → Restores opening text result
    → IsJournalOfHistory opening text history → (result ≡ Ok history) ⊎ (result ≡ Err fault.Memory)
restores_one opening text (Ok other) history restores is = inl (ap Ok (one_history opening text other history restores is))
restores_one opening text (Err why) history tells is =
    by (restores_it opening text (Err why) (Ok (record { entries = length history.entries })) tells (counted opening text history (length
    history.entries) is refl))
  where
    by : (◌≡◌ {A = Result Audit AuditFault} (Err why) (Ok (record { entries = length history.entries })))
        ⊎ (◌≡◌ {A = Result History AuditFault} (Err why) (Err fault.Memory))
        → (◌≡◌ {A = Result History AuditFault} (Err why) (Ok history)) ⊎ (◌≡◌ {A = Result History AuditFault} (Err why) (Err fault.Memory))
    by (inl same) = absurd (cc same)
    by (inr none) = inr none
