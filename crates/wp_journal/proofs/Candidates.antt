-- The line of an entry is read as this entry, so a line is of one entry.
use Rattle.std.proofs.Common.{◌≡◌, ◌∙◌, refl, sym, ap, ℕ, ◌-◌, ◌<◌, ◌^◌, true, false, List, [], ◌∷◌, ◌++◌, ◌⊎◌, inl, inr, length, take, arith, leb-true}
use Rattle.std.proofs.Common.{ltb-true, length-append, lit<}
use Rattle.std.specs.Prelude.{◌&&◌, codes, nat_le, nat_lt, Some, None, IfOk, Result, Ok, Err}
use Rattle.std.specs.Fmt.{decimal}
use Rattle.std.specs.List.{list_all}
use Rattle.std.proofs.Math.Seq.{take-append_seam}
use Rattle.std.specs.Str.{bytes_eq}
use Rattle.std.proofs.lemmas.List.Folds.{list_all-append}
use Rattle.std.proofs.lemmas.Slice.Eq.{bytes_eq-Decides}
use Rattle.wp_model.specs.Journal.{entry_line, entry_text}
use Rattle.wp_model.specs.Plain.{is_plain}
use Rattle.wp_model.specs.declared.command.Command.{Command}
use Rattle.wp_model.specs.declared.entry.Entry.{Entry}
use Rattle.wp_model.specs.declared.reply.Reply.{Reply}
use Rattle.wp_journal.specs.Grammar.{IsLineOf, IsNoLine, IsOnlyLineOf, is_line_entry, is_line_reply}
use Rattle.wp_model.specs.Plain.{has_names}
use Rattle.wp_journal.specs.Reading.{candidate_of, entry_from, entry_in, wants_memory}
use Rattle.wp_journal.specs.Splits.{Word, after_arrow, before_arrow, is_arrow, words_of}
use Rattle.wp_journal.specs.declared.fault.EntryFault.{EntryFault}
use Rattle.wp_journal.specs.declared.fault.EntryFault.TheVariants as fault
use Rattle.wp_journal.proofs.Phrases.{after_at, before_at, both, has_no_space, split_phrase}
use Rattle.wp_journal.proofs.WordBytes.{and_true, decimal_plain, is_plain_word, plain_no_arrow, plain_no_space, plain_no_spaces, small_is_whole}
use Rattle.wp_journal.proofs.EntryWords.{command_arguments, command_plain, command_word, entry_phrase, reply_plain, reply_told, reply_word, sentence_words}
use Rattle.wp_journal.proofs.ReadBack.{command_read, reply_read, small_read, whole_read}

-- the bounds of an entry of the journal
pub record Within (e : Entry) : Type 0 where
  pub number : e.number < 10000
  pub desk : e.desk < 2 ^ 32
  pub plain : is_plain e.command ≡ true
  pub names : has_names e.command ≡ true
  pub reply : is_line_reply e.reply ≡ true

-- an entry of the journal is within them
pub within : (e : Entry) → is_line_entry e ≡ true → Within e
within e h =
    let halves = both (nat_lt e.number 10000 && (nat_le 1 e.desk && nat_le e.desk 8))
    ((is_plain e.command && has_names e.command) && is_line_reply e.reply) h in
    let numbers = both (nat_lt e.number 10000) (nat_le 1 e.desk && nat_le e.desk 8) halves.0 in
    let desks = both (nat_le 1 e.desk) (nat_le e.desk 8) numbers.1 in
    let words = both (is_plain e.command && has_names e.command) (is_line_reply e.reply) halves.1 in
    let commands = both (is_plain e.command) (has_names e.command) words.0 in
    let numeral : 8 < 2 ^ 32 = lit< tt in
    record {
      number = ltb-true e.number 10000 numbers.0;
      desk = omega (arith, leb-true e.desk 8 desks.1);
      plain = commands.0;
      names = commands.1;
      reply = words.1;
    }

entry_small : (n : ℕ) → n < 10000 → n < 2 ^ 64
entry_small n h = let numeral : 10000 < 2 ^ 64 = lit< tt in omega arith

last_off : (text : List ℕ) → take (length (text ++ 10 ∷ []) - 1) (text ++ 10 ∷ []) ≡ text
last_off text =
    let count : length (text ++ 10 ∷ []) - 1 ≡ length text = omega (arith, length-append text (10 ∷ [])) in
    ap (λ n. take n (text ++ 10 ∷ [])) count ∙ take-append_seam text (10 ∷ [])

spaces_in : (c : Command) (r : Reply) → list_all is_plain_word (command_word c ∷ command_arguments c) ≡ true
    → list_all is_plain_word (reply_word r ∷ reply_told r) ≡ true
    → list_all has_no_space (sentence_words c r) ≡ true
spaces_in c r p q =
    list_all-append has_no_space (command_word c ∷ command_arguments c) (codes "->" ∷ (reply_word r ∷ reply_told r))
    ∙ and_true _ _ (plain_no_spaces (command_word c ∷ command_arguments c) p) (plain_no_spaces (reply_word r ∷ reply_told r) q)

words_are : (e : Entry) → Within e → words_of (entry_text e) ≡ decimal e.number ∷ decimal e.desk ∷ sentence_words e.command e.reply
words_are e h =
    let number = plain_no_space (decimal e.number) (decimal_plain e.number (entry_small e.number h.number)) in
    let desk = plain_no_space (decimal e.desk) (decimal_plain e.desk (small_is_whole e.desk h.desk)) in
    let rest = spaces_in e.command e.reply (command_plain e.command h.plain h.names) (reply_plain e.reply h.reply) in
    ap words_of (entry_phrase e) ∙ split_phrase (decimal e.number) (decimal e.desk ∷ sentence_words e.command e.reply) number (and_true _ _ desk rest)

sentence_read : (n d : ℕ) (c : Command) (r : Reply) → is_plain c ≡ true → has_names c ≡ true → is_line_reply r ≡ true
    → entry_from n d (sentence_words c r) ≡ Some (record { number = n; desk = d; command = c; reply = r })
sentence_read n d c r p q s =
    let asked = command_word c ∷ command_arguments c in
    let answered = reply_word r ∷ reply_told r in
    let none = plain_no_arrow asked (command_plain c p q) in
    let before : before_arrow (sentence_words c r) ≡ asked = before_at is_arrow asked (codes "->") answered none refl in
    let after : after_arrow (sentence_words c r) ≡ answered = after_at is_arrow asked (codes "->") answered none refl in
    rw (before, after, command_read c p q, reply_read r s) refl

parts_read : (n d : ℕ) (sentence : List Word) → n < 2 ^ 64 → d < 2 ^ 32 → entry_in (decimal n ∷ decimal d ∷ sentence) ≡ entry_from n d sentence
parts_read n d sentence p q = rw (whole_read n p, small_read d q) refl

-- the line of an entry is read as it
pub entry_read : (e : Entry) → is_line_entry e ≡ true → candidate_of (entry_line e) ≡ Some e
entry_read e h =
    let w = within e h in
    ap entry_in (ap words_of (last_off (entry_text e)) ∙ words_are e w)
    ∙ (parts_read e.number e.desk (sentence_words e.command e.reply) (entry_small e.number w.number) w.desk
    ∙ sentence_read e.number e.desk e.command e.reply w.plain w.names w.reply)

-- a line is read as the entry whose line it is
pub line_read : (line : List ℕ) (e : Entry) → IsLineOf line e → candidate_of line ≡ Some e
line_read line e is = ap candidate_of is.written ∙ entry_read e is.within

same_some : (a b : Entry) → Some a ≡ Some b → a ≡ b
same_some a b e = cc e

-- a line is of one entry
pub one_entry : (line : List ℕ) (a b : Entry) → IsLineOf line a → IsLineOf line b → a ≡ b
one_entry line a b p q = same_some a b (sym (line_read line a p) ∙ line_read line b q)

-- a line is of no entry where what is read of it isn't one, or has another line
pub no_line : (line : List ℕ) (e : Entry) → candidate_of line ≡ Some e → (is_line_entry e && bytes_eq (entry_line e) line) ≡ false → IsNoLine line
no_line line e read fails other is =
    let same : e ≡ other = same_some e other (sym read ∙ line_read line other is) in
    let within : is_line_entry e ≡ true = ap is_line_entry same ∙ is.within in
    let written : entry_line e ≡ line = ap entry_line same ∙ sym is.written in
    let passes = and_true (is_line_entry e) (bytes_eq (entry_line e) line) within ((bytes_eq-Decides (entry_line e) line).1 written) in
    true_not_false (sym passes ∙ fails)
  where
    true_not_false : true ≡ false → ⊥
    true_not_false e = cc e

-- nor where nothing is read of it
pub no_line_read : (line : List ℕ) → candidate_of line ≡ None → IsNoLine line
no_line_read line read other is = none_not_some other (sym read ∙ line_read line other is)
  where
    none_not_some : (e : Entry) → None ≡ Some e → ⊥
    none_not_some e h = cc h

-- and it is of an entry where what is read of it has this line
pub is_line : (line : List ℕ) (e : Entry) → (is_line_entry e && bytes_eq (entry_line e) line) ≡ true → IsLineOf line e
is_line line e passes =
    let parts = both (is_line_entry e) (bytes_eq (entry_line e) line) passes in
    record { within = parts.0; written = sym ((bytes_eq-Decides (entry_line e) line).0 parts.1) }

same_why : (a b : EntryFault) → ◌≡◌ {A = Result Entry EntryFault} (Err a) (Err b) → a ≡ b
same_why a b e = cc e

-- so a reader that answers so is right
pub refusal : (line : List ℕ) (result : Result Entry EntryFault) (why : EntryFault) → result ≡ Err why → (wants_memory why ≡ false → candidate_of line ≡ None)
    → result ≡ Err fault.NotEntry → IsNoLine line
refusal line result why is told said = no_line_read line (told (ap wants_memory (same_why why fault.NotEntry (sym is ∙ said))))

-- the line of an entry is read as it, where there is memory
pub one_reading : (line : List ℕ) (result : Result Entry EntryFault) → IfOk result (IsOnlyLineOf line) → (result ≡ Err fault.NotEntry → IsNoLine line)
    → (entry : Entry) → IsLineOf line entry
    → (result ≡ Ok entry) ⊎ (result ≡ Err fault.Memory)
one_reading line (Ok read) only refuses entry is = inl (ap Ok (sym (only entry is)))
one_reading line (Err fault.NotEntry) only refuses entry is = absurd (refuses refl entry is)
one_reading line (Err fault.Memory) only refuses entry is = inr refl
