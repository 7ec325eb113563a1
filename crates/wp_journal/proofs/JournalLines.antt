-- The lines of a printed journal.
use Rattle.std.proofs.Common.{◌≡◌, ◌∙◌, refl, ap, subst, ℕ, ◌<◌, ◌^◌, Bool, true, false, List, [], ◌∷◌, ◌++◌, map, append_assoc, arith, lit<}
use Rattle.std.specs.Prelude.{IsTrue, codes, not}
use Rattle.std.specs.Fmt.{decimal}
use Rattle.std.specs.List.{All, flat_map, list_all, onto_first}
use Rattle.std.proofs.lemmas.Bool.Decides.{Decides-eqb}
use Rattle.std.proofs.lemmas.List.Elements.{All-head, All-tail}
use Rattle.std.proofs.lemmas.List.Folds.{list_all-append}
use Rattle.wp_model.specs.Journal.{after_space, entry_line, entry_text, journal, line}
use Rattle.wp_model.specs.Name.{is_name_byte}
use Rattle.wp_model.specs.declared.entry.Entry.{Entry}
use Rattle.wp_journal.specs.Grammar.{is_line_entry}
use Rattle.wp_journal.specs.Journals.{is_feed, lines_of}
use Rattle.wp_journal.specs.Splits.{Word}
use Rattle.wp_journal.proofs.Candidates.{within}
use Rattle.wp_journal.proofs.EntryWords.{command_arguments, command_plain, command_word, entry_phrase, phrase, reply_plain, reply_told, reply_word}
use Rattle.wp_journal.proofs.EntryWords.{sentence_words}
use Rattle.wp_journal.proofs.Phrases.{both, false_from}
use Rattle.wp_journal.proofs.WordBytes.{and_true, decimal_plain, is_plain_word, small_is_whole}

-- a text has no line feed
abbrev has_no_feed : List ℕ → Bool
has_no_feed text = list_all (λ b. not (is_feed b)) text

feed_no_name_byte : is_name_byte 10 ≡ true → ⊥
feed_no_name_byte e = let e' : false ≡ true = e in absurd (cc e')

not_feed : (b : ℕ) → is_name_byte b ≡ true → not (is_feed b) ≡ true
not_feed b e = ap not (false_from (is_feed b) (λ h. feed_no_name_byte (subst (λ n. is_name_byte n ≡ true) ((Decides-eqb b 10).0 h) e)))

plain_no_feed : (word : Word) → is_plain_word word ≡ true → has_no_feed word ≡ true
plain_no_feed [] e = refl
plain_no_feed (b ∷ word) e =
    let parts = both (is_name_byte b) (is_plain_word word) e in
    and_true _ _ (not_feed b parts.0) (plain_no_feed word parts.1)

plain_no_feeds : (words : List Word) → list_all is_plain_word words ≡ true → list_all has_no_feed words ≡ true
plain_no_feeds [] e = refl
plain_no_feeds (word ∷ words) e =
    let parts = both (is_plain_word word) (list_all is_plain_word words) e in
    and_true _ _ (plain_no_feed word parts.0) (plain_no_feeds words parts.1)

-- nor has a text of words without
append_no_feed : (xs ys : List ℕ) → has_no_feed xs ≡ true → has_no_feed ys ≡ true → has_no_feed (xs ++ ys) ≡ true
append_no_feed xs ys e f = list_all-append (λ b. not (is_feed b)) xs ys ∙ and_true _ _ e f

rest_no_feed : (words : List Word) → list_all has_no_feed words ≡ true → has_no_feed (flat_map after_space words) ≡ true
rest_no_feed [] e = refl
rest_no_feed (word ∷ words) e =
    let parts = both (has_no_feed word) (list_all has_no_feed words) e in
    append_no_feed (after_space word) (flat_map after_space words) parts.0 (rest_no_feed words parts.1)

phrase_no_feed : (first : Word) (rest : List Word) → list_all has_no_feed (first ∷ rest) ≡ true → has_no_feed (phrase first rest) ≡ true
phrase_no_feed first rest e =
    let parts = both (has_no_feed first) (list_all has_no_feed rest) e in
    append_no_feed first (flat_map after_space rest) parts.0 (rest_no_feed rest parts.1)

-- so an entry's text has none
entry_no_feed : (e : Entry) → is_line_entry e ≡ true → has_no_feed (entry_text e) ≡ true
entry_no_feed e is =
    let w = within e is in
    let numeral : 10000 < 2 ^ 64 = lit< tt in
    let number = plain_no_feed (decimal e.number) (decimal_plain e.number (omega (arith, w.number, numeral))) in
    let desk = plain_no_feed (decimal e.desk) (decimal_plain e.desk (small_is_whole e.desk w.desk)) in
    let asked = plain_no_feeds (command_word e.command ∷ command_arguments e.command) (command_plain e.command w.plain w.names) in
    let answer = plain_no_feeds (reply_word e.reply ∷ reply_told e.reply) (reply_plain e.reply w.reply) in
    let sentence = list_all-append has_no_feed (command_word e.command ∷ command_arguments e.command) (codes "->" ∷ (reply_word e.reply ∷ reply_told e.reply))
    ∙ and_true _ _ asked answer in
    ap has_no_feed (entry_phrase e)
    ∙ phrase_no_feed (decimal e.number) (decimal e.desk ∷ sentence_words e.command e.reply) (and_true _ _ number (and_true _ _ desk sentence))

feed_is_last : (b : ℕ) (text : List ℕ) (feed : Bool) → is_feed b ≡ feed → not feed ≡ true → lines_of (b ∷ text) ≡ onto_first b (lines_of text)
feed_is_last b text true is none = absurd (cc none)
feed_is_last b text false is none = rw is refl

-- a text without a line feed is a line, and then come those of the text after it
line_then : (text rest : List ℕ) → has_no_feed text ≡ true → lines_of (line text ++ rest) ≡ line text ∷ lines_of rest
line_then [] rest e = refl
line_then (b ∷ text) rest e =
    let parts = both (not (is_feed b)) (has_no_feed text) e in
    feed_is_last b (line text ++ rest) (is_feed b) refl parts.0 ∙ ap (onto_first b) (line_then text rest parts.1)

entries_then : (entries : List Entry) (rest : List ℕ) → All (λ entry. IsTrue (is_line_entry entry)) entries
    → lines_of (flat_map entry_line entries ++ rest) ≡ map entry_line entries ++ lines_of rest
entries_then [] rest each = refl
entries_then (entry ∷ entries) rest each =
    let is = All-head (λ entry. IsTrue (is_line_entry entry)) entry entries each in
    let others = All-tail (λ entry. IsTrue (is_line_entry entry)) entry entries each in
    ap lines_of (append_assoc (entry_line entry) (flat_map entry_line entries) rest)
    ∙ line_then (entry_text entry) (flat_map entry_line entries ++ rest) (entry_no_feed entry is)
    ∙ ap (λ lines. entry_line entry ∷ lines) (entries_then entries rest others)

-- the lines of a journal are the head, those of the entries and the end, and then come those of the text after it
pub lines_of_journal : (entries : List Entry) (more : List ℕ) → All (λ entry. IsTrue (is_line_entry entry)) entries
    → lines_of (journal entries ++ more) ≡ line (codes "journal") ∷ (map entry_line entries ++ line (codes "end journal") ∷ lines_of more)
lines_of_journal entries more each =
    let head = line (codes "journal") in
    let end = line (codes "end journal") in
    let middle = flat_map entry_line entries in
    ap lines_of (append_assoc (head ++ middle) end more ∙ append_assoc head middle (end ++ more))
    ∙ line_then (codes "journal") (middle ++ (end ++ more)) refl
    ∙ ap (λ lines. head ∷ lines)
    (entries_then entries (end ++ more) each ∙ ap (λ lines. map entry_line entries ++ lines) (line_then (codes "end journal") more refl))
