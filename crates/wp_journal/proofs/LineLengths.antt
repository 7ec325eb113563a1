-- The line of an entry of the journal has no more bytes than a record of a store may have.
use Rattle.std.proofs.Common.{◌≡◌, ◌∙◌, refl, subst, sym, ℕ, ◌+◌, ◌*◌, ◌<◌, ◌≤◌, ◌^◌, true, Bool, List, [], ◌∷◌, ◌++◌, length, arith, length-append}
use Rattle.std.proofs.Common.{leb-true, ltb-true, lit<, lit≤}
use Rattle.std.specs.Prelude.{codes, nat_le, nat_lt}
use Rattle.std.specs.Fmt.{decimal}
use Rattle.std.specs.List.{flat_map, list_all}
use Rattle.std.proofs.lemmas.Bool.{le-leb}
use Rattle.std.proofs.lemmas.Fmt.{length-decimal-le}
use Rattle.std.proofs.lemmas.List.Folds.{list_all-append}
use Rattle.wp_model.specs.Journal.{after_space, entry_line, entry_text, location_text, side_text, wave_state_text}
use Rattle.wp_model.specs.Name.{is_name}
use Rattle.wp_model.specs.Plain.{has_names, is_plain, is_plain_location, is_plain_quantity}
use Rattle.wp_model.specs.declared.command.Command.{Command}
use Rattle.wp_model.specs.declared.command.Command.TheVariants as command
use Rattle.wp_model.specs.declared.entry.Entry.{Entry}
use Rattle.wp_model.specs.declared.location.Location.{Location}
use Rattle.wp_model.specs.declared.location.Side.{Side}
use Rattle.wp_model.specs.declared.location.Side.TheVariants as side
use Rattle.wp_model.specs.declared.reply.Reply.{Reply}
use Rattle.wp_model.specs.declared.reply.Reply.TheVariants as reply
use Rattle.wp_model.specs.declared.reply.WaveState.{WaveState}
use Rattle.wp_model.specs.declared.reply.WaveState.TheVariants as wave
use Rattle.wp_journal.specs.Grammar.{is_line_entry, is_line_reply}
use Rattle.wp_journal.specs.Splits.{Word}
use Rattle.wp_journal.proofs.Candidates.{within}
use Rattle.wp_journal.proofs.EntryWords.{command_arguments, command_word, entry_phrase, phrase, quantity_small, reply_told, reply_word, sentence_words}
use Rattle.wp_journal.proofs.Phrases.{both}
use Rattle.wp_journal.proofs.WordBytes.{and_true, small_is_whole}

-- a word of no more bytes than a name may have
abbrev is_short : Word → Bool
is_short word = nat_le (length word) 40

-- words after a space each
rest_length : (words : List Word) → list_all is_short words ≡ true → length (flat_map after_space words) ≤ 41 * length words
rest_length [] e = omega arith
rest_length (word ∷ words) e =
    let parts = both (is_short word) (list_all is_short words) e in
    omega (arith, length-append (after_space word) (flat_map after_space words), leb-true (length word) 40 parts.0, rest_length words parts.1)

phrase_length : (first : Word) (rest : List Word) → list_all is_short (first ∷ rest) ≡ true → length (phrase first rest) ≤ 40 + 41 * length rest
phrase_length first rest e =
    let parts = both (is_short first) (list_all is_short rest) e in
    omega (arith, length-append first (flat_map after_space rest), leb-true (length first) 40 parts.0, rest_length rest parts.1)

name_short : (text : List ℕ) → is_name text ≡ true → is_short text ≡ true
name_short text e = (both _ _ (both _ _ e).1).0

names_short : (names : List (List ℕ)) → list_all is_name names ≡ true → list_all is_short names ≡ true
names_short [] e = refl
names_short (name ∷ names) e =
    let parts = both (is_name name) (list_all is_name names) e in
    and_true _ _ (name_short name parts.0) (names_short names parts.1)

decimal_length : (n : ℕ) → n < 2 ^ 64 → length (decimal n) ≤ 20
decimal_length n small = let numeral : 2 ^ 64 ≤ 10 ^ 20 = lit≤ tt in length-decimal-le 20 n (lit< tt) (omega (arith, small)) small

decimal_short : (n : ℕ) → n < 2 ^ 64 → is_short (decimal n) ≡ true
decimal_short n small = le-leb (length (decimal n)) 40 (omega (arith, decimal_length n small))

place_length : (n : ℕ) → nat_le n 99999 ≡ true → length (decimal n) ≤ 5
place_length n e =
    let numeral : 99999 < 10 ^ 5 = lit< tt in
    let few : 99999 < 2 ^ 64 = lit< tt in
    length-decimal-le 5 n (lit< tt) (omega (arith, leb-true n 99999 e)) (omega (arith, leb-true n 99999 e))

side_length : (s : Side) → length (side_text s) ≤ 1
side_length side.L = omega arith
side_length side.R = omega arith

location_short : (l : Location) → is_plain_location l ≡ true → is_short (location_text l) ≡ true
location_short l e =
    let parts = both (nat_le l.aisle 99999) (nat_le l.slot 99999) e in
    le-leb (length (location_text l)) 40 (omega (
      arith,
      length-append (decimal l.aisle ++ 45 ∷ decimal l.slot) (45 ∷ side_text l.side),
      length-append (decimal l.aisle) (45 ∷ decimal l.slot),
      place_length l.aisle parts.0,
      place_length l.slot parts.1,
      side_length l.side,
    ))

quantity_short : (n : ℕ) → is_plain_quantity n ≡ true → is_short (decimal n) ≡ true
quantity_short n e = decimal_short n (small_is_whole n (quantity_small n e))

u32_short : (n : ℕ) → nat_lt n (2 ^ 32) ≡ true → is_short (decimal n) ≡ true
u32_short n e = decimal_short n (small_is_whole n (ltb-true n (2 ^ 32) e))

u64_short : (n : ℕ) → nat_lt n (2 ^ 64) ≡ true → is_short (decimal n) ≡ true
u64_short n e = decimal_short n (ltb-true n (2 ^ 64) e)

one_short : (a : Word) → is_short a ≡ true → list_all is_short (a ∷ []) ≡ true
one_short a e = and_true _ _ e refl

two_short : (a b : Word) → is_short a ≡ true → is_short b ≡ true → list_all is_short (a ∷ b ∷ []) ≡ true
two_short a b e f = and_true _ _ e (one_short b f)

three_short : (a b c : Word) → is_short a ≡ true → is_short b ≡ true → is_short c ≡ true → list_all is_short (a ∷ b ∷ c ∷ []) ≡ true
three_short a b c e f g = and_true _ _ e (two_short b c f g)

four_short : (a b c d : Word) → is_short a ≡ true → is_short b ≡ true → is_short c ≡ true → is_short d ≡ true → list_all is_short (a ∷ b ∷ c ∷ d ∷ []) ≡ true
four_short a b c d e f g h = and_true _ _ e (three_short b c d f g h)

command_short : (c : Command) → is_plain c ≡ true → has_names c ≡ true → list_all is_short (command_word c ∷ command_arguments c) ≡ true
command_short (command.Submit w orders) p n = let names = both _ _ n in and_true _ _ (name_short w names.0) (names_short orders names.1)
command_short (command.Allot w) p n = one_short w (name_short w n)
command_short (command.Release w) p n = one_short w (name_short w n)
command_short (command.Cancel w) p n = one_short w (name_short w n)
command_short (command.Pick w order location quantity) p n =
    let names = both _ _ n in
    let bounds = both _ _ p in
    four_short w order (location_text location) (decimal quantity) (name_short w names.0) (name_short order names.1) (location_short location bounds.0)
    (quantity_short quantity bounds.1)
command_short (command.Missing w order location quantity) p n =
    let names = both _ _ n in
    let bounds = both _ _ p in
    four_short w order (location_text location) (decimal quantity) (name_short w names.0) (name_short order names.1) (location_short location bounds.0)
    (quantity_short quantity bounds.1)
command_short (command.Receive location article quantity) p n =
    let bounds = both _ _ p in
    three_short (location_text location) article (decimal quantity) (location_short location bounds.0) (name_short article n) (quantity_short quantity bounds.1)

state_short : (s : WaveState) → is_short (wave_state_text s) ≡ true
state_short wave.Submitted = refl
state_short wave.Allotted = refl
state_short wave.Released = refl
state_short wave.Cancelled = refl
state_short wave.Done = refl

reply_short : (r : Reply) → is_line_reply r ≡ true → list_all is_short (reply_word r ∷ reply_told r) ≡ true
reply_short reply.Submitted h = refl
reply_short reply.Allotted h = refl
reply_short reply.Released h = refl
reply_short reply.Cancelled h = refl
reply_short reply.Picked h = refl
reply_short reply.Received h = refl
reply_short (reply.Refilled units) h = one_short (decimal units) (quantity_short units h)
reply_short (reply.Lost article units) h = let parts = both _ _ h in
    two_short article (decimal units) (name_short article parts.0) (quantity_short units parts.1)
reply_short reply.NoOrders h = refl
reply_short (reply.WaveFull orders) h = one_short (decimal orders) (u32_short orders h)
reply_short reply.KnownWave h = refl
reply_short (reply.UnknownOrder order) h = one_short order (name_short order h)
reply_short (reply.OrderTwice order) h = one_short order (name_short order h)
reply_short (reply.OrderTaken order w) h = let parts = both _ _ h in two_short order w (name_short order parts.0) (name_short w parts.1)
reply_short (reply.OverCart order units) h = let parts = both _ _ h in
    two_short order (decimal units) (name_short order parts.0) (u32_short units parts.1)
reply_short reply.UnknownWave h = refl
reply_short (reply.WrongState state) h = one_short (wave_state_text state) (state_short state)
reply_short (reply.Short article wanted free) h =
    let parts = both _ _ h in
    let numbers = both _ _ parts.1 in
    three_short article (decimal wanted) (decimal free) (name_short article parts.0) (u64_short wanted numbers.0) (u64_short free numbers.1)
reply_short reply.Picking h = refl
reply_short (reply.NotHeld location) h = one_short (location_text location) (location_short location h)
reply_short (reply.TooMuch held) h = one_short (decimal held) (u32_short held h)
reply_short reply.NoRow h = refl
reply_short (reply.OtherArticle article) h = one_short article (name_short article h)
reply_short (reply.TooMany on_hand) h = one_short (decimal on_hand) (u32_short on_hand h)

-- a command has at most 101 words after its first, and a reply at most four
command_words : (c : Command) → is_plain c ≡ true → length (command_arguments c) ≤ 101
command_words (command.Submit w orders) p = omega (arith, leb-true (length orders) 100 p)
command_words (command.Allot w) p = omega arith
command_words (command.Release w) p = omega arith
command_words (command.Cancel w) p = omega arith
command_words (command.Pick w order location quantity) p = omega arith
command_words (command.Missing w order location quantity) p = omega arith
command_words (command.Receive location article quantity) p = omega arith

reply_words : (r : Reply) → length (reply_told r) ≤ 4
reply_words reply.Submitted = omega arith
reply_words reply.Allotted = omega arith
reply_words reply.Released = omega arith
reply_words reply.Cancelled = omega arith
reply_words reply.Picked = omega arith
reply_words reply.Received = omega arith
reply_words (reply.Refilled units) = omega arith
reply_words (reply.Lost article units) = omega arith
reply_words reply.NoOrders = omega arith
reply_words (reply.WaveFull orders) = omega arith
reply_words reply.KnownWave = omega arith
reply_words (reply.UnknownOrder order) = omega arith
reply_words (reply.OrderTwice order) = omega arith
reply_words (reply.OrderTaken order w) = omega arith
reply_words (reply.OverCart order units) = omega arith
reply_words reply.UnknownWave = omega arith
reply_words (reply.WrongState state) = omega arith
reply_words (reply.Short article wanted free) = omega arith
reply_words reply.Picking = omega arith
reply_words (reply.NotHeld location) = omega arith
reply_words (reply.TooMuch held) = omega arith
reply_words reply.NoRow = omega arith
reply_words (reply.OtherArticle article) = omega arith
reply_words (reply.TooMany on_hand) = omega arith

-- so the line of an entry has at least one byte, and at most 8,192
pub line_length : (e : Entry) → is_line_entry e ≡ true → (1 ≤ length (entry_line e)) × (length (entry_line e) ≤ 8192)
line_length e is =
    let w = within e is in
    let numeral : 10000 < 2 ^ 64 = lit< tt in
    let asked = command_word e.command ∷ command_arguments e.command in
    let answered = reply_word e.reply ∷ reply_told e.reply in
    let sentence = list_all-append is_short asked (codes "->" ∷ answered)
    ∙ and_true _ _ (command_short e.command w.plain w.names) (reply_short e.reply w.reply) in
    let all = and_true _ _ (decimal_short e.number (omega (arith, w.number, numeral)))
    (and_true _ _ (decimal_short e.desk (small_is_whole e.desk w.desk)) sentence) in
    let text : length (entry_text e) ≤ 40 + 41 * length (decimal e.desk ∷ sentence_words e.command e.reply) =
    subst (λ (t : List ℕ). length t ≤ 40 + 41 * length (decimal e.desk ∷ sentence_words e.command e.reply)) (sym (entry_phrase e))
    (phrase_length (decimal e.number) (decimal e.desk ∷ sentence_words e.command e.reply) all) in
    let words = length-append asked (codes "->" ∷ answered) in
    let ends = length-append (entry_text e) (10 ∷ []) in (
      omega (arith, ends),
      omega (arith, ends, text, words, command_words e.command w.plain, reply_words e.reply),
    )
