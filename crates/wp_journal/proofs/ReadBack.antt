-- What a word was written for is read from it again.
use Rattle.std.proofs.Common.{◌≡◌, ◌∙◌, refl, sym, ap, ap₂, subst, ℕ, ◌+◌, ◌-◌, ◌*◌, ◌<◌, ◌≤◌, ◌^◌, true, List, [], ◌∷◌, ◌++◌, length, append_assoc, arith}
use Rattle.std.proofs.Common.{leb-true, ltb-true, le-leb, lt-ltb, lit<}
use Rattle.std.specs.Prelude.{nat_le, nat_lt, Some, None, if◌then◌else◌}
use Rattle.std.specs.Char.{digit_value, is_ascii_digit}
use Rattle.std.specs.Fmt.{decimal}
use Rattle.std.specs.List.{after_first, before_first, list_all}
use Rattle.std.specs.Option.{option_and_then}
use Rattle.std.specs.Str.Parse.{AllDigits, digits_value_after}
use Rattle.std.proofs.lemmas.Fmt.{decimal_is_IsNumeral, decimal_nonempty, length-decimal-le}
use Rattle.std.proofs.lemmas.Str.{digit_value_digit}
use Rattle.std.proofs.lemmas.Str.Parse.{digit_from_value}
use Rattle.wp_model.specs.Journal.{location_text, side_text, wave_state_text}
use Rattle.wp_model.specs.Location.{is_dash, location_from, location_of, side_of}
use Rattle.wp_model.specs.Name.{is_name, name_in}
use Rattle.wp_model.specs.Number.{number_after, number_of}
use Rattle.wp_model.specs.Plain.{is_plain, is_plain_location, is_plain_quantity}
use Rattle.wp_model.specs.declared.command.Command.{Command}
use Rattle.wp_model.specs.declared.command.Command.TheVariants as command
use Rattle.wp_model.specs.declared.location.Location.{Location}
use Rattle.wp_model.specs.declared.location.Side.{Side}
use Rattle.wp_model.specs.declared.location.Side.TheVariants as side
use Rattle.wp_model.specs.declared.reply.Reply.{Reply}
use Rattle.wp_model.specs.declared.reply.Reply.TheVariants as reply
use Rattle.wp_model.specs.declared.reply.WaveState.{WaveState}
use Rattle.wp_model.specs.declared.reply.WaveState.TheVariants as wave
use Rattle.wp_journal.specs.Commands.{command_in, names_in}
use Rattle.wp_journal.specs.Grammar.{is_line_reply}
use Rattle.wp_model.specs.Plain.{has_names}
use Rattle.wp_journal.specs.Numbers.{if_small, next_whole, small_of, whole_after, whole_of}
use Rattle.wp_journal.specs.Replies.{reply_in, state_of}
use Rattle.wp_journal.proofs.Phrases.{after_at, before_at, both}
use Rattle.wp_journal.proofs.WordBytes.{and_true, decimal_no_dash, place_small, small_is_whole}
use Rattle.wp_journal.proofs.EntryWords.{command_arguments, command_word, quantity_small, reply_told, reply_word}

grows : (n : ℕ) (ds : List ℕ) → n ≤ digits_value_after 10 n ds
grows n [] = omega arith
grows n (c ∷ cs) = omega (arith, grows (n * 10 + digit_value c) cs)

digit_is : (c : ℕ) → 48 ≤ c → c ≤ 57 → is_ascii_digit c ≡ true
digit_is c low high = and_true _ _ (le-leb 48 c low) (le-leb c 57 high)

next_digit : (n c : ℕ) → digit_value c < 10 → n * 10 + digit_value c < 2 ^ 64 → next_whole n c ≡ Some (n * 10 + digit_value c)
next_digit n c digit fits =
    let range = digit_from_value c digit in
    let same : c - 48 ≡ digit_value c = omega (arith, digit_value_digit c range) in
    let small : n * 10 + (c - 48) < 2 ^ 64 = omega arith in
    ap (λ b. if b then Some (n * 10 + (c - 48)) else None) (and_true _ _ (digit_is c range.0 range.1) (lt-ltb (n * 10 + (c - 48)) (2 ^ 64) small))
    ∙ ap (λ d. Some (n * 10 + d)) same

digits_read : (n : ℕ) (ds : List ℕ) → AllDigits 10 ds → digits_value_after 10 n ds < 2 ^ 64 → whole_after n ds ≡ Some (digits_value_after 10 n ds)
digits_read n [] d fits = refl
digits_read n (c ∷ cs) d fits =
    ap (option_and_then (λ m. whole_after m cs)) (next_digit n c d.0 (omega (arith, grows (n * 10 + digit_value c) cs, fits)))
    ∙ digits_read (n * 10 + digit_value c) cs d.1 fits

-- a number of 64 bits
pub whole_read : (n : ℕ) → n < 2 ^ 64 → whole_of (decimal n) ≡ Some n
whole_read n small =
    let numeral = decimal_is_IsNumeral n small in
    digits_read 0 (decimal n) numeral.0.1 (subst (λ m. m < 2 ^ 64) (sym numeral.1) small) ∙ ap Some numeral.1

-- a number of 32 bits
pub small_read : (n : ℕ) → n < 2 ^ 32 → small_of (decimal n) ≡ Some n
small_read n small = ap (option_and_then if_small) (whole_read n (small_is_whole n small)) ∙ ap (λ b. if b then Some n else None) (lt-ltb n (2 ^ 32) small)

digits_ascii : (ds : List ℕ) → AllDigits 10 ds → list_all is_ascii_digit ds ≡ true
digits_ascii [] d = refl
digits_ascii (c ∷ cs) d = let range = digit_from_value c d.0 in and_true _ _ (digit_is c range.0 range.1) (digits_ascii cs d.1)

number_is : (n : ℕ) (ds : List ℕ) → AllDigits 10 ds → number_after n ds ≡ digits_value_after 10 n ds
number_is n [] d = refl
number_is n (c ∷ cs) d =
    let same : c - 48 ≡ digit_value c = omega (arith, digit_value_digit c (digit_from_value c d.0)) in
    ap (λ x. number_after (n * 10 + x) cs) same ∙ number_is (n * 10 + digit_value c) cs d.1

-- a number of a location
place_read : (n : ℕ) → nat_le n 99999 ≡ true → number_of 5 (decimal n) ≡ Some n
place_read n e =
    let small = small_is_whole n (place_small n e) in
    let numeral = decimal_is_IsNumeral n small in
    let few : n < 10 ^ 5 = (let numeral : 99999 < 10 ^ 5 = lit< tt in omega (arith, leb-true n 99999 e)) in
    let some = lt-ltb 0 (length (decimal n)) (decimal_nonempty n small) in
    let most = le-leb (length (decimal n)) 5 (length-decimal-le 5 n (omega arith) few small) in
    ap (λ b. if b then Some (number_after 0 (decimal n)) else None) (and_true _ _ some (and_true _ _ most (digits_ascii (decimal n) numeral.0.1)))
    ∙ ap Some (number_is 0 (decimal n) numeral.0.1 ∙ numeral.1)

side_read : (s : Side) → side_of (side_text s) ≡ Some s
side_read side.L = refl
side_read side.R = refl

parts_read : (a s : ℕ) (d : Side) → nat_le a 99999 ≡ true → nat_le s 99999 ≡ true
    → location_from (decimal a) (decimal s) (side_text d) ≡ Some (record { aisle = a; slot = s; side = d })
parts_read a s d p q = rw (place_read a p, place_read s q, side_read d) refl

parts_found : (a s : ℕ) (d : Side) → a < 2 ^ 64 → s < 2 ^ 64
    → location_of (decimal a ++ 45 ∷ decimal s ++ 45 ∷ side_text d) ≡ location_from (decimal a) (decimal s) (side_text d)
parts_found a s d p q =
    let rest = decimal s ++ 45 ∷ side_text d in
    let after = after_at is_dash (decimal a) 45 rest (decimal_no_dash a p) refl in
    let before = before_at is_dash (decimal a) 45 rest (decimal_no_dash a p) refl in
    ap location_of (append_assoc (decimal a) (45 ∷ decimal s) (45 ∷ side_text d))
    ∙ ap₂ (λ b r. location_from b (before_first is_dash r) (after_first is_dash r)) before after
    ∙ ap₂ (λ b r. location_from (decimal a) b r) (before_at is_dash (decimal s) 45 (side_text d) (decimal_no_dash s q) refl)
    (after_at is_dash (decimal s) 45 (side_text d) (decimal_no_dash s q) refl)

-- a location
pub location_read : (l : Location) → is_plain_location l ≡ true → location_of (location_text l) ≡ Some l
location_read l e =
    let parts = both (nat_le l.aisle 99999) (nat_le l.slot 99999) e in
    parts_found l.aisle l.slot l.side (small_is_whole l.aisle (place_small l.aisle parts.0)) (small_is_whole l.slot (place_small l.slot parts.1))
    ∙ parts_read l.aisle l.slot l.side parts.0 parts.1

-- a name
pub name_read : (name : List ℕ) → is_name name ≡ true → name_in name ≡ Some name
name_read name e = ap (λ b. if b then Some name else None) e

-- names
pub names_read : (names : List (List ℕ)) → list_all is_name names ≡ true → names_in names ≡ Some names
names_read [] e = refl
names_read (name ∷ names) e =
    let parts = both (is_name name) (list_all is_name names) e in
    rw (name_read name parts.0, names_read names parts.1) refl

quantity_read : (n : ℕ) → is_plain_quantity n ≡ true → small_of (decimal n) ≡ Some n
quantity_read n e = small_read n (quantity_small n e)

u32_read : (n : ℕ) → nat_lt n (2 ^ 32) ≡ true → small_of (decimal n) ≡ Some n
u32_read n e = small_read n (ltb-true n (2 ^ 32) e)

u64_read : (n : ℕ) → nat_lt n (2 ^ 64) ≡ true → whole_of (decimal n) ≡ Some n
u64_read n e = whole_read n (ltb-true n (2 ^ 64) e)

-- a command
pub command_read : (c : Command) → is_plain c ≡ true → has_names c ≡ true → command_in (command_word c ∷ command_arguments c) ≡ Some c
command_read (command.Submit w orders) p n =
    let names = both _ _ n in
    let few : nat_le (length orders) 100 ≡ true = p in
    rw (few, name_read w names.0, names_read orders names.1) refl
command_read (command.Allot w) p n = rw (name_read w n) refl
command_read (command.Release w) p n = rw (name_read w n) refl
command_read (command.Cancel w) p n = rw (name_read w n) refl
command_read (command.Pick w order location quantity) p n =
    let names = both _ _ n in
    let bounds = both _ _ p in
    rw (name_read w names.0, name_read order names.1, location_read location bounds.0, quantity_read quantity bounds.1) refl
command_read (command.Missing w order location quantity) p n =
    let names = both _ _ n in
    let bounds = both _ _ p in
    rw (name_read w names.0, name_read order names.1, location_read location bounds.0, quantity_read quantity bounds.1) refl
command_read (command.Receive location article quantity) p n =
    let bounds = both _ _ p in
    rw (location_read location bounds.0, name_read article n, quantity_read quantity bounds.1) refl

state_read : (s : WaveState) → state_of (wave_state_text s) ≡ Some s
state_read wave.Submitted = refl
state_read wave.Allotted = refl
state_read wave.Released = refl
state_read wave.Cancelled = refl
state_read wave.Done = refl

-- a reply
pub reply_read : (r : Reply) → is_line_reply r ≡ true → reply_in (reply_word r ∷ reply_told r) ≡ Some r
reply_read reply.Submitted h = refl
reply_read reply.Allotted h = refl
reply_read reply.Released h = refl
reply_read reply.Cancelled h = refl
reply_read reply.Picked h = refl
reply_read reply.Received h = refl
reply_read (reply.Refilled units) h = rw (quantity_read units h) refl
reply_read (reply.Lost article units) h = let parts = both _ _ h in rw (name_read article parts.0, quantity_read units parts.1) refl
reply_read reply.NoOrders h = refl
reply_read (reply.WaveFull orders) h = rw (u32_read orders h) refl
reply_read reply.KnownWave h = refl
reply_read (reply.UnknownOrder order) h = rw (name_read order h) refl
reply_read (reply.OrderTwice order) h = rw (name_read order h) refl
reply_read (reply.OrderTaken order w) h = let parts = both _ _ h in rw (name_read order parts.0, name_read w parts.1) refl
reply_read (reply.OverCart order units) h = let parts = both _ _ h in rw (name_read order parts.0, u32_read units parts.1) refl
reply_read reply.UnknownWave h = refl
reply_read (reply.WrongState state) h = rw (state_read state) refl
reply_read (reply.Short article wanted free) h =
    let parts = both _ _ h in
    let numbers = both _ _ parts.1 in
    rw (name_read article parts.0, u64_read wanted numbers.0, u64_read free numbers.1) refl
reply_read reply.Picking h = refl
reply_read (reply.NotHeld location) h = rw (location_read location h) refl
reply_read (reply.TooMuch held) h = rw (u32_read held h) refl
reply_read reply.NoRow h = refl
reply_read (reply.OtherArticle article) h = rw (name_read article h) refl
reply_read (reply.TooMany on_hand) h = rw (u32_read on_hand h) refl
