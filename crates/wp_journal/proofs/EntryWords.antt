-- An entry's text as words.
use Rattle.std.proofs.Common.{◌≡◌, ◌∙◌, refl, sym, ap, ap₂, ℕ, ◌<◌, ◌^◌, true, List, [], ◌∷◌, ◌++◌, append_assoc, arith, leb-true, ltb-true, lit<}
use Rattle.std.specs.Prelude.{codes, nat_le, nat_lt}
use Rattle.std.specs.Fmt.{decimal}
use Rattle.std.specs.List.{flat_map, list_all}
use Rattle.std.proofs.lemmas.Grind.{flat_map-append}
use Rattle.std.proofs.lemmas.List.{append-nil}
use Rattle.wp_model.specs.Journal.{after_space, command_text, entry_text, location_text, number_after_space, reply_text, wave_state_text}
use Rattle.wp_model.specs.Limits.{most_quantity}
use Rattle.wp_model.specs.Plain.{is_plain, is_plain_quantity}
use Rattle.wp_model.specs.declared.command.Command.{Command}
use Rattle.wp_model.specs.declared.command.Command.TheVariants as command
use Rattle.wp_model.specs.declared.entry.Entry.{Entry}
use Rattle.wp_model.specs.declared.reply.Reply.{Reply}
use Rattle.wp_model.specs.declared.reply.Reply.TheVariants as reply
use Rattle.wp_model.specs.declared.reply.WaveState.{WaveState}
use Rattle.wp_model.specs.declared.reply.WaveState.TheVariants as wave
use Rattle.wp_journal.specs.Grammar.{is_line_reply}
use Rattle.wp_model.specs.Plain.{has_names}
use Rattle.wp_journal.specs.Splits.{Word}
use Rattle.wp_journal.proofs.Phrases.{both}
use Rattle.wp_journal.proofs.WordBytes.{and_true, decimal_plain, is_plain_word, location_plain, name_plain, names_plain, small_is_whole}

-- the word of a command
abbrev pub command_word : Command → Word
command_word (command.Submit w orders) = codes "submit"
command_word (command.Allot w) = codes "allot"
command_word (command.Release w) = codes "release"
command_word (command.Cancel w) = codes "cancel"
command_word (command.Pick w order location quantity) = codes "pick"
command_word (command.Missing w order location quantity) = codes "missing"
command_word (command.Receive location article quantity) = codes "receive"

-- what stands after it
abbrev pub command_arguments : Command → List Word
command_arguments (command.Submit w orders) = w ∷ orders
command_arguments (command.Allot w) = w ∷ []
command_arguments (command.Release w) = w ∷ []
command_arguments (command.Cancel w) = w ∷ []
command_arguments (command.Pick w order location quantity) = w ∷ order ∷ location_text location ∷ decimal quantity ∷ []
command_arguments (command.Missing w order location quantity) = w ∷ order ∷ location_text location ∷ decimal quantity ∷ []
command_arguments (command.Receive location article quantity) = location_text location ∷ article ∷ decimal quantity ∷ []

-- words with a space before each but the first
abbrev pub phrase : Word → List Word → List ℕ
phrase first rest = first ++ flat_map after_space rest

alone : (first : Word) → first ≡ phrase first []
alone first = sym (append-nil first)

more_words : {text : List ℕ} (first : Word) (rest : List Word) (word : Word) (words : List Word) → text ≡ phrase first rest
    → text ++ after_space (phrase word words) ≡ phrase first (rest ++ word ∷ words)
more_words first rest word words so =
    ap (λ t. t ++ after_space (phrase word words)) so
    ∙ (append_assoc first (flat_map after_space rest) (after_space (phrase word words))
    ∙ ap (λ t. first ++ t) (sym (flat_map-append after_space rest (word ∷ words))))

one_more : {text : List ℕ} (first : Word) (rest : List Word) (word : Word) → text ≡ phrase first rest
    → text ++ after_space word ≡ phrase first (rest ++ word ∷ [])
one_more {text} first rest word so = ap (λ t. text ++ after_space t) (alone word) ∙ more_words first rest word [] so

pub command_phrase : (c : Command) → command_text c ≡ phrase (command_word c) (command_arguments c)
command_phrase (command.Submit w orders) = refl
command_phrase (command.Allot w) = one_more (codes "allot") [] w (alone (codes "allot"))
command_phrase (command.Release w) = one_more (codes "release") [] w (alone (codes "release"))
command_phrase (command.Cancel w) = one_more (codes "cancel") [] w (alone (codes "cancel"))
command_phrase (command.Pick w order location quantity) =
    one_more (codes "pick") (w ∷ order ∷ location_text location ∷ []) (decimal quantity)
    (one_more (codes "pick") (w ∷ order ∷ []) (location_text location)
    (one_more (codes "pick") (w ∷ []) order (one_more (codes "pick") [] w (alone (codes "pick")))))
command_phrase (command.Missing w order location quantity) =
    one_more (codes "missing") (w ∷ order ∷ location_text location ∷ []) (decimal quantity)
    (one_more (codes "missing") (w ∷ order ∷ []) (location_text location)
    (one_more (codes "missing") (w ∷ []) order (one_more (codes "missing") [] w (alone (codes "missing")))))
command_phrase (command.Receive location article quantity) =
    one_more (codes "receive") (location_text location ∷ article ∷ []) (decimal quantity)
    (one_more (codes "receive") (location_text location ∷ []) article (one_more (codes "receive") [] (location_text location) (alone (codes "receive"))))

-- the first word of a reply
abbrev pub reply_word : Reply → Word
reply_word reply.Submitted = codes "submitted"
reply_word reply.Allotted = codes "allotted"
reply_word reply.Released = codes "released"
reply_word reply.Cancelled = codes "cancelled"
reply_word reply.Picked = codes "picked"
reply_word reply.Received = codes "received"
reply_word (reply.Refilled units) = codes "refilled"
reply_word (reply.Lost article units) = codes "lost"
reply_word reply.NoOrders = codes "refused"
reply_word (reply.WaveFull orders) = codes "refused"
reply_word reply.KnownWave = codes "refused"
reply_word (reply.UnknownOrder order) = codes "refused"
reply_word (reply.OrderTwice order) = codes "refused"
reply_word (reply.OrderTaken order w) = codes "refused"
reply_word (reply.OverCart order units) = codes "refused"
reply_word reply.UnknownWave = codes "refused"
reply_word (reply.WrongState state) = codes "refused"
reply_word (reply.Short article wanted free) = codes "refused"
reply_word reply.Picking = codes "refused"
reply_word (reply.NotHeld location) = codes "refused"
reply_word (reply.TooMuch held) = codes "refused"
reply_word reply.NoRow = codes "refused"
reply_word (reply.OtherArticle article) = codes "refused"
reply_word (reply.TooMany on_hand) = codes "refused"

-- what stands after it
abbrev pub reply_told : Reply → List Word
reply_told reply.Submitted = []
reply_told reply.Allotted = []
reply_told reply.Released = []
reply_told reply.Cancelled = []
reply_told reply.Picked = []
reply_told reply.Received = []
reply_told (reply.Refilled units) = decimal units ∷ []
reply_told (reply.Lost article units) = article ∷ decimal units ∷ []
reply_told reply.NoOrders = codes "no-orders" ∷ []
reply_told (reply.WaveFull orders) = codes "wave-full" ∷ decimal orders ∷ []
reply_told reply.KnownWave = codes "known-wave" ∷ []
reply_told (reply.UnknownOrder order) = codes "unknown-order" ∷ order ∷ []
reply_told (reply.OrderTwice order) = codes "order-twice" ∷ order ∷ []
reply_told (reply.OrderTaken order w) = codes "order-taken" ∷ order ∷ w ∷ []
reply_told (reply.OverCart order units) = codes "over-cart" ∷ order ∷ decimal units ∷ []
reply_told reply.UnknownWave = codes "unknown-wave" ∷ []
reply_told (reply.WrongState state) = codes "wrong-state" ∷ wave_state_text state ∷ []
reply_told (reply.Short article wanted free) = codes "short" ∷ article ∷ decimal wanted ∷ decimal free ∷ []
reply_told reply.Picking = codes "picking" ∷ []
reply_told (reply.NotHeld location) = codes "not-held" ∷ location_text location ∷ []
reply_told (reply.TooMuch held) = codes "too-much" ∷ decimal held ∷ []
reply_told reply.NoRow = codes "no-row" ∷ []
reply_told (reply.OtherArticle article) = codes "other-article" ∷ article ∷ []
reply_told (reply.TooMany on_hand) = codes "too-many" ∷ decimal on_hand ∷ []

pub reply_phrase : (r : Reply) → reply_text r ≡ phrase (reply_word r) (reply_told r)
reply_phrase reply.Submitted = refl
reply_phrase reply.Allotted = refl
reply_phrase reply.Released = refl
reply_phrase reply.Cancelled = refl
reply_phrase reply.Picked = refl
reply_phrase reply.Received = refl
reply_phrase (reply.Refilled units) = one_more (codes "refilled") [] (decimal units) (alone (codes "refilled"))
reply_phrase (reply.Lost article units) = one_more (codes "lost") (article ∷ []) (decimal units) (one_more (codes "lost") [] article (alone (codes "lost")))
reply_phrase reply.NoOrders = refl
reply_phrase (reply.WaveFull orders) = one_more (codes "refused") (codes "wave-full" ∷ []) (decimal orders) refl
reply_phrase reply.KnownWave = refl
reply_phrase (reply.UnknownOrder order) = one_more (codes "refused") (codes "unknown-order" ∷ []) order refl
reply_phrase (reply.OrderTwice order) = one_more (codes "refused") (codes "order-twice" ∷ []) order refl
reply_phrase (reply.OrderTaken order w) = one_more (codes "refused") (codes "order-taken" ∷ order ∷ []) w
    (one_more (codes "refused") (codes "order-taken" ∷ []) order refl)
reply_phrase (reply.OverCart order units) = one_more (codes "refused") (codes "over-cart" ∷ order ∷ []) (decimal units)
    (one_more (codes "refused") (codes "over-cart" ∷ []) order refl)
reply_phrase reply.UnknownWave = refl
reply_phrase (reply.WrongState state) = one_more (codes "refused") (codes "wrong-state" ∷ []) (wave_state_text state) refl
reply_phrase (reply.Short article wanted free) =
    one_more (codes "refused") (codes "short" ∷ article ∷ decimal wanted ∷ []) (decimal free)
    (one_more (codes "refused") (codes "short" ∷ article ∷ []) (decimal wanted) (one_more (codes "refused") (codes "short" ∷ []) article refl))
reply_phrase reply.Picking = refl
reply_phrase (reply.NotHeld location) = one_more (codes "refused") (codes "not-held" ∷ []) (location_text location) refl
reply_phrase (reply.TooMuch held) = one_more (codes "refused") (codes "too-much" ∷ []) (decimal held) refl
reply_phrase reply.NoRow = refl
reply_phrase (reply.OtherArticle article) = one_more (codes "refused") (codes "other-article" ∷ []) article refl
reply_phrase (reply.TooMany on_hand) = one_more (codes "refused") (codes "too-many" ∷ []) (decimal on_hand) refl

-- what stands after the desk
abbrev pub sentence_words : Command → Reply → List Word
sentence_words c r = (command_word c ∷ command_arguments c) ++ codes "->" ∷ (reply_word r ∷ reply_told r)

-- an entry's text is that of its words
pub entry_phrase : (e : Entry) → entry_text e ≡ phrase (decimal e.number) (decimal e.desk ∷ sentence_words e.command e.reply)
entry_phrase e =
    let number = decimal e.number in
    let desk = decimal e.desk in
    let asked = phrase (command_word e.command) (command_arguments e.command) in
    let answer = phrase (reply_word e.reply) (reply_told e.reply) in
    let first = one_more number [] desk (alone number) in
    let second = more_words number (desk ∷ []) (command_word e.command) (command_arguments e.command) first in
    ap₂ (λ c r. number ++ number_after_space e.desk ++ after_space c ++ codes " -> " ++ r) (command_phrase e.command) (reply_phrase e.reply)
    ∙ (append_assoc (number ++ number_after_space e.desk ++ after_space asked) (codes " -> ") answer
    ∙ more_words number (desk ∷ command_word e.command ∷ command_arguments e.command) (codes "->") (reply_word e.reply ∷ reply_told e.reply) second)

-- a quantity is small
pub quantity_small : (n : ℕ) → is_plain_quantity n ≡ true → n < 2 ^ 32
quantity_small n e = let numeral : most_quantity < 2 ^ 32 = lit< tt in omega (arith, leb-true n most_quantity (both (nat_le 1 n) (nat_le n most_quantity) e).1)

quantity_plain : (n : ℕ) → is_plain_quantity n ≡ true → is_plain_word (decimal n) ≡ true
quantity_plain n e = decimal_plain n (small_is_whole n (quantity_small n e))

u32_plain : (n : ℕ) → nat_lt n (2 ^ 32) ≡ true → is_plain_word (decimal n) ≡ true
u32_plain n e = decimal_plain n (small_is_whole n (ltb-true n (2 ^ 32) e))

u64_plain : (n : ℕ) → nat_lt n (2 ^ 64) ≡ true → is_plain_word (decimal n) ≡ true
u64_plain n e = decimal_plain n (ltb-true n (2 ^ 64) e)

one_plain : (a : Word) → is_plain_word a ≡ true → list_all is_plain_word (a ∷ []) ≡ true
one_plain a e = and_true _ _ e refl

two_plain : (a b : Word) → is_plain_word a ≡ true → is_plain_word b ≡ true → list_all is_plain_word (a ∷ b ∷ []) ≡ true
two_plain a b e f = and_true _ _ e (one_plain b f)

three_plain : (a b c : Word) → is_plain_word a ≡ true → is_plain_word b ≡ true → is_plain_word c ≡ true → list_all is_plain_word (a ∷ b ∷ c ∷ []) ≡ true
three_plain a b c e f g = and_true _ _ e (two_plain b c f g)

four_plain : (a b c d : Word) → is_plain_word a ≡ true → is_plain_word b ≡ true → is_plain_word c ≡ true → is_plain_word d ≡ true
    → list_all is_plain_word (a ∷ b ∷ c ∷ d ∷ []) ≡ true
four_plain a b c d e f g h = and_true _ _ e (three_plain b c d f g h)

-- the words of a command have the bytes of names
pub command_plain : (c : Command) → is_plain c ≡ true → has_names c ≡ true → list_all is_plain_word (command_word c ∷ command_arguments c) ≡ true
command_plain (command.Submit w orders) p n = let names = both _ _ n in and_true _ _ (name_plain w names.0) (names_plain orders names.1)
command_plain (command.Allot w) p n = one_plain w (name_plain w n)
command_plain (command.Release w) p n = one_plain w (name_plain w n)
command_plain (command.Cancel w) p n = one_plain w (name_plain w n)
command_plain (command.Pick w order location quantity) p n =
    let names = both _ _ n in
    let bounds = both _ _ p in
    four_plain w order (location_text location) (decimal quantity) (name_plain w names.0) (name_plain order names.1) (location_plain location bounds.0)
    (quantity_plain quantity bounds.1)
command_plain (command.Missing w order location quantity) p n =
    let names = both _ _ n in
    let bounds = both _ _ p in
    four_plain w order (location_text location) (decimal quantity) (name_plain w names.0) (name_plain order names.1) (location_plain location bounds.0)
    (quantity_plain quantity bounds.1)
command_plain (command.Receive location article quantity) p n =
    let bounds = both _ _ p in
    three_plain (location_text location) article (decimal quantity) (location_plain location bounds.0) (name_plain article n) (quantity_plain quantity bounds.1)

state_plain : (s : WaveState) → is_plain_word (wave_state_text s) ≡ true
state_plain wave.Submitted = refl
state_plain wave.Allotted = refl
state_plain wave.Released = refl
state_plain wave.Cancelled = refl
state_plain wave.Done = refl

-- so have those of a reply
pub reply_plain : (r : Reply) → is_line_reply r ≡ true → list_all is_plain_word (reply_word r ∷ reply_told r) ≡ true
reply_plain reply.Submitted h = refl
reply_plain reply.Allotted h = refl
reply_plain reply.Released h = refl
reply_plain reply.Cancelled h = refl
reply_plain reply.Picked h = refl
reply_plain reply.Received h = refl
reply_plain (reply.Refilled units) h = one_plain (decimal units) (quantity_plain units h)
reply_plain (reply.Lost article units) h = let parts = both _ _ h in
    two_plain article (decimal units) (name_plain article parts.0) (quantity_plain units parts.1)
reply_plain reply.NoOrders h = refl
reply_plain (reply.WaveFull orders) h = one_plain (decimal orders) (u32_plain orders h)
reply_plain reply.KnownWave h = refl
reply_plain (reply.UnknownOrder order) h = one_plain order (name_plain order h)
reply_plain (reply.OrderTwice order) h = one_plain order (name_plain order h)
reply_plain (reply.OrderTaken order w) h = let parts = both _ _ h in two_plain order w (name_plain order parts.0) (name_plain w parts.1)
reply_plain (reply.OverCart order units) h = let parts = both _ _ h in
    two_plain order (decimal units) (name_plain order parts.0) (u32_plain units parts.1)
reply_plain reply.UnknownWave h = refl
reply_plain (reply.WrongState state) h = one_plain (wave_state_text state) (state_plain state)
reply_plain (reply.Short article wanted free) h =
    let parts = both _ _ h in
    let numbers = both _ _ parts.1 in
    three_plain article (decimal wanted) (decimal free) (name_plain article parts.0) (u64_plain wanted numbers.0) (u64_plain free numbers.1)
reply_plain reply.Picking h = refl
reply_plain (reply.NotHeld location) h = one_plain (location_text location) (location_plain location h)
reply_plain (reply.TooMuch held) h = one_plain (decimal held) (u32_plain held h)
reply_plain reply.NoRow h = refl
reply_plain (reply.OtherArticle article) h = one_plain article (name_plain article h)
reply_plain (reply.TooMany on_hand) h = one_plain (decimal on_hand) (u32_plain on_hand h)
