-- The text of a made layout is read again with a line feed after it.
use Rattle.std.proofs.Common.{◌≡◌, ◌∙◌, refl, sym, ap, subst, ◌⊎◌, ⊎_elim, ℕ, zero, suc, ◌-◌, ◌<◌, ◌≤◌, ◌==◌, ◌^◌, arith, lit<, Bool, true, false, List, []}
use Rattle.std.proofs.Common.{◌∷◌, ◌++◌, codes, append_assoc, replicate, Ok, None}
use Rattle.std.specs.Prelude.{if◌then◌else◌, Option, slice_index}
use Rattle.std.specs.Fmt.{decimal}
use Rattle.std.specs.List.{list_all}
use Rattle.std.specs.Option.{ok_or, option_and_then}
use Rattle.std.specs.Str.{IsUtf8, is_utf8}
use Rattle.std.proofs.lemmas.Str.{IsUtf8-append, IsUtf8-from_ascii, IsUtf8-from_is_utf8, is_utf8-from_IsUtf8}
use Rattle.json.specs.Json as json
use Rattle.json.specs.Lex.{Lexeme, between, fresh, lex, punctuate, token}
use Rattle.json.specs.Text.{content}
use Rattle.json.specs.Token.{number}
use Rattle.json.specs.Word.{after_number, ends_word}
use Rattle.json.proofs.Printed.Decimals.{IsNumber-decimal}
use Rattle.json.proofs.Printed.Numbers.{lex-number}
use Rattle.json.specs.Print.{IsNumber}
use Rattle.serde_json.specs.Data.{Data}
use Rattle.serde_json.specs.Read.{max_depth, of_json, read}
use Rattle.wp_layout.specs.LayoutFile.{layout_said, value_said}
use Rattle.wp_layout.specs.LayoutText.{are_same, first_text, is_even, layout_text, second_text}
use Rattle.wp_layout.specs.declared.fault.LayoutFault.TheVariants as fault
use Rattle.wp_model.specs.Journal.{line}
use Rattle.wp_model.specs.Outcomes.{and_then}
use Rattle.wp_model.specs.Limits.{most_aisles}
use Rattle.wp_model.specs.Warehouse.{IsUpTo, Layout, spacing_after}
use Rattle.wp_make.specs.Texts.{made_layout}

-- what is lexed alike is lexed alike after a number
after_number_too : (digits rest other : List ℕ) → IsNumber digits → ends_word rest ≡ true → ends_word other ≡ true → lex between rest ≡ lex between other
    → lex between (digits ++ rest) ≡ lex between (digits ++ other)
after_number_too digits rest other is ends ends' same =
    lex-number digits rest is ends ∙ ap (λ (ls : List Lexeme). token (number digits) ∷ ls) same ∙ sym (lex-number digits other is ends')

-- and after each of the words of a layout
after_aisles : (rest other : List ℕ) → lex between rest ≡ lex between other
    → lex between (codes "{\"aisles\":" ++ rest) ≡ lex between (codes "{\"aisles\":" ++ other)
unfolding lex content
after_aisles rest other same = ap (λ (ls : List Lexeme). lex between (codes "{\"aisles\":") ++ ls) same

after_clearance : (rest other : List ℕ) → lex between rest ≡ lex between other
    → lex between (codes ",\"clearance\":" ++ rest) ≡ lex between (codes ",\"clearance\":" ++ other)
unfolding lex content
after_clearance rest other same = ap (λ (ls : List Lexeme). lex between (codes ",\"clearance\":") ++ ls) same

after_depot : (rest other : List ℕ) → lex between rest ≡ lex between other
    → lex between (codes ",\"depot\":" ++ rest) ≡ lex between (codes ",\"depot\":" ++ other)
unfolding lex content
after_depot rest other same = ap (λ (ls : List Lexeme). lex between (codes ",\"depot\":") ++ ls) same

after_pitch : (rest other : List ℕ) → lex between rest ≡ lex between other
    → lex between (codes ",\"pitch\":" ++ rest) ≡ lex between (codes ",\"pitch\":" ++ other)
unfolding lex content
after_pitch rest other same = ap (λ (ls : List Lexeme). lex between (codes ",\"pitch\":") ++ ls) same

after_slots : (rest other : List ℕ) → lex between rest ≡ lex between other
    → lex between (codes ",\"slots\":" ++ rest) ≡ lex between (codes ",\"slots\":" ++ other)
unfolding lex content
after_slots rest other same = ap (λ (ls : List Lexeme). lex between (codes ",\"slots\":") ++ ls) same

after_spacing : (rest other : List ℕ) → lex between rest ≡ lex between other
    → lex between (codes ",\"spacing\":" ++ rest) ≡ lex between (codes ",\"spacing\":" ++ other)
unfolding lex content
after_spacing rest other same = ap (λ (ls : List Lexeme). lex between (codes ",\"spacing\":") ++ ls) same

after_end : (rest other : List ℕ) → lex between rest ≡ lex between other
    → lex between (codes ",\"end\":\"front\",\"pitch\":" ++ rest) ≡ lex between (codes ",\"end\":\"front\",\"pitch\":" ++ other)
unfolding lex content
after_end rest other same = ap (λ (ls : List Lexeme). lex between (codes ",\"end\":\"front\",\"pitch\":") ++ ls) same

after_spacings : (rest other : List ℕ) → lex between rest ≡ lex between other
    → lex between (codes ",\"spacings\":[],\"version\":" ++ rest) ≡ lex between (codes ",\"spacings\":[],\"version\":" ++ other)
unfolding lex content
after_spacings rest other same = ap (λ (ls : List Lexeme). lex between (codes ",\"spacings\":[],\"version\":") ++ ls) same

one_digit : IsNumber (codes "1")
unfolding after_number
one_digit = refl

two_digit : IsNumber (codes "2")
unfolding after_number
two_digit = refl

at_end : lex between (codes ",\"version\":" ++ (codes "1" ++ codes "}")) ≡ lex between (codes ",\"version\":" ++ (codes "1" ++ codes "}\n"))
unfolding lex content
at_end =
    ap (λ (ls : List Lexeme). lex between (codes ",\"version\":") ++ ls) (after_number_too (codes "1") (codes "}") (codes "}\n") one_digit refl refl refl)

at_second_end : lex between (codes "2" ++ codes "}") ≡ lex between (codes "2" ++ codes "}\n")
unfolding lex content
at_second_end = after_number_too (codes "2") (codes "}") (codes "}\n") two_digit refl refl refl

-- the text of version 1, in the order in which it is read, with a tail after it
abbrev text_before : Layout → List ℕ → List ℕ
text_before layout tail =
    codes "{\"aisles\":" ++ (decimal layout.aisles
    ++ (codes ",\"clearance\":" ++ (decimal layout.clearance
    ++ (codes ",\"depot\":" ++ (decimal layout.depot
    ++ (codes ",\"pitch\":" ++ (decimal layout.pitch
    ++ (codes ",\"slots\":" ++ (decimal layout.slots
    ++ (codes ",\"spacing\":" ++ (decimal (spacing_after layout 1)
    ++ (codes ",\"version\":" ++ (codes "1" ++ tail)))))))))))))

regrouped : (layout : Layout) → first_text layout ≡ text_before layout (codes "}")
regrouped layout = simp append_assoc

regrouped_line : (layout : Layout) → line (first_text layout) ≡ text_before layout (codes "}\n")
regrouped_line layout = simp append_assoc

-- the numbers of a layout are small
pub record HasNumbers (layout : Layout) : Type 0 where
  pub aisles : layout.aisles < 2 ^ 64
  pub slots : layout.slots < 2 ^ 64
  pub pitch : layout.pitch < 2 ^ 64
  pub clearance : layout.clearance < 2 ^ 64
  pub spacing : spacing_after layout 1 < 2 ^ 64
  pub depot : layout.depot < 2 ^ 64

lexed_alike : (layout : Layout) → HasNumbers layout → lex between (text_before layout (codes "}")) ≡ lex between (text_before layout (codes "}\n"))
lexed_alike l has =
    after_aisles _ _ (after_number_too (decimal l.aisles) _ _ (IsNumber-decimal l.aisles has.aisles) refl refl
    (after_clearance _ _ (after_number_too (decimal l.clearance) _ _ (IsNumber-decimal l.clearance has.clearance) refl refl
    (after_depot _ _ (after_number_too (decimal l.depot) _ _ (IsNumber-decimal l.depot has.depot) refl refl
    (after_pitch _ _ (after_number_too (decimal l.pitch) _ _ (IsNumber-decimal l.pitch has.pitch) refl refl
    (after_slots _ _ (after_number_too (decimal l.slots) _ _ (IsNumber-decimal l.slots has.slots) refl refl
    (after_spacing _ _ (after_number_too (decimal (spacing_after l 1)) _ _ (IsNumber-decimal (spacing_after l 1) has.spacing) refl refl at_end)))))))))))

-- the text of version 2 of a layout of one aisle with its depot in front
abbrev alone_before : Layout → List ℕ → List ℕ
alone_before layout tail =
    codes "{\"aisles\":" ++ (decimal layout.aisles
    ++ (codes ",\"clearance\":" ++ (decimal layout.clearance
    ++ (codes ",\"depot\":" ++ (decimal layout.depot
    ++ (codes ",\"end\":\"front\",\"pitch\":" ++ (decimal layout.pitch
    ++ (codes ",\"slots\":" ++ (decimal layout.slots
    ++ (codes ",\"spacings\":[],\"version\":" ++ (codes "2" ++ tail)))))))))))

-- that layout: the made one of one aisle
abbrev alone : Layout
alone = made_layout 1

alone_regrouped : second_text alone ≡ alone_before alone (codes "}")
alone_regrouped = simp append_assoc

alone_regrouped_line : line (second_text alone) ≡ alone_before alone (codes "}\n")
alone_regrouped_line = simp append_assoc

alone_alike : lex between (alone_before alone (codes "}")) ≡ lex between (alone_before alone (codes "}\n"))
alone_alike =
    after_aisles _ _ (after_number_too (decimal 1) _ _ (IsNumber-decimal 1 (lit< tt)) refl refl
    (after_clearance _ _ (after_number_too (decimal 1) _ _ (IsNumber-decimal 1 (lit< tt)) refl refl
    (after_depot _ _ (after_number_too (decimal 1) _ _ (IsNumber-decimal 1 (lit< tt)) refl refl
    (after_end _ _ (after_number_too (decimal 2) _ _ (IsNumber-decimal 2 (lit< tt)) refl refl
    (after_slots _ _ (after_number_too (decimal 40) _ _ (IsNumber-decimal 40 (lit< tt)) refl refl
    (after_spacings _ _ at_second_end))))))))))

-- what is lexed alike is read alike
read_alike : (text other : List ℕ) → lex between text ≡ lex between other → read text ≡ read other
read_alike text other same =
    ap (λ (ls : List Lexeme). option_and_then of_json (option_and_then (λ p. json.if_last p.0 p.1) (json.value max_depth (punctuate fresh ls)))) same

said_text : (b : Bool) (value : Option Data) (layout : Layout) → and_then (ok_or (if b then value else None) fault.NotJson) value_said ≡ Ok layout → b ≡ true
said_text true value layout said = refl
said_text false value layout said = absurd (cc said)

feed_text : IsUtf8 (10 ∷ [])
feed_text = IsUtf8-from_ascii (10 ∷ []) (λ i. small i)
  where
    small : (i : ℕ) → slice_index (10 ∷ []) i < 128
    small zero = omega arith
    small (suc i) = omega arith

text_with_feed : (bytes : List ℕ) → is_utf8 bytes ≡ true → is_utf8 (line bytes) ≡ true
text_with_feed bytes is =
    is_utf8-from_IsUtf8 (line bytes) (IsUtf8-append bytes (10 ∷ []) (IsUtf8-from_is_utf8 bytes is) feed_text)

-- a text that is read as a layout is read as it with a line feed, too, where that changes nothing of what is lexed
line_said : (bytes : List ℕ) (layout : Layout) → lex between bytes ≡ lex between (line bytes) → layout_said bytes ≡ Ok layout
    → layout_said (line bytes) ≡ Ok layout
line_said bytes layout same said =
    let text = said_text (is_utf8 bytes) (read bytes) layout said in
    let valued : and_then (ok_or (read bytes) fault.NotJson) value_said ≡ Ok layout = rw text at said in
    rw (text_with_feed bytes text, ← read_alike bytes (line bytes) same) valued

-- as many equal lengths as you like are the same
same_made : (n : ℕ) → list_all (λ other. other == 5) (replicate n 5) ≡ true
same_made zero = refl
same_made (suc n) = same_made n

-- a made layout has version 1 where it has two aisles or more, and else version 2
pub made_even : (aisles : ℕ) → 2 ≤ aisles → is_even (made_layout aisles) ≡ true
made_even aisles more =
    let all : aisles - 1 ≡ suc (aisles - 2) = omega (arith, more) in
    ap (λ n. are_same (replicate n 5)) all ∙ same_made (aisles - 2)

pub made_spacing : (aisles : ℕ) → 2 ≤ aisles → spacing_after (made_layout aisles) 1 ≡ 5
made_spacing aisles more =
    let all : aisles - 1 ≡ suc (aisles - 2) = omega (arith, more) in ap (λ n. slice_index (0 ∷ replicate n 5) 1) all

-- the text of a made layout that is read as it is read as it with a line feed, too
pub made_said : (aisles : ℕ) → IsUpTo most_aisles aisles → layout_said (layout_text (made_layout aisles)) ≡ Ok (made_layout aisles) →
    layout_said (line (layout_text (made_layout aisles))) ≡ Ok (made_layout aisles)
made_said aisles within said = ⊎_elim (λ one. alone_said one said) (λ more. together more said) (some aisles within.0)
  where
    some : (n : ℕ) → 1 ≤ n → (n ≡ 1) ⊎ (2 ≤ n)
    some n low = grind arith

    alone_said : aisles ≡ 1 → layout_said (layout_text (made_layout aisles)) ≡ Ok (made_layout aisles) →
        layout_said (line (layout_text (made_layout aisles))) ≡ Ok (made_layout aisles)
    alone_said one is = subst (λ (n : ℕ). layout_said (line (layout_text (made_layout n))) ≡ Ok (made_layout n)) (sym one)
        (line_said (second_text alone) alone (ap (lex between) alone_regrouped ∙ alone_alike ∙ ap (lex between) (sym alone_regrouped_line))
        (subst (λ (n : ℕ). layout_said (layout_text (made_layout n)) ≡ Ok (made_layout n)) one is))

    together : 2 ≤ aisles → layout_said (layout_text (made_layout aisles)) ≡ Ok (made_layout aisles) →
        layout_said (line (layout_text (made_layout aisles))) ≡ Ok (made_layout aisles)
    together more is =
        let layout = made_layout aisles in
        let first : layout_text layout ≡ first_text layout = ap (λ (b : Bool). if b then first_text layout else second_text layout) (made_even aisles more) in
        let has : HasNumbers layout = record {
          aisles = omega (arith, within);
          slots = omega arith;
          pitch = omega arith;
          clearance = omega arith;
          spacing = let w = made_spacing aisles more in omega (arith, w);
          depot = omega (arith, within);
        } in
        ap (λ (t : List ℕ). layout_said (line t)) first
        ∙ line_said (first_text layout) layout (ap (lex between) (regrouped layout) ∙ lexed_alike layout has ∙ ap (lex between) (sym (regrouped_line layout)))
        (ap layout_said (sym first) ∙ is)
