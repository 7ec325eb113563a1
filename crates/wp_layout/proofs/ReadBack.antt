-- The value of a layout says the layout, and its text is the one stated.
use Rattle.std.proofs.Common.{◌≡◌, ℕ, suc, ◌+◌, ◌-◌, ◌≤◌, ◌==◌, Bool, true, false, List, [], ◌∷◌, ◌++◌, All, length, map, replicate, max, Ok, Some, refl, arith}
use Rattle.std.proofs.Common.{IsUtf8, ap, sym, ◌∙◌, codes}
use Rattle.std.proofs.Common.{append_assoc, if◌then◌else◌}
use Rattle.std.specs.Fmt.{decimal, digits}
use Rattle.std.specs.List.{flat_map, list_all}
use Rattle.std.proofs.lemmas.Bool.{and_from, and_parts, eq-eqb, eqb-true}
use Rattle.std.proofs.lemmas.Str.{is_utf8-from_IsUtf8}
use Rattle.serde_json.proofs.OnLiterals.{serde_json_on_literals}
use Rattle.serde_json.specs.Data.{Data, depth, items_depth}
use Rattle.serde_json.specs.Read.{read}
use Rattle.serde_json.specs.View.{items_of}
use Rattle.serde_json.specs.Written.{compact_text, has_float, items_have_float, items_text}
use Rattle.wp_model.specs.Warehouse.{End, IsLayout, IsUpTo, Layout, even_layout, spacing_after}
use Rattle.wp_model.specs.Warehouse.End.{at_front, at_back}
use Rattle.wp_model.specs.Limits.{greatest_length, most_aisles, most_slots}
use Rattle.wp_graph.specs.Sites.{is_end}
use Rattle.wp_layout.specs.LayoutFile.{is_ranged, is_whole, layout_said, ranged, value_said, values_of, whole_or_zero}
use Rattle.wp_layout.specs.LayoutText.{after_comma, are_same, end_name, first_text, first_value, is_even, layout_text, layout_value, listed, number_value}
use Rattle.wp_layout.specs.LayoutText.{second_text, second_value}
use Rattle.wp_layout.specs.declared.key.Key.{Key}
use Rattle.wp_layout.specs.declared.key.Key.TheVariants as key

-- the text of version 1, with these digits for the version
abbrev text_of_first : Layout → List ℕ → List ℕ
text_of_first layout version =
    codes "{\"aisles\":" ++ (decimal layout.aisles
    ++ (codes ",\"clearance\":" ++ (decimal layout.clearance
    ++ (codes ",\"depot\":" ++ (decimal layout.depot
    ++ (codes ",\"pitch\":" ++ (decimal layout.pitch
    ++ (codes ",\"slots\":" ++ (decimal layout.slots
    ++ (codes ",\"spacing\":" ++ (decimal (spacing_after layout 1)
    ++ (codes ",\"version\":" ++ (version ++ codes "}")))))))))))))

decimal-one : decimal 1 ≡ codes "1"
unfolding digits
decimal-one = refl

compact-first : (layout : Layout) → compact_text (first_value layout) ≡ text_of_first layout (decimal 1)
unfolding serde_json_on_literals
compact-first layout = refl

regrouped-first : (layout : Layout) → text_of_first layout (codes "1") ≡ first_text layout
regrouped-first layout = simp append_assoc

-- that of version 2, with these texts for the end, the spacings and the version
abbrev text_of_second : Layout → List ℕ → List ℕ → List ℕ → List ℕ
text_of_second layout end spacings version =
    codes "{\"aisles\":" ++ (decimal layout.aisles
    ++ (codes ",\"clearance\":" ++ (decimal layout.clearance
    ++ (codes ",\"depot\":" ++ (decimal layout.depot
    ++ (codes ",\"end\":" ++ (end
    ++ (codes ",\"pitch\":" ++ (decimal layout.pitch
    ++ (codes ",\"slots\":" ++ (decimal layout.slots
    ++ (codes ",\"spacings\":[" ++ (spacings
    ++ (codes ",\"version\":" ++ (version ++ codes "}")))))))))))))))

decimal-two : decimal 2 ≡ codes "2"
unfolding digits
decimal-two = refl

-- a layout with its depot at this end
abbrev ended : Layout → End → Layout
ended l end = record { aisles = l.aisles; slots = l.slots; pitch = l.pitch; clearance = l.clearance; spacings = l.spacings; depot = l.depot; end = end }

compact-second : (layout : Layout) (end : End) → compact_text (second_value (ended layout end))
    ≡ text_of_second layout (codes "\"" ++ (end_name end ++ codes "\"")) (items_text false (items_of (map number_value layout.spacings))) (decimal 2)
unfolding serde_json_on_literals
compact-second layout at_front = refl
compact-second layout at_back = refl

further-listed : (ns : List ℕ) → items_text true (items_of (map number_value ns)) ≡ flat_map after_comma ns ++ codes "]"
further-listed [] = refl
further-listed (n ∷ ns) =
    ap (λ (text : List ℕ). 44 ∷ (decimal n ++ text)) (further-listed ns) ∙ sym (append_assoc (after_comma n) (flat_map after_comma ns) (codes "]"))

-- numbers with commas between them are the items of a list
items-listed : (ns : List ℕ) → items_text false (items_of (map number_value ns)) ≡ listed ns ++ codes "]"
items-listed [] = refl
items-listed (n ∷ ns) =
    ap (λ (text : List ℕ). decimal n ++ text) (further-listed ns) ∙ sym (append_assoc (decimal n) (flat_map after_comma ns) (codes "]"))

regrouped-second : (layout : Layout) →
    text_of_second layout (codes "\"" ++ (end_name layout.end ++ codes "\"")) (listed layout.spacings ++ codes "]") (codes "2") ≡ second_text layout
regrouped-second layout = simp append_assoc

compact-by : (layout : Layout) (even : Bool) →
    compact_text (if even then first_value layout else second_value layout) ≡ (if even then first_text layout else second_text layout)
compact-by layout true = compact-first layout ∙ ap (text_of_first layout) decimal-one ∙ regrouped-first layout
compact-by layout false =
    compact-second layout layout.end
    ∙ ap (λ spacings. text_of_second layout (codes "\"" ++ (end_name layout.end ++ codes "\"")) spacings (decimal 2)) (items-listed layout.spacings)
    ∙ ap (text_of_second layout (codes "\"" ++ (end_name layout.end ++ codes "\"")) (listed layout.spacings ++ codes "]")) decimal-two
    ∙ regrouped-second layout

-- the value of a layout, written with nothing between, is the text of the layout
pub compact-layout_value : (layout : Layout) → compact_text (layout_value layout) ≡ layout_text layout
compact-layout_value layout = compact-by layout (is_even layout)

plain-numbers : (ns : List ℕ) → items_have_float (items_of (map number_value ns)) ≡ false
plain-numbers [] = refl
plain-numbers (n ∷ ns) = plain-numbers ns

-- no number of it is a float
pub plain-layout_value : (layout : Layout) → has_float (layout_value layout) ≡ false
plain-layout_value layout = go (is_even layout)
  where
    go : (even : Bool) → has_float (if even then first_value layout else second_value layout) ≡ false
    go true = refl
    go false = rw (plain-numbers layout.spacings) refl

flat-numbers : (ns : List ℕ) → items_depth (items_of (map number_value ns)) ≡ 0
flat-numbers [] = refl
flat-numbers (n ∷ ns) = ap (λ (d : ℕ). max 0 d) (flat-numbers ns)

-- it is no deeper than a reader goes
pub shallow-layout_value : (layout : Layout) → depth (layout_value layout) ≤ 127
shallow-layout_value layout = go (is_even layout)
  where
    go : (even : Bool) → depth (if even then first_value layout else second_value layout) ≤ 127
    go true = omega arith
    go false = let flat = flat-numbers layout.spacings in omega (arith, flat)

ranged-within : (key : Key) (most n : ℕ) → IsUpTo most n → ranged key most n ≡ Ok n
ranged-within key most n h = grind arith

-- the value of version 1 says a layout of which all aisles lie equally far from each other
said-first : (l : Layout) → IsLayout l → IsUpTo greatest_length (spacing_after l 1) →
    value_said (first_value l) ≡ Ok (even_layout l.aisles l.slots l.pitch l.clearance (spacing_after l 1) l.depot)
said-first l h spacing =
    rw (
      ranged-within key.Aisles most_aisles l.aisles h.aisles,
      ranged-within key.Slots most_slots l.slots h.slots,
      ranged-within key.Pitch greatest_length l.pitch h.pitch,
      ranged-within key.Clearance greatest_length l.clearance h.clearance,
      ranged-within key.Spacing greatest_length (spacing_after l 1) spacing,
      ranged-within key.Depot l.aisles l.depot h.depot,
    ) refl

same_as : (w : ℕ) (ws : List ℕ) → list_all (λ other. other == w) ws ≡ true → replicate (length ws) w ≡ ws
same_as w [] same = refl
same_as w (v ∷ ws) same =
    let parts = and_parts (v == w) (list_all (λ other. other == w) ws) same in
    ap (λ (n : ℕ). n ∷ replicate (length ws) w) (sym (eqb-true _ _ parts.0)) ∙ ap (λ (ns : List ℕ). v ∷ ns) (same_as w ws parts.1)

front_end : (end : End) → is_end end at_front ≡ true → at_front ≡ end
front_end at_front e = refl
front_end at_back e = absurd (cc)

-- which the layout is, where version 1 can say it
even_is : (l : Layout) → IsLayout l → is_even l ≡ true →
    IsUpTo greatest_length (spacing_after l 1) × (even_layout l.aisles l.slots l.pitch l.clearance (spacing_after l 1) l.depot ≡ l)
even_is l h even =
    let parts = and_parts (is_end l.end at_front) (are_same l.spacings) even in
    let found = same l.spacings parts.1 h.between h.spacings in (
      found.0,
      ap (λ (ws : List ℕ). with_spacings ws at_front) found.1 ∙ ap (with_spacings l.spacings) (front_end l.end parts.0),
    )
  where
    with_spacings : List ℕ → End → Layout
    with_spacings ws end =
        record { aisles = l.aisles; slots = l.slots; pitch = l.pitch; clearance = l.clearance; spacings = ws; depot = l.depot; end = end }

    same : (ws : List ℕ) → are_same ws ≡ true → length ws + 1 ≡ l.aisles → All (IsUpTo greatest_length) ws →
        IsUpTo greatest_length (spacing_after (with_spacings ws l.end) 1) × (replicate (l.aisles - 1) (spacing_after (with_spacings ws l.end) 1) ≡ ws)
    same [] e count are = absurd (cc)
    same (w ∷ ws) e count are =
        let all : l.aisles - 1 ≡ suc (length ws) = omega (arith, count) in
        (are 0 0 (omega arith), ap (λ n. replicate n w) all ∙ ap (λ (ns : List ℕ). w ∷ ns) (same_as w ws e))

-- the values of a list of numbers
values_back : (ns : List ℕ) → values_of (items_of (map number_value ns)) ≡ map number_value ns
values_back [] = refl
values_back (n ∷ ns) = ap (λ (ds : List Data). number_value n ∷ ds) (values_back ns)

all_whole : (ns : List ℕ) → list_all is_whole (map number_value ns) ≡ true
all_whole [] = refl
all_whole (n ∷ ns) = all_whole ns

wholes_back : (ns : List ℕ) → map whole_or_zero (map number_value ns) ≡ ns
wholes_back [] = refl
wholes_back (n ∷ ns) = ap (λ (ms : List ℕ). n ∷ ms) (wholes_back ns)

ranged-true : (most n : ℕ) → IsUpTo most n → is_ranged most n ≡ true
ranged-true most n h = grind arith

all_ranged : (ns : List ℕ) → All (IsUpTo greatest_length) ns → list_all (is_ranged greatest_length) ns ≡ true
all_ranged [] are = refl
all_ranged (n ∷ ns) are = and_from (is_ranged greatest_length n) (list_all (is_ranged greatest_length) ns)
    (ranged-true greatest_length n (are 0 0 (omega arith)))
    (all_ranged ns (λ k d low. are (suc k) d (omega (arith, low))))

-- the value of version 2 says the layout
said-second : (l : Layout) → IsLayout l → value_said (second_value l) ≡ Ok l
said-second l h = go l.end
  where
    count : (length l.spacings == l.aisles - 1) ≡ true
    count = eq-eqb _ _ (omega (arith, h.between))

    go : (end : End) → value_said (second_value (ended l end)) ≡ Ok (ended l end)
    go at_front =
        rw (
          ranged-within key.Aisles most_aisles l.aisles h.aisles,
          ranged-within key.Slots most_slots l.slots h.slots,
          ranged-within key.Pitch greatest_length l.pitch h.pitch,
          ranged-within key.Clearance greatest_length l.clearance h.clearance,
          values_back l.spacings,
          all_whole l.spacings,
          wholes_back l.spacings,
          count,
          all_ranged l.spacings h.spacings,
          ranged-within key.Depot l.aisles l.depot h.depot,
        ) refl
    go at_back =
        rw (
          ranged-within key.Aisles most_aisles l.aisles h.aisles,
          ranged-within key.Slots most_slots l.slots h.slots,
          ranged-within key.Pitch greatest_length l.pitch h.pitch,
          ranged-within key.Clearance greatest_length l.clearance h.clearance,
          values_back l.spacings,
          all_whole l.spacings,
          wholes_back l.spacings,
          count,
          all_ranged l.spacings h.spacings,
          ranged-within key.Depot l.aisles l.depot h.depot,
        ) refl

-- the value of a layout says that layout
pub value_said-layout_value : (layout : Layout) → IsLayout layout → value_said (layout_value layout) ≡ Ok layout
value_said-layout_value layout h = go (is_even layout) refl
  where
    go : (even : Bool) → is_even layout ≡ even → value_said (if even then first_value layout else second_value layout) ≡ Ok layout
    go true even = let is = even_is layout h even in said-first layout h is.0 ∙ ap Ok is.1
    go false other = said-second layout h

-- bytes that are text and read as a value say what the value says
pub layout_said-read : (bytes : List ℕ) (value : Data) → IsUtf8 bytes → read bytes ≡ Some value → layout_said bytes ≡ value_said value
layout_said-read bytes value text is = rw (is_utf8-from_IsUtf8 bytes text, is) refl
