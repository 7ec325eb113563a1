-- The text of a layout.
use Rattle.std.specs.Prelude.{ℕ, ◌++◌, ◌==◌, ◌&&◌, Bool, false, List, [], ◌∷◌, map, codes, if◌then◌else◌}
use Rattle.std.specs.Fmt.{decimal}
use Rattle.std.specs.List.{flat_map, list_all}
use Rattle.serde_json.specs.Data.{Data, array, no_members, number, member, object, string, unsigned}
use Rattle.serde_json.specs.View.{items_of}
use Rattle.wp_model.specs.Warehouse.{End, Layout, spacing_after}
use Rattle.wp_model.specs.Warehouse.End.{at_front, at_back}
use Rattle.wp_graph.specs.Sites.{is_end}

-- whether there are lengths, and all are the same
abbrev pub are_same : List ℕ → Bool
are_same [] = false
are_same (length ∷ lengths) = list_all (λ other. other == length) lengths

-- whether version 1 can say a layout: all its aisles lie equally far from each other, and its depot in front
abbrev pub is_even : Layout → Bool
is_even layout = is_end layout.end at_front && are_same layout.spacings

-- what an end is named
abbrev pub end_name : End → List ℕ
end_name at_front = codes "front"
end_name at_back = codes "back"

-- a further number of a list
abbrev pub after_comma : ℕ → List ℕ
after_comma n = 44 ∷ decimal n

-- numbers with commas between them
abbrev pub listed : List ℕ → List ℕ
listed [] = []
listed (n ∷ more) = decimal n ++ flat_map after_comma more

-- the text of version 1: its keys stand in the order of their bytes, with nothing between
abbrev pub first_text : Layout → List ℕ
first_text layout =
    codes "{\"aisles\":" ++ decimal layout.aisles
    ++ codes ",\"clearance\":" ++ decimal layout.clearance
    ++ codes ",\"depot\":" ++ decimal layout.depot
    ++ codes ",\"pitch\":" ++ decimal layout.pitch
    ++ codes ",\"slots\":" ++ decimal layout.slots
    ++ codes ",\"spacing\":" ++ decimal (spacing_after layout 1)
    ++ codes ",\"version\":1}"

-- the text of version 2
abbrev pub second_text : Layout → List ℕ
second_text layout =
    codes "{\"aisles\":" ++ decimal layout.aisles
    ++ codes ",\"clearance\":" ++ decimal layout.clearance
    ++ codes ",\"depot\":" ++ decimal layout.depot
    ++ codes ",\"end\":\"" ++ end_name layout.end
    ++ codes "\",\"pitch\":" ++ decimal layout.pitch
    ++ codes ",\"slots\":" ++ decimal layout.slots
    ++ codes ",\"spacings\":[" ++ listed layout.spacings
    ++ codes "],\"version\":2}"

-- the text of a layout: version 1 where that can say it
abbrev pub layout_text : Layout → List ℕ
layout_text layout = if is_even layout then first_text layout else second_text layout

-- a number as a value
abbrev pub number_value : ℕ → Data
number_value n = number (unsigned n)

-- a layout as a value of each version
abbrev pub first_value : Layout → Data
first_value layout = object
    (member (codes "aisles") (number_value layout.aisles)
    (member (codes "clearance") (number_value layout.clearance)
    (member (codes "depot") (number_value layout.depot)
    (member (codes "pitch") (number_value layout.pitch)
    (member (codes "slots") (number_value layout.slots)
    (member (codes "spacing") (number_value (spacing_after layout 1))
    (member (codes "version") (number_value 1) no_members)))))))

abbrev pub second_value : Layout → Data
second_value layout = object
    (member (codes "aisles") (number_value layout.aisles)
    (member (codes "clearance") (number_value layout.clearance)
    (member (codes "depot") (number_value layout.depot)
    (member (codes "end") (string (end_name layout.end))
    (member (codes "pitch") (number_value layout.pitch)
    (member (codes "slots") (number_value layout.slots)
    (member (codes "spacings") (array (items_of (map number_value layout.spacings)))
    (member (codes "version") (number_value 2) no_members))))))))

abbrev pub layout_value : Layout → Data
layout_value layout = if is_even layout then first_value layout else second_value layout
