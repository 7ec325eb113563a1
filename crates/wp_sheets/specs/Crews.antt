-- The section of a crew: how long its longest load is, and the batches that are given to each picker.
use Rattle.std.specs.Prelude.{ℕ, ◌+◌, ◌==◌, if◌then◌else◌, List, [], ◌∷◌, ◌++◌, codes, length, slice_index}
use Rattle.std.specs.Fmt.{decimal}
use Rattle.std.specs.List.{flat_map, range_with_len}
use Rattle.wp_model.specs.Journal.{after_space, line, number_after_space}
use Rattle.wp_crew.specs.declared.crew.Crew.{Crew}

-- a batch as the line of a picker names it, after a space: the name of its wave, a stroke, and its number on the wave's
-- sheet
abbrev pub batch_after_space : List ℕ → ℕ → List ℕ
batch_after_space wave number = after_space (wave ++ (47 ∷ decimal number))

-- the batches that are given to a picker, in their order: of each batch there are its picker, the name of its wave and
-- its number
unfoldable pub given_to : ℕ → List ℕ → List (List ℕ) → List ℕ → List ℕ
given_to picker [] names numbers = []
given_to picker (owner ∷ owners) [] numbers = []
given_to picker (owner ∷ owners) (name ∷ names) [] = []
given_to picker (owner ∷ owners) (name ∷ names) (number ∷ numbers) =
    (if owner == picker then batch_after_space name number else []) ++ given_to picker owners names numbers

-- the line of a picker, from 0, who is printed from 1
abbrev pub picker_line : Crew → List (List ℕ) → List ℕ → ℕ → List ℕ
picker_line crew names numbers picker =
    line (codes "picker" ++ number_after_space (picker + 1) ++ codes " load"
    ++ number_after_space (slice_index crew.loads.items picker)
    ++ codes " batches" ++ given_to picker crew.picker_of.items names numbers)

-- the first line of a crew: its longest load, and what no crew's longest load is below
abbrev pub longest_line : Crew → List ℕ
longest_line crew = line (codes "crew longest" ++ number_after_space crew.longest ++ codes " least"
    ++ number_after_space crew.least)

-- the section of a crew: its longest load and what no crew's longest load is below, a line for each picker, and a last
-- line
abbrev pub crew_section : Crew → List (List ℕ) → List ℕ → List ℕ
crew_section crew names numbers =
    longest_line crew ++ flat_map (picker_line crew names numbers) (range_with_len 0 (length crew.loads.items))
    ++ line (codes "end crew")
