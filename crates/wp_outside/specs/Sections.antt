-- A section of an output: a first line, parts, and a last line.
use Rattle.std.specs.Prelude.{◌≡◌, ℕ, zero, suc, ◌<◌, List, [], ◌++◌}

-- a text has grown by a part
abbrev pub GrowsBy : (List ℕ → Type 0) → List ℕ → List ℕ → Type 0
GrowsBy Says old new = (part : List ℕ) × Says part × (new ≡ old ++ part)

-- each of so many parts, numbered from 0, has some text
abbrev pub HaveText : (ℕ → List ℕ → Type 0) → ℕ → Type 0
HaveText Says count = (number : ℕ) → number < count → (part : List ℕ) × Says number part

-- a text is so many parts, numbered from 0, one after the other: those before the last, and then the last
abbrev pub AreParts : (ℕ → List ℕ → Type 0) → ℕ → List ℕ → Type 0
AreParts Says zero text = text ≡ []
AreParts Says (suc last) text = (before : List ℕ) × AreParts Says last before × GrowsBy (Says last) before text

-- a text is that of a section: its heading, so many parts, and its ending
abbrev pub IsSection : List ℕ → ℕ → (ℕ → List ℕ → Type 0) → List ℕ → List ℕ → Type 0
IsSection heading count Says ending text
    = (middle : List ℕ) × AreParts Says count middle × (text ≡ heading ++ middle ++ ending)
