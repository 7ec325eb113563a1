-- The line of a bracket of a wave's linear bound.
use Rattle.std.specs.Prelude.{ℕ, Bool, true, false, List, ◌++◌, codes}
use Rattle.std.specs.Fmt.{signed_decimal}
use Rattle.wp_model.specs.Journal.{after_space, line}
use Rattle.wp_sheets.specs.declared.root.RootLine.{RootLine}

-- whether the two sides of a bracket are less than a sixtieth for each order apart
abbrev pub width_text : Bool → List ℕ
width_text true = codes "narrow"
width_text false = codes "open"

-- the two sides of a bracket
abbrev pub sides_words : RootLine → List ℕ
sides_words root = codes "root" ++ after_space (signed_decimal root.low) ++ after_space (signed_decimal root.high)

-- what both are over, and how far they are apart
abbrev pub over_words : RootLine → List ℕ
over_words root = codes " over" ++ after_space (signed_decimal root.denominator) ++ after_space (width_text root.narrow)

-- the line of a bracket
abbrev pub root_line : RootLine → List ℕ
root_line root = line (sides_words root ++ over_words root)
