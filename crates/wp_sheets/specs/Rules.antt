-- The line of what usual rules would walk past the picks of a batch.
use Rattle.std.specs.Prelude.{ℕ, ◌-◌, List, ◌++◌, codes}
use Rattle.wp_model.specs.Journal.{line, number_after_space}

-- what a rule would walk past a batch's picks, and how much longer that is than a shortest tour
abbrev pub rule_words : ℕ → ℕ → List ℕ
rule_words walked shortest = number_after_space walked ++ number_after_space (walked - shortest)

-- the line of what three usual rules would walk
abbrev pub rules_line : ℕ → ℕ → ℕ → ℕ → List ℕ
rules_line shape back gap shortest =
    line (codes "rules s-shape" ++ rule_words shape shortest ++ codes " return" ++ rule_words back shortest
    ++ codes " largest-gap" ++ rule_words gap shortest)
