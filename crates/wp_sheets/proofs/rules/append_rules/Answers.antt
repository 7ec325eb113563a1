use Rattle.std.proofs.Common.{◌≡◌, ℕ, List, [], ◌∷◌, ◌++◌, append_assoc}
use Rattle.std.specs.Prelude.{codes}
use Rattle.wp_sheets.specs.Rules.{rule_words}
use Rattle.wp_sheets.proofs.rules.append_rules.Goals as goal

-- seven texts after another, one after the other, of which the last ends a line
joined : (old a b c d e f g one two three four five six seven : List ℕ) → one ≡ old ++ a → two ≡ one ++ b → three ≡ two ++ c → four ≡ three ++ d
    → five ≡ four ++ e → six ≡ five ++ f → seven ≡ six ++ g → seven ≡ old ++ ((a ++ b ++ c ++ d ++ e ++ f) ++ g)
joined old a b c d e f g one two three four five six seven p q r s t u v = rw (v, u, t, s, r, q, p) (simp append_assoc)

pub returns : goal.returns
returns c =
    let words = λ (walked : ℕ). rule_words walked c.args.length in
    joined c.args.text.now.items (codes "rules s-shape") (words c.args.shape) (codes " return") (words c.args.back) (codes " largest-gap") (words c.args.gap)
    (10 ∷ []) _ _ _ _ _ _ _ c.in_ok-extend_from_slice.ensures.items c.in_ok-print_rule.ensures c.in_ok-extend_from_slice-2.ensures.items
    c.in_ok-print_rule-2.ensures c.in_ok-extend_from_slice-3.ensures.items c.in_ok-print_rule-3.ensures c.in_ok-push.ensures.items
