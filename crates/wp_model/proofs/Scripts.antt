-- Scripts by the numbers of their desks.
use Rattle.std.proofs.Common.{◌≡◌, ◌∙◌, sym, ap, ℕ, zero, suc, ◌+◌, false, List, [], ◌∷◌, Some, slice_get, IfSome, arith}
use Rattle.std.specs.Prelude.{◌==◌}
use Rattle.std.proofs.lemmas.Bool.{cond-false, cond-true}
use Rattle.std.proofs.Common.{eq-eqb, ne_eqb}
use Rattle.wp_model.proofs.Elements.{if_some_then}
use Rattle.wp_model.specs.History.{Script, script_of}

-- where scripts are those of desks from one number on, the script at a place is that of its desk
pub script_at : (first : ℕ) (scripts : List Script) (i : ℕ) (script : Script)
    → ((k : ℕ) → IfSome (slice_get scripts k) (λ script. script.desk ≡ first + k)) → slice_get scripts i ≡ Some script
    → script_of scripts (first + i) ≡ script.commands
script_at first [] i script numbered is = absurd (cc)
script_at first (s ∷ scripts) zero script numbered is =
    let same : s ≡ script = cc is in
    let own : s.desk ≡ first + 0 = numbered 0 in
    cond-true (s.desk == first + 0) s.commands (script_of scripts (first + 0)) (eq-eqb s.desk (first + 0) own) ∙ ap (λ (s : Script). s.commands) same
script_at first (s ∷ scripts) (suc i) script numbered is =
    let own : s.desk ≡ first + 0 = numbered 0 in
    let other : (s.desk == first + suc i) ≡ false = ne_eqb s.desk (first + suc i) (λ e. omega (arith, own, e)) in
    let next : (first + 1) + i ≡ first + suc i = omega arith in
    let shift : (k : ℕ) → first + suc k ≡ (first + 1) + k = λ k. omega arith in
    cond-false (s.desk == first + suc i) s.commands (script_of scripts (first + suc i)) other
    ∙ (ap (script_of scripts) (sym next)
    ∙ script_at (first + 1) scripts i script
    (λ k. if_some_then (slice_get scripts k) (λ s. s.desk ≡ first + suc k) (λ s. s.desk ≡ (first + 1) + k) (λ s e. e ∙ shift k) (numbered (suc k))) is)
