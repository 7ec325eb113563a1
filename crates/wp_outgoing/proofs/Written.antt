-- What was written, where an error of the writer is told as another.
use Rattle.std.proofs.Common.{◌≡◌, ◌∙◌, ◌++◌, ap, append_assoc, List, ℕ, IfOk, OnOk, Result, Ok, Err}
use Rattle.std.specs.Result.{result_or}

-- what follows from what was written holds where it is told as done
pub told : {T E D X Y : Type 0} (wrote : Result T E) (other : D) (answer : Result T D) → answer ≡ result_or wrote (Err other) → OnOk wrote X → (X → Y)
    → IfOk answer (λ done. Y)
told (Ok x) other answer is holds then = rw is (then holds)
told (Err e) other answer is holds then = rw is tt

-- what was written where it is told as done
pub written : {T E D X : Type 0} (wrote : Result T E) (other : D) (done : T) → Ok done ≡ result_or wrote (Err other) → OnOk wrote X → X
written (Ok x) other done is holds = holds
written (Err e) other done is holds = absurd (cc is)

-- three texts that are added one after the other
pub three_added : (old first second third a b c : List ℕ) → first ≡ old ++ a → second ≡ first ++ b → third ≡ second ++ c → third ≡ old ++ (a ++ (b ++ c))
three_added old first second third a b c is_first is_second is_third =
    is_third ∙ (ap (λ (t : List ℕ). t ++ c) (is_second ∙ ap (λ (t : List ℕ). t ++ b) is_first)
    ∙ (append_assoc (old ++ a) b c ∙ append_assoc old a (b ++ c)))
