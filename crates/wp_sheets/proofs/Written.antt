-- What was written, where an error of the writer is told as another.
use Rattle.std.proofs.Common.{◌≡◌, IfOk, OnOk, Result, Ok, Err}
use Rattle.std.specs.Result.{result_or}

-- what is told as done was written
pub written : {T E D X : Type 0} (wrote : Result T E) (other : D) (done : T) → Ok done ≡ result_or wrote (Err other) → OnOk wrote X → X
written (Ok x) other done is holds = holds
written (Err e) other done is holds = absurd (cc is)

-- and so holds of it what follows from what was written
pub told : {T E D X Y : Type 0} (wrote : Result T E) (other : D) (answer : Result T D) → answer ≡ result_or wrote (Err other) → OnOk wrote X → (X → Y)
    → IfOk answer (λ done. Y)
told (Ok x) other answer is holds then = rw is (then holds)
told (Err e) other answer is holds then = rw is tt
