-- What a disk told before a call.
use Rattle.std.proofs.Common.{◌≡◌, refl, List, ℕ, Option, Some, None, Result, Ok, Err}
use Rattle.std.specs.Prelude.{option_map, OnOk, is_some}

pub record Before (old : Option (List ℕ)) (change : List ℕ → List ℕ) (now : List ℕ) : Type 0 where
  pub bytes : List ℕ
  pub told : old ≡ Some bytes
  pub now_is : now ≡ change bytes

pub told_before : (old : Option (List ℕ)) (change : List ℕ → List ℕ) (now : List ℕ) → ◌≡◌ {A = Option (List ℕ)} (Some now) (option_map change old)
    → Before old change now
told_before None change now is = absurd (cc (is))
told_before (Some bytes) change now is = record { bytes = bytes; told = refl; now_is = cc (is) }

pub same_some : (a b : List ℕ) → ◌≡◌ {A = Option (List ℕ)} (Some a) (Some b) → a ≡ b
same_some a b is = cc (is)

-- what follows from what holds at an Ok
pub on_ok : {T E : Type 0} {P Q : Type 0} (r : Result T E) (implies : P → Q) → OnOk r P → OnOk r Q
on_ok (Ok x) implies holds = implies holds
on_ok (Err e) implies holds = tt

pub on_both : {T E : Type 0} {P Q R : Type 0} (r : Result T E) (implies : P → Q → R) → OnOk r P → OnOk r Q → OnOk r R
on_both (Ok x) implies one other = implies one other
on_both (Err e) implies one other = tt

-- what is told before and after, where a call doesn't change whether it is
pub record After (new : Option (List ℕ)) : Type 0 where
  pub bytes : List ℕ
  pub told : new ≡ Some bytes

pub told_after : (old new : Option (List ℕ)) (bytes : List ℕ) → is_some new ≡ is_some old → old ≡ Some bytes → After new
told_after old (Some now) bytes same told = record { bytes = now; told = refl }
told_after None None bytes same told = absurd (cc (told))
told_after (Some was) None bytes same told = absurd (cc (same))
