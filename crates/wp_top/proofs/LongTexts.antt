-- Files that are answered as too long.
use Rattle.std.proofs.Common.{◌≡◌, ◌∙◌, refl, sym, ℕ, ◌<◌, true, List, length, Option, Some, None, Result, Ok, Err, arith}
use Rattle.std.specs.Prelude.{IfSome, nat_lt, replicate}
use Rattle.std.proofs.lemmas.Bool.Decides.{nat_tests}
use Rattle.std.proofs.lemmas.List.{length-replicate}
use Rattle.wp_outside.proofs.Taking.{not_both}
use Rattle.wp_outside.specs.Outside.{IsTooLong}
use Rattle.wp_outside.specs.declared.files.FileFault.{FileFault}
use Rattle.wp_outside.specs.declared.files.FileFault.TheVariants as file_fault
use Rattle.wp_model.specs.Limits.{most_file_bytes}
use Rattle.wp_top.specs.Texts.{IsHeld, text_in}
use Rattle.wp_top.specs.declared.input.Refusal.TheVariants as refusal

above : (n m : ℕ) → n < m → nat_lt n m ≡ true
above n m less = grind (arith, nat_tests)

zeros : ℕ → List ℕ
zeros n = replicate n 0

length-zeros : (n : ℕ) → length (zeros n) ≡ n
unfolding zeros
length-zeros n = length-replicate n 0

is_refused : (text : List ℕ) → most_file_bytes < length text → text_in text ≡ Err refusal.TooLong
is_refused text long = rw (above most_file_bytes (length text) long) refl

long_told : (holds : List ℕ → Option (List ℕ)) (name : List ℕ) (o : Option (List ℕ)) (P : List ℕ → Type 0) → holds name ≡ o
    → IfSome o (λ told. IsTooLong told × P told)
    → (text : List ℕ) × IsHeld holds name text × (text_in text ≡ Err refusal.TooLong)
long_told holds name None P e long = (zeros 16777217, rw e tt, is_refused (zeros 16777217) (omega (arith, length-zeros 16777217)))
long_told holds name (Some told) P e long = (told, rw e refl, is_refused told long.0)

-- such a file has some text that is too long
pub long_text : (holds : List ℕ → Option (List ℕ)) (name : List ℕ) (P : List ℕ → Type 0) → IfSome (holds name) (λ told. IsTooLong told × P told)
    → (text : List ℕ) × IsHeld holds name text × (text_in text ≡ Err refusal.TooLong)
long_text holds name P long = long_told holds name (holds name) P refl long

-- what isn't want of memory
pub not_memory : {A : Type 0} (r : Result A FileFault) (x : FileFault) → r ≡ Err x → (◌≡◌ {A = Result A FileFault} (Err x) (Err file_fault.Memory) → ⊥)
    → r ≡ Err file_fault.Memory → ⊥
not_memory r x is other wants = other (sym is ∙ wants)

-- a file that is too long isn't want of memory
pub long_not_memory : {A : Type 0} (r : Result A FileFault) → r ≡ Err file_fault.TooLong → r ≡ Err file_fault.Memory → ⊥
long_not_memory r is = not_memory r file_fault.TooLong is (λ e. cc e)

-- nor is one that can't be read
pub failed_not_memory : {A : Type 0} (r : Result A FileFault) → r ≡ Err file_fault.Failed → r ≡ Err file_fault.Memory → ⊥
failed_not_memory r is = not_memory r file_fault.Failed is (λ e. cc e)

-- nor is one that was read
pub read_not_memory : {A : Type 0} (r : Result A FileFault) (a : A) → r ≡ Ok a → r ≡ Err file_fault.Memory → ⊥
read_not_memory r a is wants = not_both a file_fault.Memory (sym is ∙ wants)
