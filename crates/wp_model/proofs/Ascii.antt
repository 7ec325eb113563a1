-- A name is ASCII.
use Rattle.std.proofs.Common.{◌≡◌, ℕ, zero, suc, ◌<◌, Bool, true, false, List, [], ◌∷◌, get_or, refl, arith, rules}
use Rattle.std.specs.Prelude.{◌&&◌, Result, Ok, Err, MatchResult, IsOk, IsUtf8}
use Rattle.std.specs.List.{list_all}
use Rattle.std.specs.Str.{IsAscii}
use Rattle.std.proofs.lemmas.Bool.Decides.{nat_tests}
use Rattle.wp_model.specs.Name.{is_name, is_name_byte}

both : (p q : Bool) → (p && q) ≡ true → (p ≡ true) × (q ≡ true)
both true q e = (refl, e)
both false q e = absurd (cc e)

pub name_byte_small : (b : ℕ) → is_name_byte b ≡ true → b < 128
name_byte_small b e = grind (arith, nat_tests)

pub name_bytes_small : (text : List ℕ) → list_all is_name_byte text ≡ true → (i : ℕ) → get_or text i 0 < 128
name_bytes_small [] e i = omega arith
name_bytes_small (b ∷ text) e zero = name_byte_small b (both _ _ e).0
name_bytes_small (b ∷ text) e (suc i) = name_bytes_small text (both (is_name_byte b) _ e).1 i

-- a name is ASCII
pub name_ascii : (text : List ℕ) → is_name text ≡ true → IsAscii text
name_ascii text e = name_bytes_small text (both _ _ (both _ _ e).1).1

-- text that is UTF-8 is taken
pub takes_utf8 : {A E : Type 0} (r : Result A E) (text : List ℕ) (P : A → Type 0) (Q : E → Type 0) → MatchResult r P (λ e. ¬ (IsUtf8 text) × Q e)
    → IsUtf8 text → IsOk r
takes_utf8 (Ok a) text P Q cases utf8 = search rules
takes_utf8 (Err e) text P Q cases utf8 = absurd (cases.0 utf8)
