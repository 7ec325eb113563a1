use Rattle.std.proofs.Common.{◌≡◌, Bool, true, false, refl, sym}
use Rattle.std.specs.Str.{is_utf8}
use Rattle.std.proofs.lemmas.Str.{IsUtf8-from_is_utf8, is_utf8-from_IsUtf8}
use Rattle.wp_tables.proofs.fields.is_text.Goals as goal

never : (b : Bool) → (b ≡ true → ⊥) → false ≡ b
never true impossible = absurd (impossible refl)
never false impossible = refl

pub returns-in-Ok : goal.returns-in-Ok
returns-in-Ok c = sym (is_utf8-from_IsUtf8 c.args.field.now c.in-Ok.ensures.cases.1)

pub returns-in-Err : goal.returns-in-Err
returns-in-Err c = never (is_utf8 c.args.field.now) (λ text. c.in-Err.ensures.cases.0 (IsUtf8-from_is_utf8 c.args.field.now text))
