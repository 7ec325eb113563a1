-- What bytes are read as, by what `serde_json` states of them.
use Rattle.std.proofs.Common.{◌≡◌, ℕ, List, Bool, true, false, Option, Some, None, Ok, Err, refl, IsUtf8, if◌then◌else◌}
use Rattle.std.specs.Option.{ok_or}
use Rattle.std.specs.Str.{is_utf8}
use Rattle.std.proofs.lemmas.Str.{IsUtf8-from_is_utf8, is_utf8-from_IsUtf8}
use Rattle.serde_json.specs.Data.{Data}
use Rattle.serde_json.specs.Read.{read}
use Rattle.wp_cert.specs.Text.{value_read}
use Rattle.wp_cert.specs.declared.tree.CertWhy.TheVariants as why

-- bytes that are text and read as a value are that value
pub value_read-text : (bytes : List ℕ) (value : Data) → IsUtf8 bytes × (read bytes ≡ Some value) → value_read bytes ≡ Ok value
value_read-text bytes value h = rw (is_utf8-from_IsUtf8 bytes h.0, h.1) refl

no_value : (test : Bool) (found : Option Data) → (test ≡ true → found ≡ None) → ok_or (if test then found else None) why.NotJson ≡ Err why.NotJson
no_value true found none = rw (none refl) refl
no_value false found none = refl

-- bytes that are no text, or text that reads as no value, are no JSON
pub value_read-none : (bytes : List ℕ) → (IsUtf8 bytes → read bytes ≡ None) → value_read bytes ≡ Err why.NotJson
value_read-none bytes none = no_value (is_utf8 bytes) (read bytes) (λ text. none (IsUtf8-from_is_utf8 bytes text))
