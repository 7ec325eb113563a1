-- The names of an object's members, as its map keeps them.
use Rattle.std.proofs.Common.{◌≡◌, List, [], ◌∷◌, String, Global, string_bytes, ◌&&◌, refl, ap}
use Rattle.std.specs.List.{list_all}
use Rattle.std.specs.Map.{keys_of}
use Rattle.serde_json.specs.View.{members_view}
use Rattle.serde_json.specs.declared.value.Value.{Value}
use Rattle.wp_layout.specs.LayoutFile.{is_key, names_of}
use Rattle.wp_layout.specs.declared.key.Key.{Key}

-- whether the names of an object's members are all keys is whether those in its map are
pub names_known : (keys : List Key) (entries : List (String Global × Value)) → list_all (is_key keys) (names_of (members_view entries))
    ≡ list_all (λ name. is_key keys (string_bytes name)) (keys_of entries)
names_known keys [] = refl
names_known keys (entry ∷ entries) = ap (λ known. is_key keys (string_bytes entry.0) && known) (names_known keys entries)
