use Rattle.std.proofs.lemmas.Str.{IsUtf8-from_ascii}
use Rattle.wp_model.proofs.Ascii.{name_ascii, takes_utf8}
use Rattle.wp_model.proofs.name.Name.as_str.Goals as goal

pub unwrap-requires : goal.unwrap-requires
unwrap-requires c =
    let utf8 = IsUtf8-from_ascii _ (name_ascii _ c.as_bytes.ensures.name) in
    takes_utf8 _ _ _ _ (rw c.as_bytes.ensures.bytes at c.from_utf8.ensures.cases) utf8
